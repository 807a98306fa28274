-- What a host describes, as a type: over the types that its party names by handles.
use Rattle.std.specs.Prelude.{List, [], ◌∷◌, ◌++◌, map, unwrap_or, option_to_list, Bool, true, false, not, if◌then◌else◌, Option, Some, None, option_map, option_and_then}
use Rattle.std.specs.List.{flat_map}
use Rattle.wt_env.specs.declared.types.VMSharedTypeIndex.{VMSharedTypeIndex}
use Rattle.wt_env.specs.declared.types.EngineOrModuleTypeIndex.TheVariants as index
use Rattle.wt_env.specs.declared.types.Kind.{Kind}
use Rattle.wt_env.specs.declared.types.Kind.TheVariants as kind
use Rattle.wt_env.specs.declared.types.WasmHeapType.{WasmHeapType}
use Rattle.wt_env.specs.declared.types.WasmHeapType.TheVariants as heap
use Rattle.wt_env.specs.declared.types.WasmRefType.{WasmRefType}
use Rattle.wt_env.specs.declared.types.WasmValType.{WasmValType}
use Rattle.wt_env.specs.declared.types.WasmValType.TheVariants as val
use Rattle.wt_env.specs.declared.types.WasmStorageType.{WasmStorageType}
use Rattle.wt_env.specs.declared.types.WasmStorageType.TheVariants as storage
use Rattle.wt_env.specs.declared.types.WasmFieldType.{WasmFieldType}
use Rattle.wt_env.specs.declared.types.WasmCompositeInnerType.{WasmCompositeInnerType}
use Rattle.wt_env.specs.declared.types.WasmCompositeInnerType.TheVariants as shape
use Rattle.wt_env.specs.declared.types.WasmSubType.{WasmSubType}
use Rattle.wt_tree.specs.Kinds.{member_kind, kind_eq}
use Rattle.wt_model.specs.Registered.{RegisteredGroup}
use Rattle.wt_model.specs.Shown.{sub_type_at}
use Rattle.wt_model.specs.HostExceptions.{exception_function, tag_exception}
use Rattle.wt_model.specs.Registration.{Registration, host_type, host_exception}
use Rattle.wt_commands.specs.declared.command.NamedType.{NamedType}
use Rattle.wt_commands.specs.declared.host_type.HostHeap.{HostHeap}
use Rattle.wt_commands.specs.declared.host_type.HostHeap.TheVariants as host_heap
use Rattle.wt_commands.specs.declared.host_type.HostRef.{HostRef}
use Rattle.wt_commands.specs.declared.host_type.HostVal.{HostVal}
use Rattle.wt_commands.specs.declared.host_type.HostVal.TheVariants as host_val
use Rattle.wt_commands.specs.declared.host_type.HostStorage.{HostStorage}
use Rattle.wt_commands.specs.declared.host_type.HostStorage.TheVariants as host_storage
use Rattle.wt_commands.specs.declared.host_type.HostField.{HostField}
use Rattle.wt_commands.specs.declared.host_type.HostShape.{HostShape}
use Rattle.wt_commands.specs.declared.host_type.HostShape.TheVariants as host_shape
use Rattle.wt_commands.specs.declared.host_type.HostSub.{HostSub}
use Rattle.wt_commands.specs.declared.host_type.HostSub.TheVariants as host_sub
use Rattle.wt_session.specs.declared.handle.Handle.{Handle}
use Rattle.wt_session.specs.World.{index_named}

-- ---- what a name names

-- a registered type with this index: its kind, and the index
abbrev pub type_with : List RegisteredGroup → VMSharedTypeIndex → Option (Kind × VMSharedTypeIndex)
type_with made i = option_map (λ ty. (member_kind ty, i)) (sub_type_at made i)

-- the kind and the index of the registered type that a party names by these handles, if there is one
abbrev pub type_named : List RegisteredGroup → List Handle → NamedType → Option (Kind × VMSharedTypeIndex)
type_named made row name = option_and_then (type_with made) (index_named row name)

-- ---- the reading: what is described, where `read` says what a name names
-- Where it names nothing, the reading has a type that is never registered nor compared.

abbrev pub concrete_heap : Kind → VMSharedTypeIndex → WasmHeapType
concrete_heap kind.Func i = heap.ConcreteFunc (index.Engine i)
concrete_heap kind.Struct i = heap.ConcreteStruct (index.Engine i)
concrete_heap kind.Array i = heap.ConcreteArray (index.Engine i)
concrete_heap kind.Exn i = heap.ConcreteExn (index.Engine i)
concrete_heap kind.Cont i = heap.ConcreteCont (index.Engine i)

-- a name gives the concrete heap type of the kind of its type
abbrev pub heap_named : Option (Kind × VMSharedTypeIndex) → WasmHeapType
heap_named (Some found) = concrete_heap found.0 found.1
heap_named None = heap.None

abbrev pub heap_of : (NamedType → Option (Kind × VMSharedTypeIndex)) → HostHeap → WasmHeapType
heap_of read host_heap.Extern = heap.Extern
heap_of read host_heap.NoExtern = heap.NoExtern
heap_of read host_heap.Func = heap.Func
heap_of read host_heap.NoFunc = heap.NoFunc
heap_of read host_heap.Any = heap.Any
heap_of read host_heap.Eq = heap.Eq
heap_of read host_heap.I31 = heap.I31
heap_of read host_heap.Array = heap.Array
heap_of read host_heap.Struct = heap.Struct
heap_of read host_heap.None = heap.None
heap_of read host_heap.Cont = heap.Cont
heap_of read host_heap.NoCont = heap.NoCont
heap_of read host_heap.Exn = heap.Exn
heap_of read host_heap.NoExn = heap.NoExn
heap_of read (host_heap.Named name) = heap_named (read name)

abbrev pub ref_of : (NamedType → Option (Kind × VMSharedTypeIndex)) → HostRef → WasmRefType
ref_of read reference = record { nullable = reference.nullable; heap_type = heap_of read reference.heap }

abbrev pub val_of : (NamedType → Option (Kind × VMSharedTypeIndex)) → HostVal → WasmValType
val_of read host_val.I32 = val.I32
val_of read host_val.I64 = val.I64
val_of read host_val.F32 = val.F32
val_of read host_val.F64 = val.F64
val_of read host_val.V128 = val.V128
val_of read (host_val.Ref reference) = val.Ref (ref_of read reference)

abbrev pub storage_of : (NamedType → Option (Kind × VMSharedTypeIndex)) → HostStorage → WasmStorageType
storage_of read host_storage.I8 = storage.I8
storage_of read host_storage.I16 = storage.I16
storage_of read (host_storage.Val value) = storage.Val (val_of read value)

abbrev pub field_of : (NamedType → Option (Kind × VMSharedTypeIndex)) → HostField → WasmFieldType
field_of read field = record { element_type = storage_of read field.element; mutable = field.mutable }

abbrev pub shape_of : (NamedType → Option (Kind × VMSharedTypeIndex)) → HostShape → WasmCompositeInnerType
shape_of read (host_shape.Func params results) = shape.Func (record { params = map (val_of read) params; results = map (val_of read) results })
shape_of read (host_shape.Struct fields) = shape.Struct (record { fields = map (field_of read) fields })
shape_of read (host_shape.Array field) = shape.Array (record { 0 = field_of read field })

-- the index of what a name names
abbrev pub index_of_named : Option (Kind × VMSharedTypeIndex) → VMSharedTypeIndex
index_of_named found = unwrap_or (option_map (λ at. at.1) found) (record { 0 = 0 })

-- a declared function, struct or array
abbrev pub sub_type_of : (NamedType → Option (Kind × VMSharedTypeIndex)) → (is_final : Bool) → Option NamedType → HostShape → WasmSubType
sub_type_of read is_final supertype body = record {
  is_final = is_final;
  supertype = option_map (λ name. index.Engine (index_of_named (read name))) supertype;
  composite_type = shape_of read body;
}

-- ---- the names in what is described, in order, each with the kind that its place needs, if it needs one

abbrev pub names_in_heap : HostHeap → List (Option Kind × NamedType)
names_in_heap (host_heap.Named name) = (None, name) ∷ []
names_in_heap _ = []

abbrev pub names_in_val : HostVal → List (Option Kind × NamedType)
names_in_val (host_val.Ref reference) = names_in_heap reference.heap
names_in_val _ = []

abbrev pub names_in_vals : List HostVal → List (Option Kind × NamedType)
names_in_vals vals = flat_map names_in_val vals

abbrev pub names_in_storage : HostStorage → List (Option Kind × NamedType)
names_in_storage (host_storage.Val value) = names_in_val value
names_in_storage _ = []

abbrev pub names_in_field : HostField → List (Option Kind × NamedType)
names_in_field field = names_in_storage field.element

abbrev pub names_in_fields : List HostField → List (Option Kind × NamedType)
names_in_fields fields = flat_map names_in_field fields

abbrev pub names_in_shape : HostShape → List (Option Kind × NamedType)
names_in_shape (host_shape.Func params results) = names_in_vals params ++ names_in_vals results
names_in_shape (host_shape.Struct fields) = names_in_fields fields
names_in_shape (host_shape.Array field) = names_in_field field

abbrev pub kind_of_shape : HostShape → Kind
kind_of_shape (host_shape.Func params results) = kind.Func
kind_of_shape (host_shape.Struct fields) = kind.Struct
kind_of_shape (host_shape.Array field) = kind.Array

-- a supertype, which is of the type's own kind
abbrev pub names_in_super : Kind → Option NamedType → List (Option Kind × NamedType)
names_in_super wanted supertype = map (λ name. (Some wanted, name)) (option_to_list supertype)

-- the supertype first, then the shape from left to right; of a tag its function
abbrev pub names_in : HostSub → List (Option Kind × NamedType)
names_in (host_sub.Declared is_final supertype body) = names_in_super (kind_of_shape body) supertype ++ names_in_shape body
names_in (host_sub.Exception fields) = names_in_vals fields
names_in (host_sub.Tag name) = (Some kind.Func, name) ∷ []

-- ---- the first that is missing

-- whether what a name names isn't there, or isn't of the kind that its place needs
abbrev pub is_missing : Option Kind → Option (Kind × VMSharedTypeIndex) → Bool
is_missing wanted None = true
is_missing None (Some found) = false
is_missing (Some wanted) (Some found) = not (kind_eq wanted found.0)

-- the first of these names that names nothing, or nothing of the kind that its place needs
abbrev pub first_missing : (NamedType → Option (Kind × VMSharedTypeIndex)) → List (Option Kind × NamedType) → Option NamedType
first_missing read [] = None
first_missing read (name ∷ names) = if is_missing name.0 (read name.1) then Some name.1 else first_missing read names

-- the first name in a description that is missing where a party has these handles
abbrev pub missing_name : List RegisteredGroup → List Handle → HostSub → Option NamedType
missing_name made row sub = first_missing (type_named made row) (names_in sub)

-- ---- what is to be registered

-- the exception over the function type that a name names
abbrev pub tag_of : List RegisteredGroup → Option (Kind × VMSharedTypeIndex) → WasmSubType
tag_of made found = unwrap_or (tag_exception made (index_of_named found)) (exception_function [])

-- what a description asks to register, over the types that its party names by these handles
abbrev pub described : List RegisteredGroup → List Handle → HostSub → Registration
described made row (host_sub.Declared is_final supertype body) = host_type (sub_type_of (type_named made row) is_final supertype body)
described made row (host_sub.Exception fields) = host_exception (map (val_of (type_named made row)) fields)
described made row (host_sub.Tag name) = host_type (tag_of made (type_named made row name))
