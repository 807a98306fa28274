-- Which types of a host, and types that its handles name, a JSON value stands for (JSON as of RFC 8259). The words, and
-- what has no index in it, are read as in a module; a type of the host names others by handles, and none by a module's
-- index. An object has exactly the keys that are named here; any other value, key or form stands for none.
use Rattle.std.specs.Prelude.{ℕ, ◌+◌, ◌==◌, Bool, true, false, codes, List, Option, Some, None, option_map, option_and_then, if◌then◌else◌}
use Rattle.std.specs.Option.{option_map_or, option_or}
use Rattle.serde_json.specs.Data.{Data}
use Rattle.serde_json.specs.Find.{get, as_array}
use Rattle.wt_decode.specs.Json.{key_count, only_at, count_at, decode_u32, each_of, two_of}
use Rattle.wt_decode.specs.DecodeValues as values
use Rattle.wt_decode.specs.DecodeGroups.{final_in}
use Rattle.wt_env.specs.declared.types.WasmHeapType.{WasmHeapType}
use Rattle.wt_env.specs.declared.types.WasmHeapType.TheVariants as heap
use Rattle.wt_env.specs.declared.types.WasmValType.{WasmValType}
use Rattle.wt_env.specs.declared.types.WasmValType.TheVariants as val
use Rattle.wt_env.specs.declared.types.WasmStorageType.{WasmStorageType}
use Rattle.wt_env.specs.declared.types.WasmStorageType.TheVariants as storage
use Rattle.wt_commands.specs.declared.command.NamedType.{NamedType}
use Rattle.wt_commands.specs.declared.command.NamedType.TheVariants as named
use Rattle.wt_commands.specs.declared.host_type.HostHeap.{HostHeap}
use Rattle.wt_commands.specs.declared.host_type.HostHeap.TheVariants as host_heaps
use Rattle.wt_commands.specs.declared.host_type.HostVal.{HostVal}
use Rattle.wt_commands.specs.declared.host_type.HostVal.TheVariants as host_vals
use Rattle.wt_commands.specs.declared.host_type.HostStorage.{HostStorage}
use Rattle.wt_commands.specs.declared.host_type.HostStorage.TheVariants as host_storages
use Rattle.wt_commands.specs.declared.host_type.HostField.{HostField}
use Rattle.wt_commands.specs.declared.host_type.HostShape.{HostShape}
use Rattle.wt_commands.specs.declared.host_type.HostShape.TheVariants.{Func, Struct, Array}
use Rattle.wt_commands.specs.declared.host_type.HostSub.{HostSub}
use Rattle.wt_commands.specs.declared.host_type.HostSub.TheVariants.{Declared, Exception, Tag}

-- ---- types that are named

-- the number of 32 bits under a key
abbrev pub decode_u32_at : List ℕ → Data → Option ℕ
decode_u32_at key d = option_and_then decode_u32 (get key d)

-- the type of a handle: {"handle": a number}
abbrev pub type_of_handle : Data → Option NamedType
type_of_handle d = if key_count d == 1 then option_map named.Handle (decode_u32_at (codes "handle") d) else None

-- a type of a module: {"handle": a number, "type": a number}
abbrev pub type_of_module : Data → Data → Option NamedType
type_of_module d ty =
    if key_count d == 2
    then option_and_then (λ place. option_map (named.OfModule place) (decode_u32 ty)) (decode_u32_at (codes "handle") d)
    else None

-- a type that is named by a handle
abbrev pub named_type_from : Data → Option Data → Option NamedType
named_type_from d None = type_of_handle d
named_type_from d (Some ty) = type_of_module d ty

abbrev pub decode_named_type : Data → Option NamedType
decode_named_type d = named_type_from d (get (codes "type") d)

-- ---- value types (WebAssembly 3.0, "Value Types")

-- an abstract heap type as a host has it; none for a concrete one, whose index is of a module
abbrev pub host_heap : WasmHeapType → Option HostHeap
host_heap heap.Extern = Some host_heaps.Extern
host_heap heap.NoExtern = Some host_heaps.NoExtern
host_heap heap.Func = Some host_heaps.Func
host_heap heap.NoFunc = Some host_heaps.NoFunc
host_heap heap.Any = Some host_heaps.Any
host_heap heap.Eq = Some host_heaps.Eq
host_heap heap.I31 = Some host_heaps.I31
host_heap heap.Array = Some host_heaps.Array
host_heap heap.Struct = Some host_heaps.Struct
host_heap heap.None = Some host_heaps.None
host_heap heap.Cont = Some host_heaps.Cont
host_heap heap.NoCont = Some host_heaps.NoCont
host_heap heap.Exn = Some host_heaps.Exn
host_heap heap.NoExn = Some host_heaps.NoExn
host_heap (heap.ConcreteFunc index) = None
host_heap (heap.ConcreteArray index) = None
host_heap (heap.ConcreteStruct index) = None
host_heap (heap.ConcreteExn index) = None
host_heap (heap.ConcreteCont index) = None

-- a reference of a host to a heap type
abbrev pub ref_to : Bool → HostHeap → HostVal
ref_to nullable target = host_vals.Ref (record { nullable = nullable; heap = target })

-- a value type as a host has it; none for a reference to a type of a module
abbrev pub host_val : WasmValType → Option HostVal
host_val val.I32 = Some host_vals.I32
host_val val.I64 = Some host_vals.I64
host_val val.F32 = Some host_vals.F32
host_val val.F64 = Some host_vals.F64
host_val val.V128 = Some host_vals.V128
host_val (val.Ref reference) = option_map (ref_to reference.nullable) (host_heap reference.heap_type)

-- a reference to a type that is named by a handle
abbrev pub named_ref : Bool → Data → Option HostVal
named_ref nullable d = option_map (λ ty. ref_to nullable (host_heaps.Named ty)) (decode_named_type d)

-- {"ref": a type that is named}, which isn't nullable, or {"null": a type that is named}, which is
abbrev pub decode_named_ref : Data → Option HostVal
decode_named_ref d = option_map_or (named_ref false) (only_at (codes "ref") d) (option_map_or (named_ref true) (only_at (codes "null") d) None)

-- a value type in which no type of a module stands
abbrev pub decode_plain : Data → Option HostVal
decode_plain d = option_and_then host_val (values.decode_val d)

-- a value type: such a one, or a reference to a type that is named
abbrev pub decode_val : Data → Option HostVal
decode_val d = option_or (decode_plain d) (decode_named_ref d)

-- a list of value types
abbrev pub decode_vals : Data → Option (List HostVal)
decode_vals d = option_and_then (each_of decode_val) (as_array d)

-- ---- fields (WebAssembly 3.0, "Field Types")

-- a packed type as a host has it; none for a value type
abbrev pub host_packed : WasmStorageType → Option HostStorage
host_packed storage.I8 = Some host_storages.I8
host_packed storage.I16 = Some host_storages.I16
host_packed (storage.Val v) = None

abbrev pub decode_packed : Data → Option HostStorage
decode_packed d = option_and_then host_packed (values.decode_storage d)

-- a storage type: a packed one, or a value type
abbrev pub decode_storage : Data → Option HostStorage
decode_storage d = option_or (decode_packed d) (option_map host_storages.Val (decode_val d))

-- a field that stores this
abbrev pub field_of : Bool → HostStorage → HostField
field_of mutable stored = record { element = stored; mutable = mutable }

-- a field: {"mut": storage type} where it is mutable, else the storage type alone
abbrev pub decode_field : Data → Option HostField
decode_field d =
    option_map_or (λ stored. option_map (field_of true) (decode_storage stored)) (only_at (codes "mut") d) (
    option_map (field_of false) (decode_storage d))

-- ---- types (WebAssembly 3.0, "Composite Types" and "Recursive Types"; exceptions after wasmtime)

-- the function type with two lists of value types, as parameters and as results
abbrev pub func_from : Data → Data → Option HostShape
func_from params results = option_and_then (λ ps. option_map (λ rs. Func ps rs) (decode_vals results)) (decode_vals params)

-- a function type: [parameters, results]
abbrev pub decode_func : Data → Option HostShape
decode_func d = option_and_then (two_of func_from) (as_array d)

-- a struct type: the list of its fields
abbrev pub decode_struct : Data → Option HostShape
decode_struct d = option_map Struct (option_and_then (each_of decode_field) (as_array d))

-- an array type: its field
abbrev pub decode_array : Data → Option HostShape
decode_array d = option_map Array (decode_field d)

-- the shape under the key that says its kind
abbrev pub shape_in : Data → Option HostShape
shape_in d =
    option_map_or decode_func (get (codes "func") d) (
    option_map_or decode_struct (get (codes "struct") d) (
    option_map_or decode_array (get (codes "array") d) None))

-- the supertype that a type declares under `super`, if it does
abbrev pub super_in : Data → Option (Option NamedType)
super_in d = option_map_or (λ ty. option_map Some (decode_named_type ty)) (get (codes "super") d) (Some None)

-- the type that stands under the keys of an object: whether it is final, its supertype, its shape
abbrev pub declared_in : Data → Option HostSub
declared_in d =
    option_and_then (λ is_final. option_and_then (λ supertype. option_map (λ shape. Declared is_final supertype shape)
    (shape_in d)) (super_in d)) (final_in d)

-- how many keys it has, if it has no other than it may: that of its shape, and maybe `final` and `super`
abbrev pub known_keys : Data → ℕ
known_keys d = count_at (codes "final") d + count_at (codes "super") d + 1

-- a function, struct or array: an object with the key of one shape, maybe `final`, maybe `super`, and no other
abbrev pub decode_declared : Data → Option HostSub
decode_declared d = if key_count d == known_keys d then declared_in d else None

-- an exception that holds these values
abbrev pub decode_exception : Data → Option HostSub
decode_exception d = option_map Exception (decode_vals d)

-- the exception over the function type that is named
abbrev pub decode_tag : Data → Option HostSub
decode_tag d = option_map Tag (decode_named_type d)

-- a type: an object whose only key is `exn` or `tag`, or else a function, struct or array
abbrev pub decode_sub : Data → Option HostSub
decode_sub d = option_map_or decode_exception (only_at (codes "exn") d) (option_map_or decode_tag (only_at (codes "tag") d) (decode_declared d))
