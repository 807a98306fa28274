-- The kinds of types, and the kind that each reference in a type says (WebAssembly 3.0, "Composite Types" and "Heap
-- Types"; exceptions and continuations after wasmtime).
use Rattle.std.specs.Prelude.{List, [], ◌∷◌, ◌++◌, map, Bool, true, false, option_to_list}
use Rattle.std.specs.List.{flat_map}
use Rattle.wt_env.specs.declared.types.EngineOrModuleTypeIndex.{EngineOrModuleTypeIndex}
use Rattle.wt_env.specs.declared.types.Kind.{Kind}
use Rattle.wt_env.specs.declared.types.Kind.TheVariants as kind
use Rattle.wt_env.specs.declared.types.WasmHeapType.{WasmHeapType}
use Rattle.wt_env.specs.declared.types.WasmHeapType.TheVariants as heap
use Rattle.wt_env.specs.declared.types.WasmValType.{WasmValType}
use Rattle.wt_env.specs.declared.types.WasmValType.TheVariants as val
use Rattle.wt_env.specs.declared.types.WasmStorageType.{WasmStorageType}
use Rattle.wt_env.specs.declared.types.WasmStorageType.TheVariants as storage
use Rattle.wt_env.specs.declared.types.WasmFieldType.{WasmFieldType}
use Rattle.wt_env.specs.declared.types.WasmCompositeInnerType.{WasmCompositeInnerType}
use Rattle.wt_env.specs.declared.types.WasmCompositeInnerType.TheVariants as shape
use Rattle.wt_env.specs.declared.types.WasmSubType.{WasmSubType}

abbrev pub kind_of : WasmCompositeInnerType → Kind
kind_of (shape.Func f) = kind.Func
kind_of (shape.Struct s) = kind.Struct
kind_of (shape.Array a) = kind.Array
kind_of (shape.Exn e) = kind.Exn
kind_of (shape.Cont c) = kind.Cont

abbrev pub member_kind : WasmSubType → Kind
member_kind t = kind_of t.composite_type

abbrev pub kind_eq : Kind → Kind → Bool
kind_eq kind.Func kind.Func = true
kind_eq kind.Struct kind.Struct = true
kind_eq kind.Array kind.Array = true
kind_eq kind.Exn kind.Exn = true
kind_eq kind.Cont kind.Cont = true
kind_eq _ _ = false

-- ---- the kind that each reference says, beside its index, in order of occurrence

abbrev pub kinded_heap : WasmHeapType → List (Kind × EngineOrModuleTypeIndex)
kinded_heap (heap.ConcreteFunc i) = (kind.Func, i) ∷ []
kinded_heap (heap.ConcreteArray i) = (kind.Array, i) ∷ []
kinded_heap (heap.ConcreteStruct i) = (kind.Struct, i) ∷ []
kinded_heap (heap.ConcreteExn i) = (kind.Exn, i) ∷ []
kinded_heap (heap.ConcreteCont i) = (kind.Cont, i) ∷ []
kinded_heap _ = []

abbrev pub kinded_val : WasmValType → List (Kind × EngineOrModuleTypeIndex)
kinded_val (val.Ref r) = kinded_heap r.heap_type
kinded_val _ = []

abbrev pub kinded_vals : List WasmValType → List (Kind × EngineOrModuleTypeIndex)
kinded_vals vs = flat_map kinded_val vs

abbrev pub kinded_storage : WasmStorageType → List (Kind × EngineOrModuleTypeIndex)
kinded_storage (storage.Val v) = kinded_val v
kinded_storage _ = []

abbrev pub kinded_field : WasmFieldType → List (Kind × EngineOrModuleTypeIndex)
kinded_field f = kinded_storage f.element_type

abbrev pub kinded_fields : List WasmFieldType → List (Kind × EngineOrModuleTypeIndex)
kinded_fields fs = flat_map kinded_field fs

-- the function of an exception or a continuation is one
abbrev pub kinded_shape : WasmCompositeInnerType → List (Kind × EngineOrModuleTypeIndex)
kinded_shape (shape.Func f) = kinded_vals f.params ++ kinded_vals f.results
kinded_shape (shape.Struct s) = kinded_fields s.fields
kinded_shape (shape.Array a) = kinded_field a.0
kinded_shape (shape.Exn e) = (kind.Func, e.func_ty) ∷ kinded_fields e.fields
kinded_shape (shape.Cont c) = (kind.Func, c.0) ∷ []

-- a supertype says no kind
abbrev pub kinded_refs : WasmSubType → List (Kind × EngineOrModuleTypeIndex)
kinded_refs t = kinded_shape t.composite_type

-- ---- every type index

-- the indices of these references
abbrev pub indices_of : List (Kind × EngineOrModuleTypeIndex) → List EngineOrModuleTypeIndex
indices_of references = map (λ reference. reference.1) references

-- every type index that stands in a type: its supertype, then those of its shape from left to right
abbrev pub type_indices : WasmSubType → List EngineOrModuleTypeIndex
type_indices t = option_to_list t.supertype ++ indices_of (kinded_refs t)
