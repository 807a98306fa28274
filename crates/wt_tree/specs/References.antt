-- The references that leave a group, at each level of its data: which they are, in order of
-- occurrence, and the data with numbered places instead of them. A reference within the group is
-- the place of a member, and stays.
use Rattle.std.specs.Prelude.{ℕ, ◌+◌, List, [], ◌∷◌, ◌++◌, length, Option, Some, None, option_map}
use Rattle.wt_env.specs.declared.types.EngineOrModuleTypeIndex.{EngineOrModuleTypeIndex}
use Rattle.wt_env.specs.declared.types.EngineOrModuleTypeIndex.TheVariants as index
use Rattle.wt_env.specs.declared.types.WasmHeapType.{WasmHeapType}
use Rattle.wt_env.specs.declared.types.WasmHeapType.TheVariants as heap
use Rattle.wt_env.specs.declared.types.WasmValType.{WasmValType}
use Rattle.wt_env.specs.declared.types.WasmValType.TheVariants as val
use Rattle.wt_env.specs.declared.types.WasmStorageType.{WasmStorageType}
use Rattle.wt_env.specs.declared.types.WasmStorageType.TheVariants as storage
use Rattle.wt_env.specs.declared.types.WasmFieldType.{WasmFieldType}
use Rattle.wt_env.specs.declared.types.WasmCompositeInnerType.{WasmCompositeInnerType}
use Rattle.wt_env.specs.declared.types.WasmCompositeInnerType.TheVariants as shape
use Rattle.wt_env.specs.declared.types.WasmSubType.{WasmSubType}

-- ---- which they are

abbrev pub index_refs : EngineOrModuleTypeIndex → List EngineOrModuleTypeIndex
index_refs (index.Engine i) = index.Engine i ∷ []
index_refs (index.Module i) = index.Module i ∷ []
index_refs (index.RecGroup k) = []

abbrev pub heap_refs : WasmHeapType → List EngineOrModuleTypeIndex
heap_refs (heap.ConcreteFunc i) = index_refs i
heap_refs (heap.ConcreteArray i) = index_refs i
heap_refs (heap.ConcreteStruct i) = index_refs i
heap_refs (heap.ConcreteExn i) = index_refs i
heap_refs (heap.ConcreteCont i) = index_refs i
heap_refs _ = []

abbrev pub val_refs : WasmValType → List EngineOrModuleTypeIndex
val_refs (val.Ref r) = heap_refs r.heap_type
val_refs _ = []

abbrev pub vals_refs : List WasmValType → List EngineOrModuleTypeIndex
vals_refs [] = []
vals_refs (v ∷ vs) = val_refs v ++ vals_refs vs

abbrev pub storage_refs : WasmStorageType → List EngineOrModuleTypeIndex
storage_refs (storage.Val v) = val_refs v
storage_refs _ = []

abbrev pub fields_refs : List WasmFieldType → List EngineOrModuleTypeIndex
fields_refs [] = []
fields_refs (f ∷ fs) = storage_refs f.element_type ++ fields_refs fs

abbrev pub shape_refs : WasmCompositeInnerType → List EngineOrModuleTypeIndex
shape_refs (shape.Func f) = vals_refs f.params ++ vals_refs f.results
shape_refs (shape.Struct s) = fields_refs s.fields
shape_refs (shape.Array a) = storage_refs a.0.element_type
shape_refs (shape.Exn e) = index_refs e.func_ty ++ fields_refs e.fields
shape_refs (shape.Cont c) = index_refs c.0

abbrev pub super_refs : Option EngineOrModuleTypeIndex → List EngineOrModuleTypeIndex
super_refs (Some i) = index_refs i
super_refs None = []

-- the supertype first, then the shape from left to right
abbrev pub sub_refs : WasmSubType → List EngineOrModuleTypeIndex
sub_refs t = super_refs t.supertype ++ shape_refs t.composite_type

abbrev pub group_refs : List WasmSubType → List EngineOrModuleTypeIndex
group_refs [] = []
group_refs (t ∷ ts) = sub_refs t ++ group_refs ts

-- ---- the data with the place n, n + 1 .. instead of them

abbrev pub number_index : ℕ → EngineOrModuleTypeIndex → EngineOrModuleTypeIndex
number_index n (index.Engine i) = index.Module (record { 0 = n })
number_index n (index.Module i) = index.Module (record { 0 = n })
number_index n (index.RecGroup k) = index.RecGroup k

abbrev pub number_heap : ℕ → WasmHeapType → WasmHeapType
number_heap n (heap.ConcreteFunc i) = heap.ConcreteFunc (number_index n i)
number_heap n (heap.ConcreteArray i) = heap.ConcreteArray (number_index n i)
number_heap n (heap.ConcreteStruct i) = heap.ConcreteStruct (number_index n i)
number_heap n (heap.ConcreteExn i) = heap.ConcreteExn (number_index n i)
number_heap n (heap.ConcreteCont i) = heap.ConcreteCont (number_index n i)
number_heap n h = h

abbrev pub number_val : ℕ → WasmValType → WasmValType
number_val n (val.Ref r) = val.Ref (record r { heap_type = number_heap n r.heap_type })
number_val n v = v

abbrev pub number_vals : ℕ → List WasmValType → List WasmValType
number_vals n [] = []
number_vals n (v ∷ vs) = number_val n v ∷ number_vals (n + length (val_refs v)) vs

abbrev pub number_storage : ℕ → WasmStorageType → WasmStorageType
number_storage n (storage.Val v) = storage.Val (number_val n v)
number_storage n s = s

abbrev pub number_field : ℕ → WasmFieldType → WasmFieldType
number_field n f = record f { element_type = number_storage n f.element_type }

abbrev pub number_fields : ℕ → List WasmFieldType → List WasmFieldType
number_fields n [] = []
number_fields n (f ∷ fs) = number_field n f ∷ number_fields (n + length (storage_refs f.element_type)) fs

abbrev pub number_shape : ℕ → WasmCompositeInnerType → WasmCompositeInnerType
number_shape n (shape.Func f) = shape.Func (record { params = number_vals n f.params; results = number_vals (n + length (vals_refs f.params)) f.results })
number_shape n (shape.Struct s) = shape.Struct (record { fields = number_fields n s.fields })
number_shape n (shape.Array a) = shape.Array (record { 0 = number_field n a.0 })
number_shape n (shape.Exn e) = shape.Exn (record { func_ty = number_index n e.func_ty; fields = number_fields (n + length (index_refs e.func_ty)) e.fields })
number_shape n (shape.Cont c) = shape.Cont (record { 0 = number_index n c.0 })

abbrev pub number_sub : ℕ → WasmSubType → WasmSubType
number_sub n t = record t { supertype = option_map (number_index n) t.supertype; composite_type = number_shape (n + length (super_refs t.supertype)) t.composite_type }

abbrev pub number_group_from : ℕ → List WasmSubType → List WasmSubType
number_group_from n [] = []
number_group_from n (t ∷ ts) = number_sub n t ∷ number_group_from (n + length (sub_refs t)) ts

-- in the result, `RecGroup k` is member k of the group, and `Module i` its i-th reference that leaves it
abbrev pub number_group : List WasmSubType → List WasmSubType
number_group ts = number_group_from 0 ts
