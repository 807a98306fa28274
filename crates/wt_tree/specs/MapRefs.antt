-- A group in which a function is applied to each type index, at every level, supertypes included.
use Rattle.std.specs.Prelude.{◌≡◌, ℕ, Bool, true, false, List, map, slice_get, unwrap_or, option_map}
use Rattle.wt_env.specs.declared.types.EngineOrModuleTypeIndex.{EngineOrModuleTypeIndex}
use Rattle.wt_env.specs.declared.types.EngineOrModuleTypeIndex.TheVariants as index
use Rattle.wt_env.specs.declared.types.WasmHeapType.{WasmHeapType}
use Rattle.wt_env.specs.declared.types.WasmHeapType.TheVariants as heap
use Rattle.wt_env.specs.declared.types.WasmRefType.{WasmRefType}
use Rattle.wt_env.specs.declared.types.WasmValType.{WasmValType}
use Rattle.wt_env.specs.declared.types.WasmValType.TheVariants as val
use Rattle.wt_env.specs.declared.types.WasmStorageType.{WasmStorageType}
use Rattle.wt_env.specs.declared.types.WasmStorageType.TheVariants as storage
use Rattle.wt_env.specs.declared.types.WasmFieldType.{WasmFieldType}
use Rattle.wt_env.specs.declared.types.WasmCompositeInnerType.{WasmCompositeInnerType}
use Rattle.wt_env.specs.declared.types.WasmCompositeInnerType.TheVariants as shape
use Rattle.wt_env.specs.declared.types.WasmSubType.{WasmSubType}
use Rattle.wt_tree.specs.References.{index_refs, number_index}

abbrev pub map_heap_refs : (EngineOrModuleTypeIndex → EngineOrModuleTypeIndex) → WasmHeapType → WasmHeapType
map_heap_refs f (heap.ConcreteFunc i) = heap.ConcreteFunc (f i)
map_heap_refs f (heap.ConcreteArray i) = heap.ConcreteArray (f i)
map_heap_refs f (heap.ConcreteStruct i) = heap.ConcreteStruct (f i)
map_heap_refs f (heap.ConcreteExn i) = heap.ConcreteExn (f i)
map_heap_refs f (heap.ConcreteCont i) = heap.ConcreteCont (f i)
map_heap_refs f h = h

abbrev pub map_ref_refs : (EngineOrModuleTypeIndex → EngineOrModuleTypeIndex) → WasmRefType → WasmRefType
map_ref_refs f r = record r { heap_type = map_heap_refs f r.heap_type }

abbrev pub map_val_refs : (EngineOrModuleTypeIndex → EngineOrModuleTypeIndex) → WasmValType → WasmValType
map_val_refs f (val.Ref r) = val.Ref (map_ref_refs f r)
map_val_refs f v = v

abbrev pub map_vals_refs : (EngineOrModuleTypeIndex → EngineOrModuleTypeIndex) → List WasmValType → List WasmValType
map_vals_refs f vs = map (map_val_refs f) vs

abbrev pub map_storage_refs : (EngineOrModuleTypeIndex → EngineOrModuleTypeIndex) → WasmStorageType → WasmStorageType
map_storage_refs f (storage.Val v) = storage.Val (map_val_refs f v)
map_storage_refs f s = s

abbrev pub map_field_refs : (EngineOrModuleTypeIndex → EngineOrModuleTypeIndex) → WasmFieldType → WasmFieldType
map_field_refs f t = record t { element_type = map_storage_refs f t.element_type }

abbrev pub map_fields_refs : (EngineOrModuleTypeIndex → EngineOrModuleTypeIndex) → List WasmFieldType → List WasmFieldType
map_fields_refs f ts = map (map_field_refs f) ts

abbrev pub map_shape_refs : (EngineOrModuleTypeIndex → EngineOrModuleTypeIndex) → WasmCompositeInnerType → WasmCompositeInnerType
map_shape_refs f (shape.Func t) = shape.Func (record { params = map_vals_refs f t.params; results = map_vals_refs f t.results })
map_shape_refs f (shape.Struct s) = shape.Struct (record { fields = map_fields_refs f s.fields })
map_shape_refs f (shape.Array a) = shape.Array (record { 0 = map_field_refs f a.0 })
map_shape_refs f (shape.Exn e) = shape.Exn (record { func_ty = f e.func_ty; fields = map_fields_refs f e.fields })
map_shape_refs f (shape.Cont c) = shape.Cont (record { 0 = f c.0 })

abbrev pub map_sub_refs : (EngineOrModuleTypeIndex → EngineOrModuleTypeIndex) → WasmSubType → WasmSubType
map_sub_refs f t = record t { supertype = option_map f t.supertype; composite_type = map_shape_refs f t.composite_type }

abbrev pub map_group_refs : (EngineOrModuleTypeIndex → EngineOrModuleTypeIndex) → List WasmSubType → List WasmSubType
map_group_refs f ts = map (map_sub_refs f) ts

-- whether a reference leaves its group
abbrev pub leaves_group : EngineOrModuleTypeIndex → Bool
leaves_group (index.Engine i) = true
leaves_group (index.Module i) = true
leaves_group (index.RecGroup k) = false

-- The function changes what the references that leave a group name, and nothing else: those within
-- the group stay, and none begins or ceases to leave it.
pub record LeavesOwn (f : EngineOrModuleTypeIndex → EngineOrModuleTypeIndex) : Type 0 where
  pub refs : (i : EngineOrModuleTypeIndex) → index_refs (f i) ≡ map f (index_refs i)
  pub numbers : (n : ℕ) (i : EngineOrModuleTypeIndex) → number_index n (f i) ≡ number_index n i

-- ---- numbered references are filled in

-- entry n of the list in place of `Module n`; past the end it stays
abbrev pub fill_index : List EngineOrModuleTypeIndex → EngineOrModuleTypeIndex → EngineOrModuleTypeIndex
fill_index refs (index.Engine i) = index.Engine i
fill_index refs (index.Module n) = unwrap_or (slice_get refs n.0) (index.Module n)
fill_index refs (index.RecGroup k) = index.RecGroup k

abbrev pub fill_group : List EngineOrModuleTypeIndex → List WasmSubType → List WasmSubType
fill_group refs ts = map_group_refs (fill_index refs) ts
