-- A type in which a function is applied to each type index is of the kind that it was, and each reference says the
-- kind that it said.
use Rattle.std.proofs.Common.{◌≡◌, List, [], ◌∷◌, ◌++◌, map, Option, Some, None, option_map, refl, ap, sym, ◌∙◌}
use Rattle.std.specs.Prelude.{option_to_list}
use Rattle.std.proofs.lemmas.List.{map-append}
use Rattle.wt_env.specs.declared.types.EngineOrModuleTypeIndex.{EngineOrModuleTypeIndex}
use Rattle.wt_env.specs.declared.types.Kind.{Kind}
use Rattle.wt_env.specs.declared.types.Kind.TheVariants as kind
use Rattle.wt_env.specs.declared.types.WasmHeapType.{WasmHeapType}
use Rattle.wt_env.specs.declared.types.WasmHeapType.TheVariants as heap
use Rattle.wt_env.specs.declared.types.WasmValType.{WasmValType}
use Rattle.wt_env.specs.declared.types.WasmValType.TheVariants as val
use Rattle.wt_env.specs.declared.types.WasmStorageType.{WasmStorageType}
use Rattle.wt_env.specs.declared.types.WasmStorageType.TheVariants as storage
use Rattle.wt_env.specs.declared.types.WasmFieldType.{WasmFieldType}
use Rattle.wt_env.specs.declared.types.WasmCompositeInnerType.{WasmCompositeInnerType}
use Rattle.wt_env.specs.declared.types.WasmCompositeInnerType.TheVariants as shape
use Rattle.wt_env.specs.declared.types.WasmSubType.{WasmSubType}
use Rattle.wt_tree.specs.MapRefs.{map_heap_refs, map_val_refs, map_vals_refs, map_storage_refs, map_fields_refs, map_shape_refs, map_sub_refs}
use Rattle.wt_tree.specs.Kinds.{kind_of, member_kind, kinded_heap, kinded_val, kinded_vals, kinded_storage, kinded_fields, kinded_shape, kinded_refs, type_indices}

module _ (f : EngineOrModuleTypeIndex → EngineOrModuleTypeIndex) where
  abbrev changed : Kind × EngineOrModuleTypeIndex → Kind × EngineOrModuleTypeIndex
  changed reference = (reference.0, f reference.1)

  kind_of-changed : (s : WasmCompositeInnerType) → kind_of (map_shape_refs f s) ≡ kind_of s
  kind_of-changed (shape.Func t) = refl
  kind_of-changed (shape.Struct s) = refl
  kind_of-changed (shape.Array a) = refl
  kind_of-changed (shape.Exn e) = refl
  kind_of-changed (shape.Cont c) = refl

  pub member_kind-changed : (t : WasmSubType) → member_kind (map_sub_refs f t) ≡ member_kind t
  member_kind-changed t = kind_of-changed t.composite_type

  joined : (a b c d : List (Kind × EngineOrModuleTypeIndex)) → a ≡ map changed c → b ≡ map changed d → a ++ b ≡ map changed (c ++ d)
  joined a b c d first second = (λ i. first i ++ second i) ∙ sym (map-append changed c d)

  heap-changed : (h : WasmHeapType) → kinded_heap (map_heap_refs f h) ≡ map changed (kinded_heap h)
  heap-changed (heap.ConcreteFunc i) = refl
  heap-changed (heap.ConcreteArray i) = refl
  heap-changed (heap.ConcreteStruct i) = refl
  heap-changed (heap.ConcreteExn i) = refl
  heap-changed (heap.ConcreteCont i) = refl
  heap-changed _ = refl

  val-changed : (v : WasmValType) → kinded_val (map_val_refs f v) ≡ map changed (kinded_val v)
  val-changed (val.Ref r) = heap-changed r.heap_type
  val-changed _ = refl

  vals-changed : (vs : List WasmValType) → kinded_vals (map_vals_refs f vs) ≡ map changed (kinded_vals vs)
  vals-changed [] = refl
  vals-changed (v ∷ vs) = joined (kinded_val (map_val_refs f v)) (kinded_vals (map_vals_refs f vs)) (kinded_val v) (kinded_vals vs) (val-changed v) (vals-changed vs)

  storage-changed : (s : WasmStorageType) → kinded_storage (map_storage_refs f s) ≡ map changed (kinded_storage s)
  storage-changed (storage.Val v) = val-changed v
  storage-changed _ = refl

  fields-changed : (ts : List WasmFieldType) → kinded_fields (map_fields_refs f ts) ≡ map changed (kinded_fields ts)
  fields-changed [] = refl
  fields-changed (t ∷ ts) =
      joined (kinded_storage (map_storage_refs f t.element_type)) (kinded_fields (map_fields_refs f ts)) (kinded_storage t.element_type) (kinded_fields ts) (storage-changed t.element_type) (fields-changed ts)

  shape-changed : (s : WasmCompositeInnerType) → kinded_shape (map_shape_refs f s) ≡ map changed (kinded_shape s)
  shape-changed (shape.Func t) =
      joined (kinded_vals (map_vals_refs f t.params)) (kinded_vals (map_vals_refs f t.results)) (kinded_vals t.params) (kinded_vals t.results) (vals-changed t.params) (vals-changed t.results)
  shape-changed (shape.Struct s) = fields-changed s.fields
  shape-changed (shape.Array a) = storage-changed a.0.element_type
  shape-changed (shape.Exn e) = ap (λ rest. (kind.Func, f e.func_ty) ∷ rest) (fields-changed e.fields)
  shape-changed (shape.Cont c) = refl

  -- each reference says the kind that it said
  pub kinded_refs-changed : (t : WasmSubType) → kinded_refs (map_sub_refs f t) ≡ map (λ reference. (reference.0, f reference.1)) (kinded_refs t)
  kinded_refs-changed t = shape-changed t.composite_type

  super-changed : (s : Option EngineOrModuleTypeIndex) → option_to_list (option_map f s) ≡ map f (option_to_list s)
  super-changed None = refl
  super-changed (Some i) = refl

  indices-changed : (references : List (Kind × EngineOrModuleTypeIndex)) → map (λ reference. reference.1) (map changed references) ≡ map f (map (λ reference. reference.1) references)
  indices-changed [] = refl
  indices-changed (r ∷ rs) = ap (λ rest. f r.1 ∷ rest) (indices-changed rs)

  pub type_indices-changed : (t : WasmSubType) → type_indices (map_sub_refs f t) ≡ map f (type_indices t)
  type_indices-changed t =
      let super = super-changed t.supertype in
      let kinded = ap (map (λ (reference : Kind × EngineOrModuleTypeIndex). reference.1)) (kinded_refs-changed t) ∙ indices-changed (kinded_refs t) in
      (λ i. super i ++ kinded i)
      ∙ sym (map-append f (option_to_list t.supertype) (map (λ reference. reference.1) (kinded_refs t)))
