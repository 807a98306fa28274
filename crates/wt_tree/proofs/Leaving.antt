-- A function that changes what the references that leave a group name, and nothing else: the numbered
-- group stays, and the references are those of the group, changed.
use Rattle.std.proofs.Common.{◌≡◌, ℕ, ◌+◌, true, List, [], ◌∷◌, ◌++◌, length, Option, Some, None, option_map, map, refl, ap, sym, ◌∙◌}
use Rattle.std.proofs.lemmas.Bool.{false≢true}
use Rattle.std.proofs.lemmas.List.{length-map, map-append}
use Rattle.wt_env.specs.declared.types.EngineOrModuleTypeIndex.{EngineOrModuleTypeIndex}
use Rattle.wt_env.specs.declared.types.EngineOrModuleTypeIndex.TheVariants as index
use Rattle.wt_env.specs.declared.types.WasmHeapType.{WasmHeapType}
use Rattle.wt_env.specs.declared.types.WasmHeapType.TheVariants as heap
use Rattle.wt_env.specs.declared.types.WasmValType.{WasmValType}
use Rattle.wt_env.specs.declared.types.WasmValType.TheVariants as val
use Rattle.wt_env.specs.declared.types.WasmStorageType.{WasmStorageType}
use Rattle.wt_env.specs.declared.types.WasmStorageType.TheVariants as storage
use Rattle.wt_env.specs.declared.types.WasmFieldType.{WasmFieldType}
use Rattle.wt_env.specs.declared.types.WasmCompositeInnerType.{WasmCompositeInnerType}
use Rattle.wt_env.specs.declared.types.WasmCompositeInnerType.TheVariants as shape
use Rattle.wt_env.specs.declared.types.WasmSubType.{WasmSubType}
use Rattle.wt_tree.specs.References.{index_refs, heap_refs, val_refs, vals_refs, storage_refs, fields_refs, shape_refs, super_refs, sub_refs, group_refs, number_index, number_heap, number_val, number_vals, number_storage, number_field, number_fields, number_shape, number_sub, number_group_from, number_group}
use Rattle.wt_tree.specs.MapRefs.{LeavesOwn, leaves_group, map_heap_refs, map_val_refs, map_vals_refs, map_storage_refs, map_field_refs, map_fields_refs, map_shape_refs, map_sub_refs, map_group_refs}

module _ (f : EngineOrModuleTypeIndex → EngineOrModuleTypeIndex) (leaves : LeavesOwn f) where
  join-over : (a b c d : List EngineOrModuleTypeIndex) → a ≡ map f c → b ≡ map f d → a ++ b ≡ map f (c ++ d)
  join-over a b c d first second = (λ i. first i ++ second i) ∙ sym (map-append f c d)

  -- as many as there were
  same_count : (a c : List EngineOrModuleTypeIndex) → a ≡ map f c → length a ≡ length c
  same_count a c is = ap length is ∙ length-map c f

  -- ---- which they are

  heap_refs-over : (h : WasmHeapType) → heap_refs (map_heap_refs f h) ≡ map f (heap_refs h)
  heap_refs-over (heap.ConcreteFunc i) = leaves.refs i
  heap_refs-over (heap.ConcreteArray i) = leaves.refs i
  heap_refs-over (heap.ConcreteStruct i) = leaves.refs i
  heap_refs-over (heap.ConcreteExn i) = leaves.refs i
  heap_refs-over (heap.ConcreteCont i) = leaves.refs i
  heap_refs-over _ = refl

  val_refs-over : (v : WasmValType) → val_refs (map_val_refs f v) ≡ map f (val_refs v)
  val_refs-over (val.Ref r) = heap_refs-over r.heap_type
  val_refs-over _ = refl

  vals_refs-over : (vs : List WasmValType) → vals_refs (map_vals_refs f vs) ≡ map f (vals_refs vs)
  vals_refs-over [] = refl
  vals_refs-over (v ∷ vs) =
      join-over (val_refs (map_val_refs f v)) (vals_refs (map_vals_refs f vs)) (val_refs v) (vals_refs vs) (val_refs-over v) (vals_refs-over vs)

  storage_refs-over : (s : WasmStorageType) → storage_refs (map_storage_refs f s) ≡ map f (storage_refs s)
  storage_refs-over (storage.Val v) = val_refs-over v
  storage_refs-over _ = refl

  fields_refs-over : (ts : List WasmFieldType) → fields_refs (map_fields_refs f ts) ≡ map f (fields_refs ts)
  fields_refs-over [] = refl
  fields_refs-over (t ∷ ts) =
      join-over (storage_refs (map_storage_refs f t.element_type)) (fields_refs (map_fields_refs f ts)) (storage_refs t.element_type) (fields_refs ts) (storage_refs-over t.element_type) (fields_refs-over ts)

  shape_refs-over : (s : WasmCompositeInnerType) → shape_refs (map_shape_refs f s) ≡ map f (shape_refs s)
  shape_refs-over (shape.Func t) =
      join-over (vals_refs (map_vals_refs f t.params)) (vals_refs (map_vals_refs f t.results)) (vals_refs t.params) (vals_refs t.results) (vals_refs-over t.params) (vals_refs-over t.results)
  shape_refs-over (shape.Struct s) = fields_refs-over s.fields
  shape_refs-over (shape.Array a) = storage_refs-over a.0.element_type
  shape_refs-over (shape.Exn e) =
      join-over (index_refs (f e.func_ty)) (fields_refs (map_fields_refs f e.fields)) (index_refs e.func_ty) (fields_refs e.fields) (leaves.refs e.func_ty) (fields_refs-over e.fields)
  shape_refs-over (shape.Cont c) = leaves.refs c.0

  super_refs-over : (s : Option EngineOrModuleTypeIndex) → super_refs (option_map f s) ≡ map f (super_refs s)
  super_refs-over None = refl
  super_refs-over (Some i) = leaves.refs i

  pub sub_refs-over : (t : WasmSubType) → sub_refs (map_sub_refs f t) ≡ map f (sub_refs t)
  sub_refs-over t =
      join-over (super_refs (option_map f t.supertype)) (shape_refs (map_shape_refs f t.composite_type)) (super_refs t.supertype) (shape_refs t.composite_type) (super_refs-over t.supertype) (shape_refs-over t.composite_type)

  pub group_refs-over : (ts : List WasmSubType) → group_refs (map_group_refs f ts) ≡ map f (group_refs ts)
  group_refs-over [] = refl
  group_refs-over (t ∷ ts) =
      join-over (sub_refs (map_sub_refs f t)) (group_refs (map_group_refs f ts)) (sub_refs t) (group_refs ts) (sub_refs-over t) (group_refs-over ts)

  -- ---- the numbered group

  number_heap-over : (n : ℕ) (h : WasmHeapType) → number_heap n (map_heap_refs f h) ≡ number_heap n h
  number_heap-over n (heap.ConcreteFunc i) = ap heap.ConcreteFunc (leaves.numbers n i)
  number_heap-over n (heap.ConcreteArray i) = ap heap.ConcreteArray (leaves.numbers n i)
  number_heap-over n (heap.ConcreteStruct i) = ap heap.ConcreteStruct (leaves.numbers n i)
  number_heap-over n (heap.ConcreteExn i) = ap heap.ConcreteExn (leaves.numbers n i)
  number_heap-over n (heap.ConcreteCont i) = ap heap.ConcreteCont (leaves.numbers n i)
  number_heap-over n _ = refl

  number_val-over : (n : ℕ) (v : WasmValType) → number_val n (map_val_refs f v) ≡ number_val n v
  number_val-over n (val.Ref r) = let same = number_heap-over n r.heap_type in λ i. val.Ref (record r { heap_type = same i })
  number_val-over n _ = refl

  number_vals-over : (n : ℕ) (vs : List WasmValType) → number_vals n (map_vals_refs f vs) ≡ number_vals n vs
  number_vals-over n [] = refl
  number_vals-over n (v ∷ vs) =
      let first = number_val-over n v in
      let count = same_count (val_refs (map_val_refs f v)) (val_refs v) (val_refs-over v) in
      let rest = number_vals-over (n + length (val_refs v)) vs in
      let moved = ap (λ k. number_vals (n + k) (map_vals_refs f vs)) count ∙ rest in
      λ i. first i ∷ moved i

  number_storage-over : (n : ℕ) (s : WasmStorageType) → number_storage n (map_storage_refs f s) ≡ number_storage n s
  number_storage-over n (storage.Val v) = ap storage.Val (number_val-over n v)
  number_storage-over n _ = refl

  number_field-over : (n : ℕ) (t : WasmFieldType) → number_field n (map_field_refs f t) ≡ number_field n t
  number_field-over n t = let same = number_storage-over n t.element_type in λ i. record t { element_type = same i }

  number_fields-over : (n : ℕ) (ts : List WasmFieldType) → number_fields n (map_fields_refs f ts) ≡ number_fields n ts
  number_fields-over n [] = refl
  number_fields-over n (t ∷ ts) =
      let first = number_field-over n t in
      let count = same_count (storage_refs (map_storage_refs f t.element_type)) (storage_refs t.element_type) (storage_refs-over t.element_type) in
      let rest = number_fields-over (n + length (storage_refs t.element_type)) ts in
      let moved = ap (λ k. number_fields (n + k) (map_fields_refs f ts)) count ∙ rest in
      λ i. first i ∷ moved i

  number_shape-over : (n : ℕ) (s : WasmCompositeInnerType) → number_shape n (map_shape_refs f s) ≡ number_shape n s
  number_shape-over n (shape.Func t) =
      let params = number_vals-over n t.params in
      let count = same_count (vals_refs (map_vals_refs f t.params)) (vals_refs t.params) (vals_refs-over t.params) in
      let rest = number_vals-over (n + length (vals_refs t.params)) t.results in
      let results = ap (λ k. number_vals (n + k) (map_vals_refs f t.results)) count ∙ rest in
      λ i. shape.Func (record { params = params i; results = results i })
  number_shape-over n (shape.Struct s) = let fields = number_fields-over n s.fields in λ i. shape.Struct (record { fields = fields i })
  number_shape-over n (shape.Array a) = let field = number_field-over n a.0 in λ i. shape.Array (record { 0 = field i })
  number_shape-over n (shape.Exn e) =
      let func = leaves.numbers n e.func_ty in
      let count = same_count (index_refs (f e.func_ty)) (index_refs e.func_ty) (leaves.refs e.func_ty) in
      let rest = number_fields-over (n + length (index_refs e.func_ty)) e.fields in
      let fields = ap (λ k. number_fields (n + k) (map_fields_refs f e.fields)) count ∙ rest in
      λ i. shape.Exn (record { func_ty = func i; fields = fields i })
  number_shape-over n (shape.Cont c) = let func = leaves.numbers n c.0 in λ i. shape.Cont (record { 0 = func i })

  number_super-over : (n : ℕ) (s : Option EngineOrModuleTypeIndex) → option_map (number_index n) (option_map f s) ≡ option_map (number_index n) s
  number_super-over n None = refl
  number_super-over n (Some i) = ap Some (leaves.numbers n i)

  pub number_sub-over : (n : ℕ) (t : WasmSubType) → number_sub n (map_sub_refs f t) ≡ number_sub n t
  number_sub-over n t =
      let super = number_super-over n t.supertype in
      let count = same_count (super_refs (option_map f t.supertype)) (super_refs t.supertype) (super_refs-over t.supertype) in
      let rest = number_shape-over (n + length (super_refs t.supertype)) t.composite_type in
      let shapes = ap (λ k. number_shape (n + k) (map_shape_refs f t.composite_type)) count ∙ rest in
      λ i. record t { supertype = super i; composite_type = shapes i }

  number_group_from-over : (n : ℕ) (ts : List WasmSubType) → number_group_from n (map_group_refs f ts) ≡ number_group_from n ts
  number_group_from-over n [] = refl
  number_group_from-over n (t ∷ ts) =
      let first = number_sub-over n t in
      let count = same_count (sub_refs (map_sub_refs f t)) (sub_refs t) (sub_refs-over t) in
      let rest = number_group_from-over (n + length (sub_refs t)) ts in
      let moved = ap (λ k. number_group_from (n + k) (map_group_refs f ts)) count ∙ rest in
      λ i. first i ∷ moved i

  pub number_group-over : (ts : List WasmSubType) → number_group (map_group_refs f ts) ≡ number_group ts
  number_group-over ts = number_group_from-over 0 ts

-- ---- which functions are so

index_refs-leaving : (i : EngineOrModuleTypeIndex) → leaves_group i ≡ true → index_refs i ≡ i ∷ []
index_refs-leaving (index.Engine i) leaves = refl
index_refs-leaving (index.Module i) leaves = refl
index_refs-leaving (index.RecGroup k) leaves = absurd (false≢true leaves)

number_index-leaving : (n : ℕ) (i : EngineOrModuleTypeIndex) → leaves_group i ≡ true → number_index n i ≡ index.Module (record { 0 = n })
number_index-leaving n (index.Engine i) leaves = refl
number_index-leaving n (index.Module i) leaves = refl
number_index-leaving n (index.RecGroup k) leaves = absurd (false≢true leaves)

-- what leaves the group still does, and what doesn't is unchanged
pub leaves_own : (f : EngineOrModuleTypeIndex → EngineOrModuleTypeIndex)
    → ((k : ℕ) → f (index.RecGroup k) ≡ index.RecGroup k)
    → ((i : EngineOrModuleTypeIndex) → leaves_group i ≡ true → leaves_group (f i) ≡ true)
    → LeavesOwn f
leaves_own f own leaving = record { refs = refs; numbers = numbers }
  where
    refs : (i : EngineOrModuleTypeIndex) → index_refs (f i) ≡ map f (index_refs i)
    refs (index.Engine i) = index_refs-leaving (f (index.Engine i)) (leaving (index.Engine i) refl)
    refs (index.Module i) = index_refs-leaving (f (index.Module i)) (leaving (index.Module i) refl)
    refs (index.RecGroup k) = ap index_refs (own k)

    numbers : (n : ℕ) (i : EngineOrModuleTypeIndex) → number_index n (f i) ≡ number_index n i
    numbers n (index.Engine i) = number_index-leaving n (f (index.Engine i)) (leaving (index.Engine i) refl)
    numbers n (index.Module i) = number_index-leaving n (f (index.Module i)) (leaving (index.Module i) refl)
    numbers n (index.RecGroup k) = ap (number_index n) (own k)
