-- The references that leave a group, numbered and filled back: what comes of it is the group.
use Rattle.std.proofs.Common.{◌≡◌, ℕ, suc, ◌+◌, List, [], ◌∷◌, ◌++◌, length, slice_get, unwrap_or, Option, Some, None, option_map, refl, ap, sym, subst, ◌∙◌, arith}
use Rattle.std.proofs.lemmas.List.{append_assoc, length-append}
use Rattle.wt_env.specs.declared.types.EngineOrModuleTypeIndex.{EngineOrModuleTypeIndex}
use Rattle.wt_env.specs.declared.types.EngineOrModuleTypeIndex.TheVariants as index
use Rattle.wt_env.specs.declared.types.WasmHeapType.{WasmHeapType}
use Rattle.wt_env.specs.declared.types.WasmHeapType.TheVariants as heap
use Rattle.wt_env.specs.declared.types.WasmValType.{WasmValType}
use Rattle.wt_env.specs.declared.types.WasmValType.TheVariants as val
use Rattle.wt_env.specs.declared.types.WasmStorageType.{WasmStorageType}
use Rattle.wt_env.specs.declared.types.WasmStorageType.TheVariants as storage
use Rattle.wt_env.specs.declared.types.WasmFieldType.{WasmFieldType}
use Rattle.wt_env.specs.declared.types.WasmCompositeInnerType.{WasmCompositeInnerType}
use Rattle.wt_env.specs.declared.types.WasmCompositeInnerType.TheVariants as shape
use Rattle.wt_env.specs.declared.types.WasmSubType.{WasmSubType}
use Rattle.wt_tree.specs.References.{index_refs, heap_refs, val_refs, vals_refs, storage_refs, fields_refs, shape_refs, super_refs, sub_refs, group_refs, number_index, number_heap, number_val, number_vals, number_storage, number_field, number_fields, number_shape, number_sub, number_group_from, number_group}
use Rattle.wt_tree.specs.MapRefs.{map_heap_refs, map_val_refs, map_vals_refs, map_storage_refs, map_field_refs, map_fields_refs, map_shape_refs, map_sub_refs, map_group_refs, fill_index, fill_group}

-- a value type has one reference at most, and so its numbering is a change of its references
number_heap-mapped : (n : ℕ) (h : WasmHeapType) → number_heap n h ≡ map_heap_refs (number_index n) h
number_heap-mapped n (heap.ConcreteFunc i) = refl
number_heap-mapped n (heap.ConcreteArray i) = refl
number_heap-mapped n (heap.ConcreteStruct i) = refl
number_heap-mapped n (heap.ConcreteExn i) = refl
number_heap-mapped n (heap.ConcreteCont i) = refl
number_heap-mapped n _ = refl

pub number_val-mapped : (n : ℕ) (v : WasmValType) → number_val n v ≡ map_val_refs (number_index n) v
number_val-mapped n (val.Ref r) = let changed = number_heap-mapped n r.heap_type in λ i. val.Ref (record r { heap_type = changed i })
number_val-mapped n _ = refl

-- ---- filled back

-- from place n on, f fills in these references
abbrev Fills : (EngineOrModuleTypeIndex → EngineOrModuleTypeIndex) → ℕ → List EngineOrModuleTypeIndex → Type 0
Fills f n [] = Unit {0}
Fills f n (r ∷ rs) = (f (index.Module (record { 0 = n })) ≡ r) × Fills f (n + 1) rs

fills_first : (f : EngineOrModuleTypeIndex → EngineOrModuleTypeIndex) (n : ℕ) (a b : List EngineOrModuleTypeIndex) → Fills f n (a ++ b) → Fills f n a
fills_first f n [] b fills = tt
fills_first f n (r ∷ a) b fills = (fills.0, fills_first f (n + 1) a b fills.1)

fills_second : (f : EngineOrModuleTypeIndex → EngineOrModuleTypeIndex) (n : ℕ) (a b : List EngineOrModuleTypeIndex) → Fills f n (a ++ b) → Fills f (n + length a) b
fills_second f n [] b fills = let at : n ≡ n + 0 = omega arith in subst (λ m. Fills f m b) at fills
fills_second f n (r ∷ a) b fills =
    let at : (n + 1) + length a ≡ n + length (r ∷ a) = omega arith in
    subst (λ m. Fills f m b) at (fills_second f (n + 1) a b fills.1)

module _ (f : EngineOrModuleTypeIndex → EngineOrModuleTypeIndex) (own : (k : ℕ) → f (index.RecGroup k) ≡ index.RecGroup k) where
  refill_index : (n : ℕ) (i : EngineOrModuleTypeIndex) → Fills f n (index_refs i) → f (number_index n i) ≡ i
  refill_index n (index.Engine i) fills = fills.0
  refill_index n (index.Module i) fills = fills.0
  refill_index n (index.RecGroup k) fills = own k

  refill_heap : (n : ℕ) (h : WasmHeapType) → Fills f n (heap_refs h) → map_heap_refs f (number_heap n h) ≡ h
  refill_heap n (heap.ConcreteFunc i) fills = ap heap.ConcreteFunc (refill_index n i fills)
  refill_heap n (heap.ConcreteArray i) fills = ap heap.ConcreteArray (refill_index n i fills)
  refill_heap n (heap.ConcreteStruct i) fills = ap heap.ConcreteStruct (refill_index n i fills)
  refill_heap n (heap.ConcreteExn i) fills = ap heap.ConcreteExn (refill_index n i fills)
  refill_heap n (heap.ConcreteCont i) fills = ap heap.ConcreteCont (refill_index n i fills)
  refill_heap n _ fills = refl

  refill_val : (n : ℕ) (v : WasmValType) → Fills f n (val_refs v) → map_val_refs f (number_val n v) ≡ v
  refill_val n (val.Ref r) fills = let filled = refill_heap n r.heap_type fills in λ i. val.Ref (record r { heap_type = filled i })
  refill_val n _ fills = refl

  refill_vals : (n : ℕ) (vs : List WasmValType) → Fills f n (vals_refs vs) → map_vals_refs f (number_vals n vs) ≡ vs
  refill_vals n [] fills = refl
  refill_vals n (v ∷ vs) fills =
      let first = refill_val n v (fills_first f n (val_refs v) (vals_refs vs) fills) in
      let rest = refill_vals (n + length (val_refs v)) vs (fills_second f n (val_refs v) (vals_refs vs) fills) in
      λ i. first i ∷ rest i

  refill_storage : (n : ℕ) (s : WasmStorageType) → Fills f n (storage_refs s) → map_storage_refs f (number_storage n s) ≡ s
  refill_storage n (storage.Val v) fills = ap storage.Val (refill_val n v fills)
  refill_storage n _ fills = refl

  refill_field : (n : ℕ) (t : WasmFieldType) → Fills f n (storage_refs t.element_type) → map_field_refs f (number_field n t) ≡ t
  refill_field n t fills = let filled = refill_storage n t.element_type fills in λ i. record t { element_type = filled i }

  refill_fields : (n : ℕ) (ts : List WasmFieldType) → Fills f n (fields_refs ts) → map_fields_refs f (number_fields n ts) ≡ ts
  refill_fields n [] fills = refl
  refill_fields n (t ∷ ts) fills =
      let first = refill_field n t (fills_first f n (storage_refs t.element_type) (fields_refs ts) fills) in
      let rest = refill_fields (n + length (storage_refs t.element_type)) ts (fills_second f n (storage_refs t.element_type) (fields_refs ts) fills) in
      λ i. first i ∷ rest i

  refill_shape : (n : ℕ) (s : WasmCompositeInnerType) → Fills f n (shape_refs s) → map_shape_refs f (number_shape n s) ≡ s
  refill_shape n (shape.Func t) fills =
      let params = refill_vals n t.params (fills_first f n (vals_refs t.params) (vals_refs t.results) fills) in
      let results = refill_vals (n + length (vals_refs t.params)) t.results (fills_second f n (vals_refs t.params) (vals_refs t.results) fills) in
      λ i. shape.Func (record { params = params i; results = results i })
  refill_shape n (shape.Struct s) fills = let fields = refill_fields n s.fields fills in λ i. shape.Struct (record { fields = fields i })
  refill_shape n (shape.Array a) fills = let field = refill_field n a.0 fills in λ i. shape.Array (record { 0 = field i })
  refill_shape n (shape.Exn e) fills =
      let func = refill_index n e.func_ty (fills_first f n (index_refs e.func_ty) (fields_refs e.fields) fills) in
      let fields = refill_fields (n + length (index_refs e.func_ty)) e.fields (fills_second f n (index_refs e.func_ty) (fields_refs e.fields) fills) in
      λ i. shape.Exn (record { func_ty = func i; fields = fields i })
  refill_shape n (shape.Cont c) fills = let func = refill_index n c.0 fills in λ i. shape.Cont (record { 0 = func i })

  refill_super : (n : ℕ) (s : Option EngineOrModuleTypeIndex) → Fills f n (super_refs s) → option_map f (option_map (number_index n) s) ≡ s
  refill_super n None fills = refl
  refill_super n (Some i) fills = ap Some (refill_index n i fills)

  refill_sub : (n : ℕ) (t : WasmSubType) → Fills f n (sub_refs t) → map_sub_refs f (number_sub n t) ≡ t
  refill_sub n t fills =
      let super = refill_super n t.supertype (fills_first f n (super_refs t.supertype) (shape_refs t.composite_type) fills) in
      let shapes = refill_shape (n + length (super_refs t.supertype)) t.composite_type (fills_second f n (super_refs t.supertype) (shape_refs t.composite_type) fills) in
      λ i. record t { supertype = super i; composite_type = shapes i }

  refill_from : (n : ℕ) (ts : List WasmSubType) → Fills f n (group_refs ts) → map_group_refs f (number_group_from n ts) ≡ ts
  refill_from n [] fills = refl
  refill_from n (t ∷ ts) fills =
      let first = refill_sub n t (fills_first f n (sub_refs t) (group_refs ts) fills) in
      let rest = refill_from (n + length (sub_refs t)) ts (fills_second f n (sub_refs t) (group_refs ts) fills) in
      λ i. first i ∷ rest i

get_passed : (passed : List EngineOrModuleTypeIndex) (r : EngineOrModuleTypeIndex) (rest : List EngineOrModuleTypeIndex) → slice_get (passed ++ r ∷ rest) (length passed) ≡ Some r
get_passed [] r rest = refl
get_passed (q ∷ passed) r rest = get_passed passed r rest

-- a list fills in itself
fills_list : (passed refs : List EngineOrModuleTypeIndex) → Fills (fill_index (passed ++ refs)) (length passed) refs
fills_list passed [] = tt
fills_list passed (r ∷ refs) =
    let all : (passed ++ r ∷ []) ++ refs ≡ passed ++ r ∷ refs = append_assoc passed (r ∷ []) refs in
    let place : length (passed ++ r ∷ []) ≡ length passed + 1 = length-append passed (r ∷ []) in
    let rest = fills_list (passed ++ r ∷ []) refs in (
      ap (λ found. unwrap_or found (index.Module (record { 0 = length passed }))) (get_passed passed r refs),
      subst (λ n. Fills (fill_index (passed ++ r ∷ refs)) n refs) place
          (subst (λ all. Fills (fill_index all) (length (passed ++ r ∷ [])) refs) all rest),
    )

-- numbering the references that leave a group and filling them back is the group
pub refill_group : (ts : List WasmSubType) → fill_group (group_refs ts) (number_group ts) ≡ ts
refill_group ts = refill_from (fill_index (group_refs ts)) (λ k. refl) 0 ts (fills_list [] (group_refs ts))

-- a group is its numbered members and the references that leave it
pub group_from : (a b : List WasmSubType) → number_group a ≡ number_group b → group_refs a ≡ group_refs b → a ≡ b
group_from a b members refs =
    sym (refill_group a) ∙ (λ i. fill_group (refs i) (members i)) ∙ refill_group b

length-from : (n : ℕ) (ts : List WasmSubType) → length (number_group_from n ts) ≡ length ts
length-from n [] = refl
length-from n (t ∷ ts) = ap suc (length-from (n + length (sub_refs t)) ts)

-- the numbered group has as many members
pub length-number_group : (ts : List WasmSubType) → length (number_group ts) ≡ length ts
length-number_group ts = length-from 0 ts
