-- The references that leave a group in which a function is applied to each index, where it may make some of
-- them its own: they are what the function leaves of each.
use Rattle.std.proofs.Common.{◌≡◌, ◌⊎◌, inl, inr, ℕ, ◌-◌, ◌<◌, Bool, true, false, nat_lt, if◌then◌else◌, List, [], ◌∷◌, ◌++◌, Option, Some, None, option_map, refl, ap, sym, subst, ◌∙◌, arith}
use Rattle.std.specs.List.{flat_map}
use Rattle.std.proofs.lemmas.Grind.{flat_map-append}
use Rattle.wt_env.specs.declared.types.ModuleInternedTypeIndex.{ModuleInternedTypeIndex}
use Rattle.wt_env.specs.declared.types.EngineOrModuleTypeIndex.{EngineOrModuleTypeIndex}
use Rattle.wt_env.specs.declared.types.EngineOrModuleTypeIndex.TheVariants as index
use Rattle.wt_env.specs.declared.types.WasmHeapType.{WasmHeapType}
use Rattle.wt_env.specs.declared.types.WasmHeapType.TheVariants as heap
use Rattle.wt_env.specs.declared.types.WasmValType.{WasmValType}
use Rattle.wt_env.specs.declared.types.WasmValType.TheVariants as val
use Rattle.wt_env.specs.declared.types.WasmStorageType.{WasmStorageType}
use Rattle.wt_env.specs.declared.types.WasmStorageType.TheVariants as storage
use Rattle.wt_env.specs.declared.types.WasmFieldType.{WasmFieldType}
use Rattle.wt_env.specs.declared.types.WasmCompositeInnerType.{WasmCompositeInnerType}
use Rattle.wt_env.specs.declared.types.WasmCompositeInnerType.TheVariants as shape
use Rattle.wt_env.specs.declared.types.WasmSubType.{WasmSubType}
use Rattle.wt_env.specs.Among.{Among}
use Rattle.wt_tree.specs.References.{index_refs, heap_refs, val_refs, vals_refs, storage_refs, fields_refs, shape_refs, super_refs, sub_refs, group_refs}
use Rattle.wt_tree.specs.MapRefs.{map_heap_refs, map_val_refs, map_vals_refs, map_storage_refs, map_fields_refs, map_shape_refs, map_sub_refs, map_group_refs}
use Rattle.wt_tree.specs.Canonical.{own_index}

-- ---- which they are

append_none : (xs : List EngineOrModuleTypeIndex) → xs ≡ xs ++ []
append_none [] = refl
append_none (x ∷ xs) = ap (λ rest. x ∷ rest) (append_none xs)

-- what the function leaves of one reference
abbrev left : (EngineOrModuleTypeIndex → EngineOrModuleTypeIndex) → EngineOrModuleTypeIndex → List EngineOrModuleTypeIndex
left f i = index_refs (f i)

-- what is within the group stays there
module _ (f : EngineOrModuleTypeIndex → EngineOrModuleTypeIndex) (own : (k : ℕ) → f (index.RecGroup k) ≡ index.RecGroup k) where
  join-left : (a b c d : List EngineOrModuleTypeIndex) → a ≡ flat_map (left f) c → b ≡ flat_map (left f) d → a ++ b ≡ flat_map (left f) (c ++ d)
  join-left a b c d first second = (λ i. first i ++ second i) ∙ sym (flat_map-append (left f) c d)

  index_refs-left : (i : EngineOrModuleTypeIndex) → index_refs (f i) ≡ flat_map (left f) (index_refs i)
  index_refs-left (index.Engine i) = append_none (index_refs (f (index.Engine i)))
  index_refs-left (index.Module i) = append_none (index_refs (f (index.Module i)))
  index_refs-left (index.RecGroup k) = ap index_refs (own k)

  heap_refs-left : (h : WasmHeapType) → heap_refs (map_heap_refs f h) ≡ flat_map (left f) (heap_refs h)
  heap_refs-left (heap.ConcreteFunc i) = index_refs-left i
  heap_refs-left (heap.ConcreteArray i) = index_refs-left i
  heap_refs-left (heap.ConcreteStruct i) = index_refs-left i
  heap_refs-left (heap.ConcreteExn i) = index_refs-left i
  heap_refs-left (heap.ConcreteCont i) = index_refs-left i
  heap_refs-left _ = refl

  val_refs-left : (v : WasmValType) → val_refs (map_val_refs f v) ≡ flat_map (left f) (val_refs v)
  val_refs-left (val.Ref r) = heap_refs-left r.heap_type
  val_refs-left _ = refl

  vals_refs-left : (vs : List WasmValType) → vals_refs (map_vals_refs f vs) ≡ flat_map (left f) (vals_refs vs)
  vals_refs-left [] = refl
  vals_refs-left (v ∷ vs) =
      join-left (val_refs (map_val_refs f v)) (vals_refs (map_vals_refs f vs)) (val_refs v) (vals_refs vs) (val_refs-left v) (vals_refs-left vs)

  storage_refs-left : (s : WasmStorageType) → storage_refs (map_storage_refs f s) ≡ flat_map (left f) (storage_refs s)
  storage_refs-left (storage.Val v) = val_refs-left v
  storage_refs-left _ = refl

  fields_refs-left : (ts : List WasmFieldType) → fields_refs (map_fields_refs f ts) ≡ flat_map (left f) (fields_refs ts)
  fields_refs-left [] = refl
  fields_refs-left (t ∷ ts) =
      join-left (storage_refs (map_storage_refs f t.element_type)) (fields_refs (map_fields_refs f ts)) (storage_refs t.element_type) (fields_refs ts) (storage_refs-left t.element_type) (fields_refs-left ts)

  shape_refs-left : (s : WasmCompositeInnerType) → shape_refs (map_shape_refs f s) ≡ flat_map (left f) (shape_refs s)
  shape_refs-left (shape.Func t) =
      join-left (vals_refs (map_vals_refs f t.params)) (vals_refs (map_vals_refs f t.results)) (vals_refs t.params) (vals_refs t.results) (vals_refs-left t.params) (vals_refs-left t.results)
  shape_refs-left (shape.Struct s) = fields_refs-left s.fields
  shape_refs-left (shape.Array a) = storage_refs-left a.0.element_type
  shape_refs-left (shape.Exn e) =
      join-left (index_refs (f e.func_ty)) (fields_refs (map_fields_refs f e.fields)) (index_refs e.func_ty) (fields_refs e.fields) (index_refs-left e.func_ty) (fields_refs-left e.fields)
  shape_refs-left (shape.Cont c) = index_refs-left c.0

  super_refs-left : (s : Option EngineOrModuleTypeIndex) → super_refs (option_map f s) ≡ flat_map (left f) (super_refs s)
  super_refs-left None = refl
  super_refs-left (Some i) = index_refs-left i

  sub_refs-left : (t : WasmSubType) → sub_refs (map_sub_refs f t) ≡ flat_map (left f) (sub_refs t)
  sub_refs-left t =
      join-left (super_refs (option_map f t.supertype)) (shape_refs (map_shape_refs f t.composite_type)) (super_refs t.supertype) (shape_refs t.composite_type) (super_refs-left t.supertype) (shape_refs-left t.composite_type)

  pub group_refs-left : (ts : List WasmSubType) → group_refs (map_group_refs f ts) ≡ flat_map (λ i. index_refs (f i)) (group_refs ts)
  group_refs-left [] = refl
  group_refs-left (t ∷ ts) =
      join-left (sub_refs (map_sub_refs f t)) (group_refs (map_group_refs f ts)) (sub_refs t) (group_refs ts) (sub_refs-left t) (group_refs-left ts)

-- ---- what leaves a module's group

among_joined : {A : Type 0} (xs ys : List A) (x : A) → Among x (xs ++ ys) → Among x xs ⊎ Among x ys
among_joined [] ys x at = inr at
among_joined (y ∷ xs) ys x (inl same) = inl (inl same)
among_joined {A} (y ∷ xs) ys x (inr later) = by (among_joined xs ys x later)
  where
    by : Among x xs ⊎ Among x ys → Among x (y ∷ xs) ⊎ Among x ys
    by (inl there) = inl (inr there)
    by (inr there) = inr there

pub among_flat_map : {A B : Type 0} (f : A → List B) (xs : List A) (y : B) → Among y (flat_map f xs) → (x : A) × Among x xs × Among y (f x)
among_flat_map f [] y at = absurd at
among_flat_map {A} f (x ∷ xs) y at = by (among_joined (f x) (flat_map f xs) y at) (among_flat_map f xs y)
  where
    by : Among y (f x) ⊎ Among y (flat_map f xs) → (Among y (flat_map f xs) → (z : A) × Among z xs × Among y (f z)) → (z : A) × Among z (x ∷ xs) × Among y (f z)
    by (inl here) later = (x, inl refl, here)
    by (inr there) later = let found = later there in (found.0, inr found.1, found.2)

earlier_than : (n start : ℕ) → nat_lt n start ≡ true → n < start
earlier_than n start is = grind (arith, is)

-- what is left of a reference to a module's type, where those from start on are the group's own
left-earlier : (start : ℕ) (j : ModuleInternedTypeIndex) (r : EngineOrModuleTypeIndex) → Among r (index_refs (own_index start (index.Module j))) → (r ≡ index.Module j) × (j.0 < start)
left-earlier start j r at = by (nat_lt j.0 start) refl at
  where
    by : (earlier : Bool) → nat_lt j.0 start ≡ earlier → Among r (index_refs (if earlier then index.Module j else index.RecGroup (j.0 - start))) → (r ≡ index.Module j) × (j.0 < start)
    by true is (inl same) = (same, earlier_than j.0 start is)
    by true is (inr none) = absurd none
    by false is none = absurd none

-- where every reference is one to a module's type, what leaves the group that begins at start is before it
pub own_refs-earlier : (start : ℕ) (ts : List WasmSubType) → ((i : EngineOrModuleTypeIndex) → Among i (group_refs ts) → (j : ModuleInternedTypeIndex) × (i ≡ index.Module j))
    → (r : EngineOrModuleTypeIndex) → Among r (group_refs (map_group_refs (own_index start) ts)) → (j : ModuleInternedTypeIndex) × (r ≡ index.Module j) × (j.0 < start)
own_refs-earlier start ts module_only r at =
    let found = among_flat_map (λ i. index_refs (own_index start i)) (group_refs ts) r (subst (Among r) (group_refs-left (own_index start) (λ k. refl) ts) at) in
    let named = module_only found.0 found.1 in
    let kept = left-earlier start named.0 r (subst (λ i. Among r (index_refs (own_index start i))) named.1 found.2) in
    (named.0, kept.0, kept.1)
