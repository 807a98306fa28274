-- What leaves the group of one type of a host: its type indices, each of which has a closed tree.
use Rattle.std.proofs.Common.{◌≡◌, ℕ, true, List, [], ◌∷◌, ◌++◌, map, slice_get, Option, Some, None, option_map, unwrap_or, inl, inr, refl, sym, ap, subst, ◌∙◌}
use Rattle.std.specs.Prelude.{is_some, option_to_list}
use Rattle.std.specs.List.{flat_map}
use Rattle.std.proofs.lemmas.Bool.{false≢true}
use Rattle.std.proofs.lemmas.Grind.{flat_map-append}
use Rattle.std.proofs.lemmas.List.{append-nil, map-append}
use Rattle.std.proofs.lemmas.Option.{slice_get-map}
use Rattle.wt_env.specs.Among.{Among}
use Rattle.wt_env.specs.declared.types.Kind.{Kind}
use Rattle.wt_env.specs.declared.types.VMSharedTypeIndex.{VMSharedTypeIndex}
use Rattle.wt_env.specs.declared.types.ModuleInternedTypeIndex.{ModuleInternedTypeIndex}
use Rattle.wt_env.specs.declared.types.EngineOrModuleTypeIndex.{EngineOrModuleTypeIndex}
use Rattle.wt_env.specs.declared.types.EngineOrModuleTypeIndex.TheVariants as index
use Rattle.wt_env.specs.declared.types.WasmHeapType.{WasmHeapType}
use Rattle.wt_env.specs.declared.types.WasmHeapType.TheVariants as heap
use Rattle.wt_env.specs.declared.types.WasmValType.{WasmValType}
use Rattle.wt_env.specs.declared.types.WasmValType.TheVariants as val
use Rattle.wt_env.specs.declared.types.WasmStorageType.{WasmStorageType}
use Rattle.wt_env.specs.declared.types.WasmStorageType.TheVariants as storage
use Rattle.wt_env.specs.declared.types.WasmFieldType.{WasmFieldType}
use Rattle.wt_env.specs.declared.types.WasmCompositeInnerType.{WasmCompositeInnerType}
use Rattle.wt_env.specs.declared.types.WasmCompositeInnerType.TheVariants as shape
use Rattle.wt_env.specs.declared.types.WasmSubType.{WasmSubType}
use Rattle.wt_env.proofs.lists.Mapped.{among_mapped}
use Rattle.wt_env.proofs.lists.Members.{get_among, first_same}
use Rattle.wt_tree.specs.Kinds.{kinded_heap, kinded_val, kinded_vals, kinded_storage, kinded_fields, kinded_shape, kinded_refs, indices_of, type_indices}
use Rattle.wt_tree.specs.MapRefs.{map_sub_refs, fill_index}
use Rattle.wt_tree.specs.References.{index_refs, heap_refs, val_refs, vals_refs, storage_refs, fields_refs, shape_refs, super_refs, sub_refs, group_refs, number_sub}
use Rattle.wt_tree.specs.Subtyping.{tree_at}
use Rattle.wt_tree.specs.Tree.{ClosedTree, no_tree}
use Rattle.wt_tree.specs.Fit.{named_by, IsKnown, AreKnown, Shows}
use Rattle.wt_tree.proofs.ChangedKinds.{type_indices-changed}
use Rattle.wt_tree.proofs.Numbering.{refill_group}
use Rattle.wt_tree.proofs.ShownSupertypes.{supertype-among}
use Rattle.wt_tree.proofs.Slots.{outer_at-closed}
use Rattle.wt_model.specs.Registered.{RegisteredGroup}
use Rattle.wt_model.specs.Trees.{trees}
use Rattle.wt_model.specs.Indices.{locate, closed_tree}
use Rattle.wt_model.specs.Describe.{located, tree_of}
use Rattle.wt_model.proofs.trees.KnownTrees.{closed-located}
use Rattle.wt_keys.specs.Keys.{named_at, KeyNamesSlot, KeyNamesEarlier, KeyNamesTypes}
use Rattle.wt_keys.proofs.NamedByKeys.{no_engine}
use Rattle.wt_plan.specs.Planned.{AreResolved}

-- ---- what leaves a group, as a list of the type indices

-- of these type indices, those that leave the group
abbrev leaving : List EngineOrModuleTypeIndex → List EngineOrModuleTypeIndex
leaving indices = flat_map index_refs indices

indices-joined : (xs ys : List (Kind × EngineOrModuleTypeIndex)) → indices_of (xs ++ ys) ≡ indices_of xs ++ indices_of ys
indices-joined xs ys = map-append (λ (r : Kind × EngineOrModuleTypeIndex). r.1) xs ys

joined : (first second : List EngineOrModuleTypeIndex) (xs ys : List (Kind × EngineOrModuleTypeIndex)) → first ≡ leaving (indices_of xs) → second ≡ leaving (indices_of ys)
    → first ++ second ≡ leaving (indices_of (xs ++ ys))
joined first second xs ys one two =
    (λ k. one k ++ two k)
    ∙ sym (flat_map-append index_refs (indices_of xs) (indices_of ys))
    ∙ ap leaving (sym (indices-joined xs ys))

alone : (i : EngineOrModuleTypeIndex) → index_refs i ≡ leaving (i ∷ [])
alone i = sym (append-nil (index_refs i))

of_heap : (h : WasmHeapType) → heap_refs h ≡ leaving (indices_of (kinded_heap h))
of_heap (heap.ConcreteFunc i) = alone i
of_heap (heap.ConcreteArray i) = alone i
of_heap (heap.ConcreteStruct i) = alone i
of_heap (heap.ConcreteExn i) = alone i
of_heap (heap.ConcreteCont i) = alone i
of_heap _ = refl

of_val : (v : WasmValType) → val_refs v ≡ leaving (indices_of (kinded_val v))
of_val (val.Ref r) = of_heap r.heap_type
of_val _ = refl

of_vals : (vs : List WasmValType) → vals_refs vs ≡ leaving (indices_of (kinded_vals vs))
of_vals [] = refl
of_vals (v ∷ vs) = joined (val_refs v) (vals_refs vs) (kinded_val v) (kinded_vals vs) (of_val v) (of_vals vs)

of_storage : (s : WasmStorageType) → storage_refs s ≡ leaving (indices_of (kinded_storage s))
of_storage (storage.Val v) = of_val v
of_storage _ = refl

of_fields : (fs : List WasmFieldType) → fields_refs fs ≡ leaving (indices_of (kinded_fields fs))
of_fields [] = refl
of_fields (f ∷ fs) = joined (storage_refs f.element_type) (fields_refs fs) (kinded_storage f.element_type) (kinded_fields fs) (of_storage f.element_type) (of_fields fs)

of_shape : (s : WasmCompositeInnerType) → shape_refs s ≡ leaving (indices_of (kinded_shape s))
of_shape (shape.Func f) = joined (vals_refs f.params) (vals_refs f.results) (kinded_vals f.params) (kinded_vals f.results) (of_vals f.params) (of_vals f.results)
of_shape (shape.Struct s) = of_fields s.fields
of_shape (shape.Array a) = of_storage a.0.element_type
of_shape (shape.Exn e) = ap (λ (rest : List EngineOrModuleTypeIndex). index_refs e.func_ty ++ rest) (of_fields e.fields)
of_shape (shape.Cont c) = alone c.0

of_super : (s : Option EngineOrModuleTypeIndex) → super_refs s ≡ leaving (option_to_list s)
of_super None = refl
of_super (Some i) = alone i

refs-leaving : (ty : WasmSubType) → group_refs (ty ∷ []) ≡ leaving (type_indices ty)
refs-leaving ty =
    append-nil (sub_refs ty)
    ∙ (λ k. of_super ty.supertype k ++ of_shape ty.composite_type k)
    ∙ sym (flat_map-append index_refs (option_to_list ty.supertype) (indices_of (kinded_refs ty)))

-- ---- where each has a closed tree

module _ (made : List RegisteredGroup) where
  abbrev types : VMSharedTypeIndex → Option ClosedTree
  types = closed_tree made

  -- an engine index that has a closed tree is located
  located_one : (i : VMSharedTypeIndex) → IsKnown types (index.Engine i) → (at : ℕ × ℕ) × (locate made i ≡ Some at)
  located_one i known = by (locate made i) refl (sym (closed-located made i) ∙ known)
    where
      by : (found : Option (ℕ × ℕ)) → locate made i ≡ found → is_some found ≡ true → (at : ℕ × ℕ) × (locate made i ≡ Some at)
      by None e none = absurd (false≢true none)
      by (Some at) e some = (at, e)

  resolved_each : (xs : List EngineOrModuleTypeIndex) → ((i : EngineOrModuleTypeIndex) → Among i xs → IsKnown types i) → (outer : List (ℕ × ℕ)) × (map (named_at made) (leaving xs) ≡ map Some outer)
  resolved_each [] known = ([], refl)
  resolved_each (index.Engine i ∷ xs) known =
      let at = located_one i (known (index.Engine i) (inl refl)) in
      let rest = resolved_each xs (λ j there. known j (inr there)) in
      (at.0 ∷ rest.0, λ k. at.1 k ∷ rest.1 k)
  resolved_each (index.Module n ∷ xs) known = absurd (known (index.Module n) (inl refl))
  resolved_each (index.RecGroup n ∷ xs) known = absurd (known (index.RecGroup n) (inl refl))

  pub known-resolved : (ty : WasmSubType) → AreKnown types (type_indices ty) → AreResolved made (ty ∷ [])
  known-resolved ty known =
      let all = resolved_each (type_indices ty) known.each in
      (all.0, ap (map (named_at made)) (refs-leaving ty) ∙ all.1)

  pub known-slots : (ty : WasmSubType) → AreKnown types (type_indices ty) → KeyNamesTypes (ty ∷ [])
  known-slots ty known = record {
    slots = λ t i at there. slot i (one t i at there);
    supertypes = λ place t i at is. earlier place i (one t i (get_among (ty ∷ []) place t at) (supertype-among t i is));
  }
    where
      one : (t : WasmSubType) (i : EngineOrModuleTypeIndex) → Among t (ty ∷ []) → Among i (type_indices t) → IsKnown types i
      one t i (inl is) there = known.each i (subst (λ (x : WasmSubType). Among i (type_indices x)) is there)
      one t i (inr none) there = absurd none

      slot : (i : EngineOrModuleTypeIndex) → IsKnown types i → KeyNamesSlot (ty ∷ []) i
      slot (index.Engine i) known = tt
      slot (index.Module n) known = absurd known
      slot (index.RecGroup k) known = absurd known

      earlier : (place : ℕ) (i : EngineOrModuleTypeIndex) → IsKnown types i → KeyNamesEarlier place i
      earlier place (index.Engine i) known = tt
      earlier place (index.Module n) known = absurd known
      earlier place (index.RecGroup k) known = absurd known

  -- ---- the closed tree that it would have

  module _ (ty : WasmSubType) (known : AreKnown types (type_indices ty)) where
    abbrev refs : List EngineOrModuleTypeIndex
    refs = group_refs (ty ∷ [])

    abbrev numbered : WasmSubType
    numbered = number_sub 0 ty

    abbrev host_tree : ClosedTree
    host_tree = record { tree = tree_of made (ty ∷ []); place = 0 }

    shown : ty ≡ map_sub_refs (fill_index refs) numbered
    shown = sym (first_same (refill_group (ty ∷ [])))

    -- what is filled in has a closed tree
    filled_known : (i : EngineOrModuleTypeIndex) → Among i (type_indices numbered) → IsKnown types (fill_index refs i)
    filled_known i at =
        known.each (fill_index refs i)
        (subst (Among (fill_index refs i)) (sym (ap type_indices shown ∙ type_indices-changed (fill_index refs) numbered)) (among_mapped (fill_index refs) (type_indices numbered) i at))

    slot_named : (n : ModuleInternedTypeIndex) (found : Option EngineOrModuleTypeIndex) → slice_get refs n.0 ≡ found → IsKnown types (unwrap_or found (index.Module n))
        → named_by types (unwrap_or found (index.Module n)) ≡ tree_at host_tree.tree (index.Module n)
    slot_named n None is here = absurd here
    slot_named n (Some (index.Module m)) is here = absurd here
    slot_named n (Some (index.RecGroup k)) is here = absurd here
    slot_named n (Some (index.Engine i)) is here =
        let at = located_one i here in
        let slot : slice_get (map (located made) refs) n.0 ≡ Some at.0 =
        slice_get-map (located made) refs n.0 ∙ ap (option_map (located made)) is ∙ ap (λ (found : Option (ℕ × ℕ)). Some (unwrap_or found (0, 0))) at.1 in
        ap (λ (found : Option (ℕ × ℕ)). unwrap_or (option_map (λ (a : ℕ × ℕ). record { tree = trees made a.0; place = a.1 }) found) no_tree) at.1
        ∙ sym (outer_at-closed (trees made) (map (located made) refs) n.0 at.0 slot)

    named_same : (i : EngineOrModuleTypeIndex) → Among i (type_indices numbered) → named_by types (fill_index refs i) ≡ tree_at host_tree.tree i
    named_same (index.Engine i) at = absurd (no_engine (ty ∷ []) numbered i (inl refl) at)
    named_same (index.Module n) at = slot_named n (slice_get refs n.0) refl (filled_known (index.Module n) at)
    named_same (index.RecGroup k) at = absurd (filled_known (index.RecGroup k) at)

    -- it shows the type
    pub host-shows : Shows types (record { tree = tree_of made (ty ∷ []); place = 0 }) ty
    host-shows = record {
      member = numbered;
      stands = refl;
      shown = fill_index refs;
      is_shown = shown;
      names = named_same;
      known = known;
    }
