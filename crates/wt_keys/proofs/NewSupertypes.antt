-- The lists of a new group tell the supertypes of its members, where each is behind that of the supertype that a member
-- declares.
use Rattle.std.proofs.Common.{◌≡◌, ℕ, zero, suc, ◌<◌, List, [], ◌∷◌, ◌++◌, reverse, slice_get, Option, Some, None, option_map, unwrap_or, refl, sym, ap, subst, ◌∙◌, arith}
use Rattle.std.specs.Prelude.{option_and_then}
use Rattle.std.proofs.lemmas.Option.{slice_get-map, slice_get_within}
use Rattle.wt_env.specs.Among.{Among}
use Rattle.wt_env.specs.declared.types.VMSharedTypeIndex.{VMSharedTypeIndex}
use Rattle.wt_env.specs.declared.types.EngineOrModuleTypeIndex.{EngineOrModuleTypeIndex}
use Rattle.wt_env.specs.declared.types.EngineOrModuleTypeIndex.TheVariants as index
use Rattle.wt_env.specs.declared.types.WasmSubType.{WasmSubType}
use Rattle.wt_env.proofs.lists.Mapped.{among_mapped}
use Rattle.wt_env.proofs.lists.Members.{some_same}
use Rattle.wt_tree.specs.Tree.{Tree, ClosedTree, close}
use Rattle.wt_tree.specs.References.{group_refs}
use Rattle.wt_tree.specs.MapRefs.{map_sub_refs, fill_index}
use Rattle.wt_tree.specs.Subtyping.{tree_at, supertype_of, rank}
use Rattle.wt_tree.proofs.Numbering.{refill_group, length-number_group}
use Rattle.wt_tree.proofs.ShownSupertypes.{supertype-among}
use Rattle.wt_model.specs.Trees.{trees}
use Rattle.wt_model.specs.Indices.{closed_tree}
use Rattle.wt_model.specs.Registered.{RegisteredGroup}
use Rattle.wt_model.proofs.subtyping.NamedIndices.{get_within, slot-named, group-tree, named}
use Rattle.wt_keys.specs.declared.entry.RecGroupEntry.{RecGroupEntry}
use Rattle.wt_keys.specs.Entries.{made_of, made_by}
use Rattle.wt_keys.specs.Keys.{own_shown}
use Rattle.wt_keys.specs.SupertypeChains.{IsSupertypeChain, TellsSupertypes, list_of, FollowsSupertype, FollowSupertypes}
use Rattle.wt_keys.proofs.KeyedGroups.{AreKeyed, keyed-typed, keyed-map}
use Rattle.wt_keys.proofs.ShownIndices.{shown-filled}
use Rattle.wt_keys.proofs.SupertypeLists.{chain-behind}

-- what a type in a key declares: nothing, or what is at an index
record NoneDeclared (t : ClosedTree) (ty : WasmSubType) : Type 0 where
  shown : ty.supertype ≡ None
  declared : supertype_of t ≡ None

record OneDeclared (types : VMSharedTypeIndex → Option ClosedTree) (indices : List VMSharedTypeIndex) (t : ClosedTree) (ty : WasmSubType) : Type 0 where
  named : EngineOrModuleTypeIndex
  shown : ty.supertype ≡ Some named
  engine : VMSharedTypeIndex
  is : own_shown indices named ≡ index.Engine engine
  supertype : ClosedTree
  closed : types engine ≡ Some supertype
  declared : supertype_of t ≡ Some supertype

module _ (entries : List RecGroupEntry) (top : ℕ) (entry : RecGroupEntry) (keys : AreKeyed entries top) (among : Among entry entries) where
  abbrev made : List RegisteredGroup
  made = made_by entries

  abbrev group : RegisteredGroup
  group = made_of entry

  abbrev member : ℕ → ClosedTree
  member place = record { tree = trees made entry.number; place = place }

  registered : Among group made
  registered = among_mapped made_of entries entry among

  tree-is : trees made entry.number ≡ close (trees made) group.description
  tree-is = group-tree made top (keyed-typed entries top keys) group registered

  -- a numbered member, and the type of the key that it is
  module _ (place : ℕ) (numbered : WasmSubType) (stands : slice_get group.description.members place ≡ Some numbered) where
    declares : (o : Option EngineOrModuleTypeIndex) → numbered.supertype ≡ o → supertype_of (member place) ≡ option_map (tree_at (close (trees made) group.description)) o
    declares o is =
        ap (λ (tree : Tree). supertype_of (record { tree = tree; place = place })) tree-is
        ∙ ap (option_and_then (λ (ty : WasmSubType). option_map (tree_at (close (trees made) group.description)) ty.supertype)) stands
        ∙ ap (option_map (tree_at (close (trees made) group.description))) is

    abbrev own : WasmSubType
    own = map_sub_refs (fill_index (group_refs entry.hash_consing_key.types)) numbered

    none : numbered.supertype ≡ None → NoneDeclared (member place) own
    none is = record { shown = ap (option_map (fill_index (group_refs entry.hash_consing_key.types))) is; declared = declares None is }

    one : (x : EngineOrModuleTypeIndex) → numbered.supertype ≡ Some x → OneDeclared (closed_tree made) entry.shared_type_indices (member place) own
    one x is =
        let typed = keyed-typed entries top keys in
        let slot = slot-named made group.description place numbered x (typed.name_types group registered) stands (supertype-among numbered x is) in
        let it = named made top typed group registered x slot in
        record {
          named = fill_index (group_refs entry.hash_consing_key.types) x;
          shown = ap (option_map (fill_index (group_refs entry.hash_consing_key.types))) is;
          engine = it.engine;
          is = sym (shown-filled entries top entry keys among x) ∙ it.shown;
          supertype = tree_at (close (trees made) group.description) x;
          closed = it.closed;
          declared = declares (Some x) is;
        }

  -- the numbered member at the place of a type of the key
  numbered-at : (place : ℕ) (ty : WasmSubType) → slice_get entry.hash_consing_key.types place ≡ Some ty
      → (numbered : WasmSubType) × (slice_get group.description.members place ≡ Some numbered) × (ty ≡ map_sub_refs (fill_index (group_refs entry.hash_consing_key.types)) numbered)
  numbered-at place ty stands =
      let within = slice_get_within entry.hash_consing_key.types place ty stands in
      let long = length-number_group entry.hash_consing_key.types in
      let found = get_within group.description.members place (omega (arith, within, long)) in
      let change = map_sub_refs (fill_index (group_refs entry.hash_consing_key.types)) in
      let same = slice_get-map change group.description.members place ∙ ap (option_map change) found.1 in
      (found.0, found.1, some_same (sym stands ∙ ap (λ (ts : List WasmSubType). slice_get ts place) (sym (refill_group entry.hash_consing_key.types)) ∙ same))

  -- ---- the lists

  module _ (before : List RecGroupEntry)
      (told : (i : VMSharedTypeIndex) (list : List VMSharedTypeIndex) → list_of before i ≡ Some list → (t : ClosedTree) × (closed_tree made i ≡ Some t) × IsSupertypeChain (closed_tree made) t (reverse list))
      (follow : FollowSupertypes before entry.shared_type_indices entry.hash_consing_key.types entry.supertypes) where
    -- where the lists of members of a smaller rank are told
    module _ (place : ℕ) (list : List VMSharedTypeIndex) (lower : (k : ℕ) (l : List VMSharedTypeIndex) → slice_get entry.supertypes k ≡ Some l → rank (member k) < rank (member place) → IsSupertypeChain (closed_tree made) (member k) (reverse l)) where
      -- it is a list behind a supertype
      behind : (s : ClosedTree) (i : VMSharedTypeIndex) (supertypes : List VMSharedTypeIndex) → supertype_of (member place) ≡ Some s → closed_tree made i ≡ Some s → IsSupertypeChain (closed_tree made) s (reverse supertypes)
          → list ≡ supertypes ++ i ∷ [] → IsSupertypeChain (closed_tree made) (member place) (reverse list)
      behind s i supertypes declared closed chain is =
          subst (λ (l : List VMSharedTypeIndex). IsSupertypeChain (closed_tree made) (member place) (reverse l)) (sym is)
          (chain-behind (closed_tree made) (member place) s i supertypes declared closed chain)

      follows : (x : EngineOrModuleTypeIndex) (j : VMSharedTypeIndex) (s : ClosedTree) → own_shown entry.shared_type_indices x ≡ index.Engine j → closed_tree made j ≡ Some s → supertype_of (member place) ≡ Some s
          → rank s < rank (member place) → FollowsSupertype before entry.shared_type_indices entry.supertypes (Some x) list → IsSupertypeChain (closed_tree made) (member place) (reverse list)
      follows (index.Engine i) j s shown closed declared below by =
          let there = told i by.0 by.1 in
          let same : i ≡ j = cc in
          let tree : there.0 ≡ s = some_same (sym there.1 ∙ ap (closed_tree made) same ∙ closed) in
          behind s i by.0 declared (ap (closed_tree made) same ∙ closed) (subst (λ (t : ClosedTree). IsSupertypeChain (closed_tree made) t (reverse by.0)) tree there.2) by.2
      follows (index.Module n) j s shown closed declared below by = absurd by
      follows (index.RecGroup k) j s shown closed declared below by =
          let one : index.Engine by.0 ≡ index.Engine j = sym (ap (λ (o : Option VMSharedTypeIndex). unwrap_or (option_map index.Engine o) (index.RecGroup k)) by.1) ∙ shown in
          let same : by.0 ≡ j = cc in
          let here : closed_tree made by.0 ≡ Some (member k) = ap (option_map (λ at. record { tree = trees made at.0; place = at.1 })) (keys.located group k by.0 registered by.1) in
          let tree : member k ≡ s = some_same (sym here ∙ ap (closed_tree made) same ∙ closed) in
          let chain = lower k (by.2).0 (by.2).1 (subst (λ (t : ClosedTree). rank t < rank (member place)) (sym tree) below) in
          behind (member k) by.0 (by.2).0 (declared ∙ ap Some (sym tree)) here chain (by.2).2

      chained : (ty : WasmSubType) → slice_get entry.hash_consing_key.types place ≡ Some ty → FollowsSupertype before entry.shared_type_indices entry.supertypes ty.supertype list
          → (i : VMSharedTypeIndex) → closed_tree made i ≡ Some (member place) → IsSupertypeChain (closed_tree made) (member place) (reverse list)
      chained ty stands by i index-is =
          let numbered = numbered-at place ty stands in
          let own-by = subst (λ (t : WasmSubType). FollowsSupertype before entry.shared_type_indices entry.supertypes t.supertype list) numbered.2 by in
          cases numbered.0 numbered.1 (numbered.0).supertype refl own-by
        where
          cases : (numbered : WasmSubType) (there : slice_get group.description.members place ≡ Some numbered) (o : Option EngineOrModuleTypeIndex) → numbered.supertype ≡ o
              → FollowsSupertype before entry.shared_type_indices entry.supertypes (map_sub_refs (fill_index (group_refs entry.hash_consing_key.types)) numbered).supertype list
              → IsSupertypeChain (closed_tree made) (member place) (reverse list)
          cases numbered there None is follows-it =
              let it = none place numbered there is in
              let empty : list ≡ [] = subst (λ (o : Option EngineOrModuleTypeIndex). FollowsSupertype before entry.shared_type_indices entry.supertypes o list) it.shown follows-it in
              subst (λ (l : List VMSharedTypeIndex). IsSupertypeChain (closed_tree made) (member place) (reverse l)) (sym empty) it.declared
          cases numbered there (Some x) is follows-it =
              let it = one place numbered there x is in
              let below = (keyed-map entries top keys).lower i (member place) it.supertype index-is it.declared in
              follows it.named it.engine it.supertype it.is it.closed it.declared below
              (subst (λ (o : Option EngineOrModuleTypeIndex). FollowsSupertype before entry.shared_type_indices entry.supertypes o list) it.shown follows-it)

    within : (n place : ℕ) (list : List VMSharedTypeIndex) → slice_get entry.supertypes place ≡ Some list → rank (member place) < n → IsSupertypeChain (closed_tree made) (member place) (reverse list)
    within zero place list stands below = absurd (omega (arith, below))
    within (suc n) place list stands below =
        let long = slice_get_within entry.supertypes place list stands in
        let many = follow.many in
        let indices = (keys.keys entry among).members in
        let ty = get_within entry.hash_consing_key.types place (omega (arith, long, many)) in
        let i = get_within entry.shared_type_indices place (omega (arith, long, many, indices)) in
        let closed : closed_tree made i.0 ≡ Some (member place) = ap (option_map (λ at. record { tree = trees made at.0; place = at.1 })) (keys.located group place i.0 registered i.1) in
        chained place list (λ k l at lower. within n k l at (omega (arith, lower, below))) ty.0 ty.1 (follow.each place ty.0 list ty.1 stands) i.0 closed

    pub new-chains : TellsSupertypes made entry
    new-chains = record {
      lists = follow.many;
      chains = λ place list stands. within (suc (rank (member place))) place list stands (omega arith);
    }
