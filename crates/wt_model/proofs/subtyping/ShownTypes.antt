-- A registered type as it is shown: each type index in it is an engine index, which names what the one at its place in
-- the group's tree names.
use Rattle.std.proofs.Common.{◌≡◌, inl, inr, ℕ, List, [], ◌∷◌, slice_get, Option, Some, None, is_some, option_map, unwrap_or, refl, sym, ap, subst, ◌∙◌}
use Rattle.std.proofs.lemmas.Option.{slice_get-map}
use Rattle.wt_env.specs.Among.{Among}
use Rattle.wt_env.specs.declared.types.VMSharedTypeIndex.{VMSharedTypeIndex}
use Rattle.wt_env.specs.declared.types.EngineOrModuleTypeIndex.{EngineOrModuleTypeIndex}
use Rattle.wt_env.specs.declared.types.WasmSubType.{WasmSubType}
use Rattle.wt_env.proofs.lists.Mapped.{among_map}
use Rattle.wt_env.proofs.lists.Members.{some_same}
use Rattle.wt_tree.proofs.ChangedKinds.{type_indices-changed}
use Rattle.wt_tree.specs.Tree.{Tree, ClosedTree, no_tree, close}
use Rattle.wt_tree.specs.MapRefs.{map_sub_refs}
use Rattle.wt_tree.specs.Kinds.{type_indices}
use Rattle.wt_tree.specs.Subtyping.{tree_at}
use Rattle.wt_tree.specs.Fit.{named_by, IsKnown, Shows, ShowsAt}
use Rattle.wt_model.specs.Registered.{RegisteredGroup, Registry}
use Rattle.wt_model.specs.Trees.{trees}
use Rattle.wt_model.specs.Indices.{place_in, closed_tree}
use Rattle.wt_model.specs.Shown.{shown_index, shown, member_here, shown_at, sub_type_at}
use Rattle.wt_model.specs.Sound.{IsSound}
use Rattle.wt_model.proofs.indices.Places.{place_in-get}
use Rattle.wt_model.proofs.subtyping.NamedIndices.{AreTyped, sound-typed, Named, slot-named, group-tree, named}

-- the member of a registered group that is shown
record ShownAt (made : List RegisteredGroup) (groups : List RegisteredGroup) (i : VMSharedTypeIndex) (ty : WasmSubType) : Type 0 where
  group : RegisteredGroup
  place : ℕ
  member : WasmSubType
  among : Among group groups
  index : slice_get group.indices place ≡ Some i
  stands : slice_get group.description.members place ≡ Some member
  is : ty ≡ map_sub_refs (shown_index made group) member

shown-at : (made groups : List RegisteredGroup) (i : VMSharedTypeIndex) (ty : WasmSubType) → shown_at made groups i ≡ Some ty → ShownAt made groups i ty
shown-at made [] i ty is = absurd (cc)
shown-at made (g ∷ groups) i ty is = by (place_in i g.indices) refl is (shown-at made groups i ty)
  where
    here : (place : ℕ) → place_in i g.indices ≡ Some place → (found : Option WasmSubType) → slice_get g.description.members place ≡ found
        → option_map (map_sub_refs (shown_index made g)) found ≡ Some ty → ShownAt made (g ∷ groups) i ty
    here place at None stands told = absurd (cc)
    here place at (Some member) stands told =
        record { group = g; place = place; member = member; among = inl refl; index = place_in-get g.indices i place at; stands = stands; is = sym (some_same told) }

    by : (found : Option ℕ) → place_in i g.indices ≡ found → member_here found (shown made g) (shown_at made groups i) ≡ Some ty
        → (shown_at made groups i ≡ Some ty → ShownAt made groups i ty) → ShownAt made (g ∷ groups) i ty
    by (Some place) at told later =
        here place at (slice_get g.description.members place) refl (sym (slice_get-map (map_sub_refs (shown_index made g)) g.description.members place) ∙ told)
    by None at told later =
        let rest = later told in
        record { group = rest.group; place = rest.place; member = rest.member; among = inr rest.among; index = rest.index; stands = rest.stands; is = rest.is }

module _ (made : List RegisteredGroup) (top : ℕ) (typed : AreTyped made top) where
  -- an engine index of this closed tree
  named-engine : (g : RegisteredGroup) (x : EngineOrModuleTypeIndex) → Named made top typed g x → named_by (closed_tree made) (shown_index made g x) ≡ tree_at (close (trees made) g.description) x
  named-engine g x it = ap (named_by (closed_tree made)) it.shown ∙ ap (λ (o : Option ClosedTree). unwrap_or o no_tree) it.closed

  known-engine : (g : RegisteredGroup) (x : EngineOrModuleTypeIndex) → Named made top typed g x → IsKnown (closed_tree made) (shown_index made g x)
  known-engine g x it = subst (IsKnown (closed_tree made)) (sym it.shown) (ap is_some it.closed)

  -- each registered type is shown
  pub shows-at : (i : VMSharedTypeIndex) (ty : WasmSubType) → sub_type_at made i ≡ Some ty → ShowsAt (closed_tree made) i ty
  shows-at i ty is = (t, types, shows)
    where
      at : ShownAt made made i ty
      at = shown-at made made i ty is

      t : ClosedTree
      t = record { tree = close (trees made) at.group.description; place = at.place }

      types : closed_tree made i ≡ Some t
      types =
          ap (option_map (λ (a : ℕ × ℕ). record { tree = trees made a.0; place = a.1 })) (typed.is_located at.group at.place i at.among at.index)
          ∙ ap (λ (tree : Tree). Some (record { tree = tree; place = at.place })) (group-tree made top typed at.group at.among)

      it : (x : EngineOrModuleTypeIndex) → Among x (type_indices at.member) → Named made top typed at.group x
      it x there = named made top typed at.group at.among x (slot-named made at.group.description at.place at.member x (typed.name_types at.group at.among) at.stands there)

      known : (x : EngineOrModuleTypeIndex) → Among x (type_indices ty) → IsKnown (closed_tree made) x
      known x there =
          let change = shown_index made at.group in
          let from = among_map change (type_indices at.member) x (subst (Among x) (ap type_indices at.is ∙ type_indices-changed change at.member) there) in
          subst (IsKnown (closed_tree made)) (sym from.2) (known-engine at.group from.0 (it from.0 from.1))

      shows : Shows (closed_tree made) t ty
      shows = record {
        member = at.member;
        stands = at.stands;
        shown = shown_index made at.group;
        is_shown = at.is;
        names = λ x there. named-engine at.group x (it x there);
        known = record { each = known };
      }

pub sound-shows : (registry : Registry) → IsSound registry → (i : VMSharedTypeIndex) (ty : WasmSubType) → sub_type_at registry.made i ≡ Some ty → ShowsAt (closed_tree registry.made) i ty
sound-shows registry sound = shows-at registry.made registry.given.numbers (sound-typed registry sound)
