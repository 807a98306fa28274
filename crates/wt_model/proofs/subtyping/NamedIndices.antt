-- Each type index that stands in a member of a registered group names a type that has an index, and is shown as it.
use Rattle.std.proofs.Common.{◌≡◌, ℕ, zero, suc, ◌<◌, true, nat_lt, if◌then◌else◌, List, [], ◌∷◌, length, map, slice_get, Option, Some, option_map, unwrap_or, refl, sym, ap, ◌∙◌, arith}
use Rattle.std.specs.List.{filter_map}
use Rattle.wt_env.specs.Among.{Among}
use Rattle.wt_env.specs.declared.types.VMSharedTypeIndex.{VMSharedTypeIndex}
use Rattle.wt_env.specs.declared.types.EngineOrModuleTypeIndex.{EngineOrModuleTypeIndex}
use Rattle.wt_env.specs.declared.types.EngineOrModuleTypeIndex.TheVariants as index
use Rattle.wt_env.specs.declared.types.WasmSubType.{WasmSubType}
use Rattle.wt_env.proofs.lists.Mapped.{among_mapped}
use Rattle.wt_env.proofs.lists.Members.{get_among, among_before}
use Rattle.wt_tree.specs.Tree.{Tree, Description, ClosedTree, no_tree, close}
use Rattle.wt_tree.specs.Kinds.{type_indices}
use Rattle.wt_tree.specs.Subtyping.{tree_at}
use Rattle.wt_tree.proofs.Slots.{outer_at-closed}
use Rattle.wt_model.specs.Registered.{RegisteredGroup, Registry}
use Rattle.wt_model.specs.Trees.{trees}
use Rattle.wt_model.specs.Indices.{locate, closed_tree}
use Rattle.wt_model.specs.NamedTypes.{HasPlace, NamesSlot, NamesTypes, NameTypes}
use Rattle.wt_model.specs.Shown.{index_at, shown_index}
use Rattle.wt_model.specs.Sound.{IsRising, OneIndexPerTree, NamesOlder, IsLocated, AreIndexed, IsSound}
use Rattle.wt_model.proofs.indices.ShownPlaces.{index_at-located}
use Rattle.wt_model.proofs.trees.Trees.{NamesBelow, trees-registered}

-- what is true of the groups and indices of every registry
pub record AreTyped (made : List RegisteredGroup) (top : ℕ) : Type 0 where
  pub rising : IsRising 0 made top
  pub one_index : OneIndexPerTree made
  pub names_older : NamesOlder made
  pub is_located : IsLocated made
  pub indexed : AreIndexed made
  pub name_types : NameTypes made

pub sound-typed : (registry : Registry) → IsSound registry → AreTyped registry.made registry.given.numbers
sound-typed registry sound = record {
  rising = sound.rising;
  one_index = sound.one_index;
  names_older = sound.names_older;
  is_located = sound.is_located;
  indexed = sound.indexed;
  name_types = sound.name_types;
}

-- ---- what stands in a member

pub get_within : {A : Type 0} (xs : List A) (k : ℕ) → k < length xs → (x : A) × (slice_get xs k ≡ Some x)
get_within [] k below = absurd (omega (arith, below))
get_within (x ∷ xs) zero below = (x, refl)
get_within (x ∷ xs) (suc k) below = get_within xs k (omega (arith, below))

-- each type index of a member, its supertype included
pub slot-named : (made : List RegisteredGroup) (described : Description) (place : ℕ) (ty : WasmSubType) (x : EngineOrModuleTypeIndex) → NamesTypes made described
    → slice_get described.members place ≡ Some ty → Among x (type_indices ty) → NamesSlot described x
slot-named made described place ty x names is at = names.slots ty x (get_among described.members place ty is) at

-- ---- what it names

module _ (made : List RegisteredGroup) (top : ℕ) (typed : AreTyped made top) where
  names_below : NamesBelow made
  names_below m reference at refers =
      let number = among_mapped (λ (r : ℕ × ℕ). r.0) m.description.outer reference refers in
      (typed.names_older m reference.0 at (among_before (map (λ (r : ℕ × ℕ). r.0) m.description.outer) (filter_map (λ (told : Option ℕ). told) m.trampolines) reference.0 number)).0

  -- the tree of a registered group is its description, closed
  pub group-tree : (g : RegisteredGroup) → Among g made → trees made g.number ≡ close (trees made) g.description
  group-tree g at = trees-registered top made typed.rising names_below g at

  -- a place that there is has an index
  place-index : (at : ℕ × ℕ) → HasPlace made at → (j : VMSharedTypeIndex) × (locate made j ≡ Some at)
  place-index at has =
      let many = typed.indexed has.0 has.1 in
      let within = has.3 in
      let found = get_within (has.0).indices at.1 (omega (arith, many, within)) in
      (found.0, typed.is_located has.0 at.1 found.0 has.1 found.1 ∙ ap (λ (n : ℕ). Some (n, at.1)) has.2)

  -- the index of the closed tree that a type index in a registered group names, as which it is shown
  pub record Named (g : RegisteredGroup) (x : EngineOrModuleTypeIndex) : Type 0 where
    pub engine : VMSharedTypeIndex
    pub closed : closed_tree made engine ≡ Some (tree_at (close (trees made) g.description) x)
    pub shown : shown_index made g x ≡ index.Engine engine

  abbrev closed_at : ℕ × ℕ → ClosedTree
  closed_at at = record { tree = trees made at.0; place = at.1 }

  pub named : (g : RegisteredGroup) → Among g made → (x : EngineOrModuleTypeIndex) → NamesSlot g.description x → Named g x
  named g among (index.Engine i) none = absurd none
  named g among (index.Module n) slot =
      let at = slot.0 in
      let found = place-index at ((typed.name_types g among).outer at (get_among g.description.outer n.0 at slot.1)) in
      record {
        engine = found.0;
        closed = ap (option_map closed_at) found.1 ∙ ap Some (sym (outer_at-closed (trees made) g.description.outer n.0 at slot.1));
        shown = ap (λ (o : Option (ℕ × ℕ)). unwrap_or (option_map (λ (a : ℕ × ℕ). index.Engine (index_at made a)) o) (index.Module n)) slot.1 ∙ ap index.Engine (index_at-located top made found.0 at typed.rising found.1);
      }
  named g among (index.RecGroup k) within =
      let many = typed.indexed g among in
      let found = get_within g.indices k (omega (arith, many, within)) in
      let test : nat_lt k (length g.description.members) ≡ true = grind (arith, within) in
      let own : Tree = close (trees made) g.description in
      record {
        engine = found.0;
        closed = ap (option_map closed_at) (typed.is_located g k found.0 among found.1)
            ∙ ap (λ (tree : Tree). Some (record { tree = tree; place = k })) (group-tree g among)
            ∙ ap (λ b. Some (if b then (record { tree = own; place = k }) else no_tree)) (sym test);
        shown = ap (λ (o : Option VMSharedTypeIndex). unwrap_or (option_map index.Engine o) (index.RecGroup k)) found.1;
      }
