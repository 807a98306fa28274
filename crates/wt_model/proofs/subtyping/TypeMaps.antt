-- The closed trees of a registry by their indices: different indices have different ones, and each declared supertype
-- has an index and a smaller rank.
use Rattle.std.proofs.Common.{◌≡◌, inl, ℕ, ◌<◌, true, List, length, Option, Some, is_some, refl, sym, ap, subst, ◌∙◌, Bool, unwrap_or}
use Rattle.std.specs.Prelude.{option_to_list}
use Rattle.std.proofs.lemmas.Option.{slice_get_within}
use Rattle.wt_env.specs.Among.{Among}
use Rattle.wt_env.specs.declared.types.VMSharedTypeIndex.{VMSharedTypeIndex}
use Rattle.wt_env.specs.declared.types.EngineOrModuleTypeIndex.{EngineOrModuleTypeIndex}
use Rattle.wt_env.specs.declared.types.EngineOrModuleTypeIndex.TheVariants as index
use Rattle.wt_env.proofs.lists.Members.{among_before}
use Rattle.wt_tree.specs.Tree.{Tree, ClosedTree, no_tree, close}
use Rattle.wt_tree.specs.Kinds.{kinded_refs, indices_of, type_indices}
use Rattle.wt_tree.specs.Subtyping.{tree_at, supertype_of, rank, is_sub, IsTypeMap, TellsSteps}
use Rattle.wt_tree.proofs.Slots.{Declares, supertype-declared, rank-slot, rank-own}
use Rattle.wt_tree.proofs.Subtyping.{is_sub-exact}
use Rattle.wt_model.specs.Registered.{RegisteredGroup, Registry}
use Rattle.wt_model.specs.Trees.{trees}
use Rattle.wt_model.specs.Indices.{locate, closed_tree}
use Rattle.wt_model.specs.NamedTypes.{NamesEarlier}
use Rattle.wt_model.specs.Subtyping.{is_subtype_index}
use Rattle.wt_model.specs.Sound.{KeepRules, IsSound}
use Rattle.wt_rules.proofs.KeptRules.{fits-kept}
use Rattle.wt_tree.specs.Fit.{StepsFit}
use Rattle.wt_model.proofs.indices.Places.{locate-at}
use Rattle.wt_model.proofs.trees.KnownTrees.{closed_tree-located, closed-located}
use Rattle.wt_model.proofs.trees.OneTree.{one_type}
use Rattle.wt_model.proofs.subtyping.NamedIndices.{AreTyped, sound-typed, slot-named, group-tree, named}

module _ (made : List RegisteredGroup) (top : ℕ) (typed : AreTyped made top) where
  -- the closed tree of an index is a place of a registered group
  pub record TypeAt (t : ClosedTree) : Type 0 where
    pub group : RegisteredGroup
    pub place : ℕ
    pub among : Among group made
    pub closed : t ≡ record { tree = close (trees made) group.description; place = place }

  pub type-at : (i : VMSharedTypeIndex) (t : ClosedTree) → closed_tree made i ≡ Some t → TypeAt t
  type-at i t is =
      let found = closed_tree-located made i t is in
      let here = locate-at made i found.0 found.1 in
      record {
        group = here.group;
        place = (found.0).1;
        among = here.among;
        closed = found.2 ∙ ap (λ (tree : Tree). record { tree = tree; place = (found.0).1 }) (ap (trees made) (sym here.number) ∙ group-tree made top typed here.group here.among);
      }

  -- what is declared at a place of a registered group
  module _ (g : RegisteredGroup) (among : Among g made) (place : ℕ) (s : ClosedTree) where
    abbrev here : ClosedTree
    here = record { tree = close (trees made) g.description; place = place }

    earlier : (declares : Declares here s) → NamesEarlier g.description place declares.named
    earlier declares = (typed.name_types g among).supertypes place declares.member declares.named declares.stands declares.declares

    lower-at : Declares here s → rank s < rank here
    lower-at declares = subst (λ (u : ClosedTree). rank u < rank here) declares.is (by declares.named (earlier declares))
      where
        within : place < length g.description.members
        within = slice_get_within g.description.members place declares.member declares.stands

        by : (x : EngineOrModuleTypeIndex) → NamesEarlier g.description place x → rank (tree_at here.tree x) < rank here
        by (index.Engine i) none = absurd none
        by (index.Module n) slot = rank-slot here n within
        by (index.RecGroup k) before = rank-own here k within before

    supertype-at : Declares here s → (j : VMSharedTypeIndex) × (closed_tree made j ≡ Some s)
    supertype-at declares =
        let first : Among declares.named (option_to_list declares.member.supertype) = subst (λ (o : Option EngineOrModuleTypeIndex). Among declares.named (option_to_list o)) (sym declares.declares) (inl refl) in
        let stands : Among declares.named (type_indices declares.member) = among_before (option_to_list declares.member.supertype) (indices_of (kinded_refs declares.member)) declares.named first in
        let slot = slot-named made g.description place declares.member declares.named (typed.name_types g among) declares.stands stands in
        let it = named made top typed g among declares.named slot in
        (it.engine, it.closed ∙ ap Some declares.is)

  lower-told : (i : VMSharedTypeIndex) (t s : ClosedTree) → closed_tree made i ≡ Some t → supertype_of t ≡ Some s → rank s < rank t
  lower-told i t s is declared =
      let at = type-at i t is in
      subst (λ (u : ClosedTree). supertype_of u ≡ Some s → rank s < rank u) (sym at.closed)
      (λ declares. lower-at at.group at.among at.place s (supertype-declared (here at.group at.among at.place s) s declares)) declared

  supertypes-told : (i : VMSharedTypeIndex) (t s : ClosedTree) → closed_tree made i ≡ Some t → supertype_of t ≡ Some s → (j : VMSharedTypeIndex) × (closed_tree made j ≡ Some s)
  supertypes-told i t s is declared =
      let at = type-at i t is in
      supertype-at at.group at.among at.place s
      (supertype-declared (here at.group at.among at.place s) s (ap supertype_of (sym at.closed) ∙ declared))

  located : (i : VMSharedTypeIndex) (t : ClosedTree) → closed_tree made i ≡ Some t → is_some (locate made i) ≡ true
  located i t is = sym (closed-located made i) ∙ ap is_some is

  -- the closed trees of a registry
  pub type-map : IsTypeMap (closed_tree made)
  type-map = record {
    one_index = λ i j t first second. one_type made i j typed.one_index (located i t first) (located j t second) (first ∙ sym second);
    lower = lower-told;
    supertypes = supertypes-told;
  }

pub sound-map : (registry : Registry) → IsSound registry → IsTypeMap (closed_tree registry.made)
sound-map registry sound = type-map registry.made registry.given.numbers (sound-typed registry sound)

-- the test by indices tells where declared steps lead
pub sound-steps : (registry : Registry) → IsSound registry → (i j : VMSharedTypeIndex) (told : Bool) → told ≡ is_subtype_index registry.made i j
    → TellsSteps (closed_tree registry.made) i j told
sound-steps registry sound i j told is s t first second =
    let exact = is_sub-exact (closed_tree registry.made) (sound-map registry sound) i s t first in
    let value : told ≡ is_sub s t = is ∙ (λ k. is_sub (unwrap_or (first k) no_tree) (unwrap_or (second k) no_tree)) in (
      λ h. exact.0 (sym value ∙ h),
      λ steps. value ∙ exact.1 steps,
    )

-- the shape of each registered type matches that of its declared supertype
pub rules-fit : (made : List RegisteredGroup) → KeepRules made → StepsFit (closed_tree made)
rules-fit made rules i t s is declared = fits-kept t s (rules i t is) declared

pub sound-fit : (registry : Registry) → IsSound registry → StepsFit (closed_tree registry.made)
sound-fit registry sound = rules-fit registry.made sound.rules
