-- The supertype that an index shows is the index of the closed tree that its own declares.
use Rattle.std.proofs.Common.{◌≡◌, true, Option, Some, None, IsSome, is_some, option_map, unwrap_or, inl, refl, sym, ap, subst, ◌∙◌}
use Rattle.std.specs.Prelude.{option_and_then, option_to_list}
use Rattle.std.proofs.lemmas.Bool.{false≢true}
use Rattle.wt_env.specs.Among.{Among}
use Rattle.wt_env.proofs.lists.Members.{some_same, among_before}
use Rattle.wt_env.specs.declared.types.VMSharedTypeIndex.{VMSharedTypeIndex}
use Rattle.wt_env.specs.declared.types.EngineOrModuleTypeIndex.{EngineOrModuleTypeIndex}
use Rattle.wt_env.specs.declared.types.EngineOrModuleTypeIndex.TheVariants as index
use Rattle.wt_env.specs.declared.types.WasmSubType.{WasmSubType}
use Rattle.wt_tree.specs.Tree.{ClosedTree, no_tree}
use Rattle.wt_tree.specs.Kinds.{kinded_refs, indices_of, type_indices}
use Rattle.wt_tree.specs.Subtyping.{tree_at, supertype_of, engine_index}
use Rattle.wt_tree.specs.Fit.{named_by, IsKnown, Shows, ShowsAt}

-- a supertype is among the type indices
pub supertype-among : (ty : WasmSubType) (i : EngineOrModuleTypeIndex) → ty.supertype ≡ Some i → Among i (type_indices ty)
supertype-among ty i is =
    among_before (option_to_list ty.supertype) (indices_of (kinded_refs ty)) i (subst (λ (found : Option EngineOrModuleTypeIndex). Among i (option_to_list found)) (sym is) (inl refl))

module _ (types : VMSharedTypeIndex → Option ClosedTree) where
  -- an index that has a closed tree, and names this one
  known-named : (i : EngineOrModuleTypeIndex) (t : ClosedTree) → IsKnown types i → named_by types i ≡ t → option_and_then types (engine_index i) ≡ Some t
  known-named (index.Module n) t known named = absurd known
  known-named (index.RecGroup k) t known named = absurd known
  known-named (index.Engine j) t known named = by (types j) known named
    where
      by : (found : Option ClosedTree) → is_some found ≡ true → unwrap_or found no_tree ≡ t → found ≡ Some t
      by None none same = absurd (false≢true none)
      by (Some s) some same = ap Some same

  pub shown-supertype : (i : VMSharedTypeIndex) (ty : WasmSubType) → ShowsAt types i ty
      → option_and_then types (option_and_then engine_index ty.supertype) ≡ option_and_then supertype_of (types i)
  shown-supertype i ty here = by shows.member.supertype refl ∙ sym (ap (option_and_then supertype_of) here.1)
    where
      t : ClosedTree
      t = here.0

      shows : Shows types here.0 ty
      shows = here.2

      declares : supertype_of here.0 ≡ option_map (tree_at here.0.tree) here.2.member.supertype
      declares = ap (option_and_then (λ (member : WasmSubType). option_map (tree_at here.0.tree) member.supertype)) here.2.stands

      shown : ty.supertype ≡ option_map here.2.shown here.2.member.supertype
      shown = ap (λ (s : WasmSubType). s.supertype) here.2.is_shown

      by : (found : Option EngineOrModuleTypeIndex) → here.2.member.supertype ≡ found
          → option_and_then types (option_and_then engine_index ty.supertype) ≡ supertype_of here.0
      by None is =
          ap (λ (s : Option EngineOrModuleTypeIndex). option_and_then types (option_and_then engine_index s)) (shown ∙ ap (option_map here.2.shown) is)
          ∙ sym (declares ∙ ap (option_map (tree_at here.0.tree)) is)
      by (Some m) is =
          let super : ty.supertype ≡ Some (here.2.shown m) = shown ∙ ap (option_map here.2.shown) is in
          let known = here.2.known.each (here.2.shown m) (supertype-among ty (here.2.shown m) super) in
          let named = here.2.names m (supertype-among here.2.member m is) in
          ap (λ (s : Option EngineOrModuleTypeIndex). option_and_then types (option_and_then engine_index s)) super
          ∙ known-named (here.2.shown m) (tree_at here.0.tree m) known named
          ∙ sym (declares ∙ ap (option_map (tree_at here.0.tree)) is)

  -- and that index has a closed tree
  pub shown-registered : (i : VMSharedTypeIndex) (ty : WasmSubType) → ShowsAt types i ty → (j : VMSharedTypeIndex) → option_and_then engine_index ty.supertype ≡ Some j → IsSome (types j)
  shown-registered i ty here j is = by ty.supertype refl is
    where
      engine : (m : EngineOrModuleTypeIndex) → IsKnown types m → engine_index m ≡ Some j → IsSome (types j)
      engine (index.Engine k) known same = subst (λ (l : VMSharedTypeIndex). IsSome (types l)) (some_same same) known
      engine (index.Module n) known same = absurd known
      engine (index.RecGroup k) known same = absurd known

      by : (found : Option EngineOrModuleTypeIndex) → ty.supertype ≡ found → option_and_then engine_index found ≡ Some j → IsSome (types j)
      by None e none = absurd (cc)
      by (Some m) e found = engine m (here.2.known.each m (supertype-among ty m e)) found
