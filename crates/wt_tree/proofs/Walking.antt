-- A walk from an index along declared supertypes: where the two indices differ, the answer is that of the supertype's
-- index, and false where there is no supertype.
use Rattle.std.proofs.Common.{◌≡◌, ◌⊎◌, inl, inr, ◌<◌, true, false, Option, Some, None, IsSome, is_some, unwrap_or, refl, sym, ap, subst, ◌∙◌}
use Rattle.std.specs.Prelude.{option_and_then}
use Rattle.std.proofs.lemmas.Bool.{false≢true, false_from_ne_true}
use Rattle.wt_env.specs.declared.types.VMSharedTypeIndex.{VMSharedTypeIndex}
use Rattle.wt_env.specs.declared.types.EngineOrModuleTypeIndex.TheVariants as index
use Rattle.wt_env.proofs.lists.Members.{some_same, same_test}
use Rattle.wt_tree.specs.Tree.{ClosedTree, no_tree}
use Rattle.wt_tree.specs.Subtyping.{supertype_of, Sub, same, step, rank, is_sub, IsTypeMap}
use Rattle.wt_tree.specs.Fit.{named_by}
use Rattle.wt_tree.proofs.Subtyping.{is_sub-exact}

-- zero steps, or one and more from its supertype
first-step : {a b : ClosedTree} → Sub a b → (a ≡ b) ⊎ ((t : ClosedTree) × (supertype_of a ≡ Some t) × Sub t b)
first-step (same t) = inl refl
first-step (step s t u declared rest) = inr (t, declared, rest)

module _ (types : VMSharedTypeIndex → Option ClosedTree) (map : IsTypeMap types) where
  -- an index that has a closed tree
  known : (i : VMSharedTypeIndex) → IsSome (types i) → (t : ClosedTree) × (types i ≡ Some t)
  known i is = by (types i) refl is
    where
      by : (found : Option ClosedTree) → types i ≡ found → is_some found ≡ true → (t : ClosedTree) × (types i ≡ Some t)
      by None e none = absurd (false≢true none)
      by (Some t) e some = (t, e)

  tree-known : (i : VMSharedTypeIndex) (t : ClosedTree) → types i ≡ Some t → named_by types (index.Engine i) ≡ t
  tree-known i t is = ap (λ (o : Option ClosedTree). unwrap_or o no_tree) is

  -- between closed trees
  step-on : (i j : VMSharedTypeIndex) (a s b : ClosedTree) → types i ≡ Some a → types j ≡ Some s → supertype_of a ≡ Some s → (a ≡ b → ⊥) → is_sub s b ≡ is_sub a b
  step-on i j a s b first second declared differ = same_test (is_sub s b) (is_sub a b) there back
    where
      there : is_sub s b ≡ true → is_sub a b ≡ true
      there is = (is_sub-exact types map i a b first).1 (step a s b declared ((is_sub-exact types map j s b second).0 is))

      by : (a ≡ b) ⊎ ((t : ClosedTree) × (supertype_of a ≡ Some t) × Sub t b) → Sub s b
      by (inl equal) = absurd (differ equal)
      by (inr more) = subst (λ (t : ClosedTree). Sub t b) (some_same (sym more.1 ∙ declared)) more.2

      back : is_sub a b ≡ true → is_sub s b ≡ true
      back is = (is_sub-exact types map j s b second).1 (by (first-step ((is_sub-exact types map i a b first).0 is)))

  step-none : (i : VMSharedTypeIndex) (a b : ClosedTree) → types i ≡ Some a → supertype_of a ≡ None → (a ≡ b → ⊥) → is_sub a b ≡ false
  step-none i a b first none differ = false_from_ne_true (is_sub a b) (λ is. by (first-step ((is_sub-exact types map i a b first).0 is)))
    where
      by : (a ≡ b) ⊎ ((t : ClosedTree) × (supertype_of a ≡ Some t) × Sub t b) → ⊥
      by (inl equal) = differ equal
      by (inr more) = false≢true (ap is_some (sym none ∙ more.1))

  -- different indices have different closed trees
  differ-trees : (i k : VMSharedTypeIndex) (a b : ClosedTree) → types i ≡ Some a → types k ≡ Some b → (i ≡ k → ⊥) → a ≡ b → ⊥
  differ-trees i k a b first second differ equal = differ (map.one_index i k b (first ∙ ap Some equal) second)

  -- the supertype of an index, where j has its closed tree
  supertype-known : (i j : VMSharedTypeIndex) (a s : ClosedTree) → types i ≡ Some a → types j ≡ Some s → types j ≡ option_and_then supertype_of (types i) → supertype_of a ≡ Some s
  supertype-known i j a s first second declared = sym (ap (option_and_then supertype_of) first) ∙ sym declared ∙ second

  pub walk-step : (i j k : VMSharedTypeIndex) → IsSome (types i) → IsSome (types j) → IsSome (types k) → (i ≡ k → ⊥) → types j ≡ option_and_then supertype_of (types i)
      → is_sub (named_by types (index.Engine j)) (named_by types (index.Engine k)) ≡ is_sub (named_by types (index.Engine i)) (named_by types (index.Engine k))
  walk-step i j k here next goal differ declared =
      let a = known i here in
      let s = known j next in
      let b = known k goal in
      let super = supertype-known i j a.0 s.0 a.1 s.1 declared in
      let answer = step-on i j a.0 s.0 b.0 a.1 s.1 super (differ-trees i k a.0 b.0 a.1 b.1 differ) in
      (λ t. is_sub (tree-known j s.0 s.1 t) (tree-known k b.0 b.1 t)) ∙ answer ∙ sym (λ t. is_sub (tree-known i a.0 a.1 t) (tree-known k b.0 b.1 t))

  pub walk-end : (i k : VMSharedTypeIndex) → IsSome (types i) → IsSome (types k) → (i ≡ k → ⊥) → option_and_then supertype_of (types i) ≡ None
      → is_sub (named_by types (index.Engine i)) (named_by types (index.Engine k)) ≡ false
  walk-end i k here goal differ none =
      let a = known i here in
      let b = known k goal in
      let ends = step-none i a.0 b.0 a.1 (sym (ap (option_and_then supertype_of) a.1) ∙ none) (differ-trees i k a.0 b.0 a.1 b.1 differ) in
      (λ t. is_sub (tree-known i a.0 a.1 t) (tree-known k b.0 b.1 t)) ∙ ends

  -- the rank falls
  pub walk-falls : (i j : VMSharedTypeIndex) → IsSome (types i) → IsSome (types j) → types j ≡ option_and_then supertype_of (types i)
      → rank (named_by types (index.Engine j)) < rank (named_by types (index.Engine i))
  walk-falls i j here next declared =
      let a = known i here in
      let s = known j next in
      let lower = map.lower i a.0 s.0 a.1 (supertype-known i j a.0 s.0 a.1 s.1 declared) in
      subst (λ (t : ClosedTree). rank (named_by types (index.Engine j)) < rank t) (sym (tree-known i a.0 a.1))
      (subst (λ (t : ClosedTree). rank t < rank a.0) (sym (tree-known j s.0 s.1)) lower)
