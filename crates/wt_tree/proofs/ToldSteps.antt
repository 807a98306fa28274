-- What is told of declared steps between types with indices is reflexive, transitive and antisymmetric.
use Rattle.std.proofs.Common.{◌≡◌, true, Bool, Option, Some, None, unwrap_or, refl, sym, ap, ◌∙◌}
use Rattle.std.specs.Prelude.{is_some}
use Rattle.std.proofs.lemmas.Bool.{false≢true}
use Rattle.wt_env.specs.declared.types.VMSharedTypeIndex.{VMSharedTypeIndex}
use Rattle.wt_env.specs.declared.types.EngineOrModuleTypeIndex.TheVariants as index
use Rattle.wt_tree.specs.Tree.{ClosedTree, no_tree}
use Rattle.wt_tree.specs.Fit.{named_by}
use Rattle.wt_tree.specs.Subtyping.{Sub, same, step, is_sub, IsTypeMap, TellsSteps}
use Rattle.wt_tree.proofs.Subtyping.{is_sub-antisym, is_sub-exact}

-- an index with a closed tree has it
pub tree-known : (types : VMSharedTypeIndex → Option ClosedTree) (i : VMSharedTypeIndex) → is_some (types i) ≡ true → (t : ClosedTree) × (types i ≡ Some t)
tree-known types i known = by (types i) refl known
  where
    by : (found : Option ClosedTree) → types i ≡ found → is_some found ≡ true → (t : ClosedTree) × (types i ≡ Some t)
    by None e none = absurd (false≢true none)
    by (Some t) e some = (t, e)

-- the test of two closed trees tells of their indices
pub told-by-test : (types : VMSharedTypeIndex → Option ClosedTree) → IsTypeMap types → (i j : VMSharedTypeIndex) (told : Bool)
    → told ≡ is_sub (named_by types (index.Engine i)) (named_by types (index.Engine j)) → TellsSteps types i j told
told-by-test types map i j told is s t s-is t-is =
    let exact = is_sub-exact types map i s t s-is in
    let test : told ≡ is_sub s t = is ∙ λ k. is_sub (unwrap_or (s-is k) no_tree) (unwrap_or (t-is k) no_tree) in
    (λ true_told. exact.0 (sym test ∙ true_told), λ steps. test ∙ exact.1 steps)

-- steps on steps
sub-trans : {s t u : ClosedTree} → Sub s t → Sub t u → Sub s u
sub-trans (same t) more = more
sub-trans {u = u} (step s t v declared rest) more = step s t u declared (sub-trans rest more)

module _ (types : VMSharedTypeIndex → Option ClosedTree) where
  pub told-reflexive : (i : VMSharedTypeIndex) → is_some (types i) ≡ true → (told : Bool) → TellsSteps types i i told → told ≡ true
  told-reflexive i known told tells =
      let t = tree-known types i known in
      (tells t.0 t.0 t.1 t.1).1 (same t.0)

  pub told-transitive : (i j k : VMSharedTypeIndex) → is_some (types i) ≡ true → is_some (types j) ≡ true → is_some (types k) ≡ true
      → (here next both : Bool) → TellsSteps types i j here → TellsSteps types j k next → TellsSteps types i k both
      → here ≡ true → next ≡ true → both ≡ true
  told-transitive i j k known-i known-j known-k here next both tells-here tells-next tells-both h n =
      let s = tree-known types i known-i in
      let t = tree-known types j known-j in
      let u = tree-known types k known-k in
      (tells-both s.0 u.0 s.1 u.1).1 (sub-trans ((tells-here s.0 t.0 s.1 t.1).0 h) ((tells-next t.0 u.0 t.1 u.1).0 n))

  pub told-antisymmetric : IsTypeMap types → (i j : VMSharedTypeIndex) → is_some (types i) ≡ true → is_some (types j) ≡ true
      → (there back : Bool) → TellsSteps types i j there → TellsSteps types j i back → there ≡ true → back ≡ true → i ≡ j
  told-antisymmetric map i j known-i known-j there back tells-there tells-back h b =
      let s = tree-known types i known-i in
      let t = tree-known types j known-j in
      let up = (is_sub-exact types map i s.0 t.0 s.1).1 ((tells-there s.0 t.0 s.1 t.1).0 h) in
      let down = (is_sub-exact types map j t.0 s.0 t.1).1 ((tells-back t.0 s.0 t.1 s.1).0 b) in
      map.one_index i j s.0 s.1 (t.1 ∙ ap Some (is_sub-antisym t.0 s.0 down up))
