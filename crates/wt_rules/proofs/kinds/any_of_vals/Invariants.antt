-- those from here on decide
use Rattle.std.proofs.Common.{◌≡◌, drop}
use Rattle.std.specs.List.{list_any}
use Rattle.wt_tree.specs.Kinds.{kinded_val, kinded_vals}
use Rattle.wt_rules.proofs.kinds.any_of_vals.Given as goal

abbrev pub invariant-loop-ty : goal.invariant-loop-ty
invariant-loop-ty g l =
    list_any (λ ty. list_any (λ r. g.T.ReferenceTest.breaks l.test r.0 r.1) (kinded_val ty)) (drop l.ty-index l.types)
    ≡ list_any (λ r. g.T.ReferenceTest.breaks l.test r.0 r.1) (kinded_vals l.types)
