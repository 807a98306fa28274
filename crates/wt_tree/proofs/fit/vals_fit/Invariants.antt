-- The values before this place fit, so what is left decides.
use Rattle.std.proofs.Common.{◌≡◌, ◌≤◌, drop, length}
use Rattle.wt_tree.specs.Fit.{vals_fit, named_by}
use Rattle.wt_tree.proofs.fit.vals_fit.Given as goal

abbrev pub invariant-loop-place : goal.invariant-loop-place
invariant-loop-place g l = record {
  long : length l.b ≡ length l.a;
  within : l.place ≤ length l.b;
  rest :
      vals_fit (named_by (g.S.Supers.types l.supers)) (named_by (g.S.Supers.types l.supers)) l.a l.b
      ≡ vals_fit (named_by (g.S.Supers.types l.supers)) (named_by (g.S.Supers.types l.supers)) (drop l.place l.a) (drop l.place l.b);
}
