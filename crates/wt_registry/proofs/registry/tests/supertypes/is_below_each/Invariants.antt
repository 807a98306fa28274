-- at most one place was read for each type so far
use Rattle.std.proofs.Common.{◌+◌, ◌≤◌}
use Rattle.wt_registry.proofs.registry.tests.supertypes.is_below_each.Given as goal

abbrev pub invariant-loop-sup : goal.invariant-loop-sup
invariant-loop-sup g l = l.steps ≤ l.fn.steps + l.sup
