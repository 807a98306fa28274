-- what the references so far name
use Rattle.std.proofs.Common.{◌≡◌, ◌++◌, map, take, Some}
use Rattle.wt_keys.specs.Entries.{made_by}
use Rattle.wt_keys.specs.Keys.{named_at}
use Rattle.wt_plan.proofs.plan.outer_of.Given as goal

abbrev pub invariant-loop-reference : goal.invariant-loop-reference
invariant-loop-reference l = map (named_at (made_by (l.fn.entries ++ l.fn.added))) (take l.reference-index l.reference-items) ≡ map Some l.outer
