-- what isn't marked from this place on is gone
use Rattle.std.proofs.Common.{◌≡◌, ◌≤◌, length}
use Rattle.wt_keys.proofs.Passes.{cleared}
use Rattle.wt_keys.proofs.marking.remove_unmarked.Given as goal

abbrev pub invariant-loop-place : goal.invariant-loop-place
invariant-loop-place g l = record {
  within : l.place ≤ length l.marks;
  long : l.place ≤ length l.items.items;
  items : l.items.items ≡ cleared l.marks l.initial.items.items l.place;
}

abbrev pub decreases-loop-place : goal.decreases-loop-place
decreases-loop-place g l = l.place
