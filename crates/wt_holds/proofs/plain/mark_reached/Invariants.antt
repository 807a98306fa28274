-- the pass is done from this place on
use Rattle.std.proofs.Common.{◌≡◌, ◌≤◌, length}
use Rattle.wt_holds.proofs.marks.Passes.{done}
use Rattle.wt_holds.proofs.plain.mark_reached.Given as goal

abbrev pub invariant-loop-place : goal.invariant-loop-place
invariant-loop-place l = record {
  within : l.place ≤ length l.entries;
  long : length l.marks ≡ length l.entries;
  marks : l.marks ≡ done l.entries l.initial.marks l.place;
}

abbrev pub decreases-loop-place : goal.decreases-loop-place
decreases-loop-place l = l.place
