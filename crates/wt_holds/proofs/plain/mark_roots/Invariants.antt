-- up to this place each group is marked as a root or not
use Rattle.std.proofs.Common.{◌≡◌, length, take}
use Rattle.wt_holds.proofs.marks.RootMarks.{rooted_marks}
use Rattle.wt_holds.proofs.plain.mark_roots.Given as goal

abbrev pub invariant-loop-place : goal.invariant-loop-place
invariant-loop-place l = record {
  long : length l.marks ≡ length l.counts;
  marks : take l.place l.marks ≡ rooted_marks (take l.place l.counts);
}
