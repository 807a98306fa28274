use Rattle.std.proofs.Common.{length, ◌-◌, ◌+◌, ◌^◌, ◌≤◌, ◌<◌}
use Rattle.wt_env.specs.Stream.{IsTaken}
use Rattle.wt_program.proofs.read.read_all.Given as goal

-- what was read so far is what was taken
abbrev pub invariant-loop-bytes : goal.invariant-loop-bytes
invariant-loop-bytes g l = record {
  buffer : 0 < length l.buffer;
  within : length l.bytes.items ≤ 2 ^ 24;
  taken : IsTaken l.bytes.items (g.S.Source.left l.fn.source) (g.S.Source.left l.source);
  count : g.S.Source.faults l.fn.source ≤ g.S.Source.faults l.source;
}

abbrev pub decreases-loop-bytes : goal.decreases-loop-bytes
decreases-loop-bytes g l = 2 ^ 24 + 1 - length l.bytes.items
