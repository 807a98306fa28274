use Rattle.std.proofs.Common.{length, ◌-◌, ◌≤◌, take}
use Rattle.wt_env.specs.Stream.{IsAdded}
use Rattle.wt_program.proofs.write.write_all.Given as goal

-- the front as far as `written` was written
abbrev pub invariant-loop-written : goal.invariant-loop-written
invariant-loop-written g l = record {
  within : l.written ≤ length l.bytes;
  added : IsAdded (take l.written l.bytes) (g.K.Sink.taken l.fn.sink) (g.K.Sink.taken l.sink);
  count : g.K.Sink.faults l.fn.sink ≤ g.K.Sink.faults l.sink;
}

abbrev pub decreases-loop-written : goal.decreases-loop-written
decreases-loop-written g l = length l.bytes - l.written
