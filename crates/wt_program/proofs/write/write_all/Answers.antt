use Rattle.std.proofs.Common.{length-drop, arith}
use Rattle.std.proofs.Math.Seq.{take-add}
use Rattle.std.proofs.lemmas.List.{take_rest}
use Rattle.wt_program.proofs.Streams.{IsAdded-append}
use Rattle.wt_program.proofs.write.write_all.Goals as goal

pub loop-written-preserved : goal.loop-written-preserved
loop-written-preserved g c =
    let bound = c.in_ok-written.ensures.within in
    let added = simp take_rest at c.in_ok-written.ensures.added in
    record {
      within = omega (arith, bound, length-drop c.loop-written.written c.args.bytes.now);
      added = rw take-add (IsAdded-append _ _ _ _ _ c.loop-written.invariant.added added);
      count = omega (arith, c.write.ensures.count);
    }
