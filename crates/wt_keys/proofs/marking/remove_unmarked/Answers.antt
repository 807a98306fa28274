use Rattle.std.proofs.Common.{arith}
use Rattle.wt_keys.proofs.Passes.{down_kept}
use Rattle.wt_keys.proofs.marking.remove_unmarked.Goals as goal

pub loop-place-preserved : goal.loop-place-preserved
loop-place-preserved g c = record {
  within = omega (arith, c.loop-place.invariant.within);
  long = omega (arith, c.loop-place.invariant.long);
  items = down_kept c.args.marks.now c.args.items.now.items c.loop-place.items.items c.loop-place.place
      c.loop-place-test.true c.loop-place.invariant.within c.requires c.loop-place.invariant.items c.if-not-marks-place.false;
}
