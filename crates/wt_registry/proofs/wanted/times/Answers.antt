-- one more at the end, which is the number or another
use Rattle.std.proofs.Common.{sym, ap, ◌+◌, ◌∙◌, arith}
use Rattle.wt_registry.proofs.Sums.{times-here, times-other}
use Rattle.wt_registry.proofs.wanted.times.Goals as goal
use Rattle.wt_registry.proofs.wanted.times.Goals.{then-at-number, else-at-number}

pub loop-at-preserved : goal.loop-at-preserved
loop-at-preserved c =
    elim c.if-at-number.branch [
      | then-at-number w ↦ record {
        counted = w.count-is ∙ ap (λ n. n + 1) c.loop-at.invariant.counted ∙ sym (times-here c.args.number c.args.numbers.now c.loop-at.at-index 0 c.loop-at-test.true w.if-at-number.true);
        bounded = omega (arith, w.count-is, c.loop-at.invariant.bounded);
      }
      | else-at-number w ↦ record {
        counted = w.count-is ∙ c.loop-at.invariant.counted ∙ sym (times-other c.args.number c.args.numbers.now c.loop-at.at-index 0 c.loop-at-test.true w.if-at-number.false);
        bounded = omega (arith, w.count-is, c.loop-at.invariant.bounded);
      }
    ]
