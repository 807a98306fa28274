-- the new count has no reference and no hold
use Rattle.std.proofs.Common.{rules, false, refl, sym, ap, ◌∙◌, sum, replicate}
use Rattle.wt_registry.proofs.Tallied.{fresh-pushed, rows-turn, sum-zeros}
use Rattle.wt_registry.proofs.enter.new_counts.Goals as goal

pub loop-entry-preserved : goal.loop-entry-preserved
loop-entry-preserved c = record {
  counts = λ engine same.
      rows-turn engine c.args.added.now c.loop-entry.entry-index c.entry-item.result c.loop-entry.counts.items c.push.new.self.items
      (record { number = c.entry-item.result.number; references = 0; total = 0; holds = c.in_ok-no_holds.field-0; waits = false }) c.loop-entry-test.true c.entry-item.is c.in_ok-push.ensures.items
      (c.loop-entry.invariant.counts engine same)
      (λ i. record { number = c.entry-item.result.number; holds = (c.in_ok-no_holds.ensures ∙ ap (λ n. replicate n 0) (sym same)) i; waits = false });
  fresh = fresh-pushed c.loop-entry.counts.items c.push.new.self.items (record { number = c.entry-item.result.number; references = 0; total = 0; holds = c.in_ok-no_holds.field-0; waits = false })
      c.in_ok-push.ensures.items c.loop-entry.invariant.fresh
      (record { references = refl; total = refl; none = ap sum c.in_ok-no_holds.ensures ∙ sum-zeros c.args.parties });
  len = search rules;
}
