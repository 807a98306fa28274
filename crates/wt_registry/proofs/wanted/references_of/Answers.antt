-- one more at the end
use Rattle.std.proofs.Common.{rules}
use Rattle.wt_registry.proofs.Sums.{references_of-turn}
use Rattle.wt_registry.proofs.wanted.references_of.Goals as goal

pub loop-entry-preserved : goal.loop-entry-preserved
loop-entry-preserved c =
    let turn = references_of-turn c.args.entries.now c.loop-entry.entry-index c.entry-item.result c.loop-entry-test.true c.entry-item.is in
    search rules
