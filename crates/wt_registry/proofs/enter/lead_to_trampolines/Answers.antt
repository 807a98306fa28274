-- the next one is led to
use Rattle.std.proofs.Common.{ℕ, Option, None}
use Rattle.std.specs.Option.{option_to_list}
use Rattle.wt_registry.proofs.Leading.{can-turn, leads-turn}
use Rattle.wt_registry.proofs.enter.lead_to_trampolines.Goals as goal

pub lead_to_told-requires : goal.lead_to_told-requires
lead_to_told-requires c = can-turn (λ (t : Option ℕ). option_to_list t) c.args.trampolines.now c.loop-told.told-index None c.loop-told-test.true c.args.counts.now.items c.loop-told.counts.items c.requires c.loop-told.invariant

pub loop-told-preserved : goal.loop-told-preserved
loop-told-preserved c =
    leads-turn (λ (t : Option ℕ). option_to_list t) c.args.trampolines.now c.loop-told.told-index None c.loop-told-test.true c.args.counts.now.items c.loop-told.counts.items c.lead_to_told.new.counts.items c.loop-told.invariant c.lead_to_told.ensures
