-- the next one is led to
use Rattle.std.proofs.Common.{sym, subst}
use Rattle.wt_model.specs.Reach.{edges}
use Rattle.wt_keys.specs.declared.entry.RecGroupEntry.{RecGroupEntry}
use Rattle.wt_keys.specs.Entries.{made_of}
use Rattle.wt_registry.specs.LeadsTo.{CanLead, LeadsTo}
use Rattle.wt_registry.proofs.Leading.{can-turn, leads-turn}
use Rattle.wt_registry.proofs.enter.lead_to_each.Goals as goal

pub lead_to_edges-requires : goal.lead_to_edges-requires
lead_to_edges-requires c =
    subst (λ (e : RecGroupEntry). CanLead c.loop-entry.counts.items (edges (made_of e))) (sym c.entry-item.is)
    (can-turn (λ (e : RecGroupEntry). edges (made_of e)) c.args.added.now c.loop-entry.entry-index c.entry-item.result c.loop-entry-test.true c.args.counts.now.items c.loop-entry.counts.items c.requires c.loop-entry.invariant)

pub loop-entry-preserved : goal.loop-entry-preserved
loop-entry-preserved c =
    leads-turn (λ (e : RecGroupEntry). edges (made_of e)) c.args.added.now c.loop-entry.entry-index c.entry-item.result c.loop-entry-test.true c.args.counts.now.items c.loop-entry.counts.items
    c.lead_to_edges.new.counts.items c.loop-entry.invariant
    (subst (λ (e : RecGroupEntry). LeadsTo c.loop-entry.counts.items c.lead_to_edges.new.counts.items (edges (made_of e))) c.entry-item.is c.lead_to_edges.ensures)
