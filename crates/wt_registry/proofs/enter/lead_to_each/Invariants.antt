-- those before are led to
use Rattle.std.proofs.Common.{take}
use Rattle.std.specs.List.{flat_map}
use Rattle.wt_model.specs.Reach.{edges}
use Rattle.wt_keys.specs.Entries.{made_of}
use Rattle.wt_registry.specs.LeadsTo.{LeadsTo}
use Rattle.wt_registry.proofs.enter.lead_to_each.Given as goal

abbrev pub invariant-loop-entry : goal.invariant-loop-entry
invariant-loop-entry l = LeadsTo l.fn.counts.items l.counts.items (flat_map (λ entry. edges (made_of entry)) (take l.entry-index l.added))
