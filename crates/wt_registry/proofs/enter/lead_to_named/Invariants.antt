-- those before are led to
use Rattle.std.proofs.Common.{◌∷◌, [], take}
use Rattle.std.specs.List.{flat_map}
use Rattle.wt_registry.specs.LeadsTo.{LeadsTo}
use Rattle.wt_registry.proofs.enter.lead_to_named.Given as goal

abbrev pub invariant-loop-reference : goal.invariant-loop-reference
invariant-loop-reference l = LeadsTo l.fn.counts.items l.counts.items (flat_map (λ reference. reference.0 ∷ []) (take l.reference-index l.references))
