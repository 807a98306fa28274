-- those before are led to
use Rattle.std.proofs.Common.{take}
use Rattle.std.specs.List.{flat_map}
use Rattle.std.specs.Option.{option_to_list}
use Rattle.wt_registry.specs.LeadsTo.{LeadsTo}
use Rattle.wt_registry.proofs.enter.lead_to_trampolines.Given as goal

abbrev pub invariant-loop-told : goal.invariant-loop-told
invariant-loop-told l = LeadsTo l.fn.counts.items l.counts.items (flat_map (λ told. option_to_list told) (take l.told-index l.trampolines))
