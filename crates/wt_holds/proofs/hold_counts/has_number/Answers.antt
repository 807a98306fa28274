use Rattle.std.proofs.Common.{is_some, ap, ◌∙◌}
use Rattle.wt_holds.proofs.Held.{position-made}
use Rattle.wt_holds.proofs.hold_counts.has_number.Goals as goal

pub returns : goal.returns
returns c = c.is_some.ensures ∙ (ap is_some c.entry_place.ensures ∙ position-made c.args.number 0 c.args.entries.now)
