-- an index is located in the entry that is found for it
use Rattle.std.proofs.Common.{ap, ◌∙◌}
use Rattle.std.specs.Option.{option_and_then}
use Rattle.wt_keys.specs.Keys.{at_entry}
use Rattle.wt_keys.proofs.LocatedEntries.{found-located}
use Rattle.wt_keys.proofs.search.locate_index.Goals as goal

pub returns-in-Some : goal.returns-in-Some
returns-in-Some c = c.locate_in_entry.ensures ∙ ap (option_and_then (at_entry c.args.index)) c.in-Some.ensures ∙ found-located c.args.entries.now c.args.index

pub returns-in-None : goal.returns-in-None
returns-in-None c = ap (option_and_then (at_entry c.args.index)) c.in-None.ensures ∙ found-located c.args.entries.now c.args.index
