-- what is found is found in the first, or else in the second
use Rattle.std.proofs.Common.{is_some, ◌∙◌}
use Rattle.wt_model.specs.Indices.{place_in}
use Rattle.wt_keys.proofs.Joined.{find_first, find_second}
use Rattle.wt_keys.proofs.search.joined_entry.Goals as goal

pub returns-in-Some : goal.returns-in-Some
returns-in-Some c = find_first (λ entry. is_some (place_in c.args.index entry.shared_type_indices)) c.args.entries.now c.args.added.now c.in-Some.entry.now c.in-Some.ensures

pub returns-in-None : goal.returns-in-None
returns-in-None c = c.find_index-in-None.ensures ∙ find_second (λ entry. is_some (place_in c.args.index entry.shared_type_indices)) c.args.entries.now c.args.added.now c.in-None.ensures
