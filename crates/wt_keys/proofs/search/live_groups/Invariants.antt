-- the groups so far
use Rattle.std.proofs.Common.{◌≡◌, take}
use Rattle.wt_keys.specs.Entries.{made_by}
use Rattle.wt_model.specs.Live.{live_of}
use Rattle.wt_keys.proofs.search.live_groups.Given as goal

abbrev pub invariant-loop-entry : goal.invariant-loop-entry
invariant-loop-entry l = l.groups ≡ live_of (made_by (take l.entry-index l.entries))
