-- the count so far is that of the entries before
use Rattle.std.proofs.Common.{◌≡◌, length, take}
use Rattle.wt_model.specs.Indices.{used}
use Rattle.wt_keys.specs.Entries.{made_by}
use Rattle.wt_registry.proofs.wanted.types_of.Given as goal

abbrev pub invariant-loop-entry : goal.invariant-loop-entry
invariant-loop-entry l = l.count ≡ length (used (made_by (take l.entry-index l.entries)))
