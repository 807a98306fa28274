-- the count so far is that of the entries before
use Rattle.std.proofs.Common.{◌≡◌, take}
use Rattle.wt_keys.specs.Entries.{made_by}
use Rattle.wt_model.specs.Limits.{references_of}
use Rattle.wt_registry.proofs.wanted.references_of.Given as goal

abbrev pub invariant-loop-entry : goal.invariant-loop-entry
invariant-loop-entry l = l.count ≡ references_of (made_by (take l.entry-index l.entries))
