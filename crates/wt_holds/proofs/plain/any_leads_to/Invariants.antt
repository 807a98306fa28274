-- none so far is marked and refers to it
use Rattle.std.proofs.Common.{◌≡◌, drop}
use Rattle.wt_keys.specs.Entries.{made_by}
use Rattle.wt_holds.specs.Marks.{marked_leads}
use Rattle.wt_holds.proofs.plain.any_leads_to.Given as goal

abbrev pub invariant-loop-place : goal.invariant-loop-place
invariant-loop-place l = marked_leads (made_by (drop l.place l.entries)) (drop l.place l.marks) l.number ≡ marked_leads (made_by l.entries) l.marks l.number
