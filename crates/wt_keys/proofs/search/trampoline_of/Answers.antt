-- an index that is located is so in the entry that is found for it
use Rattle.std.proofs.Common.{◌≡◌, None, is_some, sym, ap, ◌∙◌}
use Rattle.std.proofs.lemmas.Bool.{false≢true}
use Rattle.wt_env.proofs.lists.Members.{find-found}
use Rattle.wt_model.specs.Indices.{place_in}
use Rattle.wt_keys.specs.declared.entry.RecGroupEntry.{RecGroupEntry}
use Rattle.wt_keys.proofs.LocatedEntries.{located-at, unlocated-trampoline}
use Rattle.wt_keys.proofs.search.trampoline_of.Goals as goal

pub trampoline_at-requires-clause-among : goal.trampoline_at-requires-clause-among
trampoline_at-requires-clause-among c = (find-found (λ (entry : RecGroupEntry). is_some (place_in c.args.index entry.shared_type_indices)) c.args.entries.now c.in-Some.entry.now (sym c.in-Some.ensures)).1

pub trampoline_at-requires-clause-located : goal.trampoline_at-requires-clause-located
trampoline_at-requires-clause-located c =
    located-at c.args.entries.now c.args.index c.in-Some.entry.now c.in-Some-place_of.place (sym c.in-Some.ensures)
    (ap (place_in c.args.index) (sym c.as_slice.ensures) ∙ sym c.place_of.ensures ∙ c.in-Some-place_of.is)

pub returns-in_default : goal.returns-in_default
returns-in_default c = unlocated-trampoline c.args.entries.now c.args.index (sym c.in_default.ensures)

pub returns-in-None : goal.returns-in-None
returns-in-None c =
    let has = (find-found (λ (entry : RecGroupEntry). is_some (place_in c.args.index entry.shared_type_indices)) c.args.entries.now c.in-Some.entry.now (sym c.in-Some.ensures)).0 in
    let none : place_in c.args.index c.in-Some.entry.now.shared_type_indices ≡ None = ap (place_in c.args.index) (sym c.as_slice.ensures) ∙ sym c.place_of.ensures ∙ c.in-None.is in
    absurd (false≢true (sym (ap is_some none) ∙ has))
