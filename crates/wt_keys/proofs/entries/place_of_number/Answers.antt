-- the search by number finds the entry that has it
use Rattle.std.proofs.Common.{rules, Ok, Err}
use Rattle.std.proofs.lemmas.List.Sorted.{answers_always}
use Rattle.wt_keys.specs.declared.entry.RecGroupEntry.{RecGroupEntry}
use Rattle.wt_keys.proofs.Searching.{searched}
use Rattle.wt_keys.proofs.entries.place_of_number.Goals as goal

pub returns-in-Ok-clause-found : goal.returns-in-Ok-clause-found
returns-in-Ok-clause-found c =
    searched c.args.entries.now c.args.number c.requires (Ok c.in-Ok.place) c.in-Ok.ensures.bound
    (c.in-Ok.ensures.position (λ (e : RecGroupEntry). e.number) (answers_always _ _ _ (λ f a r g called. search rules)))

pub returns-in-Err-clause-found : goal.returns-in-Err-clause-found
returns-in-Err-clause-found c =
    searched c.args.entries.now c.args.number c.requires (Err c.in-Err.field-0) c.in-Err.ensures.bound
    (c.in-Err.ensures.position (λ (e : RecGroupEntry). e.number) (answers_always _ _ _ (λ f a r g called. search rules)))
