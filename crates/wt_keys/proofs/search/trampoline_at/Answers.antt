-- what is told at the entry is the trampoline
use Rattle.std.proofs.Common.{sym, ap, ◌∙◌}
use Rattle.std.specs.Option.{option_and_then}
use Rattle.wt_keys.proofs.TrampolineIndices.{first_of, index-own, index-told}
use Rattle.wt_keys.proofs.search.trampoline_at.Goals as goal

pub returns-then-is_own_at : goal.returns-then-is_own_at
returns-then-is_own_at c =
    index-own c.args.entries.now c.requires.keys.0 c.args.entry.now c.args.place c.args.index
    (record { keys = c.requires.keys.1; among = c.requires.among; located = c.requires.located })
    (sym c.is_own_at.ensures ∙ c.if-is_own_at.true)

pub returns-in-Some : goal.returns-in-Some
returns-in-Some c =
    c.first_index.ensures
    ∙ ap (option_and_then (first_of c.args.entries.now)) (sym c.in-Some.is ∙ c.told_at.ensures)
    ∙ index-told c.args.entries.now c.requires.keys.0 c.args.entry.now c.args.place c.args.index
    (record { keys = c.requires.keys.1; among = c.requires.among; located = c.requires.located })
    (sym c.is_own_at.ensures ∙ c.if-is_own_at.false)

pub returns-in-None : goal.returns-in-None
returns-in-None c =
    ap (option_and_then (first_of c.args.entries.now)) (sym c.in-None.is ∙ c.told_at.ensures)
    ∙ index-told c.args.entries.now c.requires.keys.0 c.args.entry.now c.args.place c.args.index
    (record { keys = c.requires.keys.1; among = c.requires.among; located = c.requires.located })
    (sym c.is_own_at.ensures ∙ c.if-is_own_at.false)
