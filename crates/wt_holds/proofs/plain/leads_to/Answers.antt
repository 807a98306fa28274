-- the references that leave, and what is told of trampolines, are the edges
use Rattle.std.proofs.Common.{◌==◌, ◌||◌, List, Option, ℕ, sym, ap, ◌∙◌}
use Rattle.std.specs.List.{list_any}
use Rattle.std.specs.Option.{option_to_list}
use Rattle.wt_holds.proofs.marks.Edges.{edge-to}
use Rattle.wt_holds.proofs.plain.leads_to.Goals as goal

pub returns-then-names_number : goal.returns-then-names_number
returns-then-names_number c =
    let entry = c.args.entry.now in
    let number = c.args.number in
    let named = ap (λ (references : List (ℕ × ℕ)). list_any (λ r. r.0 == number) references) (sym c.as_slice.ensures) ∙ sym c.names_number.ensures ∙ c.if-names_number.true in
    c.if-names_number.true
    ∙ sym (ap (λ b. b || list_any (λ t. list_any (λ n. n == number) (option_to_list t)) entry.trampolines) named)
    ∙ sym (edge-to entry number)

pub returns-else-names_number : goal.returns-else-names_number
returns-else-names_number c =
    let entry = c.args.entry.now in
    let number = c.args.number in
    let named = ap (λ (references : List (ℕ × ℕ)). list_any (λ r. r.0 == number) references) (sym c.as_slice.ensures) ∙ sym c.names_number.ensures ∙ c.if-names_number.false in
    c.tells_number.ensures
    ∙ ap (λ (told : List (Option ℕ)). list_any (λ t. list_any (λ n. n == number) (option_to_list t)) told) c.as_slice-else-names_number.ensures
    ∙ sym (ap (λ b. b || list_any (λ t. list_any (λ n. n == number) (option_to_list t)) entry.trampolines) named)
    ∙ sym (edge-to entry number)
