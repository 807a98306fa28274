-- The command that an element stands for goes to the end of those before it.
use Rattle.std.proofs.Common.{◌≡◌, ℕ, suc, ◌+◌, ◌<◌, List, [], ◌∷◌, ◌++◌, length, drop, get_or, Some, Result, Ok, Err, refl, sym, ◌∙◌, ap, arith}
use Rattle.std.specs.Result.{result_map_both}
use Rattle.std.proofs.lemmas.List.{append_assoc, drop_more}
use Rattle.serde_json.specs.View.{view, items_view}
use Rattle.serde_json.specs.declared.value.Value.{Value}
use Rattle.wt_commands.specs.declared.command.Command.{Command}
use Rattle.wt_commands.specs.Decode.{decode_command, put_first, decode_commands}

abbrev Commands : Type 0
Commands = Result (List Command) ℕ

abbrev behind : List Command → Commands → Commands
behind front = result_map_both (λ rest. front ++ rest) (λ place. place)

joined : (front : List Command) (command : Command) (place : ℕ) (rest : Commands) → behind front (put_first place (Some command) rest) ≡ behind (front ++ command ∷ []) rest
joined front command place (Ok rest) = ap Ok (sym (append_assoc front (command ∷ []) rest))
joined front command place (Err later) = refl

pub commands_kept : (all : Commands) (first : ℕ) (front : List Command) (command : Command) (values : List Value) (index : ℕ) (value : Value) → index < length values → value ≡ get_or values index value → decode_command (view value) ≡ Some command
    → all ≡ behind front (decode_commands (first + index) (items_view (drop index values))) → all ≡ behind (front ++ command ∷ []) (decode_commands (first + (index + 1)) (items_view (drop (index + 1) values)))
commands_kept all first front command values index value within at is before =
    before ∙ ap (λ (left : List Value). behind front (decode_commands (first + index) (items_view left))) (drop_more values index value within ∙ ap (λ (next : Value). next ∷ later) (sym at))
    ∙ ap (λ o. behind front (put_first (first + index) o (decode_commands (suc (first + index)) (items_view later)))) is ∙ joined front command (first + index) (decode_commands (suc (first + index)) (items_view later))
    ∙ ap (λ place. behind (front ++ command ∷ []) (decode_commands place (items_view later))) further
  where
    later : List Value
    later = drop (index + 1) values

    further : suc (first + index) ≡ first + (index + 1)
    further = omega arith
