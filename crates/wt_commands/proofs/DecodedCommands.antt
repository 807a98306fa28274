-- What is decoded from a short text are commands that a session can run.
use Rattle.std.proofs.Common.{◌≡◌, ℕ, suc, ◌+◌, ◌==◌, ◌<◌, ◌≤◌, ◌^◌, inl, inr, List, length, Option, Some, None, option_map, option_and_then, Result, Ok, Err, sym, subst, arith}
use Rattle.std.specs.Prelude.{⊤, IfSome, IfOk, bytes_eq, codes}
use Rattle.std.specs.Option.{option_map_or}
use Rattle.serde_json.specs.Data.{Data, Items, no_items, item}
use Rattle.serde_json.specs.Find.{get, as_str, as_array}
use Rattle.serde_json.specs.Read.{read}
use Rattle.wt_decode.specs.DecodeGroups.{decode_groups}
use Rattle.wt_env.specs.Limits.{EngineParts}
use Rattle.wt_env.specs.declared.types.ModuleTypes.{ModuleTypes}
use Rattle.wt_rules.specs.Rules.{total_members, AreCountable, AreModuleTypes}
use Rattle.wt_commands.specs.declared.command.Command.{Command}
use Rattle.wt_commands.specs.declared.command.Command.TheVariants as command
use Rattle.wt_commands.specs.Commands.{IsCommand, AreCommands}
use Rattle.wt_commands.specs.declared.decode.DecodeError.{DecodeError}
use Rattle.wt_commands.specs.declared.decode.Input.{Input}
use Rattle.wt_commands.specs.DecodeEngine.{usual_engine, decode_engine}
use Rattle.wt_commands.specs.Decode.{own_key_count, decode_by, by_and_number, decode_live, type_from, decode_type, module_from, decode_module, decode_clone, decode_root, decode_drop, decode_sweep, decode_release, trampoline_from, decode_trampoline, named_type_at, subtype_from, decode_subtype, val_at, matches_from, decode_matches, show_from, decode_show, command_called, decode_command, put_first, decode_commands, with_engine, decode_list, decode}
use Rattle.wt_commands.specs.DecodeHost.{decode_sub}
use Rattle.wt_commands.specs.ItemCount.{item_count, items_count}
use Rattle.wt_commands.proofs.Decoding.{any_value, mapped, chained, either}
use Rattle.wt_commands.proofs.DecodedItems.{list_items, value_items, decoded_items}
use Rattle.wt_commands.proofs.ItemCount.{item_count_read}
use Rattle.wt_commands.proofs.DecodedModules.{decoded_module}

-- ---- one command

-- decoded groups, where the value has few items
countable : (o : Option ModuleTypes) (n : ℕ) → n < 2 ^ 32 → IfSome o (λ types. length types.groups + total_members types.groups ≤ n) → IfSome o (λ types. AreModuleTypes types.groups)
    → IfSome o (λ types. AreCountable types.groups × AreModuleTypes types.groups)
countable None n short few own = tt
countable (Some types) n short few own = (record { few_groups = omega (arith, few, short); few_members = omega (arith, few, short) }, own)

groups_fit : (d : Data) → item_count d < 2 ^ 32 → IfSome (decode_groups d) (λ types. AreCountable types.groups × AreModuleTypes types.groups)
groups_fit d short = countable (decode_groups d) (item_count d) short (decoded_items d) (decoded_module d)

-- a command that has no module
plain : {A : Type 0} (f : A → Command) → ((a : A) → IsCommand (f a)) → (o : Option A) → IfSome (option_map f o) IsCommand
plain f is None = tt
plain f is (Some a) = is a

live_fits : (d : Data) → IfSome (decode_live d) IsCommand
live_fits d = either IsCommand (own_key_count d == 1) _ None (plain command.Live (λ by. tt) (decode_by d)) tt

type_fits : (d : Data) → IfSome (decode_type d) IsCommand
type_fits d =
    either IsCommand (own_key_count d == 2) _ None
    (chained (λ by. ⊤) IsCommand (λ by. type_from by d) (λ by any. plain (command.HostType by) (λ sub. tt) (option_and_then decode_sub (get (codes "sub") d))) (decode_by d) (any_value (decode_by d))) tt

module_from_fits : (by : ℕ) (d : Data) → item_count d < 2 ^ 32 → IfSome (module_from by d) IsCommand
module_from_fits by d short =
    mapped (λ types. AreCountable types.groups × AreModuleTypes types.groups) IsCommand (command.Module by) (λ types fit. fit) (option_and_then decode_groups (get (codes "groups") d))
    (chained (λ found. item_count found ≤ item_count d) (λ types. AreCountable types.groups × AreModuleTypes types.groups) decode_groups (λ found few. groups_fit found (omega (arith, few, short))) (get (codes "groups") d)
    (value_items (codes "groups") d))

module_fits : (d : Data) → item_count d < 2 ^ 32 → IfSome (decode_module d) IsCommand
module_fits d short =
    either IsCommand (own_key_count d == 2) _ None (chained (λ by. ⊤) IsCommand (λ by. module_from by d) (λ by any. module_from_fits by d short) (decode_by d) (any_value (decode_by d))) tt

trampoline_fits : (d : Data) → IfSome (decode_trampoline d) IsCommand
trampoline_fits d =
    either IsCommand (own_key_count d == 2) _ None
    (chained (λ by. ⊤) IsCommand (λ by. trampoline_from by d) (λ by any. plain (command.Trampoline by) (λ ty. tt) (named_type_at (codes "type") d)) (decode_by d) (any_value (decode_by d))) tt

show_fits : (d : Data) → IfSome (decode_show d) IsCommand
show_fits d =
    either IsCommand (own_key_count d == 2) _ None
    (chained (λ by. ⊤) IsCommand (λ by. show_from by d) (λ by any. plain (command.Show by) (λ ty. tt) (named_type_at (codes "type") d)) (decode_by d) (any_value (decode_by d))) tt

subtype_from_fits : (by : ℕ) (d : Data) → IfSome (subtype_from by d) IsCommand
subtype_from_fits by d =
    chained (λ sub. ⊤) IsCommand (λ sub. option_map (command.Subtype by sub) (named_type_at (codes "sup") d)) (λ sub any. plain (command.Subtype by sub) (λ sup. tt) (named_type_at (codes "sup") d)) (named_type_at (codes "sub") d)
    (any_value (named_type_at (codes "sub") d))

subtype_fits : (d : Data) → IfSome (decode_subtype d) IsCommand
subtype_fits d = either IsCommand (own_key_count d == 3) _ None (chained (λ by. ⊤) IsCommand (λ by. subtype_from by d) (λ by any. subtype_from_fits by d) (decode_by d) (any_value (decode_by d))) tt

matches_from_fits : (by : ℕ) (d : Data) → IfSome (matches_from by d) IsCommand
matches_from_fits by d =
    chained (λ a. ⊤) IsCommand (λ a. option_map (command.Matches by a) (val_at (codes "b") d)) (λ a any. plain (command.Matches by a) (λ b. tt) (val_at (codes "b") d)) (val_at (codes "a") d) (any_value (val_at (codes "a") d))

matches_fits : (d : Data) → IfSome (decode_matches d) IsCommand
matches_fits d = either IsCommand (own_key_count d == 3) _ None (chained (λ by. ⊤) IsCommand (λ by. matches_from by d) (λ by any. matches_from_fits by d) (decode_by d) (any_value (decode_by d))) tt

called_fits : (word : List ℕ) (d : Data) → item_count d < 2 ^ 32 → IfSome (command_called word d) IsCommand
called_fits word d short =
    either IsCommand (bytes_eq word (codes "live")) (decode_live d) _ (live_fits d) (
    either IsCommand (bytes_eq word (codes "type")) (decode_type d) _ (type_fits d) (
    either IsCommand (bytes_eq word (codes "module")) (decode_module d) _ (module_fits d short) (
    either IsCommand (bytes_eq word (codes "clone")) (decode_clone d) _ (plain (λ numbers. command.Clone numbers.0 numbers.1) (λ numbers. tt) (by_and_number (codes "handle") d)) (
    either IsCommand (bytes_eq word (codes "root")) (decode_root d) _ (plain (λ numbers. command.Root numbers.0 numbers.1) (λ numbers. tt) (by_and_number (codes "index") d)) (
    either IsCommand (bytes_eq word (codes "drop")) (decode_drop d) _ (plain (λ numbers. command.Drop numbers.0 numbers.1) (λ numbers. tt) (by_and_number (codes "handle") d)) (
    either IsCommand (bytes_eq word (codes "sweep")) (decode_sweep d) _ (plain (λ numbers. command.Sweep numbers.0 numbers.1) (λ numbers. tt) (by_and_number (codes "handle") d)) (
    either IsCommand (bytes_eq word (codes "release")) (decode_release d) _ (plain (λ numbers. command.Release numbers.0 numbers.1) (λ numbers. tt) (by_and_number (codes "handle") d)) (
    either IsCommand (bytes_eq word (codes "trampoline")) (decode_trampoline d) _ (trampoline_fits d) (
    either IsCommand (bytes_eq word (codes "subtype")) (decode_subtype d) _ (subtype_fits d) (
    either IsCommand (bytes_eq word (codes "matches")) (decode_matches d) _ (matches_fits d) (
    either IsCommand (bytes_eq word (codes "show")) (decode_show d) None (show_fits d) tt)))))))))))

command_fits : (d : Data) → item_count d < 2 ^ 32 → IfSome (decode_command d) IsCommand
command_fits d short =
    let word = option_and_then as_str (get (codes "do") d) in
    chained (λ word. ⊤) IsCommand (λ word. command_called word d) (λ word any. called_fits word d short) word (any_value word)

-- ---- a list of them

first_fits : (place : ℕ) (o : Option Command) (rest : Result (List Command) ℕ) → IfSome o IsCommand → IfOk rest AreCommands → IfOk (put_first place o rest) AreCommands
first_fits place None rest this later = tt
first_fits place (Some first) (Ok others) this later = λ other among. elim among [ inl same ↦ subst IsCommand (sym same) this | inr after ↦ later other after ]
first_fits place (Some first) (Err bad) this later = tt

commands_fit : (place : ℕ) (ds : Items) → items_count ds < 2 ^ 32 → IfOk (decode_commands place ds) AreCommands
commands_fit place no_items short = λ other among. absurd among
commands_fit place (item d ds) short =
    first_fits place (decode_command d) (decode_commands (suc place) ds) (command_fits d (omega arith)) (commands_fit (suc place) ds (omega arith))

-- ---- with an engine

engine_fits : (engine : EngineParts) (outcome : Result (List Command) ℕ) → IfOk outcome AreCommands → IfOk (with_engine engine outcome) (λ input. AreCommands input.1)
engine_fits engine (Ok commands) fit = fit
engine_fits engine (Err place) fit = tt

list_fits : (ds : Items) → items_count ds < 2 ^ 32 → IfOk (decode_list ds) (λ input. AreCommands input.1)
list_fits no_items short = λ other among. absurd among
list_fits (item d ds) short = by (decode_engine d)
  where
    by : (first : Option EngineParts) → IfOk (option_map_or (λ engine. with_engine engine (decode_commands 2 ds)) first (with_engine usual_engine (decode_commands 1 (item d ds)))) (λ input. AreCommands input.1)
    by None = engine_fits usual_engine (decode_commands 1 (item d ds)) (commands_fit 1 (item d ds) short)
    by (Some engine) = engine_fits engine (decode_commands 2 ds) (commands_fit 2 ds (omega (arith, short)))

all_fit : (o : Option Items) (n : ℕ) → n < 2 ^ 32 → IfSome o (λ ds. items_count ds ≤ n) → IfOk (option_map_or decode_list o (Err 0)) (λ input. AreCommands input.1)
all_fit None n short few = tt
all_fit (Some ds) n short few = list_fits ds (omega (arith, few, short))

pub decoded_commands : (bytes : List ℕ) (d : Data) (engine : EngineParts) (commands : List Command) → read bytes ≡ Some d → length bytes < 2 ^ 32 → decode d ≡ Ok (engine, commands) → AreCommands commands
decoded_commands bytes d engine commands is_read short is =
    subst (λ (outcome : Result (EngineParts × List Command) ℕ). IfOk outcome (λ input. AreCommands input.1)) is (all_fit (as_array d) (item_count d) (omega (arith, item_count_read bytes d is_read, short)) (list_items d))

-- the same of what the decoder answers
pub commands_of_text : (result : Result Input DecodeError) (d : Data) → IfOk result (λ input. decode d ≡ Ok (input.engine, input.commands.items))
    → IfOk result (λ input. (bytes : List ℕ) → read bytes ≡ Some d → length bytes < 2 ^ 32 → AreCommands input.commands.items)
commands_of_text (Ok input) d is = λ bytes is_read short. decoded_commands bytes d input.engine input.commands.items is_read short is
commands_of_text (Err error) d is = tt
