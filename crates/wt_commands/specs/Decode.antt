-- Which engine and commands a JSON value stands for (JSON as of RFC 8259). A command is an object with
-- exactly the keys that are named, and maybe `by`; any other value, key or form is no command.
use Rattle.std.specs.Prelude.{ℕ, suc, ◌-◌, ◌==◌, bytes_eq, codes, List, [], ◌∷◌, Option, Some, None, Result, Ok, Err, option_map, option_and_then, if◌then◌else◌}
use Rattle.std.specs.Option.{option_map_or}
use Rattle.serde_json.specs.Data.{Data, Items, no_items, item}
use Rattle.serde_json.specs.Find.{get, as_str, as_array}
use Rattle.wt_decode.specs.DecodeGroups.{decode_groups}
use Rattle.wt_env.specs.Limits.{EngineParts}
use Rattle.wt_decode.specs.Json.{key_count, decode_u32}
use Rattle.wt_commands.specs.DecodeEngine.{usual_engine, decode_engine}
use Rattle.wt_commands.specs.DecodeHost.{decode_u32_at, decode_named_type, decode_val, decode_sub}
use Rattle.wt_commands.specs.declared.command.NamedType.{NamedType}
use Rattle.wt_commands.specs.declared.host_type.HostVal.{HostVal}
use Rattle.wt_commands.specs.declared.command.Command.{Command}
use Rattle.wt_commands.specs.declared.command.Command.TheVariants.{HostType, Module, Clone, Root, Drop, Sweep, Release, Trampoline, Subtype, Matches, Show, Live}

-- the party whose command it is: the key `by`, and party 0 where there is none
abbrev pub by_from : Option Data → Option ℕ
by_from None = Some 0
by_from (Some d) = decode_u32 d

abbrev pub decode_by : Data → Option ℕ
decode_by d = by_from (get (codes "by") d)

-- how many keys there are besides `by`
abbrev pub count_without : Option Data → ℕ → ℕ
count_without None count = count
count_without (Some by) count = count - 1

abbrev pub own_key_count : Data → ℕ
own_key_count d = count_without (get (codes "by") d) (key_count d)

-- {"do": "live"}
abbrev pub decode_live : Data → Option Command
decode_live d = if own_key_count d == 1 then option_map Live (decode_by d) else None

-- {"do": "type", "sub": a type}
abbrev pub type_from : ℕ → Data → Option Command
type_from by d = option_map (HostType by) (option_and_then decode_sub (get (codes "sub") d))

abbrev pub decode_type : Data → Option Command
decode_type d = if own_key_count d == 2 then option_and_then (λ by. type_from by d) (decode_by d) else None

-- {"do": "module", "groups": the recursion groups}
abbrev pub module_from : ℕ → Data → Option Command
module_from by d = option_map (Module by) (option_and_then decode_groups (get (codes "groups") d))

abbrev pub decode_module : Data → Option Command
decode_module d = if own_key_count d == 2 then option_and_then (λ by. module_from by d) (decode_by d) else None

-- the party and the number under this key, of an object with no other key but `do` and maybe `by`
abbrev pub by_and_number : List ℕ → Data → Option (ℕ × ℕ)
by_and_number key d =
    if own_key_count d == 2
    then option_and_then (λ by. option_map (λ number. (by, number)) (decode_u32_at key d)) (decode_by d)
    else None

-- {"do": "clone", "handle": a number}
abbrev pub decode_clone : Data → Option Command
decode_clone d = option_map (λ numbers. Clone numbers.0 numbers.1) (by_and_number (codes "handle") d)

-- {"do": "root", "index": a number}
abbrev pub decode_root : Data → Option Command
decode_root d = option_map (λ numbers. Root numbers.0 numbers.1) (by_and_number (codes "index") d)

-- {"do": "drop", "handle": a number}
abbrev pub decode_drop : Data → Option Command
decode_drop d = option_map (λ numbers. Drop numbers.0 numbers.1) (by_and_number (codes "handle") d)

-- {"do": "sweep", "handle": a number}
abbrev pub decode_sweep : Data → Option Command
decode_sweep d = option_map (λ numbers. Sweep numbers.0 numbers.1) (by_and_number (codes "handle") d)

-- {"do": "release", "handle": a number}
abbrev pub decode_release : Data → Option Command
decode_release d = option_map (λ numbers. Release numbers.0 numbers.1) (by_and_number (codes "handle") d)

-- the type that is named under a key
abbrev pub named_type_at : List ℕ → Data → Option NamedType
named_type_at key d = option_and_then decode_named_type (get key d)

-- {"do": "trampoline", "type": a type that is named}
abbrev pub trampoline_from : ℕ → Data → Option Command
trampoline_from by d = option_map (Trampoline by) (named_type_at (codes "type") d)

abbrev pub decode_trampoline : Data → Option Command
decode_trampoline d = if own_key_count d == 2 then option_and_then (λ by. trampoline_from by d) (decode_by d) else None

-- {"do": "subtype", "sub": a type that is named, "sup": another}
abbrev pub subtype_from : ℕ → Data → Option Command
subtype_from by d = option_and_then (λ sub. option_map (Subtype by sub) (named_type_at (codes "sup") d)) (named_type_at (codes "sub") d)

abbrev pub decode_subtype : Data → Option Command
decode_subtype d = if own_key_count d == 3 then option_and_then (λ by. subtype_from by d) (decode_by d) else None

-- the value type under a key
abbrev pub val_at : List ℕ → Data → Option HostVal
val_at key d = option_and_then decode_val (get key d)

-- {"do": "matches", "a": a value type, "b": another}
abbrev pub matches_from : ℕ → Data → Option Command
matches_from by d = option_and_then (λ a. option_map (Matches by a) (val_at (codes "b") d)) (val_at (codes "a") d)

abbrev pub decode_matches : Data → Option Command
decode_matches d = if own_key_count d == 3 then option_and_then (λ by. matches_from by d) (decode_by d) else None

-- {"do": "show", "type": a type that is named}
abbrev pub show_from : ℕ → Data → Option Command
show_from by d = option_map (Show by) (named_type_at (codes "type") d)

abbrev pub decode_show : Data → Option Command
decode_show d = if own_key_count d == 2 then option_and_then (λ by. show_from by d) (decode_by d) else None

-- the command of an object whose key `do` has this word
abbrev pub command_called : List ℕ → Data → Option Command
command_called word d =
    if bytes_eq word (codes "live") then decode_live d else (
    if bytes_eq word (codes "type") then decode_type d else (
    if bytes_eq word (codes "module") then decode_module d else (
    if bytes_eq word (codes "clone") then decode_clone d else (
    if bytes_eq word (codes "root") then decode_root d else (
    if bytes_eq word (codes "drop") then decode_drop d else (
    if bytes_eq word (codes "sweep") then decode_sweep d else (
    if bytes_eq word (codes "release") then decode_release d else (
    if bytes_eq word (codes "trampoline") then decode_trampoline d else (
    if bytes_eq word (codes "subtype") then decode_subtype d else (
    if bytes_eq word (codes "matches") then decode_matches d else (
    if bytes_eq word (codes "show") then decode_show d else None)))))))))))

-- a command: an object whose key `do` says which
abbrev pub decode_command : Data → Option Command
decode_command d = option_and_then (λ word. command_called word d) (option_and_then as_str (get (codes "do") d))

-- a command before others; the place is where it stands
abbrev pub put_first : ℕ → Option Command → Result (List Command) ℕ → Result (List Command) ℕ
put_first place None rest = Err place
put_first place (Some command) (Ok commands) = Ok (command ∷ commands)
put_first place (Some command) (Err later) = Err later

-- the commands that items stand for, the first at a place; or the place of the first that is none
abbrev pub decode_commands : ℕ → Items → Result (List Command) ℕ
decode_commands place no_items = Ok []
decode_commands place (item d ds) = put_first place (decode_command d) (decode_commands (suc place) ds)

-- commands for an engine
abbrev pub with_engine : EngineParts → Result (List Command) ℕ → Result (EngineParts × List Command) ℕ
with_engine engine (Ok commands) = Ok (engine, commands)
with_engine engine (Err place) = Err place

-- the engine that the first item is, and the commands that the others stand for; where the first is no engine, the
-- usual one, and the commands of all. The first item has place 1.
abbrev pub decode_list : Items → Result (EngineParts × List Command) ℕ
decode_list no_items = Ok (usual_engine, [])
decode_list (item d ds) = option_map_or (λ engine. with_engine engine (decode_commands 2 ds)) (decode_engine d) (with_engine usual_engine (decode_commands 1 (item d ds)))

-- the engine and the commands of a list; or the place of the first element that is no command, nor an
-- engine at place 1, and 0 where the value is no list
abbrev pub decode : Data → Result (EngineParts × List Command) ℕ
decode d = option_map_or decode_list (as_array d) (Err 0)
