-- The text of why no commands were decoded. Numbers are decimal.
use Rattle.std.specs.Prelude.{ℕ, List, ◌++◌, ◌==◌, codes, if◌then◌else◌}
use Rattle.std.specs.Fmt.{decimal}
use Rattle.wt_commands.specs.declared.decode.DecodeError.{DecodeError}
use Rattle.wt_commands.specs.declared.decode.DecodeError.TheVariants as error

-- the element at a place is no command, or with 0 the value is no list
abbrev pub bad_command_text : ℕ → List ℕ
bad_command_text place =
    if place == 0 then codes "not a list of commands"
    else (codes "element " ++ decimal place ++ codes " is not a command")

abbrev pub decode_error_text : DecodeError → List ℕ
decode_error_text (error.BadCommand place) = bad_command_text place
decode_error_text error.OutOfMemory = codes "out of memory"
