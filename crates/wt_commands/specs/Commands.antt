-- Commands: whose one is, and what a caller sees to.
use Rattle.std.specs.Prelude.{ℕ, List}
use Rattle.wt_env.specs.Among.{Among}
use Rattle.wt_rules.specs.Rules.{AreCountable, AreModuleTypes}
use Rattle.wt_commands.specs.declared.command.Command.{Command}
use Rattle.wt_commands.specs.declared.command.Command.TheVariants as command

-- the party whose command it is
abbrev pub party_of : Command → ℕ
party_of (command.HostType by sub) = by
party_of (command.Module by types) = by
party_of (command.Clone by place) = by
party_of (command.Root by index) = by
party_of (command.Drop by place) = by
party_of (command.Sweep by place) = by
party_of (command.Release by place) = by
party_of (command.Trampoline by ty) = by
party_of (command.Subtype by sub sup) = by
party_of (command.Matches by a b) = by
party_of (command.Show by ty) = by
party_of (command.Live by) = by

-- what a caller sees to: a module's lists are short, and its references are by module index
abbrev pub IsCommand : Command → Type 0
IsCommand (command.Module by types) = AreCountable types.groups × AreModuleTypes types.groups
IsCommand other = Unit {0}

abbrev pub AreCommands : List Command → Type 0
AreCommands commands = (command : Command) → Among command commands → IsCommand command
