-- the commands so far are fit
use Rattle.std.proofs.Common.{take}
use Rattle.wt_commands.specs.Commands.{AreCommands}
use Rattle.wt_commands.proofs.command.are_commands.Given as goal

abbrev pub invariant-loop-command : goal.invariant-loop-command
invariant-loop-command l = record { fit : AreCommands (take l.command-index l.commands) }
