-- all commands are fit where each in turn is
use Rattle.std.proofs.Common.{◌≡◌, ℕ, ◌+◌, ◌<◌, inl, inr, List, [], ◌∷◌, ◌++◌, length, take, get_or, sym, ap, ◌∙◌, subst, refl, arith}
use Rattle.std.proofs.lemmas.Bool.{false≢true}
use Rattle.std.proofs.lemmas.List.{take_all, take_more}
use Rattle.wt_commands.specs.declared.command.Command.{Command}
use Rattle.wt_commands.specs.Commands.{IsCommand, AreCommands}
use Rattle.wt_env.proofs.lists.Members.{among_either}
use Rattle.wt_commands.proofs.Members.{among_one, among_read}
use Rattle.wt_commands.proofs.command.are_commands.Goals as goal

one_more : (commands : List Command) (n : ℕ) (command : Command) → n < length commands → command ≡ get_or commands n command
    → AreCommands (take n commands) → IsCommand command → AreCommands (take (n + 1) commands)
one_more commands n command below is before this = subst AreCommands (sym more) both
  where
    more : take (n + 1) commands ≡ take n commands ++ command ∷ []
    more = take_more commands n command below ∙ ap (λ last. take n commands ++ last ∷ []) (sym is)

    both : AreCommands (take n commands ++ command ∷ [])
    both other among = elim (among_either (take n commands) (command ∷ []) other among) [
      | inl earlier ↦ before other earlier
      | inr last ↦ subst IsCommand (sym (among_one other command last)) this
    ]

pub loop-command-init : goal.loop-command-init
loop-command-init c = record { fit = λ command among. absurd among }

pub returns-then-not-is_command : goal.returns-then-not-is_command
returns-then-not-is_command c = (
  (λ no. absurd (false≢true no)),
  λ all. c.if-not-is_command.ensures.1 (all c.command-item.result (among_read c.args.commands.now c.loop-command.command-index c.command-item.result c.loop-command-test.true c.command-item.is)),
)

pub loop-command-preserved : goal.loop-command-preserved
loop-command-preserved c = record {
  fit = one_more c.args.commands.now c.loop-command.command-index c.command-item.result c.loop-command-test.true c.command-item.is c.loop-command.invariant.fit (c.if-not-is_command.ensures.0 refl);
}

pub returns : goal.returns
returns c =
    let whole = take_all c.loop-command.command-index c.args.commands.now (omega (arith, c.loop-command-test.false)) in
    (λ yes. subst AreCommands whole c.loop-command.invariant.fit, λ all. refl)
