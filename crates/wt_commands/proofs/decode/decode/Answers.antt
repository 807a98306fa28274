use Rattle.std.proofs.Common.{rules, ◌≡◌, IfOk, Ok}
use Rattle.serde_json.specs.View.{view}
use Rattle.wt_commands.specs.Decode.{decode}
use Rattle.wt_commands.proofs.DecodedCommands.{commands_of_text}
use Rattle.wt_commands.proofs.decode.decode.Goals as goal

pub returns-in-Some-clause-commands : goal.returns-in-Some-clause-commands
returns-in-Some-clause-commands c =
    let is : IfOk c.decode_list.result (λ input. decode (view c.args.value.now) ≡ Ok (input.engine, input.commands.items)) = search rules in
    commands_of_text c.decode_list.result (view c.args.value.now) is
