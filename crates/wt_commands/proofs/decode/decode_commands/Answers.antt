use Rattle.std.proofs.Common.{rules, ◌≡◌, Some}
use Rattle.serde_json.specs.View.{view}
use Rattle.wt_commands.specs.Decode.{decode_command}
use Rattle.wt_commands.proofs.KeptCommands.{commands_kept}
use Rattle.wt_commands.proofs.decode.decode_commands.Goals as goal

pub loop-index-preserved : goal.loop-index-preserved
loop-index-preserved c =
    let is : decode_command (view c.index-list-index.result) ≡ Some c.in-Some.command = search rules in
    rw (c.in_ok-push-in-Some.ensures.items) (commands_kept _ c.args.first c.loop-index.commands.items c.in-Some.command c.args.list.now c.loop-index.index c.index-list-index.result c.loop-index-test.true c.index-list-index.is is c.loop-index.invariant)
