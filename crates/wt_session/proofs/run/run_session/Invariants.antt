-- the commands so far are done and replied to, and there is room for the replies to the rest
use Rattle.std.proofs.Common.{◌≡◌, ◌+◌, ◌-◌, ◌≤◌, ◌++◌, length, take, vec_len, vec_capacity}
use Rattle.wt_registry.specs.Sound.{OneIndexPerTree}
use Rattle.wt_session.specs.World.{HasExactlyReached, HoldsNamedTypes}
use Rattle.wt_session.specs.Run.{replies_of, world_after}
use Rattle.wt_session.specs.Answered.{AreAnswered}
use Rattle.wt_session.proofs.run.run_session.Given as goal

abbrev pub invariant-loop-command : goal.invariant-loop-command
invariant-loop-command l = record {
  replies : l.replies.items ≡ l.fn.replies.items ++ replies_of l.fn.session (take l.command-index l.commands);
  world : l.session ≡ world_after l.fn.session (take l.command-index l.commands);
  count : length l.replies.items ≡ length l.fn.replies.items + l.command-index;
  answered : AreAnswered l.fn.session l.commands (length l.fn.replies.items) l.replies.items;
  one_index : OneIndexPerTree l.session.registry.made;
  reached : HasExactlyReached l.session;
  named_types : HoldsNamedTypes l.session;
  room : vec_len l.replies + (length l.commands - l.command-index) ≤ vec_capacity l.replies;
}
