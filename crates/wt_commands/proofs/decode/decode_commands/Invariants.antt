use Rattle.std.proofs.Common.{◌≡◌, ◌+◌, ◌++◌, drop}
use Rattle.std.specs.Result.{result_map_both}
use Rattle.serde_json.specs.View.{items_view}
use Rattle.wt_commands.specs.Decode.{decode_commands}
use Rattle.wt_commands.proofs.decode.decode_commands.Given as goal

-- the commands of the elements so far stand before those of the others
abbrev pub invariant-loop-index : goal.invariant-loop-index
invariant-loop-index l = decode_commands l.fn.first (items_view l.list) ≡ result_map_both (λ rest. l.commands.items ++ rest) (λ place. place) (decode_commands (l.fn.first + l.index) (items_view (drop l.index l.list)))
