use Rattle.std.proofs.Common.{◌≡◌, ◌++◌, option_map, drop}
use Rattle.serde_json.specs.View.{items_view}
use Rattle.wt_decode.specs.Json.{each_of}
use Rattle.wt_commands.specs.DecodeHost.{decode_val}
use Rattle.wt_commands.proofs.decode_host.vals_of.Given as goal

-- what the elements so far gave stands before what the others give
abbrev pub invariant-loop-value : goal.invariant-loop-value
invariant-loop-value l = each_of decode_val (items_view l.list) ≡ option_map (λ rest. l.vals ++ rest) (each_of decode_val (items_view (drop l.value-index l.list)))
