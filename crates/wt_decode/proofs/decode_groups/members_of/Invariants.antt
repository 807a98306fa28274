use Rattle.std.proofs.Common.{◌≡◌, ◌++◌, option_map, drop}
use Rattle.serde_json.specs.View.{items_view}
use Rattle.wt_decode.specs.Json.{each_of}
use Rattle.wt_decode.specs.DecodeGroups.{decode_member}
use Rattle.wt_decode.proofs.decode_groups.members_of.Given as goal

-- what the elements so far gave stands before what the others give
abbrev pub invariant-loop-value : goal.invariant-loop-value
invariant-loop-value l = each_of decode_member (items_view l.list) ≡ option_map (λ rest. l.members ++ rest) (each_of decode_member (items_view (drop l.value-index l.list)))
