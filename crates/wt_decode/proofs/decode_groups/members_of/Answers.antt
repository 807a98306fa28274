use Rattle.std.proofs.Common.{rules, ◌≡◌, Some}
use Rattle.serde_json.specs.View.{view}
use Rattle.wt_decode.specs.DecodeGroups.{decode_member}
use Rattle.wt_decode.proofs.Items.{each_of-kept}
use Rattle.wt_decode.proofs.decode_groups.members_of.Goals as goal

pub loop-value-preserved : goal.loop-value-preserved
loop-value-preserved c =
    let is : decode_member (view c.value-item.result) ≡ Some c.in-Some.member = search rules in
    rw (c.in_ok-push-in-Some.ensures.ok) (each_of-kept decode_member _ c.loop-value.members c.in-Some.member c.args.list.now c.loop-value.value-index c.value-item.result c.loop-value-test.true c.value-item.is is c.loop-value.invariant)
