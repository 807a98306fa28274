-- one more group's types
use Rattle.std.proofs.Common.{◌≡◌, ℕ, suc, ◌+◌, ap, arith, take}
use Rattle.wt_registry.specs.Rules.{total_members}
use Rattle.wt_session.proofs.Counted.{total-turn, total-within}
use Rattle.wt_session.proofs.module_handles.type_count.Goals as goal

next : (n : ℕ) → n + 1 ≡ suc n
next n = omega arith

pub overflow_add-count : goal.overflow_add-count
overflow_add-count c =
    let turn = total-turn c.args.groups.now c.loop-group.group-index c.group-item.result c.loop-group-test.true c.group-item.is in
    let within = total-within c.args.groups.now (suc c.loop-group.group-index) in
    omega (arith, turn, within, c.requires, c.loop-group.invariant, c.len-count.ensures)

pub loop-group-preserved : goal.loop-group-preserved
loop-group-preserved c =
    let groups = c.args.groups.now in
    let n = c.loop-group.group-index in
    let turn = total-turn groups n c.group-item.result c.loop-group-test.true c.group-item.is in
    let more = ap (λ (m : ℕ). total_members (take m groups)) (next n) in
    omega (arith, turn, more, c.loop-group.invariant, c.len-count.ensures)
