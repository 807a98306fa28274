-- one reference less, and what falls is pushed
use Rattle.std.proofs.Common.{ℕ, ◌≤◌, ◌++◌, List, length, vec_capacity, sym, ap, subst, ◌∙◌}
use Rattle.wt_holds.specs.declared.hold_counts.HoldCounts.{HoldCounts}
use Rattle.wt_holds.specs.References.{pushed_if}
use Rattle.wt_holds.specs.Kept.{Falling}
use Rattle.wt_holds.proofs.counts.Falls.{is_free, falls-lowered, lowered-room}
use Rattle.wt_holds.proofs.removal.lower.Goals as goal

pub push_if_loose-requires-clause-room : goal.push_if_loose-requires-clause-room
push_if_loose-requires-clause-room c =
    subst (λ (read : List HoldCounts). length (c.args.stack.now.items ++ pushed_if (is_free read c.args.number) c.args.number) ≤ vec_capacity c.args.stack.now) (sym c.as_slice.ensures.value)
    (lowered-room c.requires.0 c.args.counts.now.items c.lower_reference.new.counts.items c.args.stack.now.items (vec_capacity c.args.stack.now) c.args.number c.requires.1
    c.lower_reference.ensures.standings c.lower_reference.ensures.references c.lower_reference.ensures.totals c.requires.2)

pub returns-clause-falls : goal.returns-clause-falls
returns-clause-falls c = λ made rest is.
    let items = c.push_if_loose.ensures.items ∙ ap (λ (read : List HoldCounts). c.args.stack.now.items ++ pushed_if (is_free read c.args.number) c.args.number) c.as_slice.ensures.value in
    let capacity = c.push_if_loose.ensures.capacity in
    subst (λ (stack : List ℕ). Falling made c.lower_reference.new.counts.items stack (vec_capacity c.push_if_loose.new.stack) rest) (sym items)
    (subst (λ (room : ℕ). Falling made c.lower_reference.new.counts.items (c.args.stack.now.items ++ pushed_if (is_free c.lower_reference.new.counts.items c.args.number) c.args.number) room rest) (sym capacity)
    (falls-lowered made c.args.counts.now.items c.lower_reference.new.counts.items c.args.stack.now.items (vec_capacity c.args.stack.now) c.args.number rest
    c.lower_reference.ensures.standings c.lower_reference.ensures.references c.lower_reference.ensures.totals is))
