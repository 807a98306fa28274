-- the hold ends, and the group is pushed where nothing keeps it then
use Rattle.std.proofs.Common.{ℕ, ◌≤◌, ◌++◌, [], List, length, vec_capacity, refl, sym, ap, subst, ◌∙◌}
use Rattle.wt_model.specs.Removal.{fewer}
use Rattle.wt_model.proofs.holds.Rooted.{held-root}
use Rattle.wt_holds.specs.declared.hold_counts.HoldCounts.{HoldCounts}
use Rattle.wt_holds.specs.Counts.{standings_of}
use Rattle.wt_holds.specs.References.{pushed_if}
use Rattle.wt_holds.specs.Kept.{Falling}
use Rattle.wt_holds.proofs.Ending.{held-registered}
use Rattle.wt_holds.proofs.counts.Falls.{is_free, falls-ended, ended-room}
use Rattle.wt_holds.proofs.removal.lose_one.Goals as goal

pub push_if_loose-requires-clause-room : goal.push_if_loose-requires-clause-room
push_if_loose-requires-clause-room c =
    let made = c.requires.falling.0 in
    let is = c.requires.falling.1 in
    let root = held-root (standings_of c.args.counts.now.items) c.args.party c.args.number c.requires.held in
    let stands = held-registered made (standings_of c.args.counts.now.items) c.args.party c.args.number is.numbers c.requires.held in
    subst (λ (read : List HoldCounts). length (c.args.stack.now.items ++ pushed_if (is_free read c.args.number) c.args.number) ≤ vec_capacity c.args.stack.now) (sym c.as_slice.ensures.value)
    (ended-room made c.args.counts.now.items c.lose.new.counts.items c.args.stack.now.items (vec_capacity c.args.stack.now) c.args.number (fewer c.args.party) (λ s. refl) root stands
    c.lose.ensures.standings c.lose.ensures.references c.lose.ensures.totals is)

pub returns-clause-falls : goal.returns-clause-falls
returns-clause-falls c = λ made is.
    let root = held-root (standings_of c.args.counts.now.items) c.args.party c.args.number c.requires.held in
    let stands = held-registered made (standings_of c.args.counts.now.items) c.args.party c.args.number is.numbers c.requires.held in
    let items = c.push_if_loose.ensures.items ∙ ap (λ (read : List HoldCounts). c.args.stack.now.items ++ pushed_if (is_free read c.args.number) c.args.number) c.as_slice.ensures.value in
    let capacity = c.push_if_loose.ensures.capacity in
    subst (λ (stack : List ℕ). Falling made c.lose.new.counts.items stack (vec_capacity c.push_if_loose.new.stack) []) (sym items)
    (subst (λ (room : ℕ). Falling made c.lose.new.counts.items (c.args.stack.now.items ++ pushed_if (is_free c.lose.new.counts.items c.args.number) c.args.number) room []) (sym capacity)
    (falls-ended made c.args.counts.now.items c.lose.new.counts.items c.args.stack.now.items (vec_capacity c.args.stack.now) c.args.number (fewer c.args.party) (λ s. refl) root stands
    c.lose.ensures.standings c.lose.ensures.references c.lose.ensures.totals is))
