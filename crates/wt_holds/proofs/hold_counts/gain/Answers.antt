use Rattle.std.proofs.Common.{◌≡◌, ℕ, ◌+◌, ◌≤◌, ◌==◌, Bool, true, false, cond, sum, rules, sym, ap, ◌∙◌, arith}
use Rattle.wt_env.proofs.lists.Found.{found_within}
use Rattle.wt_holds.specs.declared.hold_counts.HoldCounts.{HoldCounts}
use Rattle.wt_model.specs.Registered.{GroupHolds}
use Rattle.wt_holds.proofs.Held.{held_at-found, change-found, change-none, among-found}
use Rattle.wt_holds.proofs.counts.Rows.{row-found, row-same, row-changed, totals-set, sum-more}
use Rattle.wt_model.specs.Holds.{gained}
use Rattle.wt_holds.proofs.hold_counts.gain.Goals as goal

pub index_mut-requires : goal.index_mut-requires
index_mut-requires c =
    let found = rw c.deref.ensures.value at (sym c.count_place.ensures ∙ c.in-Some.is) in
    let within = found_within _ c.in-Some.place c.args.counts.now.items found in
    search rules

pub raise-requires-clause-within : goal.raise-requires-clause-within
raise-requires-clause-within c =
    let found = rw c.deref.ensures.value at (sym c.count_place.ensures ∙ c.in-Some.is) in
    c.requires.parties _ (among-found c.args.number c.in-Some.place c.args.counts.now.items c.index_mut.result.now found c.index_mut.ensures.value)

pub raise-requires-clause-room : goal.raise-requires-clause-room
raise-requires-clause-room c =
    let found = rw c.deref.ensures.value at (sym c.count_place.ensures ∙ c.in-Some.is) in
    let held = held_at-found c.args.party c.args.number c.in-Some.place c.args.counts.now.items c.index_mut.result.now found c.index_mut.ensures.value in
    rw held c.requires.room

pub raise-requires-clause-total : goal.raise-requires-clause-total
raise-requires-clause-total c =
    let found = rw c.deref.ensures.value at (sym c.count_place.ensures ∙ c.in-Some.is) in
    let total = row-found (λ (x : HoldCounts). x.total) 0 c.args.number c.in-Some.place c.args.counts.now.items c.index_mut.result.now found c.index_mut.ensures.value in
    let room = c.requires.total in
    omega (arith, total, room)

pub returns-in-Some-clause-standings : goal.returns-in-Some-clause-standings
returns-in-Some-clause-standings c =
    let found = rw c.deref.ensures.value at (sym c.count_place.ensures ∙ c.in-Some.is) in
    change-found c.args.number c.in-Some.place (gained c.args.party) c.args.counts.now.items c.index_mut.result.now c.raise.new.count found c.index_mut.ensures.value c.raise.ensures.standing

pub returns-in-Some-clause-references : goal.returns-in-Some-clause-references
returns-in-Some-clause-references c =
    let found = rw c.deref.ensures.value at (sym c.count_place.ensures ∙ c.in-Some.is) in
    row-same (λ (x : HoldCounts). x.references) 0 c.args.number c.in-Some.place c.args.counts.now.items c.index_mut.result.now c.raise.new.count found c.index_mut.ensures.value
    (ap (λ (s : GroupHolds). s.number) c.raise.ensures.standing) c.raise.ensures.references

pub returns-in-Some-clause-more : goal.returns-in-Some-clause-more
returns-in-Some-clause-more c = λ n.
    let found = rw c.deref.ensures.value at (sym c.count_place.ensures ∙ c.in-Some.is) in
    let now = row-changed (λ (x : HoldCounts). x.total) 0 c.args.number c.in-Some.place c.args.counts.now.items c.index_mut.result.now c.raise.new.count (λ t. t + 1) found c.index_mut.ensures.value
    (ap (λ (s : GroupHolds). s.number) c.raise.ensures.standing) c.raise.ensures.total n in
    by (c.args.number == n) _ _ now
  where
    by : (b : Bool) (old new : ℕ) → new ≡ cond b (old + 1) old → new ≤ old + cond b 1 0
    by true old new is = omega (arith, is)
    by false old new is = omega (arith, is)

pub returns-in-Some-clause-totals : goal.returns-in-Some-clause-totals
returns-in-Some-clause-totals c = λ are.
    let found = rw c.deref.ensures.value at (sym c.count_place.ensures ∙ c.in-Some.is) in
    let there = among-found c.args.number c.in-Some.place c.args.counts.now.items c.index_mut.result.now found c.index_mut.ensures.value in
    let within = c.requires.parties _ there in
    totals-set c.args.counts.now.items c.in-Some.place c.raise.new.count are
    (c.raise.ensures.total ∙ ap (λ t. t + 1) (are c.index_mut.result.now there) ∙ sym (sum-more c.index_mut.result.now.holds.items c.args.party within)
    ∙ sym (ap (λ (s : GroupHolds). sum s.holds) c.raise.ensures.standing))

pub returns-in_default-clause-standings : goal.returns-in_default-clause-standings
returns-in_default-clause-standings c =
    let missing = rw c.deref.ensures.value at (sym c.count_place.ensures ∙ c.in_default.is) in
    change-none c.args.number (gained c.args.party) c.args.counts.now.items missing

pub returns-in_default-clause-more : goal.returns-in_default-clause-more
returns-in_default-clause-more c = λ n. omega arith
