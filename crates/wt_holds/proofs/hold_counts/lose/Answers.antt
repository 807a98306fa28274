use Rattle.std.proofs.Common.{◌-◌, ◌≤◌, sum, slice_index, rules, sym, ap, subst, ◌∙◌, arith}
use Rattle.std.proofs.lemmas.List.Sums.{get_or-le-sum_by}
use Rattle.wt_env.proofs.lists.Found.{found_within}
use Rattle.wt_holds.specs.declared.hold_counts.HoldCounts.{HoldCounts}
use Rattle.wt_model.specs.Registered.{GroupHolds}
use Rattle.wt_holds.proofs.Held.{held_at-found, change-found, change-none, among-found}
use Rattle.wt_holds.proofs.counts.Rows.{row-same, totals-set, sum-less}
use Rattle.wt_model.specs.Removal.{fewer}
use Rattle.wt_holds.proofs.hold_counts.lose.Goals as goal

pub index_mut-requires : goal.index_mut-requires
index_mut-requires c =
    let found = rw c.deref.ensures.value at (sym c.count_place.ensures ∙ c.in-Some.is) in
    let within = found_within _ c.in-Some.place c.args.counts.now.items found in
    search rules

pub lower-requires-clause-within : goal.lower-requires-clause-within
lower-requires-clause-within c =
    let found = rw c.deref.ensures.value at (sym c.count_place.ensures ∙ c.in-Some.is) in
    c.requires.parties _ (among-found c.args.number c.in-Some.place c.args.counts.now.items c.index_mut.result.now found c.index_mut.ensures.value)

pub lower-requires-clause-held : goal.lower-requires-clause-held
lower-requires-clause-held c =
    let found = rw c.deref.ensures.value at (sym c.count_place.ensures ∙ c.in-Some.is) in
    let held = held_at-found c.args.party c.args.number c.in-Some.place c.args.counts.now.items c.index_mut.result.now found c.index_mut.ensures.value in
    rw held c.requires.held

pub lower-requires-clause-total : goal.lower-requires-clause-total
lower-requires-clause-total c =
    let found = rw c.deref.ensures.value at (sym c.count_place.ensures ∙ c.in-Some.is) in
    let there = among-found c.args.number c.in-Some.place c.args.counts.now.items c.index_mut.result.now found c.index_mut.ensures.value in
    let held = held_at-found c.args.party c.args.number c.in-Some.place c.args.counts.now.items c.index_mut.result.now found c.index_mut.ensures.value in
    let least = get_or-le-sum_by (λ x. x) c.index_mut.result.now.holds.items c.args.party 0 (c.requires.parties _ there) in
    let told = c.requires.totals c.index_mut.result.now there in
    let some = c.requires.held in
    omega (arith, held, least, told, some)

pub returns-in-Some-clause-standings : goal.returns-in-Some-clause-standings
returns-in-Some-clause-standings c =
    let found = rw c.deref.ensures.value at (sym c.count_place.ensures ∙ c.in-Some.is) in
    change-found c.args.number c.in-Some.place (fewer c.args.party) c.args.counts.now.items c.index_mut.result.now c.lower.new.count found c.index_mut.ensures.value c.lower.ensures.standing

pub returns-in-Some-clause-references : goal.returns-in-Some-clause-references
returns-in-Some-clause-references c =
    let found = rw c.deref.ensures.value at (sym c.count_place.ensures ∙ c.in-Some.is) in
    row-same (λ (x : HoldCounts). x.references) 0 c.args.number c.in-Some.place c.args.counts.now.items c.index_mut.result.now c.lower.new.count found c.index_mut.ensures.value
    (ap (λ (s : GroupHolds). s.number) c.lower.ensures.standing) c.lower.ensures.references

pub returns-in-Some-clause-totals : goal.returns-in-Some-clause-totals
returns-in-Some-clause-totals c =
    let found = rw c.deref.ensures.value at (sym c.count_place.ensures ∙ c.in-Some.is) in
    let there = among-found c.args.number c.in-Some.place c.args.counts.now.items c.index_mut.result.now found c.index_mut.ensures.value in
    let within = c.requires.parties _ there in
    let held = held_at-found c.args.party c.args.number c.in-Some.place c.args.counts.now.items c.index_mut.result.now found c.index_mut.ensures.value in
    let some : 1 ≤ slice_index c.index_mut.result.now.holds.items c.args.party = subst (λ n. 1 ≤ n) (sym held) c.requires.held in
    totals-set c.args.counts.now.items c.in-Some.place c.lower.new.count c.requires.totals
    (c.lower.ensures.total ∙ ap (λ t. t - 1) (c.requires.totals c.index_mut.result.now there) ∙ sym (sum-less c.index_mut.result.now.holds.items c.args.party within some)
    ∙ sym (ap (λ (s : GroupHolds). sum s.holds) c.lower.ensures.standing))

pub returns-in_default-clause-standings : goal.returns-in_default-clause-standings
returns-in_default-clause-standings c =
    let missing = rw c.deref.ensures.value at (sym c.count_place.ensures ∙ c.in_default.is) in
    change-none c.args.number (fewer c.args.party) c.args.counts.now.items missing
