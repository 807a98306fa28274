use Rattle.std.proofs.Common.{◌-◌, rules, refl, sym, ◌∙◌, arith}
use Rattle.wt_env.proofs.lists.Found.{found_within}
use Rattle.wt_holds.specs.declared.hold_counts.HoldCounts.{HoldCounts}
use Rattle.wt_holds.proofs.Held.{among-found}
use Rattle.wt_holds.proofs.counts.Rows.{row-found, row-none, row-changed, totals-set, standings-same}
use Rattle.wt_holds.proofs.hold_counts.lower_reference.Goals as goal

pub index_mut-requires : goal.index_mut-requires
index_mut-requires c =
    let found = rw c.deref.ensures.value at (sym c.count_place.ensures ∙ c.in-Some.is) in
    let within = found_within _ c.in-Some.place c.args.counts.now.items found in
    search rules

pub overflow_sub-index_mut : goal.overflow_sub-index_mut
overflow_sub-index_mut c =
    let found = rw c.deref.ensures.value at (sym c.count_place.ensures ∙ c.in-Some.is) in
    let told = row-found (λ (x : HoldCounts). x.references) 0 c.args.number c.in-Some.place c.args.counts.now.items c.index_mut.result.now found c.index_mut.ensures.value in
    let some = c.requires in
    omega (arith, told, some)

pub returns-in-Some-clause-standings : goal.returns-in-Some-clause-standings
returns-in-Some-clause-standings c =
    let found = rw c.deref.ensures.value at (sym c.count_place.ensures ∙ c.in-Some.is) in
    let x = c.index_mut.result.now in
    standings-same c.args.counts.now.items c.in-Some.place x (record x { references = x.references - 1 }) c.index_mut.ensures.value refl

pub returns-in-Some-clause-references : goal.returns-in-Some-clause-references
returns-in-Some-clause-references c =
    let found = rw c.deref.ensures.value at (sym c.count_place.ensures ∙ c.in-Some.is) in
    let x = c.index_mut.result.now in
    row-changed (λ (r : HoldCounts). r.references) 0 c.args.number c.in-Some.place c.args.counts.now.items x (record x { references = x.references - 1 }) (λ n. n - 1) found c.index_mut.ensures.value refl refl

pub returns-in-Some-clause-totals : goal.returns-in-Some-clause-totals
returns-in-Some-clause-totals c = λ are.
    let found = rw c.deref.ensures.value at (sym c.count_place.ensures ∙ c.in-Some.is) in
    let x = c.index_mut.result.now in
    totals-set c.args.counts.now.items c.in-Some.place (record x { references = x.references - 1 }) are (are x (among-found c.args.number c.in-Some.place c.args.counts.now.items x found c.index_mut.ensures.value))

pub returns-in_default-clause-references : goal.returns-in_default-clause-references
returns-in_default-clause-references c =
    let missing = rw c.deref.ensures.value at (sym c.count_place.ensures ∙ c.in_default.is) in
    let none = row-none (λ (x : HoldCounts). x.references) 0 c.args.number c.args.counts.now.items missing in
    let some = c.requires in
    absurd (omega (arith, none, some))
