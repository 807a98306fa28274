use Rattle.std.proofs.Common.{rules, refl, sym, ◌∙◌}
use Rattle.wt_env.proofs.lists.Found.{found_within}
use Rattle.wt_holds.specs.declared.hold_counts.HoldCounts.{HoldCounts}
use Rattle.wt_holds.proofs.Held.{change-found, change-none, among-found}
use Rattle.wt_holds.proofs.counts.Rows.{row-same, totals-set}
use Rattle.wt_holds.proofs.hold_counts.set_waits.Goals as goal

pub index_mut-requires : goal.index_mut-requires
index_mut-requires c =
    let found = rw c.deref.ensures.value at (sym c.count_place.ensures ∙ c.in-Some.is) in
    let within = found_within _ c.in-Some.place c.args.counts.now.items found in
    search rules

pub returns-in-Some-clause-standings : goal.returns-in-Some-clause-standings
returns-in-Some-clause-standings c =
    let found = rw c.deref.ensures.value at (sym c.count_place.ensures ∙ c.in-Some.is) in
    change-found c.args.number c.in-Some.place (λ standing. record standing { waits = c.args.waits }) c.args.counts.now.items c.index_mut.result.now
    (record c.index_mut.result.now { waits = c.args.waits }) found c.index_mut.ensures.value refl

pub returns-in-Some-clause-references : goal.returns-in-Some-clause-references
returns-in-Some-clause-references c =
    let found = rw c.deref.ensures.value at (sym c.count_place.ensures ∙ c.in-Some.is) in
    row-same (λ (x : HoldCounts). x.references) 0 c.args.number c.in-Some.place c.args.counts.now.items c.index_mut.result.now (record c.index_mut.result.now { waits = c.args.waits }) found
    c.index_mut.ensures.value refl refl

pub returns-in-Some-clause-more : goal.returns-in-Some-clause-more
returns-in-Some-clause-more c =
    let found = rw c.deref.ensures.value at (sym c.count_place.ensures ∙ c.in-Some.is) in
    row-same (λ (x : HoldCounts). x.total) 0 c.args.number c.in-Some.place c.args.counts.now.items c.index_mut.result.now (record c.index_mut.result.now { waits = c.args.waits }) found
    c.index_mut.ensures.value refl refl

pub returns-in-Some-clause-totals : goal.returns-in-Some-clause-totals
returns-in-Some-clause-totals c = λ are.
    let found = rw c.deref.ensures.value at (sym c.count_place.ensures ∙ c.in-Some.is) in
    totals-set c.args.counts.now.items c.in-Some.place (record c.index_mut.result.now { waits = c.args.waits }) are
    (are c.index_mut.result.now (among-found c.args.number c.in-Some.place c.args.counts.now.items c.index_mut.result.now found c.index_mut.ensures.value))

pub returns-in_default-clause-standings : goal.returns-in_default-clause-standings
returns-in_default-clause-standings c =
    let missing = rw c.deref.ensures.value at (sym c.count_place.ensures ∙ c.in_default.is) in
    change-none c.args.number (λ standing. record standing { waits = c.args.waits }) c.args.counts.now.items missing
