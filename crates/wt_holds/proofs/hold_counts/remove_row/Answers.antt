use Rattle.std.proofs.Common.{rules, sym, ◌∙◌}
use Rattle.wt_env.proofs.lists.Found.{found_within}
use Rattle.wt_holds.specs.declared.hold_counts.HoldCounts.{HoldCounts}
use Rattle.wt_holds.proofs.counts.Rows.{row-removed, totals-removed, standings-removed, removed-row, none-removed}
use Rattle.wt_holds.proofs.hold_counts.remove_row.Goals as goal

pub remove-requires : goal.remove-requires
remove-requires c =
    let found = rw c.deref.ensures.value at (sym c.count_place.ensures ∙ c.in-Some.is) in
    let within = found_within _ c.in-Some.place c.args.counts.now.items found in
    search rules

pub returns-in-Some-clause-standings : goal.returns-in-Some-clause-standings
returns-in-Some-clause-standings c =
    let found = rw c.deref.ensures.value at (sym c.count_place.ensures ∙ c.in-Some.is) in
    standings-removed c.args.number c.args.counts.now.items c.remove.new.self.items (c.remove.ensures.items ∙ removed-row c.args.number c.in-Some.place c.args.counts.now.items c.requires found)

pub returns-in-Some-clause-references : goal.returns-in-Some-clause-references
returns-in-Some-clause-references c =
    let found = rw c.deref.ensures.value at (sym c.count_place.ensures ∙ c.in-Some.is) in
    row-removed (λ (x : HoldCounts). x.references) 0 c.args.number c.args.counts.now.items c.remove.new.self.items (c.remove.ensures.items ∙ removed-row c.args.number c.in-Some.place c.args.counts.now.items c.requires found)

pub returns-in-Some-clause-totals : goal.returns-in-Some-clause-totals
returns-in-Some-clause-totals c =
    let found = rw c.deref.ensures.value at (sym c.count_place.ensures ∙ c.in-Some.is) in
    totals-removed c.args.number c.args.counts.now.items c.remove.new.self.items (c.remove.ensures.items ∙ removed-row c.args.number c.in-Some.place c.args.counts.now.items c.requires found)

pub returns-in_default-clause-standings : goal.returns-in_default-clause-standings
returns-in_default-clause-standings c =
    let missing = rw c.deref.ensures.value at (sym c.count_place.ensures ∙ c.in_default.is) in
    standings-removed c.args.number c.args.counts.now.items c.args.counts.now.items (none-removed c.args.number c.args.counts.now.items missing)

pub returns-in_default-clause-references : goal.returns-in_default-clause-references
returns-in_default-clause-references c =
    let missing = rw c.deref.ensures.value at (sym c.count_place.ensures ∙ c.in_default.is) in
    row-removed (λ (x : HoldCounts). x.references) 0 c.args.number c.args.counts.now.items c.args.counts.now.items (none-removed c.args.number c.args.counts.now.items missing)
