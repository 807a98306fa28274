use Rattle.std.proofs.Common.{◌==◌, not, ◌&&◌, rules, sym, ◌∙◌}
use Rattle.wt_env.proofs.lists.Found.{found_within}
use Rattle.wt_holds.specs.declared.hold_counts.HoldCounts.{HoldCounts}
use Rattle.wt_holds.proofs.Held.{among-found}
use Rattle.wt_holds.proofs.counts.Rows.{row-found, row-none, root-found, root-none}
use Rattle.wt_holds.proofs.hold_counts.is_loose.Goals as goal

pub offset_bounds-counts-place : goal.offset_bounds-counts-place
offset_bounds-counts-place c =
    let within = found_within _ c.in-Some.place c.args.counts.now (sym c.count_place.ensures ∙ c.in-Some.is) in
    search rules

pub bounds-counts-place : goal.bounds-counts-place
bounds-counts-place c = found_within _ c.in-Some.place c.args.counts.now (sym c.count_place.ensures ∙ c.in-Some.is)

pub row_is_loose-requires : goal.row_is_loose-requires
row_is_loose-requires c =
    let found = sym c.count_place.ensures ∙ c.in-Some.is in
    c.requires c.index-counts-place.result (among-found c.args.number c.in-Some.place c.args.counts.now c.index-counts-place.result found c.index-counts-place.is)

pub returns-in-Some : goal.returns-in-Some
returns-in-Some c =
    let found = sym c.count_place.ensures ∙ c.in-Some.is in
    let x = c.index-counts-place.result in
    let references = row-found (λ (r : HoldCounts). r.references) 0 c.args.number c.in-Some.place c.args.counts.now x found c.index-counts-place.is in
    let root = root-found c.args.number c.in-Some.place c.args.counts.now x found c.index-counts-place.is in
    c.row_is_loose.ensures ∙ sym (λ i. (references i == 0) && not (root i))

pub returns-in-None : goal.returns-in-None
returns-in-None c =
    let missing = sym c.count_place.ensures ∙ c.in-None.is in
    let references = row-none (λ (r : HoldCounts). r.references) 0 c.args.number c.args.counts.now missing in
    let root = root-none c.args.number c.args.counts.now missing in
    sym (λ i. (references i == 0) && not (root i))
