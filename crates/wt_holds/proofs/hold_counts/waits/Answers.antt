use Rattle.std.proofs.Common.{rules, ap, sym, ◌∙◌}
use Rattle.wt_holds.specs.declared.hold_counts.HoldCounts.{HoldCounts}
use Rattle.wt_env.proofs.lists.Found.{found_within}
use Rattle.wt_holds.proofs.Held.{waits_at-found, waits_at-none}
use Rattle.wt_holds.proofs.hold_counts.waits.Goals as goal

pub offset_bounds-counts-place : goal.offset_bounds-counts-place
offset_bounds-counts-place c =
    let within = found_within _ c.in-Some.place c.args.counts.now (sym c.count_place.ensures ∙ c.in-Some.is) in
    search rules

pub bounds-counts-place : goal.bounds-counts-place
bounds-counts-place c = found_within _ c.in-Some.place c.args.counts.now (sym c.count_place.ensures ∙ c.in-Some.is)

pub returns-in-Some : goal.returns-in-Some
returns-in-Some c =
    let found = sym c.count_place.ensures ∙ c.in-Some.is in
    ap (λ (count : HoldCounts). count.waits) (sym c.index-counts-place.is)
    ∙ waits_at-found c.args.number c.in-Some.place c.args.counts.now c.index-counts-place.result found c.index-counts-place.is

pub returns-in-None : goal.returns-in-None
returns-in-None c = waits_at-none c.args.number c.args.counts.now (sym c.count_place.ensures ∙ c.in-None.is)

pub bounds-counts-place-in-Some : goal.bounds-counts-place-in-Some
bounds-counts-place-in-Some c = found_within _ c.in-Some.place c.args.counts.now (sym c.count_place.ensures ∙ c.in-Some.is)
