use Rattle.std.proofs.Common.{rules, sym, ◌∙◌}
use Rattle.wt_env.proofs.lists.Found.{found_within}
use Rattle.wt_holds.proofs.Held.{held_at-found, held_at-none, among-found}
use Rattle.wt_holds.proofs.hold_counts.held_by.Goals as goal

pub offset_bounds-counts-place : goal.offset_bounds-counts-place
offset_bounds-counts-place c =
    let within = found_within _ c.in-Some.place c.args.counts.now (sym c.count_place.ensures ∙ c.in-Some.is) in
    search rules

pub bounds-counts-place : goal.bounds-counts-place
bounds-counts-place c = found_within _ c.in-Some.place c.args.counts.now (sym c.count_place.ensures ∙ c.in-Some.is)

pub holds_of-requires : goal.holds_of-requires
holds_of-requires c =
    let found = sym c.count_place.ensures ∙ c.in-Some.is in
    c.requires.parties _ (among-found c.args.number c.in-Some.place c.args.counts.now c.index-counts-place.result found c.index-counts-place.is)

pub returns-in-Some : goal.returns-in-Some
returns-in-Some c =
    let found = sym c.count_place.ensures ∙ c.in-Some.is in
    c.holds_of.ensures ∙ held_at-found c.args.party c.args.number c.in-Some.place c.args.counts.now c.index-counts-place.result found c.index-counts-place.is

pub returns-in-None : goal.returns-in-None
returns-in-None c = held_at-none c.args.party c.args.number c.args.counts.now (sym c.count_place.ensures ∙ c.in-None.is)
