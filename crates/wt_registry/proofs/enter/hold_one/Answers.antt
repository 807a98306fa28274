-- a count has a place for the party, and stays within its type
use Rattle.std.proofs.Common.{◌≤◌, ◌^◌, sym, ap, subst, arith}
use Rattle.wt_model.specs.Holds.{held_at}
use Rattle.wt_holds.specs.Counts.{standings_of}
use Rattle.wt_holds.proofs.Counted.{HavePlaces, has_place, held_at-bounded}
use Rattle.wt_registry.proofs.Tallied.{total-bounded}
use Rattle.wt_registry.proofs.enter.hold_one.Goals as goal

pub held_by-wanted-requires : goal.held_by-wanted-requires
held_by-wanted-requires c = record {
  parties = subst (HavePlaces c.args.party) (sym c.as_slice.ensures.value) (has_place c.args.engine.now c.args.counts.now.items c.args.party c.requires.counted c.requires.party);
}

pub overflow_add-wanted : goal.overflow_add-wanted
overflow_add-wanted c =
    let bounded = held_at-bounded c.args.engine.now (standings_of c.args.counts.now.items) c.args.party c.args.number c.requires.counted in
    let same = ap (λ counts. held_at (standings_of counts) c.args.party c.args.number) c.as_slice.ensures.value in
    let limit = ap (λ limits. limits.holds) c.limits-bound.ensures.value in
    let greatest : c.limits-bound.result.holds ≤ 2 ^ 30 = (c.limits-bound.ensures.valid).holds in
    omega (arith, bounded, same, limit, greatest, c.held_by-wanted.ensures)

pub gain-requires-clause-parties : goal.gain-requires-clause-parties
gain-requires-clause-parties c = has_place c.args.engine.now c.args.counts.now.items c.args.party c.requires.counted c.requires.party

pub gain-requires-clause-total : goal.gain-requires-clause-total
gain-requires-clause-total c =
    let limits = ap (λ limits. limits.holds) c.limits-bound.ensures.value in
    let parties = ap (λ limits. limits.parties) c.limits-bound.ensures.value in
    let greatest = (c.limits-bound.ensures.valid).holds in
    let most = (c.limits-bound.ensures.valid).parties in
    let bounded = total-bounded c.args.engine.now c.args.counts.now.items c.args.number (omega (arith, parties, most)) (omega (arith, limits, greatest)) c.requires.counted c.requires.totals in
    omega (arith, bounded)
