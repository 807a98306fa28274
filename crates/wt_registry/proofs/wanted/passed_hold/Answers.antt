-- the number at which the loop stands decides, or those after it
use Rattle.std.proofs.Common.{refl, sym, ◌∙◌, arith}
use Rattle.wt_holds.specs.Counts.{standings_of}
use Rattle.wt_model.proofs.plan.HoldsWanted.{holds_wanted-passed, holds_wanted-within, holds_wanted-end}
use Rattle.wt_registry.proofs.wanted.passed_hold.Goals as goal

pub loop-number-preserved : goal.loop-number-preserved
loop-number-preserved c =
    let limits = c.args.limits in
    let standings = standings_of c.args.counts.now in
    let numbers = c.args.numbers.now in
    let n = c.loop-number.number-index in
    c.loop-number.invariant
    ∙ holds_wanted-within limits standings c.args.party numbers n 0 limits.holds c.in_ok-wanted.wanted c.loop-number-test.true refl
    (omega (arith, c.held_by.ensures, c.times.ensures, c.in_ok-wanted.ensures)) c.if-bound-wanted.false

pub returns-then-bound-wanted : goal.returns-then-bound-wanted
returns-then-bound-wanted c =
    let limits = c.args.limits in
    let standings = standings_of c.args.counts.now in
    let numbers = c.args.numbers.now in
    let n = c.loop-number.number-index in
    sym (c.loop-number.invariant
    ∙ holds_wanted-passed limits standings c.args.party numbers n 0 limits.holds c.in_ok-wanted.wanted c.loop-number-test.true refl
    (omega (arith, c.held_by.ensures, c.times.ensures, c.in_ok-wanted.ensures)) c.if-bound-wanted.true)

pub returns : goal.returns
returns c =
    sym (c.loop-number.invariant
    ∙ holds_wanted-end c.args.limits (standings_of c.args.counts.now) c.args.party c.args.numbers.now c.loop-number.number-index c.loop-number-test.false)
