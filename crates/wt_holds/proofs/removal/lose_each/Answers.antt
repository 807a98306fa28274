-- one more of the holds has ended
use Rattle.std.proofs.Common.{get_or, refl, ◌∙◌}
use Rattle.wt_holds.specs.Counts.{standings_of}
use Rattle.wt_holds.proofs.Losing.{fewer-step, places-step, held-step}
use Rattle.wt_holds.proofs.removal.lose_each.Goals as goal

pub lose_one-requires-clause-falling : goal.lose_one-requires-clause-falling
lose_one-requires-clause-falling c = (c.requires.falling.0, c.loop-number.invariant.falls c.requires.falling.0 c.requires.falling.1)

pub loop-number-preserved : goal.loop-number-preserved
loop-number-preserved c =
    let numbers = c.args.numbers.now in
    let k = c.loop-number.number-index in
    let n = get_or numbers k 0 in
    let now = c.loop-number.counts.items in
    let next = c.lose_one.new.counts.items in
    record {
      rest = fewer-step c.args.party numbers k n (standings_of now) (standings_of next) c.loop-number-test.true refl c.lose_one.ensures.standings ∙ c.loop-number.invariant.rest;
      parties = places-step c.args.party n now next c.lose_one.ensures.standings c.loop-number.invariant.parties;
      held = held-step c.args.party numbers k n now (standings_of next) c.loop-number-test.true refl c.lose_one.ensures.standings c.loop-number.invariant.parties c.loop-number.invariant.held;
      falls = λ made is. c.lose_one.ensures.falls made (c.loop-number.invariant.falls made is);
      capacity = c.lose_one.ensures.capacity ∙ c.loop-number.invariant.capacity;
    }

pub returns-clause-falls : goal.returns-clause-falls
returns-clause-falls c = λ made is. c.loop-number.invariant.falls made is
