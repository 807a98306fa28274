-- one more hold is one less that is still to come
use Rattle.std.proofs.Common.{◌≡◌, ◌+◌, ◌==◌, Bool, true, false, cond, refl, sym, ap, subst, ◌∙◌, arith, get_or, drop}
use Rattle.std.proofs.lemmas.List.{at_drop_more}
use Rattle.wt_env.specs.Among.{Among}
use Rattle.wt_model.specs.Holds.{held_at}
use Rattle.wt_holds.specs.Counts.{standings_of}
use Rattle.wt_model.specs.Holds.{times, hold_each}
use Rattle.wt_holds.proofs.Counted.{places_stand, stand_places}
use Rattle.wt_model.proofs.holds.HeldEach.{room-held, places-held, times-own}
use Rattle.wt_holds.specs.References.{one_if}
use Rattle.wt_holds.proofs.counts.Times.{times-first}
use Rattle.wt_registry.proofs.enter.hold_each.Goals as goal

chosen : (b : Bool) → cond b 1 0 ≡ one_if b
chosen true = refl
chosen false = refl

pub gain-requires-clause-total : goal.gain-requires-clause-total
gain-requires-clause-total c =
    let numbers = c.args.numbers.now in
    let n = c.loop-number.number-index in
    let number = get_or numbers n 0 in
    let first = at_drop_more (times number) numbers n 0 c.loop-number-test.true in
    let own = times-own number (drop (n + 1) numbers) in
    let room = c.loop-number.invariant.total number in
    omega (arith, first, own, room)

pub loop-number-preserved : goal.loop-number-preserved
loop-number-preserved c =
    let before = c.loop-number.counts.items in
    let standings = standings_of before in
    let party = c.args.party in
    let numbers = c.args.numbers.now in
    let n = c.loop-number.number-index in
    let number = get_or numbers n 0 in
    let places = places-held party number party standings (places_stand party before c.loop-number.invariant.parties) in
    record {
      parties = stand_places party c.gain.new.counts.items (λ s at. places s (subst (Among s) c.gain.ensures.standings at));
      room = λ k.
          let same = ap (λ after. held_at after party k) c.gain.ensures.standings in
          let first = at_drop_more (times k) numbers n 0 c.loop-number-test.true in
          let held = room-held standings party number k (drop (n + 1) numbers) in
          let room = c.loop-number.invariant.room k in
          omega (arith, same, first, held, room);
      total = λ k.
          let more = c.gain.ensures.more k in
          let first = at_drop_more (times k) numbers n 0 c.loop-number-test.true in
          let split = times-first k number (drop (n + 1) numbers) in
          let room = c.loop-number.invariant.total k in
          let same = chosen (number == k) in
          omega (arith, more, first, split, room, same);
      references = λ k. c.gain.ensures.references k ∙ c.loop-number.invariant.references k;
      totals = λ are. c.gain.ensures.totals (c.loop-number.invariant.totals are);
      each =
          ap (hold_each party (drop (n + 1) numbers)) c.gain.ensures.standings
          ∙ sym (at_drop_more (λ rest. hold_each party rest standings) numbers n 0 c.loop-number-test.true)
          ∙ c.loop-number.invariant.each;
    }
