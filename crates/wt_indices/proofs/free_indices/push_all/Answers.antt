use Rattle.std.proofs.Common.{◌≡◌, ◌+◌, ◌==◌, cond, get_or, sym, ap, ◌∙◌, arith}
use Rattle.std.proofs.lemmas.List.Sums.{sum_by_more}
use Rattle.std.proofs.lemmas.List.{take_all}
use Rattle.wt_indices.specs.Free.{occurrences}
use Rattle.wt_indices.specs.Heap.{numbers_in}
use Rattle.wt_indices.proofs.Occurrences.{occurrences-cons, occurrences-append}
use Rattle.wt_indices.proofs.free_indices.push_all.Goals as goal

pub loop-index-init : goal.loop-index-init
loop-index-init c = record { order = c.requires.order; capacity = omega arith; len = omega arith; items = λ k. let same : 0 + occurrences k (numbers_in c.args.given_back.now) ≡ occurrences k (numbers_in c.args.given_back.now) = omega arith in same }

pub push_reserved-requires-clause-order : goal.push_reserved-requires-clause-order
push_reserved-requires-clause-order c = c.loop-index.invariant.order

pub push_reserved-requires-clause-room : goal.push_reserved-requires-clause-room
push_reserved-requires-clause-room c =
    let room = c.requires.room in
    let more = c.loop-index-test.true in
    let capacity = c.loop-index.invariant.capacity in
    let len = c.loop-index.invariant.len in
    omega (arith, room, more, capacity, len)

pub loop-index-preserved : goal.loop-index-preserved
loop-index-preserved c = record {
  order = c.push_reserved.ensures.order;
  capacity = let before = c.loop-index.invariant.capacity in let after = c.push_reserved.ensures.capacity in omega (arith, before, after);
  len = let before = c.loop-index.invariant.len in let after = c.push_reserved.ensures.len in omega (arith, before, after);
  items = λ k.
      let x = get_or c.args.indices.now c.loop-index.index-index 0 in
      let before = c.loop-index.invariant.items k in
      let after = c.push_reserved.ensures.items k in
      let one = occurrences-cons k x (numbers_in c.loop-index.given_back) in
      let more = sum_by_more (λ j. cond (j == k) 1 0) c.args.indices.now c.loop-index.index-index 0 c.loop-index-test.true in
      omega (arith, before, after, one, more);
}

pub returns-clause-items : goal.returns-clause-items
returns-clause-items c k =
    occurrences-append k c.args.indices.now (numbers_in c.args.given_back.now)
    ∙ ap (λ xs. occurrences k xs + occurrences k (numbers_in c.args.given_back.now)) (sym (take_all c.loop-index.index-index c.args.indices.now c.loop-index-test.false))
    ∙ c.loop-index.invariant.items k
