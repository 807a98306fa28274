use Rattle.wt_indices.specs.Free.{AreDistinctBelow, occurrences, is_free_before}
use Rattle.wt_indices.specs.Heap.{numbers_in}
use Rattle.std.proofs.Common.{◌++◌, List, ℕ, length, ap, sym, subst, ◌∙◌, arith}
use Rattle.std.proofs.lemmas.List.{length-map}
use Rattle.wt_indices.proofs.Kept.{room-all, distinct-same, free-returned}
use Rattle.wt_indices.proofs.free_indices.FreeIndices.return_taken.Goals as goal

pub push_all-requires-clause-room : goal.push_all-requires-clause-room
push_all-requires-clause-room c =
    let room = room-all c.self.inside.fresh_from c.self.inside.given_back.data.cap c.self.inside.taken.items (numbers_in c.self.inside.given_back) c.self.invariant.distinct c.self.invariant.room in
    let long = length-map c.self.inside.given_back.data.items (λ item. item.0) in
    let is = c.self.inside.given_back.data.ok.0 in
    let all = ap length c.as_slice.ensures.value in
    omega (arith, room, long, is, all)

pub invariant_of-self : goal.invariant_of-self
invariant_of-self c = record {
  ordered = c.push_all.ensures.order;
  distinct = subst (λ (xs : List ℕ). AreDistinctBelow c.self.inside.fresh_from (xs ++ numbers_in c.push_all.new.given_back)) (sym c.clear.ensures.items)
      (distinct-same c.self.inside.fresh_from (c.self.inside.taken.items ++ numbers_in c.self.inside.given_back) (numbers_in c.push_all.new.given_back)
      (λ k. ap (λ xs. occurrences k (xs ++ numbers_in c.self.inside.given_back)) (sym c.as_slice.ensures.value) ∙ c.push_all.ensures.items k)
      c.self.invariant.distinct);
  room = let before = c.self.invariant.room in let more = c.push_all.ensures.capacity in omega (arith, before, more);
}

pub returns-clause-free : goal.returns-clause-free
returns-clause-free c k =
    free-returned (numbers_in c.self.inside.given_back) c.self.inside.taken.items (numbers_in c.push_all.new.given_back) c.self.inside.fresh_from k
    (ap (λ xs. occurrences k (xs ++ numbers_in c.self.inside.given_back)) (sym c.as_slice.ensures.value) ∙ c.push_all.ensures.items k)
    ∙ ap (λ f. is_free_before f k) c.self.view_is
