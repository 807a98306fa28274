use Rattle.wt_indices.specs.Heap.{numbers_in}
use Rattle.wt_indices.specs.Free.{FreeSet, is_free, is_free_before, occurrences}
use Rattle.std.proofs.Common.{◌≡◌, ◌∷◌, ◌==◌, ◌||◌, false, ap, sym, ◌∙◌, arith}
use Rattle.std.proofs.lemmas.List.{length-map}
use Rattle.wt_indices.proofs.Kept.{room-more, distinct-given, free-given}
use Rattle.wt_indices.proofs.free_indices.FreeIndices.give_back.Goals as goal

pub push_reserved-requires-clause-room : goal.push_reserved-requires-clause-room
push_reserved-requires-clause-room c =
    let free : FreeSet = record { given_back = numbers_in c.self.inside.given_back; fresh_from = c.self.inside.fresh_from; taken = c.self.inside.taken.items } in
    let used : is_free_before free c.args.index.0 ≡ false = ap (λ f. is_free_before f c.args.index.0) c.self.view_is ∙ c.requires.used in
    let room = room-more free c.args.index.0 c.self.inside.given_back.data.cap used c.self.invariant.distinct c.self.invariant.room in
    let long = length-map c.self.inside.given_back.data.items (λ item. item.0) in
    let is = c.self.inside.given_back.data.ok.0 in
    omega (arith, room, long, is)

pub invariant_of-self : goal.invariant_of-self
invariant_of-self c =
    let free : FreeSet = record { given_back = numbers_in c.self.inside.given_back; fresh_from = c.self.inside.fresh_from; taken = c.self.inside.taken.items } in
    let used : is_free_before free c.args.index.0 ≡ false = ap (λ f. is_free_before f c.args.index.0) c.self.view_is ∙ c.requires.used in
    record {
      ordered = c.push_reserved.ensures.order;
      distinct = distinct-given free c.args.index.0 (numbers_in c.push_reserved.new.given_back) used c.self.invariant.distinct (λ j. ap (λ n. occurrences j (n ∷ numbers_in c.self.inside.given_back)) (sym c.bits.ensures) ∙ c.push_reserved.ensures.items j);
      room = let before = c.self.invariant.room in let more = c.push_reserved.ensures.capacity in omega (arith, before, more);
    }

pub returns-clause-free : goal.returns-clause-free
returns-clause-free c k =
    free-given (numbers_in c.self.inside.given_back) (numbers_in c.push_reserved.new.given_back) c.self.inside.fresh_from c.args.index.0 k
    (ap (λ n. occurrences k (n ∷ numbers_in c.self.inside.given_back)) (sym c.bits.ensures) ∙ c.push_reserved.ensures.items k)
    ∙ ap (λ f. (c.args.index.0 == k) || is_free f k) c.self.view_is
