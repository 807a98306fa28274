use Rattle.wt_indices.specs.contracts.free_indices.FreeIndices.{the_view}
use Rattle.wt_indices.specs.Free.{AreDistinctBelow, is_free}
use Rattle.wt_indices.specs.Heap.{numbers_in}
use Rattle.std.proofs.Common.{◌++◌, ◌∷◌, ◌&&◌, ◌==◌, not, [], List, ℕ, ap, sym, subst, ◌∙◌, ◌<◌}
use Rattle.wt_indices.proofs.Kept.{distinct-taken, free-taken, least-taken, left-taken, before-taken}
use Rattle.wt_indices.proofs.free_indices.FreeIndices.take.Goals as goal

pub invariant_of-self-2 : goal.invariant_of-self-2
invariant_of-self-2 c = record {
  ordered = c.in_ok-index.ensures.order;
  distinct =
      subst (λ (xs : List ℕ). AreDistinctBelow c.take_smallest.new.fresh_from (xs ++ numbers_in c.take_smallest.new.given_back))
      (ap (λ (xs : List ℕ). xs ++ c.in_ok-index.index ∷ []) (sym c.reserve.ensures.items) ∙ sym c.push_reserved.ensures.items)
      (distinct-taken (numbers_in c.self.inside.given_back) (numbers_in c.take_smallest.new.given_back) c.self.inside.taken.items c.self.inside.fresh_from c.take_smallest.new.fresh_from c.in_ok-index.index
      c.in_ok-index.ensures.ok c.self.invariant.distinct);
  room = c.in_ok-index.ensures.room c.self.invariant.room;
}

pub returns-clause-free : goal.returns-clause-free
returns-clause-free c =
    ap (λ f. is_free f c.new.result.0) (sym c.self.view_is)
    ∙ ap (λ n. is_free (the_view c.self.inside) n) c.new.ensures
    ∙ free-taken (numbers_in c.self.inside.given_back) (numbers_in c.take_smallest.new.given_back) c.self.inside.taken.items c.self.inside.fresh_from c.take_smallest.new.fresh_from c.in_ok-index.index c.in_ok-index.ensures.ok

pub returns-clause-least : goal.returns-clause-least
returns-clause-least c k less =
    ap (λ f. is_free f k) (sym c.self.view_is)
    ∙ least-taken (numbers_in c.self.inside.given_back) (numbers_in c.take_smallest.new.given_back) c.self.inside.taken.items c.self.inside.fresh_from c.take_smallest.new.fresh_from c.in_ok-index.index c.in_ok-index.ensures.ok c.self.invariant.distinct k (subst (λ n. k < n) c.new.ensures less)

pub returns-clause-left : goal.returns-clause-left
returns-clause-left c k =
    left-taken (numbers_in c.self.inside.given_back) (numbers_in c.take_smallest.new.given_back) c.self.inside.taken.items c.self.inside.fresh_from c.take_smallest.new.fresh_from c.in_ok-index.index c.in_ok-index.ensures.ok c.self.invariant.distinct k
    ∙ ap (λ n. is_free (the_view c.self.inside) k && not (n == k)) (sym c.new.ensures)
    ∙ ap (λ f. is_free f k && not (c.new.result.0 == k)) c.self.view_is

pub returns-clause-before : goal.returns-clause-before
returns-clause-before c =
    before-taken c.args.self.now (the_view (record { given_back = c.take_smallest.new.given_back; fresh_from = c.take_smallest.new.fresh_from; taken = c.push_reserved.new.self })) c.new.result.0
    (returns-clause-free c) (returns-clause-left c)
    (c.push_reserved.ensures.items ∙ ap (λ (xs : List ℕ). xs ++ c.in_ok-index.index ∷ []) (c.reserve.ensures.items ∙ ap (λ f. f.taken) c.self.view_is) ∙ ap (λ n. c.args.self.now.taken ++ n ∷ []) (sym c.new.ensures))
