use Rattle.wt_indices.specs.Free.{AreDistinctBelow}
use Rattle.wt_indices.specs.Heap.{numbers_in}
use Rattle.std.proofs.Common.{◌++◌, List, ℕ, sym, subst}
use Rattle.wt_indices.proofs.Kept.{distinct-right}
use Rattle.wt_indices.proofs.free_indices.FreeIndices.keep_taken.Goals as goal

pub invariant_of-self : goal.invariant_of-self
invariant_of-self c = record {
  ordered = c.self.invariant.ordered;
  distinct = subst (λ (xs : List ℕ). AreDistinctBelow c.self.inside.fresh_from (xs ++ numbers_in c.self.inside.given_back)) (sym c.clear.ensures.items) (distinct-right c.self.inside.fresh_from c.self.inside.taken.items (numbers_in c.self.inside.given_back) c.self.invariant.distinct);
  room = c.self.invariant.room;
}
