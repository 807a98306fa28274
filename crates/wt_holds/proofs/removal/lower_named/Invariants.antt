-- the references from here on are still to be lowered
use Rattle.std.proofs.Common.{◌≡◌, ℕ, List, ◌++◌, map, drop, vec_capacity}
use Rattle.wt_model.specs.Registered.{RegisteredGroup}
use Rattle.wt_holds.specs.Counts.{standings_of}
use Rattle.wt_holds.specs.Kept.{Falling}
use Rattle.wt_holds.proofs.removal.lower_named.Given as goal

abbrev pub invariant-loop-reference : goal.invariant-loop-reference
invariant-loop-reference l = record {
  standings : standings_of l.counts.items ≡ standings_of l.fn.counts.items;
  capacity : vec_capacity l.stack ≡ vec_capacity l.fn.stack;
  falls : (made : List RegisteredGroup) (rest : List ℕ)
      → Falling made l.fn.counts.items l.fn.stack.items (vec_capacity l.fn.stack) (map (λ reference. reference.0) l.references ++ rest)
      → Falling made l.counts.items l.stack.items (vec_capacity l.stack) (map (λ reference. reference.0) (drop l.reference-index l.references) ++ rest);
}
