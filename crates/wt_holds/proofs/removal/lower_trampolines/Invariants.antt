-- those from here on are still to be lowered
use Rattle.std.proofs.Common.{◌≡◌, ℕ, List, ◌++◌, drop, vec_capacity}
use Rattle.std.specs.List.{filter_map}
use Rattle.wt_model.specs.Registered.{RegisteredGroup}
use Rattle.wt_holds.specs.Counts.{standings_of}
use Rattle.wt_holds.specs.Kept.{Falling}
use Rattle.wt_holds.proofs.removal.lower_trampolines.Given as goal

abbrev pub invariant-loop-told : goal.invariant-loop-told
invariant-loop-told l = record {
  standings : standings_of l.counts.items ≡ standings_of l.fn.counts.items;
  capacity : vec_capacity l.stack ≡ vec_capacity l.fn.stack;
  falls : (made : List RegisteredGroup) (rest : List ℕ)
      → Falling made l.fn.counts.items l.fn.stack.items (vec_capacity l.fn.stack) (filter_map (λ told. told) l.trampolines ++ rest)
      → Falling made l.counts.items l.stack.items (vec_capacity l.stack) (filter_map (λ told. told) (drop l.told-index l.trampolines) ++ rest);
}
