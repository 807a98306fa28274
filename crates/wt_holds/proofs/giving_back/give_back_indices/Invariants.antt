-- the indices so far are free again
use Rattle.std.proofs.Common.{◌≡◌, ℕ, ◌||◌, map, take}
use Rattle.wt_model.specs.Indices.{is_used}
use Rattle.wt_indices.specs.Free.{is_free_before}
use Rattle.wt_holds.proofs.giving_back.give_back_indices.Given as goal

abbrev pub invariant-loop-index : goal.invariant-loop-index
invariant-loop-index l = (k : ℕ) → is_free_before l.free k ≡ (is_used (map (λ i. i.0) (take l.index-index l.indices)) k || is_free_before l.initial.free k)
