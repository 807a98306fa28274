-- what is taken so far is the beginning of what is asked for, and what is given back then is what was free
use Rattle.std.proofs.Common.{◌≡◌, ◌-◌, ℕ, List, length}
use Rattle.wt_indices.specs.Free.{AreFreeBeside, is_free_before}
use Rattle.wt_indices.proofs.Assigning.{IsAssigning}
use Rattle.wt_indices.proofs.free_indices.FreeIndices.assign_shared_type_indices.Given as goal

abbrev pub invariant-loop-indices : goal.invariant-loop-indices
invariant-loop-indices l = record {
  assigning : (numbers : List ℕ) → AreFreeBeside numbers l.initial.self → IsAssigning l.count numbers l.indices.items l.self;
  before : (k : ℕ) → is_free_before l.self k ≡ is_free_before l.initial.self k;
}

abbrev pub decreases-loop-indices : goal.decreases-loop-indices
decreases-loop-indices l = l.count - length l.indices.items
