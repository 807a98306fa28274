-- the indices so far are in the heap, which has room for the others
use Rattle.std.proofs.Common.{◌≡◌, ℕ, ◌+◌, ◌≤◌, take}
use Rattle.std.specs.BinaryHeap.{heap_len, heap_capacity}
use Rattle.wt_indices.specs.Free.{occurrences}
use Rattle.wt_indices.specs.Heap.{numbers_in, IsOrdered}
use Rattle.wt_indices.proofs.free_indices.push_all.Given as goal

abbrev pub invariant-loop-index : goal.invariant-loop-index
invariant-loop-index l = record {
  order : IsOrdered l.given_back;
  capacity : heap_capacity l.initial.given_back ≤ heap_capacity l.given_back;
  len : heap_len l.given_back ≡ heap_len l.initial.given_back + l.index-index;
  items : (k : ℕ) → occurrences k (take l.index-index l.indices) + occurrences k (numbers_in l.initial.given_back) ≡ occurrences k (numbers_in l.given_back);
}
