-- The heap in which indices that were given back are kept.
use Rattle.std.specs.Prelude.{◌≡◌, ◌⊎◌, ℕ, ◌+◌, ◌<◌, ◌≤◌, List, [], ◌∷◌, ◌++◌, map, false}
use Rattle.std.specs.BinaryHeap.{heap_items, heap_capacity, IsHeap}
use Rattle.std.specs.Ordering.{nat_cmp}
use Rattle.std.specs.declared.collections.BinaryHeap.{BinaryHeap}
use Rattle.std.specs.declared.cmp.Reverse.{Reverse}
use Rattle.std.specs.declared.alloc.Global.{Global}
use Rattle.wt_model.specs.Indices.{is_used}
use Rattle.wt_indices.specs.Free.{AreDistinctBelow, occurrences}

-- the indices in a heap
abbrev pub numbers_in : BinaryHeap (Reverse ℕ) Global → List ℕ
numbers_in heap = map (λ item. item.0) (heap_items heap)

-- the smallest is at hand
abbrev pub IsOrdered : BinaryHeap (Reverse ℕ) Global → Type 0
IsOrdered heap = IsHeap (λ a b. nat_cmp b.0 a.0) (heap_items heap)

-- what is kept true of a heap, the first fresh index and what was taken: the smallest is at hand, no index stands twice, each is
-- below the first fresh one, and the heap has room for all of these
pub record AreKept (heap : BinaryHeap (Reverse ℕ) Global) (fresh_from : ℕ) (taken : List ℕ) : Type 0 where
  pub ordered : IsOrdered heap
  pub distinct : AreDistinctBelow fresh_from (taken ++ numbers_in heap)
  pub room : fresh_from ≤ heap_capacity heap

-- the smallest of the indices that were given back was taken
pub record TakesGivenBack (given_back left : List ℕ) (index : ℕ) : Type 0 where
  pub once : (k : ℕ) → occurrences k given_back ≡ occurrences k (index ∷ left)
  pub least : (k : ℕ) → k < index → is_used given_back k ≡ false

-- where none was given back, the first fresh index was taken
pub record TakesFresh (given_back : List ℕ) (fresh_from : ℕ) (left : List ℕ) (fresh_after index : ℕ) : Type 0 where
  pub none : given_back ≡ []
  pub still_none : left ≡ []
  pub first : index ≡ fresh_from
  pub after : fresh_after ≡ index + 1

abbrev pub TakesSmallest : List ℕ → ℕ → List ℕ → ℕ → ℕ → Type 0
TakesSmallest given_back fresh_from left fresh_after index =
    (TakesGivenBack given_back left index × (fresh_after ≡ fresh_from)) ⊎ TakesFresh given_back fresh_from left fresh_after index
