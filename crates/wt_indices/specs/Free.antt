-- Free indices: those that were given back, and each from one on that was never taken.
use Rattle.std.specs.Prelude.{◌≡◌, ℕ, ◌<◌, ◌≤◌, ◌==◌, List, Bool, true, not, ◌||◌, nat_le}
use Rattle.std.specs.List.{count_by}
use Rattle.wt_model.specs.Indices.{is_used}

-- free indices, and those that were taken since all that was taken was last kept or given back
pub record FreeSet : Type 0 where
  pub given_back : List ℕ
  pub fresh_from : ℕ
  pub taken : List ℕ

abbrev pub is_free : FreeSet → ℕ → Bool
is_free free k = is_used free.given_back k || nat_le free.fresh_from k

-- whether an index is free once what was taken is given back
abbrev pub is_free_before : FreeSet → ℕ → Bool
is_free_before free k = is_used free.taken k || is_free free k

-- an index is free exactly where it isn't one of these
abbrev pub AreFreeBeside : List ℕ → FreeSet → Type 0
AreFreeBeside numbers free = (k : ℕ) → is_free free k ≡ not (is_used numbers k)

abbrev pub occurrences : ℕ → List ℕ → ℕ
occurrences k numbers = count_by (λ j. j == k) numbers

-- numbers below a bound, none of which stands there twice
pub record AreDistinctBelow (bound : ℕ) (numbers : List ℕ) : Type 0 where
  pub once : (k : ℕ) → occurrences k numbers ≤ 1
  pub below : (k : ℕ) → is_used numbers k ≡ true → k < bound

-- what is free once what was taken is given back is the same
abbrev pub AreSameBefore : FreeSet → FreeSet → Type 0
AreSameBefore old new = (k : ℕ) → is_free_before new k ≡ is_free_before old k
