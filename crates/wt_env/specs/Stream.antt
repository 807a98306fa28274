-- What a source has left and what a sink has taken; None where it isn't told.
use Rattle.std.specs.Prelude.{◌≡◌, ℕ, ◌+◌, ◌^◌, ◌<◌, ◌≤◌, ◌⊎◌, List, [], ◌++◌, Option, option_map, IfSome}

-- these bytes were the first of what was left, and are left no more
abbrev pub IsTaken : List ℕ → Option (List ℕ) → Option (List ℕ) → Type 0
IsTaken bytes before after = before ≡ option_map (λ rest. bytes ++ rest) after

-- nothing is left
abbrev pub IsAtEnd : Option (List ℕ) → Type 0
IsAtEnd left = IfSome left (λ rest. rest ≡ [])

-- these bytes were added to what was taken before
abbrev pub IsAdded : List ℕ → Option (List ℕ) → Option (List ℕ) → Type 0
IsAdded bytes before after = after ≡ option_map (λ held. held ++ bytes) before

-- a count rose: it is greater than before, or stands at the greatest number of 64 bits
abbrev pub Rose : ℕ → ℕ → Type 0
Rose before after = (before < after) ⊎ (2 ^ 64 ≤ after + 1)
