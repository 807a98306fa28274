-- The indices of groups that are removed.
use Rattle.std.specs.Prelude.{◌≡◌, ℕ, List, [], ◌∷◌, map, true, false, not}
use Rattle.wt_env.specs.declared.types.VMSharedTypeIndex.{VMSharedTypeIndex}
use Rattle.wt_model.specs.Registered.{RegisteredGroup}
use Rattle.wt_model.specs.Indices.{used, is_used}
use Rattle.wt_indices.specs.Free.{FreeSet, is_free_before}
use Rattle.wt_keys.specs.declared.entry.RecGroupEntry.{RecGroupEntry}
use Rattle.wt_keys.specs.Entries.{made_by}

-- no index stands there twice
abbrev pub AreDifferent : List VMSharedTypeIndex → Type 0
AreDifferent [] = Unit {0}
AreDifferent (i ∷ rest) = (is_used (map (λ j. j.0) rest) i.0 ≡ false) × AreDifferent rest

-- no two types have one index
abbrev pub AreSeparate : List RecGroupEntry → Type 0
AreSeparate [] = Unit {0}
AreSeparate (entry ∷ rest) =
    AreDifferent entry.shared_type_indices
    × ((k : ℕ) → is_used (map (λ i. i.0) entry.shared_type_indices) k ≡ true → is_used (used (made_by rest)) k ≡ false)
    × AreSeparate rest

-- the free indices are those that no registered type has, once what a refused plan took is given back
abbrev pub HasFree : List RegisteredGroup → FreeSet → Type 0
HasFree made free = (k : ℕ) → is_free_before free k ≡ not (is_used (used made) k)
