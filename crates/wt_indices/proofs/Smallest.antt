-- The smallest index of a heap.
use Rattle.std.proofs.Common.{◌≡◌, ℕ, ◌<◌, ◌≤◌, ◌==◌, Bool, false, ◌||◌, List, [], ◌∷◌, map, refl, ◌∙◌, arith}
use Rattle.std.specs.List.{AllByRecursion}
use Rattle.std.specs.List.Sorted.{IsPermutation}
use Rattle.std.specs.Ordering.{nat_cmp, is_lt}
use Rattle.std.proofs.lemmas.Map.Keys.{ge_from_not_lt}
use Rattle.std.specs.declared.cmp.Reverse.{Reverse}
use Rattle.wt_model.specs.Indices.{is_used}
use Rattle.wt_indices.specs.Free.{occurrences}
use Rattle.wt_indices.proofs.Occurrences.{occurrences-permutation, used-same}

abbrev bits_of : Reverse ℕ → ℕ
bits_of item = item.0

-- what was in the heap is what left it and what is there still
pub popped-once : (old new : List (Reverse ℕ)) (x : Reverse ℕ) → IsPermutation old (x ∷ new) → (k : ℕ) → occurrences k (map bits_of old) ≡ occurrences k (x.0 ∷ map bits_of new)
popped-once old new x same k = occurrences-permutation bits_of k old (x ∷ new) same

apart : (k x y : ℕ) (u : Bool) → x ≤ y → k < x → u ≡ false → ((y == k) || u) ≡ false
apart k x y u above less rest = grind (arith, above, less, rest)

above_all : (x : ℕ) (xs : List (Reverse ℕ)) → AllByRecursion (λ (y : Reverse ℕ). is_lt (nat_cmp y.0 x) ≡ false) xs → (k : ℕ) → k < x → is_used (map bits_of xs) k ≡ false
above_all x [] all k less = refl
above_all x (y ∷ xs) all k less = apart k x y.0 (is_used (map bits_of xs) k) (ge_from_not_lt y.0 x all.0) less (above_all x xs all.1 k less)

own_apart : (k x : ℕ) (u : Bool) → k < x → u ≡ false → ((x == k) || u) ≡ false
own_apart k x u less rest = grind (arith, less, rest)

-- nothing in the heap was below what left it
pub popped-least : (old new : List (Reverse ℕ)) (x : Reverse ℕ) → IsPermutation old (x ∷ new) → AllByRecursion (λ (y : Reverse ℕ). is_lt (nat_cmp y.0 x.0) ≡ false) new → (k : ℕ) → k < x.0 → is_used (map bits_of old) k ≡ false
popped-least old new x same all k less =
    used-same k (map bits_of old) (x.0 ∷ map bits_of new) (popped-once old new x same k)
    ∙ own_apart k x.0 (is_used (map bits_of new) k) less (above_all x.0 new all k less)
