-- The smallest free indices: as many as were asked for, unused, and different from each other.
use Rattle.std.proofs.Common.{◌≡◌, ◌≢◌, ℕ, zero, suc, ◌+◌, ◌<◌, ◌≤◌, ◌==◌, inl, inr, Bool, true, false, cond, List, ◌∷◌, length, refl, ap, ◌∙◌, arith}
use Rattle.wt_env.specs.declared.types.VMSharedTypeIndex.{VMSharedTypeIndex}
use Rattle.wt_env.specs.Among.{Among}
use Rattle.wt_model.specs.Indices.{is_used, first_free, smallest_free, assign_shared_type_indices}
use Rattle.wt_model.specs.Indices.{AreUnused, AreDistinct}
use Rattle.wt_env.proofs.lists.Found.{neither}
use Rattle.wt_model.proofs.indices.FreeIndices.{few_below}
use Rattle.wt_env.proofs.lists.Members.{some_same, get_among}

used_through : (k : ℕ) (xs : List ℕ) → ((j : ℕ) → j < k → is_used xs j ≡ true) → is_used xs k ≡ true → (j : ℕ) → j < k + 1 → is_used xs j ≡ true
used_through k xs below here j less = by (j == k) refl
  where
    by : (b : Bool) → (j == k) ≡ b → is_used xs j ≡ true
    by true e = let same : j ≡ k = grind (arith, e) in ap (is_used xs) same ∙ here
    by false e = below j (grind (arith, e, less))

-- the search begins at k, below which all are used, and ends by the length of the list
first_free-unused : (more k : ℕ) (xs : List ℕ) → k + more ≡ length xs → ((j : ℕ) → j < k → is_used xs j ≡ true) → is_used xs (first_free more k xs) ≡ false
first_free-unused zero k xs long below = by (is_used xs k) refl
  where
    by : (b : Bool) → is_used xs k ≡ b → b ≡ false
    by true e = let few : k + 1 ≤ length xs = few_below (k + 1) xs (used_through k xs below e) in absurd (omega (arith, few, long))
    by false e = refl
first_free-unused (suc more) k xs long below = by (is_used xs k) refl (first_free-unused more (k + 1) xs (omega (arith, long)))
  where
    by : (b : Bool) → is_used xs k ≡ b → (((j : ℕ) → j < k + 1 → is_used xs j ≡ true) → is_used xs (first_free more (k + 1) xs) ≡ false) → is_used xs (cond b (first_free more (k + 1) xs) k) ≡ false
    by true e later = later (used_through k xs below e)
    by false e later = e

smallest_free-unused : (xs : List ℕ) → is_used xs (smallest_free xs) ≡ false
smallest_free-unused xs = first_free-unused (length xs) 0 xs (omega arith) (λ j less. absurd (omega (arith, less)))

pub length-assign_shared_type_indices : (n : ℕ) (xs : List ℕ) → length (assign_shared_type_indices n xs) ≡ n
length-assign_shared_type_indices zero xs = refl
length-assign_shared_type_indices (suc n) xs = ap suc (length-assign_shared_type_indices n (smallest_free xs ∷ xs))

pub assign_shared_type_indices-unused : (n : ℕ) (xs : List ℕ) → AreUnused xs (assign_shared_type_indices n xs)
assign_shared_type_indices-unused zero xs i at = absurd at
assign_shared_type_indices-unused (suc n) xs i (inl same) = ap (λ (j : VMSharedTypeIndex). is_used xs j.0) same ∙ smallest_free-unused xs
assign_shared_type_indices-unused (suc n) xs i (inr later) =
    (neither (smallest_free xs == i.0) (is_used xs i.0) (assign_shared_type_indices-unused n (smallest_free xs ∷ xs) i later)).1

-- one more index that differs from all others
distinct-more : (x : VMSharedTypeIndex) (xs : List VMSharedTypeIndex) → ((i : VMSharedTypeIndex) → Among i xs → x ≢ i) → AreDistinct xs → AreDistinct (x ∷ xs)
distinct-more x xs differs distinct zero zero i first second = refl
distinct-more x xs differs distinct zero (suc k) i first second = absurd (differs i (get_among xs k i second) (some_same first))
distinct-more x xs differs distinct (suc j) zero i first second = absurd (differs i (get_among xs j i first) (some_same second))
distinct-more x xs differs distinct (suc j) (suc k) i first second = ap suc (distinct j k i first second)

pub assign_shared_type_indices-distinct : (n : ℕ) (xs : List ℕ) → AreDistinct (assign_shared_type_indices n xs)
assign_shared_type_indices-distinct zero xs = λ j k i first second. absurd (cc)
assign_shared_type_indices-distinct (suc n) xs =
    let free = smallest_free xs in
    distinct-more (record { 0 = free }) (assign_shared_type_indices n (free ∷ xs)) differs (assign_shared_type_indices-distinct n (free ∷ xs))
  where
    apart : (m k : ℕ) → (m == k) ≡ false → m ≢ k
    apart m k e = grind (arith, e)

    differs : (i : VMSharedTypeIndex) → Among i (assign_shared_type_indices n (smallest_free xs ∷ xs)) → record { 0 = smallest_free xs } ≢ i
    differs i at same =
        apart (smallest_free xs) i.0 (neither (smallest_free xs == i.0) (is_used xs i.0) (assign_shared_type_indices-unused n (smallest_free xs ∷ xs) i at)).0
        (ap (λ (x : VMSharedTypeIndex). x.0) same)

-- ---- below the count of all

first_free-within : (more k : ℕ) (indices : List ℕ) → first_free more k indices ≤ k + more
first_free-within zero k indices = omega arith
first_free-within (suc more) k indices = by (is_used indices k) (first_free-within more (k + 1) indices)
  where
    by : (b : Bool) → first_free more (k + 1) indices ≤ k + 1 + more → cond b (first_free more (k + 1) indices) k ≤ k + suc more
    by true later = omega (arith, later)
    by false later = omega arith

-- the smallest free indices are below the number of those that are used, with them
pub assign_shared_type_indices-below : (n : ℕ) (indices : List ℕ) (i : VMSharedTypeIndex) → Among i (assign_shared_type_indices n indices) → i.0 < length indices + n
assign_shared_type_indices-below zero indices i at = absurd at
assign_shared_type_indices-below (suc n) indices i (inl same) =
    let least = first_free-within (length indices) 0 indices in
    let it : i.0 ≡ smallest_free indices = ap (λ (x : VMSharedTypeIndex). x.0) same in
    omega (arith, least, it)
assign_shared_type_indices-below (suc n) indices i (inr later) =
    let rest = assign_shared_type_indices-below n (smallest_free indices ∷ indices) i later in
    omega (arith, rest)
