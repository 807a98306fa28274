-- The search for the smallest number that isn't in a list: among the first length + 1 numbers one isn't.
use Rattle.std.proofs.Common.{◌≡◌, ◌≢◌, ℕ, zero, suc, ◌+◌, ◌-◌, ◌<◌, ◌≤◌, ◌==◌, Bool, true, false, not, cond, ◌||◌, List, [], ◌∷◌, length, map, refl, ap, sym, ◌∙◌, arith}
use Rattle.std.specs.List.{list_any, filter}
use Rattle.std.proofs.lemmas.Bool.{false≢true}
use Rattle.wt_env.specs.declared.types.VMSharedTypeIndex.{VMSharedTypeIndex}
use Rattle.wt_model.specs.Indices.{is_used, first_free}

abbrev without : ℕ → List ℕ → List ℕ
without k xs = filter (λ j. not (j == k)) xs

longer_step : (b : Bool) (x : ℕ) (ws xs : List ℕ) → length ws ≤ length xs → length (cond (not b) (x ∷ ws) ws) ≤ length (x ∷ xs)
longer_step true x ws xs h = omega arith
longer_step false x ws xs h = omega arith

no_longer : (k : ℕ) (xs : List ℕ) → length (without k xs) ≤ length xs
no_longer k [] = omega arith
no_longer k (x ∷ xs) = longer_step (x == k) x (without k xs) xs (no_longer k xs)

shorter_step : (b c : Bool) (x : ℕ) (ws xs : List ℕ) → (b || c) ≡ true → length ws ≤ length xs → (c ≡ true → length ws < length xs) → length (cond (not b) (x ∷ ws) ws) < length (x ∷ xs)
shorter_step true c x ws xs h s ih = omega arith
shorter_step false c x ws xs h s ih = let short : length ws < length xs = ih h in omega arith

-- to take out a number that is there leaves fewer
length-without : (k : ℕ) (xs : List ℕ) → is_used xs k ≡ true → length (without k xs) < length xs
length-without k [] h = absurd (false≢true h)
length-without k (x ∷ xs) h = shorter_step (x == k) (is_used xs k) x (without k xs) xs h (no_longer k xs) (length-without k xs)

still_step : (b c d e : Bool) (j x : ℕ) (ws : List ℕ) → (b ≡ true → c ≡ false) → c ≡ (x == j) → (c || d) ≡ true → (d ≡ true → is_used ws j ≡ true) → is_used (cond (not b) (x ∷ ws) ws) j ≡ true
still_step true true d e j x ws apart at h ih = absurd (false≢true (sym (apart refl)))
still_step true false d e j x ws apart at h ih = ih h
still_step false true d e j x ws apart at h ih = ap (λ t. t || is_used ws j) (sym at)
still_step false false d e j x ws apart at h ih = ap (λ t. t || is_used ws j) (sym at) ∙ ih h

apart_at : (j k x : ℕ) → j ≢ k → (x == k) ≡ true → (x == j) ≡ false
apart_at j k x ne h = grind arith

-- and all others stay
is_used-without : (j k : ℕ) (xs : List ℕ) → j ≢ k → is_used xs j ≡ true → is_used (without k xs) j ≡ true
is_used-without j k [] ne h = absurd (false≢true h)
is_used-without j k (x ∷ xs) ne h =
    still_step (x == k) (x == j) (is_used xs j) true j x (without k xs) (apart_at j k x ne) refl h (is_used-without j k xs ne)

-- where all numbers below n are there, there are at least n
pub few_below : (n : ℕ) (xs : List ℕ) → ((j : ℕ) → j < n → is_used xs j ≡ true) → n ≤ length xs
few_below zero xs h = omega arith
few_below (suc n) xs h =
    let fewer : n ≤ length (without n xs) = few_below n (without n xs) (λ j below. is_used-without j n xs (omega arith) (h j (omega arith))) in
    let short : length (without n xs) < length xs = length-without n xs (h n (omega arith)) in
    omega arith

free_next : (more k : ℕ) (xs : List ℕ) → is_used xs k ≡ true → first_free (suc more) k xs ≡ first_free more (k + 1) xs
free_next more k xs h = ap (λ b. cond b (first_free more (k + 1) xs) k) h

-- a turn of the search that goes on
pub free_step : (n k : ℕ) (xs : List ℕ) → k < n → is_used xs k ≡ true → first_free (n - k) k xs ≡ first_free (n - (k + 1)) (k + 1) xs
free_step n k xs below h =
    let one_more : n - k ≡ suc (n - (k + 1)) = omega arith in
    ap (λ more. first_free more k xs) one_more ∙ free_next (n - (k + 1)) k xs h

-- the turn at which it stops
pub free_stop : (more k : ℕ) (xs : List ℕ) → is_used xs k ≡ false → first_free more k xs ≡ k
free_stop zero k xs h = refl
free_stop (suc more) k xs h = ap (λ b. cond b (first_free more (k + 1) xs) k) h

-- the test over indices is the test over their numbers
pub list_any-bits : (k : ℕ) (indices : List VMSharedTypeIndex) → list_any (λ i. i.0 == k) indices ≡ is_used (map (λ i. i.0) indices) k
list_any-bits k [] = refl
list_any-bits k (i ∷ indices) = ap (λ b. (i.0 == k) || b) (list_any-bits k indices)
