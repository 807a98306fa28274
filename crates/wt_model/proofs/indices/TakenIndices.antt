-- The smallest free indices taken one after another: what is taken so far, and the free indices that are left,
-- are together all that were asked for.
use Rattle.std.proofs.Common.{◌≡◌, ℕ, zero, suc, ◌+◌, ◌-◌, ◌<◌, ◌≤◌, ◌==◌, Bool, true, false, ◌||◌, List, [], ◌∷◌, ◌++◌, length, map, refl, sym, ap, ◌∙◌, arith, below_more}
use Rattle.std.proofs.lemmas.List.{append_assoc, length-append}
use Rattle.wt_env.specs.declared.types.VMSharedTypeIndex.{VMSharedTypeIndex}
use Rattle.wt_model.specs.Indices.{is_used, first_free, smallest_free, assign_shared_type_indices}
use Rattle.wt_model.proofs.indices.FreeIndices.{few_below, free_step, free_stop}

-- the numbers that are used once these are taken in order: the last that was taken comes first
abbrev pub used_with : List VMSharedTypeIndex → List ℕ → List ℕ
used_with [] numbers = numbers
used_with (i ∷ taken) numbers = used_with taken (i.0 ∷ numbers)

-- what is kept of the search at a candidate: all below it are used, and with the free indices that are left
-- what is taken is all
pub record IsTaking (count : ℕ) (numbers : List ℕ) (taken : List VMSharedTypeIndex) (candidate : ℕ) : Type 0 where
  pub within : length taken ≤ count
  pub below : (j : ℕ) → j < candidate → is_used (used_with taken numbers) j ≡ true
  pub left : taken ++ assign_shared_type_indices (count - length taken) (used_with taken numbers) ≡ assign_shared_type_indices count numbers

swap_or : (a b c : Bool) → (a || (b || c)) ≡ (b || (a || c))
swap_or true true c = refl
swap_or true false c = refl
swap_or false true c = refl
swap_or false false c = refl

is_used-between : (k x : ℕ) (xs ys : List ℕ) → is_used (xs ++ x ∷ ys) k ≡ ((x == k) || is_used (xs ++ ys) k)
is_used-between k x [] ys = refl
is_used-between k x (y ∷ xs) ys = ap (λ b. (y == k) || b) (is_used-between k x xs ys) ∙ swap_or (y == k) (x == k) (is_used (xs ++ ys) k)

-- the order doesn't matter to the test
pub is_used-with : (k : ℕ) (taken : List VMSharedTypeIndex) (numbers : List ℕ) → is_used (used_with taken numbers) k ≡ is_used (map (λ i. i.0) taken ++ numbers) k
is_used-with k [] numbers = refl
is_used-with k (i ∷ taken) numbers = is_used-with k taken (i.0 ∷ numbers) ∙ is_used-between k i.0 (map (λ i. i.0) taken) numbers

pub used_with-push : (taken : List VMSharedTypeIndex) (i : VMSharedTypeIndex) (numbers : List ℕ) → used_with (taken ++ i ∷ []) numbers ≡ i.0 ∷ used_with taken numbers
used_with-push [] i numbers = refl
used_with-push (j ∷ taken) i numbers = used_with-push taken i (j.0 ∷ numbers)

search_from : (k n : ℕ) (xs : List ℕ) → k ≤ n → ((j : ℕ) → j < k → is_used xs j ≡ true) → first_free n 0 xs ≡ first_free (n - k) k xs
search_from zero n xs within below = let all : n ≡ n - 0 = omega arith in ap (λ more. first_free more 0 xs) all
search_from (suc k) n xs within below =
    let next : n - (k + 1) ≡ n - suc k = omega arith in
    let one : k + 1 ≡ suc k = omega arith in
    search_from k n xs (omega (arith, within)) (λ j less. below j (omega (arith, less)))
    ∙ free_step n k xs (omega (arith, within)) (below k (omega arith))
    ∙ (λ t. first_free (next t) (one t) xs)

-- a number that is free is the smallest where all below it are used
smallest_free-at : (k : ℕ) (xs : List ℕ) → ((j : ℕ) → j < k → is_used xs j ≡ true) → is_used xs k ≡ false → smallest_free xs ≡ k
smallest_free-at k xs below free =
    search_from k (length xs) xs (few_below k xs below) below ∙ free_stop (length xs - k) k xs free

-- ---- the search

-- a candidate that is used is passed
pub taking-pass : (count : ℕ) (numbers : List ℕ) (taken : List VMSharedTypeIndex) (k : ℕ) → IsTaking count numbers taken k → is_used (map (λ i. i.0) taken ++ numbers) k ≡ true → IsTaking count numbers taken (k + 1)
taking-pass count numbers taken k taking here = record {
  within = taking.within;
  below = below_more _ _ taking.below (is_used-with k taken numbers ∙ here);
  left = taking.left;
}

free_next : (m n k : ℕ) (xs : List ℕ) → n ≡ suc m → smallest_free xs ≡ k → assign_shared_type_indices n xs ≡ record { 0 = k } ∷ assign_shared_type_indices m (k ∷ xs)
free_next m n k xs more smallest = ap (λ n. assign_shared_type_indices n xs) more ∙ ap (λ i. record { 0 = i } ∷ assign_shared_type_indices m (i ∷ xs)) smallest

-- and one that is free is taken
pub taking-take : (count : ℕ) (numbers : List ℕ) (taken : List VMSharedTypeIndex) (i : VMSharedTypeIndex) (k : ℕ) → i.0 ≡ k → IsTaking count numbers taken k → length taken < count → is_used (map (λ i. i.0) taken ++ numbers) k ≡ false → IsTaking count numbers (taken ++ i ∷ []) k
taking-take count numbers taken i k own taking more free = record {
  within = omega (arith, more, long);
  below = λ j less. ap (λ xs. is_used xs j) (used_with-push taken i numbers) ∙ or_true (i.0 == j) (is_used (used_with taken numbers) j) (taking.below j less);
  left =
      append_assoc taken (i ∷ []) (assign_shared_type_indices rest (used_with (taken ++ i ∷ []) numbers))
      ∙ ap (λ xs. taken ++ i ∷ assign_shared_type_indices rest xs) (used_with-push taken i numbers)
      ∙ ap (λ xs. taken ++ xs) (sym (free_next rest (count - length taken) i.0 (used_with taken numbers) (omega (arith, more, long)) (smallest ∙ sym own)))
      ∙ taking.left;
}
  where
    long : length (taken ++ i ∷ []) ≡ length taken + 1
    long = length-append taken (i ∷ [])

    rest : ℕ
    rest = count - length (taken ++ i ∷ [])

    smallest : smallest_free (used_with taken numbers) ≡ k
    smallest = smallest_free-at k (used_with taken numbers) taking.below (is_used-with k taken numbers ∙ free)

    or_true : (a b : Bool) → b ≡ true → (a || b) ≡ true
    or_true true b h = refl
    or_true false b h = h
