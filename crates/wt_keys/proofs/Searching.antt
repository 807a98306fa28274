-- A binary search by number finds the entry that has it.
use Rattle.std.proofs.Common.{◌≡◌, ℕ, zero, suc, ◌<◌, ◌≤◌, ◌⊎◌, inl, inr, List, [], ◌∷◌, length, get_or, slice_get, Option, Some, None, Result, Ok, Err, refl, sym, ap, ◌∙◌, arith, ◌==◌}
use Rattle.std.specs.List.{find}
use Rattle.std.specs.List.Sorted.{IsSearchInRange, IsBinarySearchResult, IsNonDecreasingBy}
use Rattle.std.specs.Option.{option_and_then}
use Rattle.std.specs.Ordering.{nat_cmp, ordering_index}
use Rattle.std.proofs.lemmas.Cmp.{ranked}
use Rattle.std.proofs.lemmas.List.Sorted.{IsNonDecreasingBy-from_default}
use Rattle.std.proofs.lemmas.Bool.{eqb-true, eq-eqb}
use Rattle.std.proofs.lemmas.Bool.Decides.{nat_tests}
use Rattle.std.proofs.lemmas.Option.{get_or_from_slice_get}
use Rattle.wt_env.specs.Among.{Among}
use Rattle.wt_env.proofs.lists.Members.{get_among}
use Rattle.wt_keys.specs.declared.entry.RecGroupEntry.{RecGroupEntry}
use Rattle.wt_keys.specs.Filed.{NumbersRise}
use Rattle.wt_keys.proofs.Filing.{at_among, either}
use Rattle.wt_keys.proofs.Numbered.{found-none, found-only, rise-above, one-of_number}

-- where a thing of a list stands
place_of : {A : Type 0} (xs : List A) (x : A) → Among x xs → (k : ℕ) × (k < length xs) × (get_or xs k x ≡ x)
place_of [] x at = absurd at
place_of (y ∷ ys) x (inl same) = (0, omega arith, sym same)
place_of (y ∷ ys) x (inr later) = let found = place_of ys x later in (suc found.0, omega (arith, found.1), found.2)

within-some : {A : Type 0} (xs : List A) (k : ℕ) → k < length xs → (x : A) × (slice_get xs k ≡ Some x)
within-some [] k below = absurd (omega (arith, below))
within-some (x ∷ xs) zero below = (x, refl)
within-some (x ∷ xs) (suc k) below = within-some xs k (omega (arith, below))

rise-order : (low : ℕ) (entries : List RecGroupEntry) (d : RecGroupEntry) (i j : ℕ) → NumbersRise low entries → i ≤ j → j < length entries → (get_or entries i d).number ≤ (get_or entries j d).number
rise-order low [] d i j rises le below = absurd (omega (arith, below))
rise-order low (x ∷ xs) d zero zero rises le below = omega arith
rise-order low (x ∷ xs) d zero (suc j) rises le below =
    let above = rise-above x.number xs (get_or xs j d) rises.1 (at_among xs j d (omega (arith, below))) in
    omega (arith, above)
rise-order low (x ∷ xs) d (suc i) zero rises le below = absurd (omega (arith, le))
rise-order low (x ∷ xs) d (suc i) (suc j) rises le below = rise-order x.number xs d i j rises.1 (omega (arith, le)) (omega (arith, below))

before_or : (k i : ℕ) → (k < i) ⊎ (i ≤ k)
before_or k zero = inr (omega arith)
before_or zero (suc i) = inl (omega arith)
before_or (suc k) (suc i) = either (λ less. inl (omega (arith, less))) (λ more. inr (omega (arith, more))) (before_or k i)

-- what the search answers, as a place
abbrev pub told_place : Result ℕ ℕ → Option ℕ
told_place (Ok at) = Some at
told_place (Err at) = None

module _ (entries : List RecGroupEntry) (n : ℕ) (rises : NumbersRise 0 entries) where
  comparisons : (d : RecGroupEntry) → IsNonDecreasingBy (λ (e : RecGroupEntry). ordering_index (nat_cmp e.number n)) entries
  comparisons d = IsNonDecreasingBy-from_default (λ (e : RecGroupEntry). ordering_index (nat_cmp e.number n)) entries d (λ i j le below.
      let order = rise-order 0 entries d i j rises le below in
      grind (arith, nat_tests, order))

  pub searched : (r : Result ℕ ℕ) → IsSearchInRange r (length entries) → IsBinarySearchResult (λ (e : RecGroupEntry). nat_cmp e.number n) entries r
      → option_and_then (slice_get entries) (told_place r) ≡ find (λ e. e.number == n) entries
  searched (Ok at) below equal =
      let found = within-some entries at below in
      let here = get_among entries at found.0 found.1 in
      let same : get_or entries at found.0 ≡ found.0 = get_or_from_slice_get entries at found.0 found.0 found.1 in
      let number : found.0.number ≡ n = ap (λ (e : RecGroupEntry). e.number) (sym same) ∙ ranked (get_or entries at found.0).number n _ (sym (equal found.0)) in
      found.1
      ∙ sym (found-only (λ (e : RecGroupEntry). e.number == n) entries found.0 here (eq-eqb found.0.number n number)
      (λ y there is. one-of_number 0 entries y found.0 rises there here (eqb-true y.number n is ∙ sym number)))
  searched (Err at) below parted = sym (found-none (λ (e : RecGroupEntry). e.number == n) entries (λ e there is. none e there (eqb-true e.number n is)))
    where
      none : (e : RecGroupEntry) → Among e entries → e.number ≡ n → ⊥
      none e there same =
          let place = place_of entries e there in
          let number : (get_or entries place.0 e).number ≡ n = ap (λ (x : RecGroupEntry). x.number) place.2 ∙ same in
          let points = parted (comparisons e) in
          either
          (λ before. let less = ranked (get_or entries place.0 e).number n _ (sym (points.0 place.0 e (omega arith) before)) in omega (arith, less, number))
          (λ behind. let more = ranked (get_or entries place.0 e).number n _ (sym (points.1 place.0 e behind place.1)) in omega (arith, more, number))
          (before_or place.0 at)
