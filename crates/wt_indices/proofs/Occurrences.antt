-- How often a number stands in a list, and whether it does.
use Rattle.std.proofs.Common.{◌≡◌, ℕ, zero, suc, ◌+◌, ◌<◌, ◌≤◌, ◌==◌, Bool, true, false, not, cond, ◌||◌, List, [], ◌∷◌, ◌++◌, length, map, refl, ap, sym, subst, ◌∙◌, arith, eqb-true}
use Rattle.std.specs.List.{filter}
use Rattle.std.specs.List.Sorted.{IsPermutation}
use Rattle.std.proofs.lemmas.Bool.{false≢true}
use Rattle.std.proofs.lemmas.List.Sums.{sum_by-cons, sum_by-append}
use Rattle.std.proofs.lemmas.List.Sorted.{sum_by-IsPermutation, IsPermutation-map}
use Rattle.wt_model.specs.Indices.{is_used}
use Rattle.wt_indices.specs.Free.{occurrences, AreDistinctBelow}

abbrev pub one_if : Bool → ℕ
one_if b = cond b 1 0

pub occurrences-cons : (k x : ℕ) (xs : List ℕ) → occurrences k (x ∷ xs) ≡ one_if (x == k) + occurrences k xs
occurrences-cons k x xs = sum_by-cons (λ j. cond (j == k) 1 0) x xs

pub occurrences-append : (k : ℕ) (xs ys : List ℕ) → occurrences k (xs ++ ys) ≡ occurrences k xs + occurrences k ys
occurrences-append k xs ys = sum_by-append (λ j. cond (j == k) 1 0) xs ys

-- in another order it stands there as often
pub occurrences-permutation : {A : Type 0} (f : A → ℕ) (k : ℕ) (xs ys : List A) → IsPermutation xs ys → occurrences k (map f xs) ≡ occurrences k (map f ys)
occurrences-permutation f k xs ys same = sym (sum_by-IsPermutation (λ j. cond (j == k) 1 0) (map f xs) (map f ys) (IsPermutation-map f xs ys same))

-- ---- whether it stands there

used_step : (b u : Bool) (n m : ℕ) → n ≡ one_if b + m → (m ≡ 0 → u ≡ false) → n ≡ 0 → (b || u) ≡ false
used_step true u n m count ih none = absurd (omega (arith, count, none))
used_step false u n m count ih none = ih (omega (arith, count, none))

pub none-used : (k : ℕ) (xs : List ℕ) → occurrences k xs ≡ 0 → is_used xs k ≡ false
none-used k [] none = refl
none-used k (x ∷ xs) none = used_step (x == k) (is_used xs k) (occurrences k (x ∷ xs)) (occurrences k xs) (occurrences-cons k x xs) (none-used k xs) none

unused_step : (b u : Bool) (n m : ℕ) → n ≡ one_if b + m → (u ≡ false → m ≡ 0) → (b || u) ≡ false → n ≡ 0
unused_step true u n m count ih none = absurd (false≢true (sym none))
unused_step false u n m count ih none = let rest : m ≡ 0 = ih none in omega (arith, count, rest)

pub unused-none : (k : ℕ) (xs : List ℕ) → is_used xs k ≡ false → occurrences k xs ≡ 0
unused-none k [] none = refl
unused-none k (x ∷ xs) none = unused_step (x == k) (is_used xs k) (occurrences k (x ∷ xs)) (occurrences k xs) (occurrences-cons k x xs) (unused-none k xs) none

-- as often in two lists: in the one where in the other
pub used-same : (k : ℕ) (xs ys : List ℕ) → occurrences k xs ≡ occurrences k ys → is_used xs k ≡ is_used ys k
used-same k xs ys same = by (is_used xs k) (is_used ys k) refl refl
  where
    by : (a b : Bool) → is_used xs k ≡ a → is_used ys k ≡ b → is_used xs k ≡ is_used ys k
    by true true one two = one ∙ sym two
    by false false one two = one ∙ sym two
    by true false one two = none-used k xs (same ∙ unused-none k ys two) ∙ sym two
    by false true one two = one ∙ sym (none-used k ys (sym same ∙ unused-none k xs one))

pub used-append : (k : ℕ) (xs ys : List ℕ) → is_used (xs ++ ys) k ≡ (is_used xs k || is_used ys k)
used-append k [] ys = refl
used-append k (x ∷ xs) ys = ap (λ b. (x == k) || b) (used-append k xs ys) ∙ or_assoc (x == k) (is_used xs k) (is_used ys k)
  where
    or_assoc : (a b c : Bool) → (a || (b || c)) ≡ ((a || b) || c)
    or_assoc true b c = refl
    or_assoc false b c = refl

-- ---- few numbers below a bound

abbrev without : ℕ → List ℕ → List ℕ
without k xs = filter (λ j. not (j == k)) xs

length_step : (b : Bool) (x : ℕ) (ws : List ℕ) (n m o : ℕ) → n ≡ length ws + m → o ≡ one_if b + m → suc n ≡ length (cond (not b) (x ∷ ws) ws) + o
length_step true x ws n m o long count = omega (arith, long, count)
length_step false x ws n m o long count = omega (arith, long, count)

length-without : (k : ℕ) (xs : List ℕ) → length xs ≡ length (without k xs) + occurrences k xs
length-without k [] = refl
length-without k (x ∷ xs) = length_step (x == k) x (without k xs) (length xs) (occurrences k xs) (occurrences k (x ∷ xs)) (length-without k xs) (occurrences-cons k x xs)

fewer_step : (b c : Bool) (k x : ℕ) (ws xs : List ℕ) → c ≡ (x == k) → occurrences k ws ≤ occurrences k xs → occurrences k (cond (not b) (x ∷ ws) ws) ≤ occurrences k (x ∷ xs)
fewer_step true c k x ws xs at h = let count = occurrences-cons k x xs in omega (arith, count, h)
fewer_step false c k x ws xs at h =
    let count = occurrences-cons k x xs in
    let kept = occurrences-cons k x ws in
    omega (arith, count, kept, h)

fewer : (j k : ℕ) (xs : List ℕ) → occurrences k (without j xs) ≤ occurrences k xs
fewer j k [] = omega arith
fewer j k (x ∷ xs) = fewer_step (x == j) (x == k) k x (without j xs) xs refl (fewer j k xs)

gone_step : (b : Bool) (k x : ℕ) (ws : List ℕ) → b ≡ (x == k) → is_used ws k ≡ false → is_used (cond (not b) (x ∷ ws) ws) k ≡ false
gone_step true k x ws at h = h
gone_step false k x ws at h = ap (λ b. b || is_used ws k) (sym at) ∙ h

gone : (k : ℕ) (xs : List ℕ) → is_used (without k xs) k ≡ false
gone k [] = refl
gone k (x ∷ xs) = gone_step (x == k) k x (without k xs) refl (gone k xs)

no_more : (n m : ℕ) → n ≤ m → m ≡ 0 → n ≡ 0
no_more n m within none = omega (arith, within, none)

kept_used : (j k : ℕ) (xs : List ℕ) → is_used (without j xs) k ≡ true → is_used xs k ≡ true
kept_used j k xs there = by (is_used xs k) refl
  where
    by : (b : Bool) → is_used xs k ≡ b → is_used xs k ≡ true
    by true at = at
    by false at = absurd (false≢true (sym (none-used k (without j xs) (no_more (occurrences k (without j xs)) (occurrences k xs) (fewer j k xs) (unused-none k xs at))) ∙ there))

below_other : (k n : ℕ) → (k == n) ≡ false → k < suc n → k < n
below_other k n other within = grind (arith, other, within)

-- distinct numbers below a bound are no more than the bound
pub few-distinct : (bound : ℕ) (xs : List ℕ) → AreDistinctBelow bound xs → length xs ≤ bound
few-distinct zero [] distinct = omega arith
few-distinct zero (x ∷ xs) distinct = let below : x < 0 = distinct.below x (here x (is_used xs x)) in absurd (omega (arith, below))
  where
    here : (x : ℕ) (u : Bool) → ((x == x) || u) ≡ true
    here x u = grind arith
few-distinct (suc bound) xs distinct =
    let rest : length (without bound xs) ≤ bound = few-distinct bound (without bound xs) (record { once = λ k. less k; below = λ k there. smaller k there }) in
    let all = length-without bound xs in
    let one = distinct.once bound in
    omega (arith, rest, all, one)
  where
    less : (k : ℕ) → occurrences k (without bound xs) ≤ 1
    less k = let few = fewer bound k xs in let one = distinct.once k in omega (arith, few, one)

    smaller : (k : ℕ) → is_used (without bound xs) k ≡ true → k < bound
    smaller k there = by (k == bound) refl
      where
        by : (b : Bool) → (k == bound) ≡ b → k < bound
        by true at = absurd (false≢true (sym (gone bound xs) ∙ subst (λ n. is_used (without bound xs) n ≡ true) (eqb-true k bound at) there))
        by false at = let within : k < suc bound = distinct.below k (kept_used bound k xs there) in below_other k bound at within
