-- How often numbers stand in lists.
use Rattle.std.proofs.Common.{◌≡◌, ◌≢◌, ℕ, suc, ◌+◌, ◌≤◌, ◌==◌, ◌⊎◌, inl, inr, Bool, true, false, cond, not, ◌||◌, List, [], ◌∷◌, ◌++◌, length, refl, sym, ap, ◌∙◌, arith, eq-eqb}
use Rattle.std.specs.List.{filter}
use Rattle.std.proofs.lemmas.Bool.{false_from_ne_true}
use Rattle.wt_env.specs.Among.{Among}
use Rattle.wt_model.specs.Registered.{RegisteredGroup}
use Rattle.wt_model.specs.Holds.{times, is_registered}
use Rattle.wt_holds.specs.References.{one_if}

pub same_number : (n m : ℕ) → (n == m) ≡ true → n ≡ m
same_number n m h = grind (arith, h)

pub differ : (n m : ℕ) → (n == m) ≡ false → n ≢ m
differ n m e same = grind (arith, e, same)

pub not_same : (n m : ℕ) → n ≢ m → (n == m) ≡ false
not_same n m other = false_from_ne_true (n == m) (λ h. other (same_number n m h))

pub times-append : (n : ℕ) (before more : List ℕ) → times n (before ++ more) ≡ times n before + times n more
times-append n [] more = omega arith
times-append n (m ∷ before) more = by (m == n) (times-append n before more)
  where
    by : (b : Bool) → times n (before ++ more) ≡ times n before + times n more → cond b (times n (before ++ more) + 1) (times n (before ++ more)) ≡ cond b (times n before + 1) (times n before) + times n more
    by true later = omega (arith, later)
    by false later = later

pub times-first : (n m : ℕ) (rest : List ℕ) → times n (m ∷ rest) ≡ one_if (m == n) + times n rest
times-first n m rest = by (m == n)
  where
    by : (b : Bool) → cond b (times n rest + 1) (times n rest) ≡ one_if b + times n rest
    by true = omega arith
    by false = omega arith

pub times-last : (n m : ℕ) (rest : List ℕ) → times n (rest ++ m ∷ []) ≡ times n rest + one_if (m == n)
times-last n m rest = let last = times-first n m [] in let all = times-append n rest (m ∷ []) in omega (arith, last, all)

pub times-among : (n : ℕ) (xs : List ℕ) → 1 ≤ times n xs → Among n xs
times-among n [] some = absurd (omega (arith, some))
times-among n (m ∷ xs) some = by (m == n) refl some (times-among n xs)
  where
    by : (b : Bool) → (m == n) ≡ b → 1 ≤ cond b (times n xs + 1) (times n xs) → (1 ≤ times n xs → Among n xs) → (n ≡ m) ⊎ Among n xs
    by true e here later = inl (sym (same_number m n e))
    by false e there later = inr (later there)

pub among-times : (n : ℕ) (xs : List ℕ) → Among n xs → 1 ≤ times n xs
among-times n [] at = absurd at
among-times n (m ∷ xs) (inl same) = let one = ap one_if (eq-eqb m n (sym same)) in let first = times-first n m xs in omega (arith, one, first)
among-times n (m ∷ xs) (inr later) = let first = times-first n m xs in let rest = among-times n xs later in omega (arith, first, rest)

-- ---- the stack is no longer than what is registered

abbrev pub without : ℕ → List ℕ → List ℕ
without n xs = filter (λ m. not (m == n)) xs

length-without : (n : ℕ) (xs : List ℕ) → length xs ≡ times n xs + length (without n xs)
length-without n [] = omega arith
length-without n (m ∷ xs) = by (m == n) (length-without n xs)
  where
    by : (b : Bool) → length xs ≡ times n xs + length (without n xs) → suc (length xs) ≡ cond b (times n xs + 1) (times n xs) + length (cond (not b) (m ∷ without n xs) (without n xs))
    by true later = omega (arith, later)
    by false later = omega (arith, later)

times-without : (n k : ℕ) (xs : List ℕ) → times k (without n xs) ≡ cond (k == n) 0 (times k xs)
times-without n k [] = by (k == n)
  where
    by : (b : Bool) → ◌≡◌ {A = ℕ} 0 (cond b 0 0)
    by true = refl
    by false = refl
times-without n k (m ∷ xs) = by (m == n) refl (m == k) refl (k == n) refl (times-without n k xs)
  where
    by : (a : Bool) → (m == n) ≡ a → (b : Bool) → (m == k) ≡ b → (c : Bool) → (k == n) ≡ c → times k (without n xs) ≡ cond c 0 (times k xs)
        → times k (cond (not a) (m ∷ without n xs) (without n xs)) ≡ cond c 0 (cond b (times k xs + 1) (times k xs))
    by true e b f true g later = later
    by true e true f false g later = absurd (differ k n g (sym (same_number m k f) ∙ same_number m n e))
    by true e false f false g later = later
    by false e true f true g later = absurd (differ m n e (same_number m k f ∙ same_number k n g))
    by false e true f false g later = ap (λ b. cond b (times k (without n xs) + 1) (times k (without n xs))) f ∙ ap (λ t. t + 1) later
    by false e false f true g later = ap (λ b. cond b (times k (without n xs) + 1) (times k (without n xs))) f ∙ later
    by false e false f false g later = ap (λ b. cond b (times k (without n xs) + 1) (times k (without n xs))) f ∙ later

-- a list in which each number stands once at most, and only where it is registered
pub room : (made : List RegisteredGroup) (stack : List ℕ) → ((n : ℕ) → times n stack ≤ one_if (is_registered made n)) → length stack ≤ length made
room [] [] once = omega arith
room [] (n ∷ stack) once =
    let own = among-times n (n ∷ stack) (inl refl) in let most = once n in absurd (omega (arith, own, most))
room (x ∷ made) stack once =
    let rest = room made (without x.number stack) (λ n. by n (x.number == n) refl (once n)) in
    let first = once x.number in
    let long = length-without x.number stack in
    let most = at_most (x.number == x.number || is_registered made x.number) in
    omega (arith, rest, first, long, most)
  where
    at_most : (b : Bool) → one_if b ≤ 1
    at_most true = omega arith
    at_most false = omega arith

    by : (n : ℕ) (b : Bool) → (x.number == n) ≡ b → times n stack ≤ one_if (b || is_registered made n) → times n (without x.number stack) ≤ one_if (is_registered made n)
    by n true e most =
        let none = times-without x.number n stack ∙ ap (λ b. cond b 0 (times n stack)) (eq-eqb n x.number (sym (same_number x.number n e))) in
        omega (arith, none)
    by n false e most =
        let same = times-without x.number n stack ∙ ap (λ b. cond b 0 (times n stack)) (not_same n x.number (λ h. differ x.number n e (sym h))) in
        omega (arith, same, most)
