-- How often a number stands among those that handles hold.
use Rattle.std.proofs.Common.{◌≡◌, ℕ, zero, suc, ◌+◌, ◌≤◌, ◌==◌, ◌⊎◌, inl, inr, Bool, true, false, cond, List, [], ◌∷◌, ◌++◌, slice_get, slice_set, Some, refl, sym, ap, ◌∙◌, subst, arith}
use Rattle.std.proofs.lemmas.Grind.{flat_map-append}
use Rattle.std.proofs.lemmas.List.{append-nil}
use Rattle.wt_env.specs.Among.{Among}
use Rattle.wt_env.proofs.lists.Members.{among_before, among_behind}
use Rattle.wt_registry.specs.Holds.{times}
use Rattle.wt_session.specs.declared.handle.Handle.{Handle}
use Rattle.wt_session.specs.World.{numbers_held, held_in}

-- ---- how often

times-append : (n : ℕ) (xs ys : List ℕ) → times n (xs ++ ys) ≡ times n xs + times n ys
times-append n [] ys = omega arith
times-append n (x ∷ xs) ys = by (x == n) (times-append n xs ys)
  where
    by : (b : Bool) → times n (xs ++ ys) ≡ times n xs + times n ys → cond b (times n (xs ++ ys) + 1) (times n (xs ++ ys)) ≡ cond b (times n xs + 1) (times n xs) + times n ys
    by true later = omega (arith, later)
    by false later = later

pub among-times : (n : ℕ) (xs : List ℕ) → Among n xs → 1 ≤ times n xs
among-times n [] at = absurd at
among-times n (x ∷ xs) at = by (x == n) refl at (among-times n xs)
  where
    by : (b : Bool) → (x == n) ≡ b → (n ≡ x) ⊎ Among n xs → (Among n xs → 1 ≤ times n xs) → 1 ≤ cond b (times n xs + 1) (times n xs)
    by true e here later = omega arith
    by false e (inl same) later = absurd (grind (arith, e, same))
    by false e (inr there) later = later there

pub times-among : (n : ℕ) (xs : List ℕ) → 1 ≤ times n xs → Among n xs
times-among n [] some = absurd (omega (arith, some))
times-among n (x ∷ xs) some = by (x == n) refl some (times-among n xs)
  where
    by : (b : Bool) → (x == n) ≡ b → 1 ≤ cond b (times n xs + 1) (times n xs) → (1 ≤ times n xs → Among n xs) → (n ≡ x) ⊎ Among n xs
    by true e here later = inl (grind (arith, e))
    by false e there later = inr (later there)

-- ---- one handle more, or another in its place

pub times-pushed : (n : ℕ) (row : List Handle) (new : Handle) → times n (held_in (row ++ new ∷ [])) ≡ times n (held_in row) + times n (numbers_held new)
times-pushed n row new =
    ap (times n) (flat_map-append numbers_held row (new ∷ []))
    ∙ times-append n (held_in row) (numbers_held new ++ [])
    ∙ ap (λ (held : List ℕ). times n (held_in row) + times n held) (append-nil (numbers_held new))

same_handle : (a b : Handle) → Some a ≡ Some b → a ≡ b
same_handle a b h = cc

-- a handle that holds nothing stands where another stood
pub times-ended : (n : ℕ) (row : List Handle) (place : ℕ) (old new : Handle) → slice_get row place ≡ Some old → numbers_held new ≡ []
    → times n (held_in row) ≡ times n (held_in (slice_set row place new)) + times n (numbers_held old)
times-ended n [] place old new is none = absurd (cc)
times-ended n (h ∷ row) zero old new is none =
    ap (λ (first : Handle). times n (held_in (first ∷ row))) (same_handle h old is)
    ∙ times-append n (numbers_held old) (held_in row)
    ∙ swapped (times n (numbers_held old)) (times n (held_in row))
    ∙ ap (λ (held : List ℕ). times n (held ++ held_in row) + times n (numbers_held old)) (sym none)
  where
    swapped : (a b : ℕ) → a + b ≡ b + a
    swapped a b = omega arith
times-ended n (h ∷ row) (suc place) old new is none =
    let later = times-ended n row place old new is none in
    let before = times-append n (numbers_held h) (held_in row) in
    let after = times-append n (numbers_held h) (held_in (slice_set row place new)) in
    omega (arith, later, before, after)

-- ---- the handles themselves

-- what a handle holds, the party's handles hold
pub held-among : (row : List Handle) (own : Handle) (n : ℕ) → Among own row → Among n (numbers_held own) → Among n (held_in row)
held-among [] own n at holds = absurd at
held-among (h ∷ row) own n (inl same) holds = among_before (numbers_held h) (held_in row) n (subst (λ (first : Handle). Among n (numbers_held first)) same holds)
held-among (h ∷ row) own n (inr later) holds = among_behind (numbers_held h) (held_in row) n (held-among row own n later holds)

pub handle-times : (n : ℕ) (row : List Handle) (own : Handle) → Among own row → times n (numbers_held own) ≤ times n (held_in row)
handle-times n [] own at = absurd at
handle-times n (h ∷ row) own (inl same) =
    let here : times n (numbers_held h) ≡ times n (numbers_held own) = ap (λ (first : Handle). times n (numbers_held first)) (sym same) in
    let both = times-append n (numbers_held h) (held_in row) in
    omega (arith, here, both)
handle-times n (h ∷ row) own (inr later) =
    let rest = handle-times n row own later in
    let both = times-append n (numbers_held h) (held_in row) in
    omega (arith, rest, both)

-- what stands in a list with another in one place is that, or stood there
pub among_set : (row : List Handle) (place : ℕ) (new h : Handle) → Among h (slice_set row place new) → Among h row ⊎ (h ≡ new)
among_set [] place new h at = absurd at
among_set (first ∷ row) zero new h (inl same) = inr same
among_set (first ∷ row) zero new h (inr later) = inl (inr later)
among_set (first ∷ row) (suc place) new h (inl same) = inl (inl same)
among_set (first ∷ row) (suc place) new h (inr later) = elim (among_set row place new h later) [ inl there ↦ inl (inr there) | inr same ↦ inr same ]

pub got-among : (row : List Handle) (place : ℕ) (h : Handle) → slice_get row place ≡ Some h → Among h row
got-among [] place h is = absurd (cc)
got-among (first ∷ row) zero h is = inl (sym (same_handle first h is))
got-among (first ∷ row) (suc place) h is = inr (got-among row place h is)
