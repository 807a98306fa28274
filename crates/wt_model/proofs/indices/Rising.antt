-- The registration numbers rise, so they are distinct and none is above the last.
use Rattle.std.proofs.Common.{◌≡◌, ℕ, ◌+◌, ◌<◌, ◌≤◌, inl, inr, List, [], ◌∷◌, ◌++◌, sym, ap, subst, ◌∙◌, arith}
use Rattle.wt_model.specs.Registered.{RegisteredGroup}
use Rattle.wt_env.specs.Among.{Among}
use Rattle.wt_model.specs.Sound.{IsRising}

above_low : (low top : ℕ) (made : List RegisteredGroup) (a : RegisteredGroup) → IsRising low made top → Among a made → low < a.number
above_low low top [] a rising at = absurd at
above_low low top (x ∷ xs) a rising (inl same) = subst (λ (y : RegisteredGroup). low < y.number) (sym same) rising.0
above_low low top (x ∷ xs) a rising (inr later) = let above = above_low x.number top xs a rising.1 later in omega (arith, rising.0, above)

low_within : (low top : ℕ) (made : List RegisteredGroup) → IsRising low made top → low ≤ top
low_within low top [] rising = rising
low_within low top (x ∷ xs) rising = let rest = low_within x.number top xs rising.1 in omega (arith, rising.0, rest)

-- no number is above top
pub number_within : (low top : ℕ) (made : List RegisteredGroup) (a : RegisteredGroup) → IsRising low made top → Among a made → a.number ≤ top
number_within low top [] a rising at = absurd at
number_within low top (x ∷ xs) a rising (inl same) = subst (λ (y : RegisteredGroup). y.number ≤ top) (sym same) (low_within x.number top xs rising.1)
number_within low top (x ∷ xs) a rising (inr later) = number_within x.number top xs a rising.1 later

-- two registered groups with one number are one
pub one_number : (low top : ℕ) (made : List RegisteredGroup) (a b : RegisteredGroup) → IsRising low made top → Among a made → Among b made → a.number ≡ b.number → a ≡ b
one_number low top [] a b rising at bt same = absurd at
one_number low top (x ∷ xs) a b rising (inl e) (inl f) same = e ∙ sym f
one_number low top (x ∷ xs) a b rising (inl e) (inr later) same =
    let above = above_low x.number top xs b rising.1 later in
    let equal = sym (ap (λ (m : RegisteredGroup). m.number) e) ∙ same in
    absurd (omega (arith, above, equal))
one_number low top (x ∷ xs) a b rising (inr later) (inl f) same =
    let above = above_low x.number top xs a rising.1 later in
    let equal = same ∙ ap (λ (m : RegisteredGroup). m.number) f in
    absurd (omega (arith, above, equal))
one_number low top (x ∷ xs) a b rising (inr later) (inr later') same = one_number x.number top xs a b rising.1 later later' same

-- the numbers still rise where the next is added
pub rising-pushed : (low top : ℕ) (made : List RegisteredGroup) (m : RegisteredGroup) → IsRising low made top → m.number ≡ top + 1 → IsRising low (made ++ m ∷ []) (top + 1)
rising-pushed low top [] m rising next = (omega (arith, rising, next), omega (arith, next))
rising-pushed low top (x ∷ xs) m rising next = (rising.0, rising-pushed x.number top xs m rising.1 next)
