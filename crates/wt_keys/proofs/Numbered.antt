-- Entries in the order of their numbers: each number is that of one entry alone.
use Rattle.std.proofs.Common.{◌≡◌, ℕ, ◌<◌, ◌≤◌, ◌⊎◌, inl, inr, Bool, true, false, List, [], ◌∷◌, ◌++◌, if◌then◌else◌, Some, None, refl, sym, ap, subst, ◌∙◌, arith}
use Rattle.std.specs.List.{find}
use Rattle.std.proofs.lemmas.Bool.{false≢true}
use Rattle.wt_env.specs.Among.{Among}
use Rattle.wt_keys.specs.declared.entry.RecGroupEntry.{RecGroupEntry}
use Rattle.wt_keys.specs.Marks.{marked_items}
use Rattle.wt_keys.specs.Filed.{NumbersRise}

-- ---- what is found in a list

pub found-none : {A : Type 0} (p : A → Bool) (xs : List A) → ((x : A) → Among x xs → p x ≡ true → ⊥) → find p xs ≡ None
found-none p [] none = refl
found-none {A} p (x ∷ xs) none = by (p x) refl (found-none p xs (λ y at. none y (inr at)))
  where
    by : (b : Bool) → p x ≡ b → find p xs ≡ None → (if b then Some x else find p xs) ≡ None
    by true is later = absurd (none x (inl refl) is)
    by false is later = later

-- the only one that passes is found
pub found-only : {A : Type 0} (p : A → Bool) (xs : List A) (x : A) → Among x xs → p x ≡ true → ((y : A) → Among y xs → p y ≡ true → y ≡ x) → find p xs ≡ Some x
found-only p [] x at is only = absurd at
found-only {A} p (z ∷ zs) x at is only = by (p z) refl at (λ later. found-only p zs x later is (λ y there. only y (inr there)))
  where
    by : (b : Bool) → p z ≡ b → (x ≡ z) ⊎ Among x zs → (Among x zs → find p zs ≡ Some x) → (if b then Some z else find p zs) ≡ Some x
    by true here stands later = ap Some (only z (inl refl) here)
    by false here (inl same) later = absurd (false≢true (sym here ∙ ap p (sym same) ∙ is))
    by false here (inr there) later = later there

-- ---- numbers that rise

pub rise-weaker : (low high : ℕ) (entries : List RecGroupEntry) → low ≤ high → NumbersRise high entries → NumbersRise low entries
rise-weaker low high [] le rises = tt
rise-weaker low high (e ∷ es) le rises = (omega (arith, le, rises.0), rises.1)

pub rise-above : (low : ℕ) (entries : List RecGroupEntry) (e : RecGroupEntry) → NumbersRise low entries → Among e entries → low < e.number
rise-above low [] e rises at = absurd at
rise-above low (x ∷ xs) e rises (inl same) = subst (λ (y : RecGroupEntry). low < y.number) (sym same) rises.0
rise-above low (x ∷ xs) e rises (inr later) = let above = rise-above x.number xs e rises.1 later in omega (arith, rises.0, above)

pub one-of_number : (low : ℕ) (entries : List RecGroupEntry) (a b : RecGroupEntry) → NumbersRise low entries → Among a entries → Among b entries → a.number ≡ b.number → a ≡ b
one-of_number low [] a b rises at there same = absurd at
one-of_number low (x ∷ xs) a b rises (inl here) (inl also) same = here ∙ sym also
one-of_number low (x ∷ xs) a b rises (inl here) (inr later) same =
    let above = rise-above x.number xs b rises.1 later in
    absurd (omega (arith, above, same, ap (λ (e : RecGroupEntry). e.number) here))
one-of_number low (x ∷ xs) a b rises (inr later) (inl here) same =
    let above = rise-above x.number xs a rises.1 later in
    absurd (omega (arith, above, same, ap (λ (e : RecGroupEntry). e.number) here))
one-of_number low (x ∷ xs) a b rises (inr later) (inr also) same = one-of_number x.number xs a b rises.1 later also same

-- what stands behind others
pub rise-behind : (low : ℕ) (front entries : List RecGroupEntry) → NumbersRise low (front ++ entries) → NumbersRise low entries
rise-behind low [] entries rises = rises
rise-behind low (x ∷ xs) entries rises = rise-weaker low x.number entries (omega (arith, rises.0)) (rise-behind x.number xs entries rises.1)

pub rise-front : (low : ℕ) (front entries : List RecGroupEntry) → NumbersRise low (front ++ entries) → NumbersRise low front
rise-front low [] entries rises = tt
rise-front low (x ∷ xs) entries rises = (rises.0, rise-front x.number xs entries rises.1)

-- what is marked
pub rise-marked : (low : ℕ) (marks : List Bool) (entries : List RecGroupEntry) → NumbersRise low entries → NumbersRise low (marked_items marks entries)
rise-marked low [] entries rises = tt
rise-marked low (mark ∷ marks) [] rises = tt
rise-marked low (true ∷ marks) (x ∷ xs) rises = (rises.0, rise-marked x.number marks xs rises.1)
rise-marked low (false ∷ marks) (x ∷ xs) rises = rise-weaker low x.number (marked_items marks xs) (omega (arith, rises.0)) (rise-marked x.number marks xs rises.1)
