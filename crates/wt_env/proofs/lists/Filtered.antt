-- What a filter keeps of a list.
use Rattle.std.proofs.Common.{◌≡◌, ◌⊎◌, inl, inr, ◌≤◌, Bool, true, false, cond, List, [], ◌∷◌, length, map, refl, sym, ap, ◌∙◌, arith}
use Rattle.std.specs.List.{filter}
use Rattle.std.proofs.lemmas.Bool.{false≢true}
use Rattle.std.proofs.lemmas.List.Sums.{length-filter, count_by-le-length}
use Rattle.wt_env.specs.Among.{Among}

-- what is kept stood there, and passes
pub among_filter : {A : Type 0} (keep : A → Bool) (xs : List A) (x : A) → Among x (filter keep xs) → Among x xs × (keep x ≡ true)
among_filter keep [] x at = absurd at
among_filter {A} keep (y ∷ ys) x at = by (keep y) refl at (among_filter keep ys x)
  where
    by : (b : Bool) → keep y ≡ b → Among x (cond b (y ∷ filter keep ys) (filter keep ys))
        → (Among x (filter keep ys) → Among x ys × (keep x ≡ true)) → ((x ≡ y) ⊎ Among x ys) × (keep x ≡ true)
    by true e (inl same) later = (inl same, ap keep same ∙ e)
    by true e (inr there) later = let found = later there in (inr found.0, found.1)
    by false e there later = let found = later there in (inr found.0, found.1)

-- and what stood there and passes is kept
pub filter_among : {A : Type 0} (keep : A → Bool) (xs : List A) (x : A) → Among x xs → keep x ≡ true → Among x (filter keep xs)
filter_among keep [] x at passes = absurd at
filter_among {A} keep (y ∷ ys) x at passes = by (keep y) refl at (λ there. filter_among keep ys x there passes)
  where
    by : (b : Bool) → keep y ≡ b → (x ≡ y) ⊎ Among x ys → (Among x ys → Among x (filter keep ys))
        → Among x (cond b (y ∷ filter keep ys) (filter keep ys))
    by true e (inl same) later = inl same
    by true e (inr there) later = inr (later there)
    by false e (inl same) later = absurd (false≢true (sym e ∙ (ap keep (sym same) ∙ passes)))
    by false e (inr there) later = later there

-- there are no more than there were
pub filter_shorter : {A : Type 0} (keep : A → Bool) (xs : List A) → length (filter keep xs) ≤ length xs
filter_shorter keep xs = omega (arith, length-filter keep xs, count_by-le-length keep xs)

-- what a function makes of those that are kept is what is kept of what it makes
pub map_filter : {A B : Type 0} (f : A → B) (keep : B → Bool) (xs : List A) → map f (filter (λ x. keep (f x)) xs) ≡ filter keep (map f xs)
map_filter f keep [] = refl
map_filter {A} {B} f keep (x ∷ xs) = by (keep (f x)) (map_filter f keep xs)
  where
    kept : List A
    kept = filter (λ y. keep (f y)) xs

    by : (b : Bool) → map f kept ≡ filter keep (map f xs) → map f (cond b (x ∷ kept) kept) ≡ cond b (f x ∷ filter keep (map f xs)) (filter keep (map f xs))
    by true later = ap (λ ys. f x ∷ ys) later
    by false later = later
