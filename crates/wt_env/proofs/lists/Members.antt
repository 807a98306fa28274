-- What stands in a list and where, and what a search of it finds.
use Rattle.std.proofs.Common.{◌≡◌, ℕ, zero, suc, ◌+◌, ◌⊎◌, inl, inr, Bool, true, false, cond, ◌||◌, List, [], ◌∷◌, ◌++◌, map, slice_get, Some, None, option_map, refl, sym, ap, ◌∙◌}
use Rattle.std.specs.List.{find, list_any, position_from}
use Rattle.wt_env.specs.Among.{Among}
use Rattle.wt_env.proofs.lists.Found.{neither}

pub first_same : {A : Type 0} {x y : A} {xs ys : List A} → x ∷ xs ≡ y ∷ ys → x ≡ y
first_same h = cc

pub rest_same : {A : Type 0} {x y : A} {xs ys : List A} → x ∷ xs ≡ y ∷ ys → xs ≡ ys
rest_same h = cc

pub some_same : {A : Type 0} {x y : A} → Some x ≡ Some y → x ≡ y
some_same h = cc

-- what is at a place of a list stands in it
pub get_among : {A : Type 0} (xs : List A) (k : ℕ) (x : A) → slice_get xs k ≡ Some x → Among x xs
get_among [] k x is = absurd (cc)
get_among (y ∷ ys) zero x is = inl (sym (some_same is))
get_among (y ∷ ys) (suc k) x is = inr (get_among ys k x is)

-- what stands in a list to which something is added is that or stood there
pub among_pushed : {A : Type 0} (xs : List A) (x y : A) → Among y (xs ++ x ∷ []) → Among y xs ⊎ (y ≡ x)
among_pushed [] x y (inl same) = inr same
among_pushed [] x y (inr none) = absurd none
among_pushed (z ∷ zs) x y (inl same) = inl (inl same)
among_pushed {A} (z ∷ zs) x y (inr later) = by (among_pushed zs x y later)
  where
    by : Among y zs ⊎ (y ≡ x) → ((y ≡ z) ⊎ Among y zs) ⊎ (y ≡ x)
    by (inl there) = inl (inr there)
    by (inr same) = inr same

-- what stood in a list still does where more is added
pub among_before : {A : Type 0} (xs more : List A) (x : A) → Among x xs → Among x (xs ++ more)
among_before [] more x at = absurd at
among_before (y ∷ ys) more x (inl same) = inl same
among_before (y ∷ ys) more x (inr later) = inr (among_before ys more x later)

-- and what is added stands behind
pub among_behind : {A : Type 0} (xs more : List A) (x : A) → Among x more → Among x (xs ++ more)
among_behind [] more x at = at
among_behind (y ∷ ys) more x at = inr (among_behind ys more x at)

-- what stands in two lists stands in one of them
pub among_either : {A : Type 0} (xs more : List A) (x : A) → Among x (xs ++ more) → Among x xs ⊎ Among x more
among_either [] more x at = inr at
among_either (y ∷ ys) more x (inl same) = inl (inl same)
among_either {A} (y ∷ ys) more x (inr later) = by (among_either ys more x later)
  where
    by : Among x ys ⊎ Among x more → ((x ≡ y) ⊎ Among x ys) ⊎ Among x more
    by (inl there) = inl (inr there)
    by (inr behind) = inr behind

-- ---- tests

-- two tests of which each implies the other are one
pub same_test : (a b : Bool) → (a ≡ true → b ≡ true) → (b ≡ true → a ≡ true) → a ≡ b
same_test true b there back = sym (there refl)
same_test false true there back = back refl
same_test false false there back = refl

-- a test that something at a place of the list passes
pub some_passes : {A : Type 0} (p : A → Bool) (xs : List A) (k : ℕ) (x : A) → slice_get xs k ≡ Some x → p x ≡ true → list_any p xs ≡ true
some_passes p [] k x is passes = absurd (cc)
some_passes p (y ∷ ys) zero x is passes = ap (λ b. b || list_any p ys) (ap p (some_same is) ∙ passes)
some_passes {A} p (y ∷ ys) (suc k) x is passes = or_true (p y) (list_any p ys) (some_passes p ys k x is passes)
  where
    or_true : (a b : Bool) → b ≡ true → (a || b) ≡ true
    or_true true b h = refl
    or_true false b h = h

-- where none passes, none is found
pub none_at : {A : Type 0} (p : A → Bool) (from : ℕ) (xs : List A) → list_any p xs ≡ false → position_from p from xs ≡ None
none_at p from [] none = refl
none_at p from (x ∷ xs) none =
    let both = neither (p x) (list_any p xs) none in
    ap (λ b. cond b (Some from) (position_from p (from + 1) xs)) both.0 ∙ none_at p (from + 1) xs both.1

-- ---- searches

-- two tests that agree find the same
pub find-map : {A B : Type 0} (f : A → B) (p : A → Bool) (q : B → Bool) (xs : List A) → ((x : A) → Among x xs → p x ≡ q (f x)) → find q (map f xs) ≡ option_map f (find p xs)
find-map f p q [] same = refl
find-map {A} {B} f p q (x ∷ xs) same = by (p x) (q (f x)) (same x (inl refl)) (find-map f p q xs (λ y at. same y (inr at)))
  where
    by : (b c : Bool) → b ≡ c → find q (map f xs) ≡ option_map f (find p xs) → cond c (Some (f x)) (find q (map f xs)) ≡ option_map f (cond b (Some x) (find p xs))
    by true c is rest = ap (λ d. cond d (Some (f x)) (find q (map f xs))) (sym is)
    by false c is rest = ap (λ d. cond d (Some (f x)) (find q (map f xs))) (sym is) ∙ rest

-- what is found passes the test and stands in the list
pub find-found : {A : Type 0} (p : A → Bool) (xs : List A) (x : A) → find p xs ≡ Some x → (p x ≡ true) × Among x xs
find-found p [] x is = absurd (cc)
find-found {A} p (y ∷ ys) x is = by (p y) refl is (find-found p ys x)
  where
    by : (b : Bool) → p y ≡ b → cond b (Some y) (find p ys) ≡ Some x → (find p ys ≡ Some x → (p x ≡ true) × Among x ys) → (p x ≡ true) × ((x ≡ y) ⊎ Among x ys)
    by true passes here later = (ap p (sym (some_same here)) ∙ passes, inl (sym (some_same here)))
    by false passes there later = let rest = later there in (rest.0, inr rest.1)

-- where nothing is found, nothing in the list passes
pub find-none : {A : Type 0} (p : A → Bool) (xs : List A) → find p xs ≡ None → (x : A) → Among x xs → p x ≡ false
find-none p [] is x at = absurd at
find-none {A} p (y ∷ ys) is x at = by (p y) refl is at (find-none p ys)
  where
    by : (b : Bool) → p y ≡ b → cond b (Some y) (find p ys) ≡ None → (x ≡ y) ⊎ Among x ys → (find p ys ≡ None → (z : A) → Among z ys → p z ≡ false) → p x ≡ false
    by true passes found there later = absurd (cc)
    by false passes found (inl same) later = ap p same ∙ passes
    by false passes found (inr there) later = later found x there
