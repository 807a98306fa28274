-- What stands in a list, through a map and at the list's end.
use Rattle.std.proofs.Common.{◌≡◌, List, [], ◌∷◌, ◌++◌, map, inl, inr, refl, ap}
use Rattle.wt_env.specs.Among.{Among}

pub among_map : {A B : Type 0} (f : A → B) (xs : List A) (y : B) → Among y (map f xs) → (x : A) × Among x xs × (y ≡ f x)
among_map f [] y at = absurd at
among_map f (x ∷ xs) y (inl same) = (x, inl refl, same)
among_map f (x ∷ xs) y (inr later) = let found = among_map f xs y later in (found.0, inr found.1, found.2)

pub among_mapped : {A B : Type 0} (f : A → B) (xs : List A) (x : A) → Among x xs → Among (f x) (map f xs)
among_mapped f [] x at = absurd at
among_mapped f (y ∷ ys) x (inl same) = inl (ap f same)
among_mapped f (y ∷ ys) x (inr later) = inr (among_mapped f ys x later)

pub among_last : {A : Type 0} (xs : List A) (x : A) → Among x (xs ++ x ∷ [])
among_last [] x = inl refl
among_last (y ∷ ys) x = inr (among_last ys x)
