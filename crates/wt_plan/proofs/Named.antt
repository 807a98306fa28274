-- What the references of a key name, one after another.
use Rattle.std.proofs.Common.{◌≡◌, ℕ, zero, suc, ◌+◌, ◌<◌, List, [], ◌∷◌, ◌++◌, length, map, take, get_or, Option, Some, None, sym, ap, ◌∙◌, arith}
use Rattle.std.proofs.lemmas.List.{map-append, take_more}
use Rattle.wt_env.proofs.lists.Members.{first_same, rest_same}

-- where all are something, none is nothing
pub none_missing : {A B : Type 0} (f : A → Option B) (xs : List A) (os : List B) (n : ℕ) (d : A) → n < length xs → map f xs ≡ map Some os → f (get_or xs n d) ≡ None → ⊥
none_missing f [] os n d below all none = absurd (omega (arith, below))
none_missing f (x ∷ xs) [] n d below all none = absurd (cc)
none_missing f (x ∷ xs) (o ∷ os) zero d below all none = let here : f x ≡ Some o = first_same all in absurd (cc)
none_missing f (x ∷ xs) (o ∷ os) (suc n) d below all none = none_missing f xs os n d (omega (arith, below)) (rest_same all) none

-- one more that is something
pub some_more : {A B : Type 0} (f : A → Option B) (xs : List A) (os : List B) (n : ℕ) (d : A) (o : B) → n < length xs → map f (take n xs) ≡ map Some os → f (get_or xs n d) ≡ Some o → map f (take (n + 1) xs) ≡ map Some (os ++ o ∷ [])
some_more f xs os n d o below so_far one =
    ap (map f) (take_more xs n d below)
    ∙ map-append f (take n xs) (get_or xs n d ∷ [])
    ∙ (λ t. so_far t ++ one t ∷ [])
    ∙ sym (map-append Some os (o ∷ []))
