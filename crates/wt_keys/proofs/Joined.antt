-- Two lists that are searched as one: what is found is found in the first, or else in the second.
use Rattle.std.proofs.Common.{◌≡◌, Bool, List, ◌++◌, Some, None, sym, ap, ◌∙◌}
use Rattle.std.specs.List.{find}
use Rattle.std.specs.Option.{option_or}
use Rattle.std.proofs.lemmas.List.Folds.{find-append}

pub find_first : {A : Type 0} (p : A → Bool) (xs ys : List A) (x : A) → Some x ≡ find p xs → Some x ≡ find p (xs ++ ys)
find_first p xs ys x is = ap (λ found. option_or found (find p ys)) is ∙ sym (find-append p xs ys)

pub find_second : {A : Type 0} (p : A → Bool) (xs ys : List A) → None ≡ find p xs → find p ys ≡ find p (xs ++ ys)
find_second p xs ys none = ap (λ found. option_or found (find p ys)) none ∙ sym (find-append p xs ys)
