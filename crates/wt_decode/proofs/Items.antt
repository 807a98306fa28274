-- How many items there are, where a definition looks at them one by one.
use Rattle.std.proofs.Common.{◌≡◌, ◌≢◌, ℕ, ◌+◌, ◌<◌, List, [], ◌∷◌, ◌++◌, length, drop, get_or, Option, Some, None, option_map, option_and_then, refl, sym, ◌∙◌, ap}
use Rattle.std.proofs.lemmas.List.{append_assoc, drop_more}
use Rattle.serde_json.specs.Data.{Data}
use Rattle.serde_json.specs.View.{view, items_view}
use Rattle.serde_json.specs.declared.value.Value.{Value}
use Rattle.wt_decode.specs.Json.{each_of, two_of}

-- other than two items stand for nothing
pub two_of-not_two : {X : Type 0} (read : Data → Data → Option X) (xs : List Value) → length xs ≢ 2 → two_of read (items_view xs) ≡ None
two_of-not_two read [] other = refl
two_of-not_two read (x ∷ []) other = refl
two_of-not_two read (x ∷ y ∷ []) other = absurd (other refl)
two_of-not_two read (x ∷ y ∷ z ∷ xs) other = refl

-- what the element at a place stands for goes to the end of what those before it stand for
pub each_of-kept : {X : Type 0} (read : Data → Option X) (all : Option (List X)) (front : List X) (x : X) (values : List Value) (place : ℕ) (value : Value) → place < length values → value ≡ get_or values place value → read (view value) ≡ Some x
    → all ≡ option_map (λ rest. front ++ rest) (each_of read (items_view (drop place values))) → all ≡ option_map (λ rest. (front ++ x ∷ []) ++ rest) (each_of read (items_view (drop (place + 1) values)))
each_of-kept {X} read all front x values place value within at is before =
    before ∙ ap (λ (left : List Value). option_map (λ rest. front ++ rest) (each_of read (items_view left))) (drop_more values place value within ∙ ap (λ (first : Value). first ∷ later) (sym at))
    ∙ ap (λ o. option_map (λ rest. front ++ rest) (put_first o)) is ∙ joined (each_of read (items_view later))
  where
    later : List Value
    later = drop (place + 1) values

    put_first : Option X → Option (List X)
    put_first o = option_and_then (λ y. option_map (λ xs. y ∷ xs) (each_of read (items_view later))) o

    joined : (o : Option (List X)) → option_map (λ rest. front ++ rest) (option_map (λ xs. x ∷ xs) o) ≡ option_map (λ rest. (front ++ x ∷ []) ++ rest) o
    joined None = refl
    joined (Some xs) = ap Some (sym (append_assoc front (x ∷ []) xs))
