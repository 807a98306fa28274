-- A list from a place on, as its front and what comes after the front.
use Rattle.std.proofs.Common.{◌≡◌, ℕ, ◌+◌, ◌≤◌, List, ◌++◌, length, take, drop, sym, ◌∙◌, ap}
use Rattle.std.proofs.lemmas.List.{drop-drop, take-append-drop, take_at, length-take-le}

pub parted : (xs front : List ℕ) (place count : ℕ) → front ≡ take count (drop place xs)
    → drop place xs ≡ front ++ drop (place + count) xs
parted xs front place count e =
    rw (e, ← drop-drop count place xs) (sym (take-append-drop count (drop place xs)))

-- the front of a buffer, once the front of what was left is copied there, is that front
pub copied : (rest new old : List ℕ) (count : ℕ) → count ≤ length rest → new ≡ take count rest
    → take count (new ++ drop count old) ≡ take count rest
copied rest new old count fits e =
    let size : length new ≡ count = ap (λ l. length l) e ∙ length-take-le count rest fits in
    take_at new (drop count old) count size ∙ e
