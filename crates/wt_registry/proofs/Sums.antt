-- How many types and references entries have, and how often a number occurs: of two lists, and of one more at the end.
use Rattle.std.proofs.Common.{◌≡◌, ◌≢◌, ℕ, ◌+◌, ◌<◌, ◌==◌, Bool, true, false, cond, List, [], ◌∷◌, ◌++◌, length, map, take, get_or, sym, ap, ◌∙◌, arith, eq-eqb}
use Rattle.std.proofs.lemmas.List.{take_more, map-append, length-append}
use Rattle.std.proofs.lemmas.List.Concat.{flat_map-append}
use Rattle.wt_keys.specs.declared.entry.RecGroupEntry.{RecGroupEntry}
use Rattle.wt_model.specs.Registered.{RegisteredGroup}
use Rattle.wt_model.specs.Indices.{used}
use Rattle.wt_keys.specs.Entries.{made_of, made_by}
use Rattle.wt_model.specs.Reach.{edges}
use Rattle.wt_model.specs.Limits.{references_of}
use Rattle.wt_model.specs.Holds.{times}

references_of-append : (before more : List RegisteredGroup) → references_of (before ++ more) ≡ references_of before + references_of more
references_of-append [] more = omega arith
references_of-append (made ∷ before) more = ap (λ n. length (edges made) + n) (references_of-append before more) ∙ omega arith

-- a turn of a loop over entries
pub references_of-turn : (entries : List RecGroupEntry) (n : ℕ) (entry : RecGroupEntry) → n < length entries → entry ≡ get_or entries n entry
    → references_of (made_by (take (n + 1) entries)) ≡ references_of (made_by (take n entries)) + length (edges (made_of entry))
references_of-turn entries n entry below is =
    let here : length (edges (made_of (get_or entries n entry))) ≡ length (edges (made_of entry)) = ap (λ (e : RecGroupEntry). length (edges (made_of e))) (sym is) in
    ap (λ es. references_of (made_by es)) (take_more entries n entry below)
    ∙ ap references_of (map-append made_of (take n entries) (get_or entries n entry ∷ []))
    ∙ references_of-append (made_by (take n entries)) (made_by (get_or entries n entry ∷ []))
    ∙ omega (arith, here)

times-append : (number : ℕ) (before more : List ℕ) → times number (before ++ more) ≡ times number before + times number more
times-append number [] more = omega arith
times-append number (n ∷ before) more = by (n == number) (times-append number before more)
  where
    by : (b : Bool) → times number (before ++ more) ≡ times number before + times number more
        → cond b (times number (before ++ more) + 1) (times number (before ++ more)) ≡ cond b (times number before + 1) (times number before) + times number more
    by true later = omega (arith, later)
    by false later = later

turn : (number : ℕ) (numbers : List ℕ) (n d : ℕ) → n < length numbers
    → times number (take (n + 1) numbers) ≡ times number (take n numbers) + cond (get_or numbers n d == number) 1 0
turn number numbers n d below =
    ap (times number) (take_more numbers n d below)
    ∙ times-append number (take n numbers) (get_or numbers n d ∷ [])

differ : (a b : ℕ) → a ≢ b → (a == b) ≡ false
differ a b apart = grind arith

-- a turn of a loop over numbers, at the number and at another
pub times-here : (number : ℕ) (numbers : List ℕ) (n d : ℕ) → n < length numbers → get_or numbers n d ≡ number
    → times number (take (n + 1) numbers) ≡ times number (take n numbers) + 1
times-here number numbers n d below same =
    turn number numbers n d below ∙ ap (λ b. times number (take n numbers) + cond b 1 0) (eq-eqb (get_or numbers n d) number same)

pub times-other : (number : ℕ) (numbers : List ℕ) (n d : ℕ) → n < length numbers → get_or numbers n d ≢ number
    → times number (take (n + 1) numbers) ≡ times number (take n numbers)
times-other number numbers n d below other =
    turn number numbers n d below ∙ ap (λ b. times number (take n numbers) + cond b 1 0) (differ (get_or numbers n d) number other) ∙ omega arith

-- ---- of two lists

pub types-append : (before more : List RecGroupEntry) → length (used (made_by (before ++ more))) ≡ length (used (made_by before)) + length (used (made_by more))
types-append before more =
    ap (λ made. length (used made)) (map-append made_of before more)
    ∙ ap length (flat_map-append (λ (m : RegisteredGroup). map (λ i. i.0) m.indices) (made_by before) (made_by more))
    ∙ length-append (used (made_by before)) (used (made_by more))

pub references-append : (before more : List RecGroupEntry) → references_of (made_by (before ++ more)) ≡ references_of (made_by before) + references_of (made_by more)
references-append before more =
    ap references_of (map-append made_of before more) ∙ references_of-append (made_by before) (made_by more)
