use Rattle.std.proofs.Common.{◌≡◌, ℕ, length, List, [], ◌∷◌, Bool, get_or, IsTrue, ◌↔◌, arith}
use Rattle.std.proofs.lemmas.Slice.Eq.{bytes_eq-Decides}
use Rattle.std.specs.Str.{bytes_eq}
use Rattle.wt_program.proofs.words.is_run.Goals as goal

-- whether a list of one word is the list of this word
one_word : (words : List (List ℕ)) (first text word : List ℕ) (same : Bool) → length words ≡ 1 → first ≡ get_or words 0 first → text ≡ first → same ≡ bytes_eq text word → IsTrue same ↔ (words ≡ word ∷ [])
one_word [] first text word same one is read test = absurd (omega arith)
one_word (only ∷ []) first text word same one is read test =
    let decides = bytes_eq-Decides text word in
    (λ yes. let e : text ≡ word = decides.0 (cc (test, yes)) in cc, λ equal. let e : text ≡ word = cc in cc (decides.1 e))
one_word (a ∷ b ∷ rest) first text word same one is read test = absurd (omega arith)

pub returns-then-words-eq1 : goal.returns-then-words-eq1
returns-then-words-eq1 c = one_word _ _ _ _ _ c.if-words-eq1.true c.index-words-0.is c.as_str.ensures c.eq.ensures
