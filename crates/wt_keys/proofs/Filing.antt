-- What is told of an entry stays where something is told of another that agrees with it.
use Rattle.std.proofs.Common.{◌≡◌, ◌≢◌, ℕ, zero, suc, ◌+◌, ◌<◌, ◌⊎◌, inl, inr, Bool, true, false, cond, List, [], ◌∷◌, length, take, get_or, Option, Some, None, refl, sym, ap, subst, ◌∙◌, arith}
use Rattle.std.proofs.lemmas.Bool.{false_from_ne_true}
use Rattle.std.proofs.lemmas.Grind.{take_at_read}
use Rattle.wt_env.specs.Among.{Among}
use Rattle.wt_env.specs.declared.types.VMSharedTypeIndex.{VMSharedTypeIndex}
use Rattle.wt_env.proofs.lists.Members.{among_pushed}
use Rattle.wt_keys.specs.declared.entry.RecGroupEntry.{RecGroupEntry}
use Rattle.wt_keys.specs.Filed.{Agree}

-- ---- a loop over a list

pub at_among : {A : Type 0} (xs : List A) (k : ℕ) (d : A) → k < length xs → Among (get_or xs k d) xs
at_among [] k d below = absurd (omega (arith, below))
at_among (x ∷ xs) zero d below = inl refl
at_among (x ∷ xs) (suc k) d below = inr (at_among xs k d (omega (arith, below)))

-- what stands in the list up to behind a place stands before it, or at it
pub taken_or : {A : Type 0} (xs : List A) (k : ℕ) (d x : A) → k < length xs → Among x (take (k + 1) xs) → Among x (take k xs) ⊎ (x ≡ get_or xs k d)
taken_or xs k d x below at = among_pushed (take k xs) (get_or xs k d) x (subst (Among x) ((take_at_read xs k d below).1) at)

-- ---- one key of a map

module _ {K : Type 0} (eq : K → K → Bool) (exact : (a b : K) → eq a b ≡ true → a ≡ b) (before after : K → Option ℕ) (key : K) where
  -- where a number is put at a key, what is told at another key stays, and so does the same number at this
  pub put-kept : (number : ℕ) → ((q : K) → after q ≡ cond (eq key q) (Some number) (before q)) → (k : K) (n : ℕ) → (k ≡ key → n ≡ number) → before k ≡ Some n → after k ≡ Some n
  put-kept number put k n same was = by (eq key k) refl
    where
      by : (b : Bool) → eq key k ≡ b → after k ≡ Some n
      by true is = put k ∙ ap (λ b. cond b (Some number) (before k)) is ∙ ap Some (sym (same (sym (exact key k is))))
      by false is = put k ∙ ap (λ b. cond b (Some number) (before k)) is ∙ was

  -- where a key is taken out, what is told at another stays
  pub out-kept : ((q : K) → after q ≡ cond (eq key q) None (before q)) → (k : K) (n : ℕ) → (k ≡ key → ⊥) → before k ≡ Some n → after k ≡ Some n
  out-kept out k n other was =
      out k ∙ ap (λ b. cond b None (before k)) (false_from_ne_true (eq key k) (λ is. other (sym (exact key k is)))) ∙ was

-- ---- entries

-- an entry that agrees with another has a key of its own, or the other's number
pub agree-key : (e entry : RecGroupEntry) → Agree e entry → e.number ≢ entry.number → e.hash_consing_key ≡ entry.hash_consing_key → ⊥
agree-key e entry agree other same = other (agree.keys same)

pub agree-index : (e entry : RecGroupEntry) → Agree e entry → e.number ≢ entry.number → (i : VMSharedTypeIndex) → Among i e.shared_type_indices → Among i entry.shared_type_indices → ⊥
agree-index e entry agree other i here there = other (agree.indices i here there)

pub either : {A B C : Type 0} → (A → C) → (B → C) → A ⊎ B → C
either f g (inl a) = f a
either f g (inr b) = g b

-- what stands before a place of a list stands in it
pub taken-among : {A : Type 0} (n : ℕ) (xs : List A) (x : A) → Among x (take n xs) → Among x xs
taken-among zero xs x at = absurd at
taken-among (suc n) [] x at = absurd at
taken-among (suc n) (y ∷ ys) x (inl same) = inl same
taken-among (suc n) (y ∷ ys) x (inr later) = inr (taken-among n ys x later)
