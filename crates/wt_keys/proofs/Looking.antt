-- A search through numbers that are told finds what a search of all finds.
use Rattle.std.proofs.Common.{◌≡◌, ℕ, ◌+◌, ◌⊎◌, inl, inr, Bool, true, false, ◌||◌, List, [], ◌∷◌, if◌then◌else◌, Option, Some, None, is_some, refl, sym, ap, ◌∙◌, ◌==◌}
use Rattle.std.specs.List.{find, list_any, position_from}
use Rattle.std.proofs.lemmas.Bool.{eqb-true, eq-eqb, false≢true}
use Rattle.wt_env.specs.Among.{Among}
use Rattle.wt_env.specs.declared.types.VMSharedTypeIndex.{VMSharedTypeIndex}
use Rattle.wt_env.proofs.lists.Members.{find-found, find-none}
use Rattle.wt_keys.specs.declared.entry.RecGroupEntry.{RecGroupEntry}
use Rattle.wt_keys.specs.Filed.{NumbersRise, passing}
use Rattle.wt_keys.proofs.Numbered.{found-none, found-only, one-of_number}

module _ (entries : List RecGroupEntry) (rises : NumbersRise 0 entries) (test : RecGroupEntry → Bool) (told : Option ℕ) (tells : (e : RecGroupEntry) → Among e entries → test e ≡ true → told ≡ Some e.number) where
  -- an entry that passes has the number
  numbered : (n : ℕ) → told ≡ Some n → (e : RecGroupEntry) → Among e entries → test e ≡ true → e.number ≡ n
  numbered n is e at passes = some_same (sym (tells e at passes) ∙ is)
    where
      some_same : {A : Type 0} {x y : A} → Some x ≡ Some y → x ≡ y
      some_same same = cc

  pub looked-none : told ≡ None → find test entries ≡ None
  looked-none none = found-none test entries (λ e at passes. absurd (false≢true (sym (ap is_some (sym (tells e at passes) ∙ none)))))

  pub looked : (n : ℕ) → told ≡ Some n → passing test (find (λ e. e.number == n) entries) ≡ find test entries
  looked n is = by (find (λ e. e.number == n) entries) refl
    where
      by : (found : Option RecGroupEntry) → find (λ (e : RecGroupEntry). e.number == n) entries ≡ found → passing test found ≡ find test entries
      by None at = sym (found-none test entries (λ e here passes.
          let number = numbered n is e here passes in
          false≢true (sym (find-none (λ (x : RecGroupEntry). x.number == n) entries at e here) ∙ eq-eqb e.number n number)))
      by (Some e) at = tested (test e) refl
        where
          number : e.number ≡ n
          number = eqb-true e.number n (find-found (λ (x : RecGroupEntry). x.number == n) entries e at).0

          here : Among e entries
          here = (find-found (λ (x : RecGroupEntry). x.number == n) entries e at).1

          tested : (b : Bool) → test e ≡ b → (if b then Some e else None) ≡ find test entries
          tested true passes = sym (found-only test entries e here passes (λ y there also. one-of_number 0 entries y e rises there here (numbered n is y there also ∙ sym number)))
          tested false fails = sym (found-none test entries (λ y there also.
              let same = one-of_number 0 entries y e rises there here (numbered n is y there also ∙ sym number) in
              false≢true (sym fails ∙ ap test (sym same) ∙ also)))

-- ---- indices

-- an index that has a place in a list stands there
pub place_in-among : (i : VMSharedTypeIndex) (from : ℕ) (indices : List VMSharedTypeIndex) → is_some (position_from (λ j. j.0 == i.0) from indices) ≡ true → Among i indices
place_in-among i from [] is = absurd (false≢true is)
place_in-among i from (j ∷ js) is = by (j.0 == i.0) refl is (place_in-among i (from + 1) js)
  where
    by : (b : Bool) → (j.0 == i.0) ≡ b → is_some (if b then Some from else position_from (λ k. k.0 == i.0) (from + 1) js) ≡ true
        → (is_some (position_from (λ k. k.0 == i.0) (from + 1) js) ≡ true → Among i js) → (i ≡ j) ⊎ Among i js
    by true same found later = inl (sym (ap (λ n. record { 0 = n }) (eqb-true j.0 i.0 same)))
    by false other found later = inr (later found)

pub place_in-any : (k from : ℕ) (indices : List VMSharedTypeIndex) → is_some (position_from (λ j. j.0 == k) from indices) ≡ list_any (λ j. j.0 == k) indices
place_in-any k from [] = refl
place_in-any k from (j ∷ js) = by (j.0 == k) (place_in-any k (from + 1) js)
  where
    by : (b : Bool) → is_some (position_from (λ i. i.0 == k) (from + 1) js) ≡ list_any (λ i. i.0 == k) js
        → is_some (if b then Some from else position_from (λ i. i.0 == k) (from + 1) js) ≡ (b || list_any (λ i. i.0 == k) js)
    by true later = refl
    by false later = later

-- something is found where something passes a test that answers the same
pub found-any : {A : Type 0} (p q : A → Bool) (xs : List A) → ((x : A) → p x ≡ q x) → is_some (find p xs) ≡ list_any q xs
found-any p q [] same = refl
found-any {A} p q (x ∷ xs) same = by (p x) refl (found-any p q xs same)
  where
    by : (b : Bool) → p x ≡ b → is_some (find p xs) ≡ list_any q xs → is_some (if b then Some x else find p xs) ≡ (q x || list_any q xs)
    by true is later = ap (λ b. b || list_any q xs) (sym is ∙ same x)
    by false is later = later ∙ ap (λ b. b || list_any q xs) (sym is ∙ same x)
