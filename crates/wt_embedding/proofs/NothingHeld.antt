-- Where two parties register, and then end each hold that they took, a debt is told at the last.
use Rattle.std.proofs.Common.{◌≡◌, ◌≢◌, ℕ, ◌==◌, ◌⊎◌, inl, inr, Bool, true, false, List, [], ◌∷◌, Option, Some, None, IsSome, IfNone, refl, sym, ap, subst, ◌∙◌, arith}
use Rattle.std.proofs.lemmas.Bool.{false≢true, cond-true, cond-false}
use Rattle.wt_env.specs.Among.{Among}
use Rattle.wt_registry.specs.Registered.{Registry}
use Rattle.wt_registry.specs.Holds.{held_at, waiting, times}
use Rattle.wt_registry.specs.Changes.{HoldChanges, DropChanges, ReleaseChanges, IsStillReached}

same_test : (n m : ℕ) → n ≡ m → (n == m) ≡ true
same_test n m same = grind (arith, same)

other_test : (n m : ℕ) → n ≢ m → (n == m) ≡ false
other_test n m differ = grind (arith, differ)

same_or_other : (n m : ℕ) → (n ≡ m) ⊎ (n ≢ m)
same_or_other n m = by (n == m) refl
  where
    by : (test : Bool) → (n == m) ≡ test → (n ≡ m) ⊎ (n ≢ m)
    by true told = inl (grind (arith, told))
    by false told = inr (λ same. false≢true (sym told ∙ same_test n m same))

-- two parties register one after the other, the second takes one more hold, and all holds end
module _ (start one both rooted mid kept end : Registry) (a b number : ℕ) (lefts rights : List ℕ) (differ : a ≢ b)
    (empty : start.standings ≡ []) (first : HoldChanges start one a lefts) (second : HoldChanges one both b rights) (more : HoldChanges both rooted b (number ∷ []))
    (less : ReleaseChanges rooted mid b rights) (fewer : ReleaseChanges mid kept a lefts) (last : DropChanges kept end b number) where
  other : b ≢ a
  other same = differ (sym same)

  start_held : (p n : ℕ) → held_at start.standings p n ≡ 0
  start_held p n = ap (λ standings. held_at standings p n) empty

  first_held : (n : ℕ) → held_at end.standings a n ≡ 0
  first_held n =
      let s = start_held a n in
      let s1 = first.more n in
      let s2 = second.others a n differ in
      let s3 = more.others a n differ in
      let s4 = less.others a n differ in
      let s5 = fewer.less n in
      let s6 = last.others a n (inl differ) in
      omega (arith, s, s1, s2, s3, s4, s5, s6)

  kept_held : (n : ℕ) → held_at kept.standings b n ≡ times n (number ∷ [])
  kept_held n =
      let s = start_held b n in
      let s1 = first.others b n other in
      let s2 = second.more n in
      let s3 = more.more n in
      let s4 = less.less n in
      let s5 = fewer.others b n other in
      omega (arith, s, s1, s2, s3, s4, s5)

  second_held : (n : ℕ) → held_at end.standings b n ≡ 0
  second_held n = by (same_or_other number n)
    where
      by : (number ≡ n) ⊎ (number ≢ n) → held_at end.standings b n ≡ 0
      by (inl same) =
          let held = kept_held number in
          let once : times number (number ∷ []) ≡ 1 = cond-true {A = ℕ} (number == number) 1 0 (same_test number number refl) in
          let dropped = last.less in
          let none : held_at end.standings b number ≡ 0 = omega (arith, held, once, dropped) in
          ap (held_at end.standings b) (sym same) ∙ none
      by (inr differs) =
          let held = kept_held n in
          let never : times n (number ∷ []) ≡ 0 = cond-false {A = ℕ} (number == n) 1 0 (other_test number n differs) in
          let left = last.others b n (inr (λ e. differs (sym e))) in
          omega (arith, held, never, left)

  none_held : (p n : ℕ) → held_at end.standings p n ≡ 0
  none_held p n = by (same_or_other p a) (same_or_other p b)
    where
      by : (p ≡ a) ⊎ (p ≢ a) → (p ≡ b) ⊎ (p ≢ b) → held_at end.standings p n ≡ 0
      by (inl same) others = ap (λ q. held_at end.standings q n) same ∙ first_held n
      by (inr apart) (inl same) = ap (λ q. held_at end.standings q n) same ∙ second_held n
      by (inr apart) (inr neither) =
          last.others p n (inl neither) ∙ fewer.others p n apart ∙ less.others p n neither ∙ more.others p n neither ∙ second.others p n neither ∙ first.others p n apart ∙ start_held p n

  none_waits : (n : ℕ) → Among n (waiting kept.standings) → ⊥
  none_waits n at =
      subst (λ standings. Among n (waiting standings)) empty
      (first.waiting n (second.waiting n (more.waiting n (less.removal.waiting n (fewer.removal.waiting n at)))))

  pub owed : (debt : Option ℕ) → IfNone debt (IsStillReached kept end number) → IsSome debt
  owed (Some n) settled = refl
  owed None settled = by settled
    where
      by : IsStillReached kept end number → IsSome {T = ℕ} None
      by (root, inl held, path) =
          let none = none_held held.0 root in
          let some = held.1 in
          absurd (omega (arith, none, some))
      by (root, inr waits, path) = absurd (none_waits root waits)
