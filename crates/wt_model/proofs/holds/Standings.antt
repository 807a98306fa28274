-- What keeps the groups stays told for each of them, through a hold more, a hold less, a group less and a group more.
use Rattle.std.proofs.Common.{◌≡◌, ◌≢◌, ◌⊎◌, ℕ, zero, suc, ◌+◌, ◌<◌, ◌≤◌, ◌==◌, Bool, true, false, cond, List, [], ◌∷◌, ◌++◌, length, map, slice_index, slice_set, inl, inr, refl, ap, arith}
use Rattle.std.proofs.lemmas.List.{get_or-set_same, get_or-set_other}
use Rattle.wt_model.specs.Registered.{GroupHolds}
use Rattle.wt_env.specs.Among.{Among}
use Rattle.wt_model.specs.Holds.{is_held, held_at, change, gained}

-- ---- one party's holds

pub is_held-raised : (holds : List ℕ) (party n : ℕ) → party < length holds → is_held (slice_set holds party (n + 1)) ≡ true
is_held-raised [] party n h = absurd (omega arith)
is_held-raised (count ∷ holds) zero n h = grind arith
is_held-raised (count ∷ holds) (suc party) n h = rw (is_held-raised holds party n (omega arith)) (grind arith)

bounded-set : (holds : List ℕ) (party n p bound : ℕ) → n ≤ bound → slice_index holds p ≤ bound → slice_index (slice_set holds party n) p ≤ bound
bounded-set [] party n p bound within before = before
bounded-set (count ∷ holds) zero n zero bound within before = within
bounded-set (count ∷ holds) zero n (suc p) bound within before = before
bounded-set (count ∷ holds) (suc party) n zero bound within before = before
bounded-set (count ∷ holds) (suc party) n (suc p) bound within before = bounded-set holds party n p bound within before

-- ---- a group more

pub among-pushed : (standings : List GroupHolds) (s t : GroupHolds) → Among t (standings ++ s ∷ []) → Among t standings ⊎ (t ≡ s)
among-pushed [] s t (inl e) = inr e
among-pushed [] s t (inr none) = absurd none
among-pushed (x ∷ standings) s t (inl e) = inl (inl e)
among-pushed (x ∷ standings) s t (inr there) = by (among-pushed standings s t there)
  where
    by : Among t standings ⊎ (t ≡ s) → ((t ≡ x) ⊎ Among t standings) ⊎ (t ≡ s)
    by (inl among) = inl (inr among)
    by (inr e) = inr e

-- ---- what a party has after one hold more

pub held_at-gained : (standings : List GroupHolds) (party number : ℕ) → Among number (map (λ s. s.number) standings)
    → ((s : GroupHolds) → Among s standings → party < length s.holds)
    → held_at (change number (gained party) standings) party number ≡ held_at standings party number + 1
held_at-gained [] party number there within = absurd there
held_at-gained (x ∷ standings) party number there within = by (x.number == number) refl there (held_at-gained standings party number)
  where
    by : (b : Bool) → (x.number == number) ≡ b → (number ≡ x.number) ⊎ Among number (map (λ s. s.number) standings)
        → (Among number (map (λ s. s.number) standings) → ((s : GroupHolds) → Among s standings → party < length s.holds)
        → held_at (change number (gained party) standings) party number ≡ held_at standings party number + 1)
        → held_at (cond b (gained party x ∷ standings) (x ∷ change number (gained party) standings)) party number ≡ cond b (slice_index x.holds party) (held_at standings party number) + 1
    by true e among later = rw e (get_or-set_same x.holds party (slice_index x.holds party + 1) 0 (within x (inl refl)))
    by false e (inl same) later = absurd (grind arith)
    by false e (inr among) later = rw e (later among (λ s h. within s (inr h)))

pub held_at-gained-other : (standings : List GroupHolds) (party number p n : ℕ) → (p ≢ party) ⊎ (n ≢ number)
    → held_at (change number (gained party) standings) p n ≡ held_at standings p n
held_at-gained-other [] party number p n other = refl
held_at-gained-other (x ∷ standings) party number p n other = by (x.number == number) refl (held_at-gained-other standings party number p n other)
  where
    here : (b : Bool) → (x.number == n) ≡ b → (x.number == number) ≡ true → (p ≢ party) ⊎ (n ≢ number)
        → cond b (slice_index (slice_set x.holds party (slice_index x.holds party + 1)) p) (held_at standings p n) ≡ cond b (slice_index x.holds p) (held_at standings p n)
    here true e f (inl differs) = get_or-set_other x.holds party p (slice_index x.holds party + 1) 0 differs
    here true e f (inr differs) = absurd (grind arith)
    here false e f differ = refl

    by : (b : Bool) → (x.number == number) ≡ b → held_at (change number (gained party) standings) p n ≡ held_at standings p n
        → held_at (cond b (gained party x ∷ standings) (x ∷ change number (gained party) standings)) p n ≡ cond (x.number == n) (slice_index x.holds p) (held_at standings p n)
    by true e later = here (x.number == n) refl e other
    by false e later = ap (cond (x.number == n) (slice_index x.holds p)) later
