-- What a party has left of each group after a release.
use Rattle.std.proofs.Common.{◌≡◌, ℕ, ◌+◌, ◌-◌, ◌<◌, ◌==◌, ◌⊎◌, inl, inr, Bool, true, false, cond, List, [], ◌∷◌, length, slice_index, count_by, refl, ap, ◌∙◌, subst, arith, length-set}
use Rattle.std.proofs.lemmas.List.{get_or-set_same}
use Rattle.std.proofs.lemmas.List.Sums.{sum_by-cons}
use Rattle.wt_model.specs.Registered.{GroupHolds, Registry}
use Rattle.wt_env.specs.Among.{Among}
use Rattle.wt_model.specs.Holds.{held_at, change}
use Rattle.wt_model.specs.Removal.{fewer, fewer_of, release_holds}
use Rattle.wt_model.proofs.holds.Looked.{among-changed}
use Rattle.wt_model.proofs.removal.RemovalChanges.{held_at-fewer-other, held_at-released_part}

own-fewer : (standings : List GroupHolds) (party number : ℕ) → ((s : GroupHolds) → Among s standings → party < length s.holds)
    → held_at (change number (fewer party) standings) party number ≡ held_at standings party number - 1
own-fewer [] party number within = refl
own-fewer (x ∷ standings) party number within = by (x.number == number) refl (own-fewer standings party number (λ s there. within s (inr there)))
  where
    by : (b : Bool) → (x.number == number) ≡ b → held_at (change number (fewer party) standings) party number ≡ held_at standings party number - 1
        → held_at (cond b (fewer party x ∷ standings) (x ∷ change number (fewer party) standings)) party number ≡ cond b (slice_index x.holds party) (held_at standings party number) - 1
    by true e later = rw e (get_or-set_same x.holds party (slice_index x.holds party - 1) 0 (within x (inl refl)))
    by false e later = rw e later

pub held_at-one_less : (standings : List GroupHolds) (party number n : ℕ) → ((s : GroupHolds) → Among s standings → party < length s.holds)
    → held_at (change number (fewer party) standings) party n ≡ held_at standings party n - cond (number == n) 1 0
held_at-one_less standings party number n within = by (number == n) refl
  where
    by : (b : Bool) → (number == n) ≡ b → held_at (change number (fewer party) standings) party n ≡ held_at standings party n - cond b 1 0
    by true e =
        let same : number ≡ n = grind (arith, e) in
        subst (λ k. held_at (change number (fewer party) standings) party k ≡ held_at standings party k - 1) same (own-fewer standings party number within)
    by false e = held_at-fewer-other standings party number party n (inr (λ same. grind (arith, e, same))) ∙ omega arith

pub within-fewer : (standings : List GroupHolds) (party number : ℕ) → ((s : GroupHolds) → Among s standings → party < length s.holds)
    → (s : GroupHolds) → Among s (change number (fewer party) standings) → party < length s.holds
within-fewer standings party number within s at = by (among-changed number (fewer party) standings s at)
  where
    by : Among s standings ⊎ ((t : GroupHolds) × Among t standings × (t.number ≡ number) × (s ≡ fewer party t)) → party < length s.holds
    by (inl there) = within s there
    by (inr found) =
        let t = found.0 in
        let before : party < length t.holds = within t found.1 in
        let same : length s.holds ≡ length t.holds = ap (λ (x : GroupHolds). length x.holds) found.3 ∙ length-set t.holds party (slice_index t.holds party - 1) in
        omega (arith, before, same)

-- as many fewer as the group stands in the list
pub held_at-fewer_of : (party : ℕ) (numbers : List ℕ) (standings : List GroupHolds) (n : ℕ) → ((s : GroupHolds) → Among s standings → party < length s.holds)
    → held_at (fewer_of party numbers standings) party n ≡ held_at standings party n - count_by (λ m. m == n) numbers
held_at-fewer_of party [] standings n within = omega arith
held_at-fewer_of party (number ∷ numbers) standings n within =
    let rest = held_at-fewer_of party numbers (change number (fewer party) standings) n (within-fewer standings party number within) in
    let one = held_at-one_less standings party number n within in
    let count = sum_by-cons (λ (m : ℕ). cond (m == n) 1 0) number numbers in
    taken (held_at (fewer_of party numbers (change number (fewer party) standings)) party n) (held_at (change number (fewer party) standings) party n) (held_at standings party n)
    (cond (number == n) 1 0) (count_by (λ m. m == n) numbers) (count_by (λ m. m == n) (number ∷ numbers)) rest one count
  where
    taken : (after between before one more all : ℕ) → after ≡ between - more → between ≡ before - one → all ≡ one + more → after ≡ before - all
    taken after between before one more all h k l = omega (arith, h, k, l)

-- also when what isn't reached any more is gone
pub held_at-released : (registry : Registry) (party : ℕ) (numbers : List ℕ) (n : ℕ) → ((s : GroupHolds) → Among s registry.standings → party < length s.holds)
    → held_at (release_holds registry party numbers).standings party n ≡ held_at registry.standings party n - count_by (λ m. m == n) numbers
held_at-released registry party numbers n within = held_at-released_part registry party numbers party n ∙ held_at-fewer_of party numbers registry.standings n within
