-- What one more hold changes.
use Rattle.std.proofs.Common.{◌≡◌, ℕ, ◌+◌, ◌<◌, ◌==◌, inl, inr, Bool, true, false, cond, List, [], ◌∷◌, length, map, Ok, refl, sym, ap, subst, ◌∙◌, arith, append-nil}
use Rattle.wt_env.specs.Among.{Among}
use Rattle.wt_model.specs.Registered.{RegisteredGroup, Registry, GroupHolds}
use Rattle.wt_model.specs.Holds.{held_at, waiting, change, gained, hold}
use Rattle.wt_model.specs.Sound.{IsSound}
use Rattle.wt_model.specs.Changes.{HoldChanges}
use Rattle.wt_env.proofs.lists.Mapped.{among_map}
use Rattle.wt_model.proofs.holds.HeldMore.{with_more}
use Rattle.wt_model.proofs.holds.Standings.{held_at-gained, held_at-gained-other}

waiting-gained : (standings : List GroupHolds) (party number n : ℕ) → Among n (waiting (change number (gained party) standings)) → Among n (waiting standings)
waiting-gained [] party number n at = at
waiting-gained (x ∷ standings) party number n at = by (x.number == number) x.waits at (waiting-gained standings party number n)
  where
    by : (b w : Bool) → Among n (waiting (cond b (gained party x ∷ standings) (record x { waits = w } ∷ change number (gained party) standings)))
        → (Among n (waiting (change number (gained party) standings)) → Among n (waiting standings))
        → Among n (cond w (x.number ∷ waiting standings) (waiting standings))
    by true true there later = inr there
    by true false there later = there
    by false true (inl e) later = inl e
    by false true (inr there) later = inr (later there)
    by false false there later = later there

-- one more hold of a group that stands is one more of that group alone
pub held_at-one_more : (standings : List GroupHolds) (party number n : ℕ) → Among number (map (λ s. s.number) standings) → ((s : GroupHolds) → Among s standings → party < length s.holds)
    → held_at (change number (gained party) standings) party n ≡ held_at standings party n + cond (number == n) 1 0
held_at-one_more standings party number n stands places = by (number == n) refl
  where
    by : (b : Bool) → (number == n) ≡ b → held_at (change number (gained party) standings) party n ≡ held_at standings party n + cond b 1 0
    by true e =
        let same : number ≡ n = grind (arith, e) in
        subst (λ k. held_at (change number (gained party) standings) party k ≡ held_at standings party k + 1) same (held_at-gained standings party number stands places)
    by false e = held_at-gained-other standings party number party n (inr (λ same. grind (arith, e, same))) ∙ omega arith

-- what a hold changes that the limit allows
pub hold-changes : (old new : Registry) (party number : ℕ) → IsSound old → party < old.engine.limits.parties → Among number (map (λ s. s.number) old.standings)
    → hold old party number ≡ Ok new → HoldChanges old new party (number ∷ [])
hold-changes old new party number sound within stands h =
    subst (λ (r : Registry). HoldChanges old r party (number ∷ [])) (with_more old new party number h)
    (record {
      engine = refl;
      registered = λ n at. registered n at;
      made = ([], sym (append-nil old.made), λ group none. absurd none);
      more = λ n. held_at-one_more old.standings party number n stands places ∙ ap (λ (k : ℕ). held_at old.standings party n + k) (once (number == n));
      others = λ p n other. held_at-gained-other old.standings party number p n (inl other);
      located = λ i n is. is;
      waiting = λ n at. waiting-gained old.standings party number n at;
    })
  where
    places : (s : GroupHolds) → Among s old.standings → party < length s.holds
    places s there = let long = sound.holds.counted.parties s there in omega (arith, long, within)

    once : (b : Bool) → cond b 1 0 ≡ cond b (0 + 1) 0
    once true = refl
    once false = refl

    group : (group : RegisteredGroup) × Among group old.made × (number ≡ group.number)
    group = among_map (λ (m : RegisteredGroup). m.number) old.made number (subst (Among number) sound.holds.numbers stands)

    registered : (n : ℕ) → Among n (number ∷ []) → (group : RegisteredGroup) × Among group old.made × (group.number ≡ n)
    registered n (inl same) = (group.0, group.1, sym (same ∙ group.2))
    registered n (inr none) = absurd none
