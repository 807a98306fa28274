-- A party that was given one more hold of a group has one.
use Rattle.std.proofs.Common.{◌≡◌, ℕ, ◌+◌, ◌<◌, ◌≤◌, ◌==◌, ◌⊎◌, inl, inr, Bool, true, false, cond, List, [], ◌∷◌, map, slice_index, nat_lt, Option, Some, None, option_map, Ok, Err, refl, sym, subst, arith}
use Rattle.wt_env.specs.declared.types.VMSharedTypeIndex.{VMSharedTypeIndex}
use Rattle.wt_model.specs.declared.refusal.Full.{Full}
use Rattle.wt_model.specs.Registered.{RegisteredGroup, Registry, GroupHolds}
use Rattle.wt_model.specs.Holds.{Hold, IsHeld, held_at, change, gained, full_of_holds, hold}
use Rattle.wt_env.specs.Among.{Among}
use Rattle.wt_model.specs.Indices.{place_in, located_here, locate, number_of}
use Rattle.wt_model.specs.Sound.{IsSound}
use Rattle.wt_model.proofs.holds.Standings.{held_at-gained}

-- what is located is in a registered group
among_located : (made : List RegisteredGroup) (i : VMSharedTypeIndex) (at : ℕ × ℕ) → locate made i ≡ Some at → Among at.0 (map (λ m. m.number) made)
among_located [] i at h = absurd (cc)
among_located (m ∷ made) i at h = by (place_in i m.indices) h (among_located made i at)
  where
    by : (place : Option ℕ) → located_here m.number place (locate made i) ≡ Some at → (locate made i ≡ Some at → Among at.0 (map (λ m. m.number) made))
        → (at.0 ≡ m.number) ⊎ Among at.0 (map (λ m. m.number) made)
    by (Some place) here later = inl (some_number m.number place at here)
      where
        some_number : (number place : ℕ) (at : ℕ × ℕ) → Some (number, place) ≡ Some at → at.0 ≡ number
        some_number number place at h = cc
    by None there later = inr (later there)

standing_located : (registry : Registry) (i : VMSharedTypeIndex) (at : ℕ × ℕ) → IsSound registry → locate registry.made i ≡ Some at → Among at.0 (map (λ s. s.number) registry.standings)
standing_located registry i at sound is = subst (Among at.0) (sym sound.holds.numbers) (among_located registry.made i at is)

pub standing_numbered : (registry : Registry) (i : VMSharedTypeIndex) (number : ℕ) → IsSound registry → option_map (λ (at : ℕ × ℕ). at.0) (locate registry.made i) ≡ Some number → Among number (map (λ s. s.number) registry.standings)
standing_numbered registry i number sound is = by (locate registry.made i) refl is
  where
    by : (found : Option (ℕ × ℕ)) → locate registry.made i ≡ found → option_map (λ (at : ℕ × ℕ). at.0) found ≡ Some number → Among number (map (λ s. s.number) registry.standings)
    by (Some at) e h =
        let same : at.0 ≡ number = cc in
        subst (λ (n : ℕ). Among n (map (λ s. s.number) registry.standings)) same (standing_located registry i at sound e)
    by None e h = absurd (cc)

-- what is held stands
pub standing_held : (standings : List GroupHolds) (party number : ℕ) → 1 ≤ held_at standings party number → Among number (map (λ s. s.number) standings)
standing_held [] party number held = absurd (omega (arith, held))
standing_held (s ∷ standings) party number held = by (s.number == number) refl held (standing_held standings party number)
  where
    by : (b : Bool) → (s.number == number) ≡ b → 1 ≤ cond b (slice_index s.holds party) (held_at standings party number)
        → (1 ≤ held_at standings party number → Among number (map (λ s. s.number) standings))
        → (number ≡ s.number) ⊎ Among number (map (λ s. s.number) standings)
    by true e here later = inl (grind (arith, e))
    by false e there later = inr (later there)

split_hold : (b : Bool) (full : Full) (next new : Registry) → cond b (Err full) (Ok next) ≡ Ok new → next ≡ new
split_hold true full next new h = absurd (cc)
split_hold false full next new h = cc

pub with_more : (registry new : Registry) (party number : ℕ) → hold registry party number ≡ Ok new → record registry { standings = change number (gained party) registry.standings } ≡ new
with_more registry new party number h =
    split_hold (nat_lt registry.engine.limits.holds (held_at registry.standings party number + 1)) (full_of_holds registry party number) (record registry { standings = change number (gained party) registry.standings }) new h

pub held-more : (registry new : Registry) (held : Hold) → IsSound registry → held.party < registry.engine.limits.parties → registry.engine.number ≡ held.engine
    → Among held.number (map (λ s. s.number) registry.standings) → number_of registry.made held.index ≡ Some held.number
    → hold registry held.party held.number ≡ Ok new → IsHeld new held
held-more registry new held sound within engine stands located h =
    subst (λ (r : Registry). IsHeld r held) (with_more registry new held.party held.number h) (record { engine = engine; party = within; held = more; located = located })
  where
    more : 1 ≤ held_at (change held.number (gained held.party) registry.standings) held.party held.number
    more =
        let one = held_at-gained registry.standings held.party held.number stands (λ s there. omega (arith, sound.holds.counted.parties s there, within)) in
        omega (arith, one)
