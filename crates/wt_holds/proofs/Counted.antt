-- Each count has a place for each party, and none passes the limit.
use Rattle.std.proofs.Common.{ℕ, ◌<◌, ◌≤◌, ◌==◌, Bool, true, false, cond, inl, inr, List, [], ◌∷◌, length, slice_index, refl, sym, subst, arith}
use Rattle.wt_env.specs.Limits.{EngineParts}
use Rattle.wt_holds.specs.declared.hold_counts.HoldCounts.{HoldCounts}
use Rattle.wt_model.specs.Registered.{RegisteredGroup, GroupHolds}
use Rattle.wt_env.specs.Among.{Among}
use Rattle.wt_model.specs.Holds.{held_at}
use Rattle.wt_model.specs.Sound.{AreCounted, HoldsInvariant}
use Rattle.wt_holds.specs.Counts.{standing_of, standings_of}
use Rattle.wt_env.proofs.lists.Mapped.{among_map, among_mapped}

pub counted : (engine : EngineParts) (made : List RegisteredGroup) (standings : List GroupHolds) → HoldsInvariant engine made standings → AreCounted engine standings
counted engine made standings stands = stands.counted

abbrev pub HavePlaces : ℕ → List HoldCounts → Type 0
HavePlaces party counts = (count : HoldCounts) → Among count counts → party < length count.holds.items

-- each count has a place for each party
pub has_place : (engine : EngineParts) (counts : List HoldCounts) (party : ℕ) → AreCounted engine (standings_of counts) → party < engine.limits.parties → HavePlaces party counts
has_place engine counts party are within count at =
    let long = are.parties (standing_of count) (among_mapped standing_of counts count at) in
    omega (arith, long, within)

held_here : (b : Bool) (n m bound : ℕ) → n ≤ bound → m ≤ bound → cond b n m ≤ bound
held_here true n m bound h g = h
held_here false n m bound h g = g

-- no count passes the limit
pub held_at-bounded : (engine : EngineParts) (standings : List GroupHolds) (party number : ℕ) → AreCounted engine standings → held_at standings party number ≤ engine.limits.holds
held_at-bounded engine [] party number are = omega arith
held_at-bounded engine (s ∷ ss) party number are =
    held_here (s.number == number) (slice_index s.holds party) (held_at ss party number) engine.limits.holds (are.bounded s party (inl refl))
    (held_at-bounded engine ss party number (record { parties = λ t at. are.parties t (inr at); bounded = λ t p at. are.bounded t p (inr at) }))

-- what is true of the holds of all that stands is true of those of all counts, and the other way round
pub places_stand : (party : ℕ) (counts : List HoldCounts) → HavePlaces party counts → (s : GroupHolds) → Among s (standings_of counts) → party < length s.holds
places_stand party counts places s at =
    let found = among_map standing_of counts s at in
    subst (λ (x : GroupHolds). party < length x.holds) (sym found.2) (places found.0 found.1)

pub stand_places : (party : ℕ) (counts : List HoldCounts) → ((s : GroupHolds) → Among s (standings_of counts) → party < length s.holds) → HavePlaces party counts
stand_places party counts each count at = each (standing_of count) (among_mapped standing_of counts count at)
