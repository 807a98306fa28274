-- One more hold keeps what the counts keep, also where no group has the number.
use Rattle.std.proofs.Common.{◌≡◌, ℕ, ◌+◌, ◌<◌, ◌≤◌, ◌==◌, ◌⊎◌, inl, inr, Bool, true, false, cond, List, [], ◌∷◌, map, Result, Ok, Err, OnOk, OnErr, refl, sym, ap, subst, arith}
use Rattle.wt_env.specs.Limits.{EngineParts}
use Rattle.wt_holds.specs.declared.hold_counts.HoldCounts.{HoldCounts}
use Rattle.wt_model.specs.Registered.{RegisteredGroup, GroupHolds}
use Rattle.wt_env.specs.Among.{Among}
use Rattle.wt_model.specs.Holds.{held_at, change, gained}
use Rattle.wt_model.specs.Sound.{IsRising, NamesOlder, HoldsInvariant}
use Rattle.wt_holds.specs.Counts.{standings_of}
use Rattle.wt_model.proofs.holds.HoldIn.{gained-stand_in}

-- a change of a number that isn't there changes nothing
stands_or_same : (number : ℕ) (f : GroupHolds → GroupHolds) (standings : List GroupHolds) → Among number (map (λ s. s.number) standings) ⊎ (change number f standings ≡ standings)
stands_or_same number f [] = inr refl
stands_or_same number f (s ∷ standings) = by (s.number == number) refl (stands_or_same number f standings)
  where
    by : (b : Bool) → (s.number == number) ≡ b → Among number (map (λ t. t.number) standings) ⊎ (change number f standings ≡ standings)
        → ((number ≡ s.number) ⊎ Among number (map (λ t. t.number) standings)) ⊎ (cond b (f s ∷ standings) (s ∷ change number f standings) ≡ s ∷ standings)
    by true e later = inl (inl (grind (arith, e)))
    by false e (inl there) = inl (inr there)
    by false e (inr same) = inr (ap (λ (rest : List GroupHolds). s ∷ rest) same)

pub gained-keeps : (engine : EngineParts) (top : ℕ) (made : List RegisteredGroup) (standings : List GroupHolds) (party number : ℕ) → IsRising 0 made top → NamesOlder made → HoldsInvariant engine made standings
    → party < engine.limits.parties → held_at standings party number + 1 ≤ engine.limits.holds → HoldsInvariant engine made (change number (gained party) standings)
gained-keeps engine top made standings party number rising older are within room = by (stands_or_same number (gained party) standings)
  where
    by : Among number (map (λ s. s.number) standings) ⊎ (change number (gained party) standings ≡ standings) → HoldsInvariant engine made (change number (gained party) standings)
    by (inl stands) = gained-stand_in engine top made standings party number rising older are within room stands
    by (inr same) = subst (HoldsInvariant engine made) (sym same) are

-- whether the hold was taken or refused
pub hold-keeps : {A B : Type 0} (result : Result A B) (engine : EngineParts) (top : ℕ) (made : List RegisteredGroup) (old new : List HoldCounts) (party number : ℕ) → IsRising 0 made top → NamesOlder made
    → HoldsInvariant engine made (standings_of old) → party < engine.limits.parties
    → OnOk result ((held_at (standings_of old) party number + 1 ≤ engine.limits.holds) × (standings_of new ≡ change number (gained party) (standings_of old)))
    → OnErr result (new ≡ old) → HoldsInvariant engine made (standings_of new)
hold-keeps (Ok x) engine top made old new party number rising older are within taken refused =
    subst (HoldsInvariant engine made) (sym taken.1) (gained-keeps engine top made (standings_of old) party number rising older are within taken.0)
hold-keeps (Err e) engine top made old new party number rising older are within taken refused =
    subst (λ counts. HoldsInvariant engine made (standings_of counts)) (sym refused) are
