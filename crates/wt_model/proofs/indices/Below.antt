-- An index that names a registered type is below the limit.
use Rattle.std.proofs.Common.{◌≡◌, ℕ, ◌+◌, ◌<◌, ◌==◌, inl, inr, Bool, true, false, cond, List, [], ◌∷◌, Option, Some, None, is_some, refl, arith}
use Rattle.std.specs.List.{position_from}
use Rattle.std.proofs.lemmas.Bool.{false≢true}
use Rattle.wt_env.specs.Among.{Among}
use Rattle.wt_env.specs.declared.types.VMSharedTypeIndex.{VMSharedTypeIndex}
use Rattle.wt_model.specs.Registered.{RegisteredGroup}
use Rattle.wt_model.specs.Indices.{place_in, located_here, locate}
use Rattle.wt_model.specs.Sound.{AreBelow}

placed-below : (bound from : ℕ) (indices : List VMSharedTypeIndex) (i : VMSharedTypeIndex) → ((j : VMSharedTypeIndex) → Among j indices → j.0 < bound)
    → is_some (position_from (λ j. j.0 == i.0) from indices) ≡ true → i.0 < bound
placed-below bound from [] i each found = absurd (false≢true found)
placed-below bound from (j ∷ indices) i each found = by (j.0 == i.0) refl found (placed-below bound (from + 1) indices i (λ k at. each k (inr at)))
  where
    by : (b : Bool) → (j.0 == i.0) ≡ b → is_some (cond b (Some from) (position_from (λ j. j.0 == i.0) (from + 1) indices)) ≡ true
        → (is_some (position_from (λ j. j.0 == i.0) (from + 1) indices) ≡ true → i.0 < bound) → i.0 < bound
    by true same here later = let below = each j (inl refl) in grind (arith, same, below)
    by false other there later = later there

pub located-below : (bound : ℕ) (made : List RegisteredGroup) (i : VMSharedTypeIndex) → AreBelow bound made → is_some (locate made i) ≡ true → i.0 < bound
located-below bound [] i below found = absurd (false≢true found)
located-below bound (m ∷ made) i below found = by (place_in i m.indices) refl found (located-below bound made i (λ a j at there. below a j (inr at) there))
  where
    by : (place : Option ℕ) → place_in i m.indices ≡ place → is_some (located_here m.number place (locate made i)) ≡ true → (is_some (locate made i) ≡ true → i.0 < bound) → i.0 < bound
    by (Some place) e here later = placed-below bound 0 m.indices i (λ j at. below m j (inl refl) at) (found_some place e)
      where
        found_some : (place : ℕ) → place_in i m.indices ≡ Some place → is_some (place_in i m.indices) ≡ true
        found_some place e = λ t. is_some (e t)
    by None e there later = later there
