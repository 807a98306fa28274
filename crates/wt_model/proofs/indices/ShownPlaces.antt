-- The index at a place of a registered group, by the group's number.
use Rattle.std.proofs.Common.{◌≡◌, ℕ, ◌==◌, inl, inr, Bool, true, false, cond, List, [], ◌∷◌, slice_get, Some, unwrap_or, refl, sym, ap, ◌∙◌, arith}
use Rattle.wt_env.specs.declared.types.VMSharedTypeIndex.{VMSharedTypeIndex}
use Rattle.wt_env.specs.Among.{Among}
use Rattle.wt_model.specs.Registered.{RegisteredGroup}
use Rattle.wt_model.specs.Indices.{locate}
use Rattle.wt_model.specs.Shown.{index_at}
use Rattle.wt_model.specs.Sound.{IsRising}
use Rattle.wt_model.proofs.indices.Places.{locate-at}
use Rattle.wt_model.proofs.indices.Rising.{one_number}

abbrev at_place : List VMSharedTypeIndex → ℕ → VMSharedTypeIndex
at_place indices place = unwrap_or (slice_get indices place) (record { 0 = 0 })

-- the number is that of the first group only if it is the group
pub index_at-group : (low top : ℕ) (made : List RegisteredGroup) (group : RegisteredGroup) (at : ℕ × ℕ) → IsRising low made top → Among group made → group.number ≡ at.0 → index_at made at ≡ unwrap_or (slice_get group.indices at.1) (record { 0 = 0 })
index_at-group low top [] group at rising there number = absurd there
index_at-group low top (x ∷ xs) group at rising there number = by (x.number == at.0) refl there (index_at-group x.number top xs group at rising.1)
  where
    here : (x.number == at.0) ≡ true → x ≡ group
    here e = one_number low top (x ∷ xs) x group rising (inl refl) there (grind (arith, e, number))

    not_here : (x.number == at.0) ≡ false → group ≡ x → ⊥
    not_here e same = let equal = ap (λ (m : RegisteredGroup). m.number) (sym same) ∙ number in grind (arith, e, equal)

    by : (b : Bool) → (x.number == at.0) ≡ b → Among group (x ∷ xs) → (Among group xs → group.number ≡ at.0 → index_at xs at ≡ at_place group.indices at.1)
        → cond b (at_place x.indices at.1) (index_at xs at) ≡ at_place group.indices at.1
    by true e among later = ap (λ (m : RegisteredGroup). at_place m.indices at.1) (here e)
    by false e (inl same) later = absurd (not_here e same)
    by false e (inr among) later = later among number

-- the index at the place where an index is located is that index
pub index_at-located : (top : ℕ) (made : List RegisteredGroup) (i : VMSharedTypeIndex) (at : ℕ × ℕ) → IsRising 0 made top → locate made i ≡ Some at → index_at made at ≡ i
index_at-located top made i at rising is =
    let place = locate-at made i at is in
    index_at-group 0 top made place.group at rising place.among place.number
    ∙ ap (λ found. unwrap_or found (record { 0 = 0 })) place.place
