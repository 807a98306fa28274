-- Which group has an index, when groups are added or removed.
use Rattle.std.proofs.Common.{◌≡◌, ℕ, List, [], ◌∷◌, ◌++◌, slice_get, Option, Some, None, option_map, ap}
use Rattle.wt_env.specs.declared.types.VMSharedTypeIndex.{VMSharedTypeIndex}
use Rattle.wt_model.specs.Registered.{RegisteredGroup}
use Rattle.wt_env.specs.Among.{Among}
use Rattle.wt_model.specs.Indices.{place_in, located_here, locate, number_of}
use Rattle.wt_model.specs.Sound.{IsLocated}

abbrev number_from : Option (ℕ × ℕ) → Option ℕ
number_from found = option_map (λ at. at.0) found

-- the first index of a registered group is that of the group
pub number_of-first : (made : List RegisteredGroup) (group : RegisteredGroup) (i : VMSharedTypeIndex) → IsLocated made → Among group made → slice_get group.indices 0 ≡ Some i
    → number_of made i ≡ Some group.number
number_of-first made group i located at first = ap number_from (located group 0 i at first)

-- what was located stays located where groups are added behind it
pub located-pushed : (made more : List RegisteredGroup) (i : VMSharedTypeIndex) (n : ℕ) → number_of made i ≡ Some n → number_of (made ++ more) i ≡ Some n
located-pushed [] more i n is = absurd (cc)
located-pushed (m ∷ made) more i n is = by (place_in i m.indices) is (located-pushed made more i n)
  where
    by : (place : Option ℕ) → number_from (located_here m.number place (locate made i)) ≡ Some n → (number_of made i ≡ Some n → number_of (made ++ more) i ≡ Some n)
        → number_from (located_here m.number place (locate (made ++ more) i)) ≡ Some n
    by (Some place) here later = here
    by None there later = later there
