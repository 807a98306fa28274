-- The place of an index among the registered groups: each index has one, and a group that is added with indices
-- of its own leaves the others where they are.
use Rattle.std.proofs.Common.{◌≡◌, ℕ, ◌==◌, ◌⊎◌, inl, inr, true, false, ◌||◌, List, [], ◌∷◌, ◌++◌, length, map, slice_get, Option, Some, None, refl, sym, ap, subst, ◌∙◌, arith}
use Rattle.std.specs.List.{list_any}
use Rattle.std.proofs.lemmas.Bool.{false≢true}
use Rattle.std.proofs.lemmas.List.Folds.{list_any-append}
use Rattle.wt_env.specs.declared.types.VMSharedTypeIndex.{VMSharedTypeIndex}
use Rattle.wt_model.specs.Registered.{RegisteredGroup}
use Rattle.wt_env.specs.Among.{Among}
use Rattle.wt_model.specs.Indices.{place_in, located_here, locate, used, is_used}
use Rattle.wt_model.specs.Sound.{IsRising, IsLocated}
use Rattle.wt_model.specs.Indices.{AreUnused, AreDistinct}
use Rattle.wt_env.proofs.lists.Found.{found_from, none_found, neither}
use Rattle.wt_env.proofs.lists.Members.{some_same, get_among, among_pushed, some_passes, none_at}
use Rattle.wt_model.proofs.indices.Rising.{one_number}

-- ---- what has a place

get_passed : (passed : List VMSharedTypeIndex) (i : VMSharedTypeIndex) (rest : List VMSharedTypeIndex) → slice_get (passed ++ i ∷ rest) (length passed) ≡ Some i
get_passed [] i rest = refl
get_passed (j ∷ passed) i rest = get_passed passed i rest

pub same_index : (i j : VMSharedTypeIndex) → (j.0 == i.0) ≡ true → j ≡ i
same_index i j same =
    let bits : j.0 ≡ i.0 = grind (arith, same) in
    ap (λ (n : ℕ). record { 0 = n }) bits

own_index : (i : VMSharedTypeIndex) → (i.0 == i.0) ≡ true
own_index i = own i.0
  where
    own : (n : ℕ) → (n == n) ≡ true
    own n = grind arith

pub place_in-get : (indices : List VMSharedTypeIndex) (i : VMSharedTypeIndex) (place : ℕ) → place_in i indices ≡ Some place → slice_get indices place ≡ Some i
place_in-get indices i place is =
    let found = found_from (λ (j : VMSharedTypeIndex). j.0 == i.0) 0 place indices is in
    let at : length found.passed ≡ place = omega (arith, found.place) in
    subst (λ (n : ℕ). slice_get indices n ≡ Some i) at
    (ap (λ (xs : List VMSharedTypeIndex). slice_get xs (length found.passed)) found.splits
    ∙ get_passed found.passed found.item found.rest
    ∙ ap Some (same_index i found.item found.passes))

-- among indices that differ, each is found at its place
place_in-distinct : (indices : List VMSharedTypeIndex) (i : VMSharedTypeIndex) (place : ℕ) → AreDistinct indices → slice_get indices place ≡ Some i → place_in i indices ≡ Some place
place_in-distinct indices i place distinct is = by (place_in i indices) refl
  where
    by : (found : Option ℕ) → place_in i indices ≡ found → found ≡ Some place
    by (Some k) at = ap Some (distinct k place i (place_in-get indices i k at) is)
    by None at =
        absurd (false≢true (sym (none_found (λ (j : VMSharedTypeIndex). j.0 == i.0) 0 indices at) ∙ some_passes (λ (j : VMSharedTypeIndex). j.0 == i.0) indices place i is (own_index i)))

-- this registered group has the index at this place
pub record IsAt (made : List RegisteredGroup) (i : VMSharedTypeIndex) (at : ℕ × ℕ) : Type 0 where
  pub group : RegisteredGroup
  pub among : Among group made
  pub number : group.number ≡ at.0
  pub place : slice_get group.indices at.1 ≡ Some i

pair_of : (number place : ℕ) (at : ℕ × ℕ) → Some (number, place) ≡ Some at → (number ≡ at.0) × (place ≡ at.1)
pair_of number place at h =
    let same : (number, place) ≡ at = some_same h in
    (ap (λ (p : ℕ × ℕ). p.0) same, ap (λ (p : ℕ × ℕ). p.1) same)

-- where an index is located, a registered group has it
pub locate-at : (made : List RegisteredGroup) (i : VMSharedTypeIndex) (at : ℕ × ℕ) → locate made i ≡ Some at → IsAt made i at
locate-at [] i at h = absurd (cc)
locate-at (m ∷ made) i at h = by (place_in i m.indices) refl h (locate-at made i at)
  where
    by : (place : Option ℕ) → place_in i m.indices ≡ place → located_here m.number place (locate made i) ≡ Some at
        → (locate made i ≡ Some at → IsAt made i at) → IsAt (m ∷ made) i at
    by (Some place) e here later =
        let pair = pair_of m.number place at here in
        record {
          group = m;
          among = inl refl;
          number = pair.0;
          place = subst (λ (n : ℕ). slice_get m.indices n ≡ Some i) pair.1 (place_in-get m.indices i place e);
        }
    by None e there later =
        let rest = later there in
        record { group = rest.group; among = inr rest.among; number = rest.number; place = rest.place }

-- one place has one index
pub one_place : (low top : ℕ) (made : List RegisteredGroup) (i j : VMSharedTypeIndex) (at : ℕ × ℕ) → IsRising low made top → locate made i ≡ Some at → locate made j ≡ Some at → i ≡ j
one_place low top made i j at rising first second =
    let a = locate-at made i at first in
    let b = locate-at made j at second in
    let same = one_number low top made a.group b.group rising a.among b.among (a.number ∙ sym b.number) in
    some_same (sym a.place ∙ ap (λ (m : RegisteredGroup). slice_get m.indices at.1) same ∙ b.place)

-- ---- a group that is added

-- what was located stays located
pub locate-before : (made more : List RegisteredGroup) (i : VMSharedTypeIndex) (at : ℕ × ℕ) → locate made i ≡ Some at → locate (made ++ more) i ≡ Some at
locate-before [] more i at is = absurd (cc)
locate-before (m ∷ made) more i at is = by (place_in i m.indices) is (locate-before made more i at)
  where
    by : (place : Option ℕ) → located_here m.number place (locate made i) ≡ Some at → (locate made i ≡ Some at → locate (made ++ more) i ≡ Some at)
        → located_here m.number place (locate (made ++ more) i) ≡ Some at
    by (Some place) here later = here
    by None there later = later there

unused_here : (k : ℕ) (indices : List VMSharedTypeIndex) → is_used (map (λ i. i.0) indices) k ≡ list_any (λ i. i.0 == k) indices
unused_here k [] = refl
unused_here k (i ∷ indices) = ap (λ b. (i.0 == k) || b) (unused_here k indices)

-- what is added is located in it, if no earlier group has the index
locate-new : (made : List RegisteredGroup) (m : RegisteredGroup) (i : VMSharedTypeIndex) (place : ℕ) → is_used (used made) i.0 ≡ false → place_in i m.indices ≡ Some place → locate (made ++ m ∷ []) i ≡ Some (m.number, place)
locate-new [] m i place unused is = ap (λ found. located_here m.number found None) is
locate-new (x ∷ xs) m i place unused is =
    let both = neither (is_used (map (λ (j : VMSharedTypeIndex). j.0) x.indices) i.0) (is_used (used xs) i.0) (sym (list_any-append (λ j. j == i.0) (map (λ (j : VMSharedTypeIndex). j.0) x.indices) (used xs)) ∙ unused) in
    let none = none_at (λ (j : VMSharedTypeIndex). j.0 == i.0) 0 x.indices (sym (unused_here i.0 x.indices) ∙ both.0) in
    ap (λ found. located_here x.number found (locate (xs ++ m ∷ []) i)) none ∙ locate-new xs m i place both.1 is

-- each index is located at its place in its group, also those of the group that is added
pub located-added : (made : List RegisteredGroup) (m : RegisteredGroup) → IsLocated made → AreUnused (used made) m.indices → AreDistinct m.indices → IsLocated (made ++ m ∷ [])
located-added made m located unused distinct a j i at is = by (among_pushed made m a at)
  where
    own : slice_get m.indices j ≡ Some i → locate (made ++ m ∷ []) i ≡ Some (m.number, j)
    own here = locate-new made m i j (unused i (get_among m.indices j i here)) (place_in-distinct m.indices i j distinct here)

    by : Among a made ⊎ (a ≡ m) → locate (made ++ m ∷ []) i ≡ Some (a.number, j)
    by (inl there) = locate-before made (m ∷ []) i (a.number, j) (located a j i there is)
    by (inr same) =
        own (ap (λ (x : RegisteredGroup). slice_get x.indices j) (sym same) ∙ is) ∙ ap (λ (x : RegisteredGroup). Some (x.number, j)) (sym same)
