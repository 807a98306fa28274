-- Where a search stops, the list splits into what it passed, what it found and the rest.
use Rattle.std.proofs.Common.{◌≡◌, ℕ, suc, ◌+◌, ◌<◌, Bool, true, false, cond, ◌||◌, List, [], ◌∷◌, ◌++◌, length, take, drop, set, get_or, Some, None, refl, ap, sym, ◌∙◌, arith}
use Rattle.std.proofs.lemmas.List.{get_or_at, set_at, take_at, drop_at, length-append, append_assoc}
use Rattle.std.specs.List.{position_from, list_any, remove}

pub record FoundFrom {A : Type 0} (test : A → Bool) (from : ℕ) (items : List A) (at : ℕ) : Type 0 where
  pub passed : List A
  pub item : A
  pub rest : List A
  pub splits : items ≡ passed ++ item ∷ rest
  pub place : from + length passed ≡ at
  pub passes : test item ≡ true
  pub none_before : list_any test passed ≡ false

pub neither : (a b : Bool) → (a || b) ≡ false → (a ≡ false) × (b ≡ false)
neither true b h = (h, absurd (cc))
neither false b h = (refl, h)

pub found_from : {A : Type 0} (test : A → Bool) (from place : ℕ) (items : List A) → position_from test from items ≡ Some place → FoundFrom test from items place
found_from test from place [] h = absurd (cc)
found_from {A} test from place (x ∷ items) h = by (test x) refl h (found_from test (from + 1) place items)
  where
    by : (b : Bool) → test x ≡ b → cond b (Some from) (position_from test (from + 1) items) ≡ Some place
        → (position_from test (from + 1) items ≡ Some place → FoundFrom test (from + 1) items place)
        → FoundFrom test from (x ∷ items) place
    by true e h later =
        let same : from ≡ place = cc in
        record { passed = []; item = x; rest = items; splits = refl; place = omega arith; passes = e; none_before = refl }
    by false e h later =
        let found = later h in
        record {
          passed = x ∷ found.passed;
          item = found.item;
          rest = found.rest;
          splits = ap (λ xs. x ∷ xs) found.splits;
          place = omega (arith, found.place);
          passes = found.passes;
          none_before = rw e found.none_before;
        }

pub none_found : {A : Type 0} (test : A → Bool) (from : ℕ) (items : List A) → position_from test from items ≡ None → list_any test items ≡ false
none_found test from [] h = refl
none_found {A} test from (x ∷ items) h = by (test x) h (none_found test (from + 1) items)
  where
    by : (b : Bool) → cond b (Some from) (position_from test (from + 1) items) ≡ None
        → (position_from test (from + 1) items ≡ None → list_any test items ≡ false)
        → (b || list_any test items) ≡ false
    by true h later = absurd (cc)
    by false h later = later h

pub found_within : {A : Type 0} (test : A → Bool) (place : ℕ) (items : List A) → position_from test 0 items ≡ Some place → place < length items
found_within test place items h =
    let found = found_from test 0 place items h in
    let long = ap length found.splits ∙ length-append found.passed (found.item ∷ found.rest) in
    omega (arith, found.place, long)

-- what is read at the place is what was found
pub found_item : {A : Type 0} (test : A → Bool) (place : ℕ) (items : List A) (h : position_from test 0 items ≡ Some place) (x : A)
    → x ≡ get_or items place x → x ≡ (found_from test 0 place items h).item
found_item test place items h x e =
    let found = found_from test 0 place items h in
    let at : length found.passed ≡ place = omega (arith, found.place) in
    e ∙ (ap (λ xs. get_or xs place x) found.splits ∙ get_or_at found.passed found.item found.rest x place at)

pub found_set : {A : Type 0} (test : A → Bool) (place : ℕ) (items : List A) (h : position_from test 0 items ≡ Some place) (x : A)
    → set items place x ≡ (found_from test 0 place items h).passed ++ x ∷ (found_from test 0 place items h).rest
found_set test place items h x =
    let found = found_from test 0 place items h in
    let at : length found.passed ≡ place = omega (arith, found.place) in
    ap (λ xs. set xs place x) found.splits ∙ set_at found.passed found.item found.rest x place at

pub found_remove : {A : Type 0} (test : A → Bool) (place : ℕ) (items : List A) (h : position_from test 0 items ≡ Some place)
    → remove items place ≡ (found_from test 0 place items h).passed ++ (found_from test 0 place items h).rest
found_remove {A} test place items h =
    let found = found_from test 0 place items h in
    let at : length found.passed ≡ place = omega (arith, found.place) in
    let after : length (found.passed ++ found.item ∷ []) ≡ suc place = length-append found.passed (found.item ∷ []) ∙ omega arith in
    let first : take place items ≡ found.passed = ap (take place) found.splits ∙ take_at found.passed (found.item ∷ found.rest) place at in
    let second : drop (suc place) items ≡ found.rest =
    ap (drop (suc place)) (found.splits ∙ sym (append_assoc found.passed (found.item ∷ []) found.rest))
    ∙ drop_at (found.passed ++ found.item ∷ []) found.rest (suc place) after in
    λ i. first i ++ second i
