-- One step of a pass over two lists side by side, from their ends on.
use Rattle.std.proofs.Common.{◌≡◌, ℕ, zero, suc, ◌+◌, ◌-◌, ◌<◌, ◌≤◌, Bool, true, false, List, [], ◌∷◌, ◌++◌, length, take, drop, get_or, slice_index_or, refl, sym, ap, ◌∙◌, arith}
use Rattle.std.specs.List.{remove}
use Rattle.std.proofs.lemmas.List.{take_at, drop_at, drop_more, length-take-le, append_assoc}
use Rattle.std.proofs.lemmas.Grind.{take_at_read}
use Rattle.wt_keys.specs.Marks.{marked_items}

pub split_one : {X : Type 0} (xs : List X) (k : ℕ) → k < length xs → (x : X) × (drop k xs ≡ x ∷ drop (k + 1) xs) × (take (k + 1) xs ≡ take k xs ++ x ∷ [])
split_one [] k h = absurd (omega (arith, h))
split_one (y ∷ ys) k h = (get_or (y ∷ ys) k y, drop_more (y ∷ ys) k y h, (take_at_read (y ∷ ys) k y h).1)

-- what stands in front, at the place and behind
pub split_back : {X : Type 0} (now before behind : List X) (k : ℕ) (x : X) → now ≡ take (k + 1) before ++ behind → take (k + 1) before ≡ take k before ++ x ∷ [] → now ≡ take k before ++ x ∷ behind
split_back now before behind k x is more = is ∙ (ap (λ front. front ++ behind) more ∙ append_assoc (take k before) (x ∷ []) behind)

pub front_long : {X : Type 0} (before : List X) (k : ℕ) → k < length before → length (take k before) ≡ k
front_long before k h = length-take-le k before (omega (arith, h))

pub one_down : (place : ℕ) → 0 < place → place ≡ place - 1 + 1
one_down place h = omega (arith, h)

-- ---- the removal of what isn't marked

-- the items where what isn't marked from this place on is gone
abbrev pub cleared : {X : Type 0} → List Bool → List X → ℕ → List X
cleared marks before place = take place before ++ marked_items (drop place marks) (drop place before)

module _ {X : Type 0} (marks : List Bool) (before items : List X) (place : ℕ) where
  pub down_kept : 0 < place → place ≤ length marks → length marks ≡ length before → items ≡ cleared marks before place → slice_index_or marks (place - 1) false ≡ true
      → items ≡ cleared marks before (place - 1)
  down_kept above within long is read =
      let k = place - 1 in
      let one = split_one before k (omega (arith, above, within, long)) in
      let rest = marked_items (drop (k + 1) marks) (drop (k + 1) before) in
      let flat : items ≡ take k before ++ one.0 ∷ rest = split_back items before rest k one.0 (is ∙ ap (cleared marks before) (one_down place above)) one.2 in
      let mark : drop k marks ≡ true ∷ drop (k + 1) marks = drop_more marks k false (omega (arith, above, within)) ∙ ap (λ b. b ∷ drop (k + 1) marks) read in
      flat ∙ sym (λ i. take k before ++ marked_items (mark i) (one.1 i))

  pub down_removed : 0 < place → place ≤ length marks → length marks ≡ length before → items ≡ cleared marks before place → slice_index_or marks (place - 1) false ≡ false
      → remove items (place - 1) ≡ cleared marks before (place - 1)
  down_removed above within long is read =
      let k = place - 1 in
      let one = split_one before k (omega (arith, above, within, long)) in
      let rest = marked_items (drop (k + 1) marks) (drop (k + 1) before) in
      let here : items ≡ take (k + 1) before ++ rest = is ∙ ap (cleared marks before) (one_down place above) in
      let flat : items ≡ take k before ++ one.0 ∷ rest = split_back items before rest k one.0 here one.2 in
      let short : length (take k before) ≡ k = front_long before k (omega (arith, above, within, long)) in
      let front : length (take (k + 1) before) ≡ suc k = length-take-le (k + 1) before (omega (arith, above, within, long)) ∙ omega arith in
      let mark : drop k marks ≡ false ∷ drop (k + 1) marks = drop_more marks k false (omega (arith, above, within)) ∙ ap (λ b. b ∷ drop (k + 1) marks) read in
      let first : take k items ≡ take k before = ap (take k) flat ∙ take_at (take k before) (one.0 ∷ rest) k short in
      let second : drop (suc k) items ≡ rest = ap (drop (suc k)) here ∙ drop_at (take (k + 1) before) rest (suc k) front in
      (λ i. first i ++ second i) ∙ sym (λ i. take k before ++ marked_items (mark i) (one.1 i))

pub cleared_all : {X : Type 0} (marks : List Bool) (before : List X) (place : ℕ) → place ≤ 0 → cleared marks before place ≡ marked_items marks before
cleared_all marks before zero none = refl
cleared_all marks before (suc place) none = absurd (omega (arith, none))
