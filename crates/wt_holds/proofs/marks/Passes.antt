-- One step of a pass over two lists side by side, from their ends on.
use Rattle.std.proofs.Common.{◌≡◌, ℕ, zero, suc, ◌+◌, ◌-◌, ◌<◌, ◌≤◌, Bool, true, false, ◌||◌, List, ◌∷◌, ◌++◌, length, take, drop, set, get_or, slice_index_or, refl, sym, ap, ◌∙◌, arith}
use Rattle.std.proofs.lemmas.List.{get_or_at, set_at, drop_at, drop_more, take_all, length-drop, length-take-le}
use Rattle.wt_keys.specs.declared.entry.RecGroupEntry.{RecGroupEntry}
use Rattle.wt_keys.specs.Entries.{made_by}
use Rattle.wt_holds.specs.Marks.{marked_leads}
use Rattle.wt_keys.proofs.Passes.{split_one, split_back, front_long, one_down}
use Rattle.wt_holds.proofs.marks.Walked.{walked}

-- a slice from a place on
pub whole_rest : {X : Type 0} (xs : List X) (n : ℕ) → take (length xs - n) (drop n xs) ≡ drop n xs
whole_rest xs n = let long = length-drop n xs in take_all (length xs - n) (drop n xs) (omega (arith, long))

pub same_rest : {X Y : Type 0} (xs : List X) (ys : List Y) (n : ℕ) → length xs ≡ length ys → length (take (length xs - n) (drop n xs)) ≡ length (take (length ys - n) (drop n ys))
same_rest xs ys n same =
    ap length (whole_rest xs n)
    ∙ (length-drop n xs ∙ (ap (λ long. long - n) same ∙ (sym (length-drop n ys) ∙ sym (ap length (whole_rest ys n)))))

-- ---- the walk that marks

-- the marks where the pass is done from this place on
abbrev pub done : List RecGroupEntry → List Bool → ℕ → List Bool
done entries before place = take place before ++ walked (made_by (drop place entries)) (drop place before)

module _ (entries : List RecGroupEntry) (before marks : List Bool) (k : ℕ) (entry : RecGroupEntry) where
  done-step : (mark : Bool) → drop k entries ≡ entry ∷ drop (k + 1) entries → drop k before ≡ mark ∷ drop (k + 1) before
      → done entries before k ≡ take k before ++ (mark || marked_leads (made_by (drop (k + 1) entries)) (walked (made_by (drop (k + 1) entries)) (drop (k + 1) before)) entry.number) ∷ walked (made_by (drop (k + 1) entries)) (drop (k + 1) before)
  done-step mark first second = λ i. take k before ++ walked (made_by (first i)) (second i)

  -- what is marked stays so
  step_marked : k < length before → drop k entries ≡ entry ∷ drop (k + 1) entries → marks ≡ done entries before (k + 1) → slice_index_or marks k false ≡ true → marks ≡ done entries before k
  step_marked within first is read =
      let one = split_one before k within in
      let rest = walked (made_by (drop (k + 1) entries)) (drop (k + 1) before) in
      let by = marked_leads (made_by (drop (k + 1) entries)) (walked (made_by (drop (k + 1) entries)) (drop (k + 1) before)) entry.number in
      let flat : marks ≡ take k before ++ one.0 ∷ rest = split_back marks before rest k one.0 is one.2 in
      let at : get_or marks k false ≡ one.0 = ap (λ list. get_or list k false) flat ∙ get_or_at (take k before) one.0 rest false k (front_long before k within) in
      let on : one.0 ≡ true = sym at ∙ read in
      let same : one.0 ≡ (one.0 || by) = on ∙ sym (ap (λ b. b || by) on) in
      flat ∙ (ap (λ b. take k before ++ b ∷ rest) same ∙ sym (done-step one.0 first one.1))

  -- what isn't is marked where a marked one leads_to it
  step_unmarked : (mark : Bool) → k < length before → drop k entries ≡ entry ∷ drop (k + 1) entries → marks ≡ done entries before (k + 1) → slice_index_or marks k false ≡ false
      → mark ≡ marked_leads (made_by (take (length entries - (k + 1)) (drop (k + 1) entries))) (take (length marks - (k + 1)) (drop (k + 1) marks)) entry.number
      → set marks k mark ≡ done entries before k
  step_unmarked mark within first is read found =
      let one = split_one before k within in
      let rest = walked (made_by (drop (k + 1) entries)) (drop (k + 1) before) in
      let by = marked_leads (made_by (drop (k + 1) entries)) (walked (made_by (drop (k + 1) entries)) (drop (k + 1) before)) entry.number in
      let long = front_long before k within in
      let flat : marks ≡ take k before ++ one.0 ∷ rest = split_back marks before rest k one.0 is one.2 in
      let at : get_or marks k false ≡ one.0 = ap (λ list. get_or list k false) flat ∙ get_or_at (take k before) one.0 rest false k long in
      let off : one.0 ≡ false = sym at ∙ read in
      let front : length (take (k + 1) before) ≡ k + 1 = length-take-le (k + 1) before (omega (arith, within)) in
      let later : drop (k + 1) marks ≡ rest = ap (drop (k + 1)) is ∙ drop_at (take (k + 1) before) rest (k + 1) front in
      let named_here : mark ≡ by =
      found
      ∙ ((λ i. marked_leads (made_by (whole_rest entries (k + 1) i)) (whole_rest marks (k + 1) i) entry.number)
      ∙ ap (λ list. marked_leads (made_by (drop (k + 1) entries)) list entry.number) later) in
      let same : mark ≡ (one.0 || by) = named_here ∙ sym (ap (λ b. b || by) off) in
      ap (λ list. set list k mark) flat
      ∙ (set_at (take k before) one.0 rest mark k long
      ∙ (ap (λ b. take k before ++ b ∷ rest) same ∙ sym (done-step one.0 first one.1)))

-- the same one place down
pub down_marked : (entries : List RecGroupEntry) (before marks : List Bool) (place : ℕ) → 0 < place → place ≤ length entries → length before ≡ length entries
    → marks ≡ done entries before place → slice_index_or marks (place - 1) false ≡ true → marks ≡ done entries before (place - 1)
down_marked entries before marks place above within long is read =
    let one = split_one entries (place - 1) (omega (arith, above, within)) in
    step_marked entries before marks (place - 1) one.0 (omega (arith, above, within, long)) one.1 (is ∙ ap (done entries before) (one_down place above)) read

pub down_unmarked : (entries : List RecGroupEntry) (before marks : List Bool) (place : ℕ) (entry : RecGroupEntry) (mark : Bool) → 0 < place → place ≤ length entries → length before ≡ length entries
    → marks ≡ done entries before place → slice_index_or marks (place - 1) false ≡ false → entry ≡ slice_index_or entries (place - 1) entry
    → mark ≡ marked_leads (made_by (take (length entries - (place - 1 + 1)) (drop (place - 1 + 1) entries))) (take (length marks - (place - 1 + 1)) (drop (place - 1 + 1) marks)) (slice_index_or entries (place - 1) entry).number
    → set marks (place - 1) mark ≡ done entries before (place - 1)
down_unmarked entries before marks place entry mark above within long is read own found =
    let by : ℕ → Bool = marked_leads (made_by (take (length entries - (place - 1 + 1)) (drop (place - 1 + 1) entries))) (take (length marks - (place - 1 + 1)) (drop (place - 1 + 1) marks)) in
    let found_own : mark ≡ by entry.number = found ∙ ap (λ (e : RecGroupEntry). by e.number) (sym own) in
    let first : drop (place - 1) entries ≡ entry ∷ drop (place - 1 + 1) entries =
    drop_more entries (place - 1) entry (omega (arith, above, within)) ∙ ap (λ e. e ∷ drop (place - 1 + 1) entries) (sym own) in
    step_unmarked entries before marks (place - 1) entry mark (omega (arith, above, within, long)) first (is ∙ ap (done entries before) (one_down place above)) read found_own

-- the pass is done from the first on
pub done_all : (entries : List RecGroupEntry) (before : List Bool) (place : ℕ) → place ≤ 0 → done entries before place ≡ walked (made_by entries) before
done_all entries before zero none = refl
done_all entries before (suc place) none = absurd (omega (arith, none))
