-- What the counts stand for, past those of other groups.
use Rattle.std.proofs.Common.{◌≡◌, ℕ, ◌+◌, ◌<◌, ◌==◌, Bool, true, false, cond, not, ◌||◌, List, [], ◌∷◌, ◌++◌, length, set, slice_index, slice_set, get_or, Some, None, is_some, refl, ap, sym, ◌∙◌, subst, inl, inr}
use Rattle.std.proofs.lemmas.List.{append-nil, map-append}
use Rattle.std.specs.List.{position_from, list_any}
use Rattle.wt_holds.specs.declared.hold_counts.HoldCounts.{HoldCounts}
use Rattle.wt_keys.specs.declared.entry.RecGroupEntry.{RecGroupEntry}
use Rattle.wt_holds.specs.Counts.{standing_of, standings_of}
use Rattle.wt_keys.specs.Entries.{made_by}
use Rattle.wt_model.specs.Registered.{GroupHolds}
use Rattle.wt_env.specs.Among.{Among}
use Rattle.wt_model.specs.Holds.{is_held, held_at, waits_at, change, gained, is_registered}
use Rattle.wt_model.proofs.holds.Standings.{is_held-raised}
use Rattle.wt_env.proofs.lists.Found.{found_from, neither, none_found, found_item, found_set}

abbrev is_it : ℕ → HoldCounts → Bool
is_it number count = count.number == number

held_at-past : (party number : ℕ) (passed rest : List HoldCounts) → list_any (is_it number) passed ≡ false
    → held_at (standings_of (passed ++ rest)) party number ≡ held_at (standings_of rest) party number
held_at-past party number [] rest none = refl
held_at-past party number (count ∷ passed) rest none =
    let both = neither (count.number == number) (list_any (is_it number) passed) none in
    let other = both.0 in
    rw other (held_at-past party number passed rest both.1)

waits_at-past : (number : ℕ) (passed rest : List HoldCounts) → list_any (is_it number) passed ≡ false
    → waits_at (standings_of (passed ++ rest)) number ≡ waits_at (standings_of rest) number
waits_at-past number [] rest none = refl
waits_at-past number (count ∷ passed) rest none =
    let both = neither (count.number == number) (list_any (is_it number) passed) none in
    let other = both.0 in
    rw other (waits_at-past number passed rest both.1)

change-past : (number : ℕ) (f : GroupHolds → GroupHolds) (passed rest : List HoldCounts) → list_any (is_it number) passed ≡ false
    → change number f (standings_of (passed ++ rest)) ≡ standings_of passed ++ change number f (standings_of rest)
change-past number f [] rest none = refl
change-past number f (count ∷ passed) rest none =
    let both = neither (count.number == number) (list_any (is_it number) passed) none in
    let other = both.0 in
    rw other (ap (λ later. standing_of count ∷ later) (change-past number f passed rest both.1))

-- with what was found between them

held_at-split : (party number : ℕ) (passed : List HoldCounts) (x : HoldCounts) (rest : List HoldCounts) → list_any (is_it number) passed ≡ false → is_it number x ≡ true
    → held_at (standings_of (passed ++ x ∷ rest)) party number ≡ slice_index x.holds.items party
held_at-split party number passed x rest none here = held_at-past party number passed (x ∷ rest) none ∙ rw here refl

waits_at-split : (number : ℕ) (passed : List HoldCounts) (x : HoldCounts) (rest : List HoldCounts) → list_any (is_it number) passed ≡ false → is_it number x ≡ true
    → waits_at (standings_of (passed ++ x ∷ rest)) number ≡ x.waits
waits_at-split number passed x rest none here = waits_at-past number passed (x ∷ rest) none ∙ rw here refl

change-split : (number : ℕ) (f : GroupHolds → GroupHolds) (passed : List HoldCounts) (x : HoldCounts) (rest : List HoldCounts) → list_any (is_it number) passed ≡ false → is_it number x ≡ true
    → change number f (standings_of (passed ++ x ∷ rest)) ≡ standings_of passed ++ f (standing_of x) ∷ standings_of rest
change-split number f passed x rest none here = change-past number f passed (x ∷ rest) none ∙ rw here refl

-- ---- at a place

pub held_at-found : (party number place : ℕ) (counts : List HoldCounts) (x : HoldCounts) → position_from (λ count. count.number == number) 0 counts ≡ Some place
    → x ≡ get_or counts place x → slice_index x.holds.items party ≡ held_at (standings_of counts) party number
held_at-found party number place counts x h e =
    let found = found_from (is_it number) 0 place counts h in
    ap (λ count. slice_index count.holds.items party) (found_item (is_it number) place counts h x e)
    ∙ (sym (held_at-split party number found.passed found.item found.rest found.none_before found.passes)
    ∙ ap (λ list. held_at (standings_of list) party number) (sym found.splits))

pub held_at-none : (party number : ℕ) (counts : List HoldCounts) → position_from (λ count. count.number == number) 0 counts ≡ None
    → 0 ≡ held_at (standings_of counts) party number
held_at-none party number counts h =
    sym (held_at-past party number counts [] (none_found (is_it number) 0 counts h))
    ∙ ap (λ list. held_at (standings_of list) party number) (append-nil counts)

pub waits_at-found : (number place : ℕ) (counts : List HoldCounts) (x : HoldCounts) → position_from (λ count. count.number == number) 0 counts ≡ Some place
    → x ≡ get_or counts place x → x.waits ≡ waits_at (standings_of counts) number
waits_at-found number place counts x h e =
    let found = found_from (is_it number) 0 place counts h in
    ap (λ count. count.waits) (found_item (is_it number) place counts h x e)
    ∙ (sym (waits_at-split number found.passed found.item found.rest found.none_before found.passes)
    ∙ ap (λ list. waits_at (standings_of list) number) (sym found.splits))

pub waits_at-none : (number : ℕ) (counts : List HoldCounts) → position_from (λ count. count.number == number) 0 counts ≡ None
    → false ≡ waits_at (standings_of counts) number
waits_at-none number counts h =
    sym (waits_at-past number counts [] (none_found (is_it number) 0 counts h))
    ∙ ap (λ list. waits_at (standings_of list) number) (append-nil counts)

pub change-found : (number place : ℕ) (f : GroupHolds → GroupHolds) (counts : List HoldCounts) (x y : HoldCounts) → position_from (λ count. count.number == number) 0 counts ≡ Some place
    → x ≡ get_or counts place x → standing_of y ≡ f (standing_of x)
    → standings_of (set counts place y) ≡ change number f (standings_of counts)
change-found number place f counts x y h e changed =
    let found = found_from (is_it number) 0 place counts h in
    let there : standing_of y ≡ f (standing_of found.item) = changed ∙ ap (λ count. f (standing_of count)) (found_item (is_it number) place counts h x e) in
    ap standings_of (found_set (is_it number) place counts h y)
    ∙ (map-append standing_of found.passed (y ∷ found.rest)
    ∙ (ap (λ standing. standings_of found.passed ++ standing ∷ standings_of found.rest) there
    ∙ (sym (change-split number f found.passed found.item found.rest found.none_before found.passes)
    ∙ ap (λ list. change number f (standings_of list)) (sym found.splits))))

pub change-none : (number : ℕ) (f : GroupHolds → GroupHolds) (counts : List HoldCounts) → position_from (λ count. count.number == number) 0 counts ≡ None
    → standings_of counts ≡ change number f (standings_of counts)
change-none number f counts h =
    sym (append-nil (standings_of counts))
    ∙ (sym (change-past number f counts [] (none_found (is_it number) 0 counts h))
    ∙ ap (λ list. change number f (standings_of list)) (append-nil counts))

-- ---- who is asked for

among-split : (passed : List HoldCounts) (x : HoldCounts) (rest : List HoldCounts) → Among x (passed ++ x ∷ rest)
among-split [] x rest = inl refl
among-split (y ∷ passed) x rest = inr (among-split passed x rest)

pub among-found : (number place : ℕ) (counts : List HoldCounts) (x : HoldCounts) → position_from (λ count. count.number == number) 0 counts ≡ Some place
    → x ≡ get_or counts place x → Among x counts
among-found number place counts x h e =
    let found = found_from (is_it number) 0 place counts h in
    let there : Among found.item counts = subst (λ (list : List HoldCounts). Among found.item list) (sym found.splits) (among-split found.passed found.item found.rest) in
    subst (λ (count : HoldCounts). Among count counts) (sym (found_item (is_it number) place counts h x e)) there

-- ---- entries

pub position-made : (number from : ℕ) (entries : List RecGroupEntry) → is_some (position_from (λ entry. entry.number == number) from entries) ≡ is_registered (made_by entries) number
position-made number from [] = refl
position-made number from (entry ∷ entries) = by (entry.number == number) (position-made number (from + 1) entries)
  where
    by : (b : Bool) → is_some (position_from (λ e. e.number == number) (from + 1) entries) ≡ is_registered (made_by entries) number
        → is_some (cond b (Some from) (position_from (λ e. e.number == number) (from + 1) entries)) ≡ (b || is_registered (made_by entries) number)
    by true h = refl
    by false h = h

-- the standing of the holds with one more
pub raised : (number : ℕ) (holds : List ℕ) (party n : ℕ) → n ≡ slice_index holds party → party < length holds
    → let more = slice_set holds party (n + 1) in let standing : GroupHolds = record { number = number; holds = more; waits = not (is_held more) } in
    standing ≡ gained party (record { number = number; holds = holds; waits = not (is_held holds) })
raised number holds party n same within =
    let held : not (is_held (slice_set holds party (n + 1))) ≡ false = ap not (is_held-raised holds party n within) in
    λ i. record { number = number; holds = slice_set holds party (same i + 1); waits = held i }
