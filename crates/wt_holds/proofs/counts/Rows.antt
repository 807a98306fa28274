-- What counts have under a number, where one is changed or taken away.
use Rattle.std.proofs.Common.{◌≡◌, ℕ, zero, suc, ◌+◌, ◌-◌, ◌<◌, ◌≤◌, ◌==◌, ◌⊎◌, inl, inr, Bool, true, false, cond, not, ◌||◌, ◌&&◌, nat_lt, List, [], ◌∷◌, ◌++◌, length, map, set, get_or, sum, Some, None, refl, ap, sym, subst, ◌∙◌, arith, eq-eqb}
use Rattle.std.specs.List.{position_from, list_any, filter, remove}
use Rattle.std.proofs.lemmas.List.{append-nil}
use Rattle.std.proofs.lemmas.List.Sums.{sum_by-cons, sum_by-set, get_or-le-sum_by}
use Rattle.wt_env.specs.Among.{Among}
use Rattle.wt_env.proofs.lists.Filtered.{among_filter, map_filter}
use Rattle.wt_env.proofs.lists.Found.{found_from, found_within, neither, none_found, found_item, found_set}
use Rattle.wt_model.specs.Holds.{is_held}
use Rattle.wt_model.specs.Registered.{GroupHolds}
use Rattle.wt_model.specs.Removal.{is_rooted, is_root, kept_standings}
use Rattle.wt_model.proofs.holds.Rooted.{RiseAbove, rise_first}
use Rattle.wt_keys.proofs.Removed.{filter-all}
use Rattle.wt_holds.specs.declared.hold_counts.HoldCounts.{HoldCounts}
use Rattle.wt_holds.specs.Counts.{standing_of, standings_of, row_has, AreTotals}
use Rattle.wt_holds.proofs.counts.Times.{same_number, differ, not_same}
use Rattle.wt_holds.proofs.counts.Popped.{but-passes, but-own}

abbrev is_it : ℕ → HoldCounts → Bool
is_it number count = count.number == number

module _ {A : Type 0} (f : HoldCounts → A) (default : A) (number : ℕ) where
  row-past : (passed rest : List HoldCounts) → list_any (is_it number) passed ≡ false → row_has f default (passed ++ rest) number ≡ row_has f default rest number
  row-past [] rest none = refl
  row-past (count ∷ passed) rest none =
      let both = neither (count.number == number) (list_any (is_it number) passed) none in
      ap (λ b. cond b (f count) (row_has f default (passed ++ rest) number)) both.0 ∙ row-past passed rest both.1

  pub row-found : (place : ℕ) (counts : List HoldCounts) (x : HoldCounts) → position_from (λ count. count.number == number) 0 counts ≡ Some place
      → x ≡ get_or counts place x → row_has f default counts number ≡ f x
  row-found place counts x h e =
      let found = found_from (is_it number) 0 place counts h in
      ap (λ (list : List HoldCounts). row_has f default list number) found.splits
      ∙ row-past found.passed (found.item ∷ found.rest) found.none_before
      ∙ ap (λ b. cond b (f found.item) (row_has f default found.rest number)) found.passes
      ∙ ap f (sym (found_item (is_it number) place counts h x e))

  pub row-none : (counts : List HoldCounts) → position_from (λ count. count.number == number) 0 counts ≡ None → row_has f default counts number ≡ default
  row-none counts h =
      ap (λ (list : List HoldCounts). row_has f default list number) (sym (append-nil counts))
      ∙ row-past counts [] (none_found (is_it number) 0 counts h)

  changed : (n : ℕ) (passed : List HoldCounts) (x y : HoldCounts) (rest : List HoldCounts) → list_any (is_it number) passed ≡ false → x.number ≡ number → y.number ≡ number
      → row_has f default (passed ++ y ∷ rest) n ≡ cond (number == n) (f y) (row_has f default (passed ++ x ∷ rest) n)
  changed n [] x y rest none own same =
      ap (λ k. cond (k == n) (f y) (row_has f default rest n)) same
      ∙ (by (number == n) ∙ ap (λ k. cond (number == n) (f y) (cond (k == n) (f x) (row_has f default rest n))) (sym own))
    where
      by : (b : Bool) → cond b (f y) (row_has f default rest n) ≡ cond b (f y) (cond b (f x) (row_has f default rest n))
      by true = refl
      by false = refl
  changed n (p ∷ passed) x y rest none own same = by (p.number == n) refl (number == n) refl (changed n passed x y rest both.1 own same)
    where
      both : ((p.number == number) ≡ false) × (list_any (is_it number) passed ≡ false)
      both = neither (p.number == number) (list_any (is_it number) passed) none

      by : (b : Bool) → (p.number == n) ≡ b → (c : Bool) → (number == n) ≡ c → row_has f default (passed ++ y ∷ rest) n ≡ cond c (f y) (row_has f default (passed ++ x ∷ rest) n)
          → cond b (f p) (row_has f default (passed ++ y ∷ rest) n) ≡ cond c (f y) (cond b (f p) (row_has f default (passed ++ x ∷ rest) n))
      by true e true g later = absurd (differ p.number number both.0 (same_number p.number n e ∙ sym (same_number number n g)))
      by true e false g later = refl
      by false e c g later = later

  pub row-set : (place : ℕ) (counts : List HoldCounts) (x y : HoldCounts) → position_from (λ count. count.number == number) 0 counts ≡ Some place
      → x ≡ get_or counts place x → y.number ≡ x.number → (n : ℕ) → row_has f default (set counts place y) n ≡ cond (number == n) (f y) (row_has f default counts n)
  row-set place counts x y h e same n =
      let found = found_from (is_it number) 0 place counts h in
      let own : (found.item).number ≡ number = same_number (found.item).number number found.passes in
      ap (λ (list : List HoldCounts). row_has f default list n) (found_set (is_it number) place counts h y)
      ∙ changed n found.passed found.item y found.rest found.none_before own (same ∙ ap (λ (c : HoldCounts). c.number) (found_item (is_it number) place counts h x e) ∙ own)
      ∙ ap (λ (list : List HoldCounts). cond (number == n) (f y) (row_has f default list n)) (sym found.splits)

  -- where nothing that is read changes
  pub row-same : (place : ℕ) (counts : List HoldCounts) (x y : HoldCounts) → position_from (λ count. count.number == number) 0 counts ≡ Some place
      → x ≡ get_or counts place x → y.number ≡ x.number → f y ≡ f x → (n : ℕ) → row_has f default (set counts place y) n ≡ row_has f default counts n
  row-same place counts x y h e same equal n = row-set place counts x y h e same n ∙ by (number == n) refl
    where
      by : (b : Bool) → (number == n) ≡ b → cond b (f y) (row_has f default counts n) ≡ row_has f default counts n
      by true g = equal ∙ sym (row-found place counts x h e) ∙ ap (row_has f default counts) (same_number number n g)
      by false g = refl

  -- where it does
  pub row-changed : (place : ℕ) (counts : List HoldCounts) (x y : HoldCounts) (g : A → A) → position_from (λ count. count.number == number) 0 counts ≡ Some place
      → x ≡ get_or counts place x → y.number ≡ x.number → f y ≡ g (f x) → (n : ℕ)
      → row_has f default (set counts place y) n ≡ cond (number == n) (g (row_has f default counts n)) (row_has f default counts n)
  row-changed place counts x y g h e same equal n = row-set place counts x y h e same n ∙ by (number == n) refl
    where
      by : (b : Bool) → (number == n) ≡ b → cond b (f y) (row_has f default counts n) ≡ cond b (g (row_has f default counts n)) (row_has f default counts n)
      by true i = equal ∙ ap g (sym (row-found place counts x h e) ∙ ap (row_has f default counts) (same_number number n i))
      by false i = refl

  row-without : (counts : List HoldCounts) (n : ℕ) → row_has f default (filter (λ c. not (c.number == number)) counts) n ≡ cond (number == n) default (row_has f default counts n)
  row-without [] n = by (number == n)
    where
      by : (b : Bool) → default ≡ cond b default default
      by true = refl
      by false = refl
  row-without (x ∷ counts) n = by (x.number == number) refl (x.number == n) refl (number == n) refl (row-without counts n)
    where
      by : (a : Bool) → (x.number == number) ≡ a → (b : Bool) → (x.number == n) ≡ b → (c : Bool) → (number == n) ≡ c
          → row_has f default (filter (λ c. not (c.number == number)) counts) n ≡ cond c default (row_has f default counts n)
          → row_has f default (cond (not a) (x ∷ filter (λ c. not (c.number == number)) counts) (filter (λ c. not (c.number == number)) counts)) n ≡ cond c default (cond b (f x) (row_has f default counts n))
      by true e true g true i later = later
      by true e true g false i later = absurd (differ number n i (sym (same_number x.number number e) ∙ same_number x.number n g))
      by true e false g c i later = later
      by false e true g true i later = absurd (differ x.number number e (same_number x.number n g ∙ sym (same_number number n i)))
      by false e true g false i later = ap (λ b. cond b (f x) (row_has f default (filter (λ c. not (c.number == number)) counts) n)) g
      by false e false g c i later = ap (λ b. cond b (f x) (row_has f default (filter (λ c. not (c.number == number)) counts) n)) g ∙ later

  pub row-removed : (counts left : List HoldCounts) → left ≡ filter (λ c. not (c.number == number)) counts → (n : ℕ) → row_has f default left n ≡ cond (number == n) default (row_has f default counts n)
  row-removed counts left is n = ap (λ (list : List HoldCounts). row_has f default list n) is ∙ row-without counts n

-- ---- one is taken away

rows-removed : (low : ℕ) (counts : List HoldCounts) (k n : ℕ) (d : HoldCounts) → RiseAbove low (map (λ s. s.number) (standings_of counts)) → k < length counts → (get_or counts k d).number ≡ n
    → remove counts k ≡ filter (λ c. not (c.number == n)) counts
rows-removed low [] k n d rises below is = absurd (omega (arith, below))
rows-removed low (x ∷ xs) zero n d rises below is =
    sym (
    ap (λ b. cond b (x ∷ filter (λ c. not (c.number == n)) xs) (filter (λ c. not (c.number == n)) xs)) (but-own n x.number is)
    ∙ filter-all (λ c. not (c.number == n)) xs (λ c at. but-passes n c.number (λ same. let above = rise_first x.number (map (λ s. s.number) (standings_of xs)) c.number rises.1 (named xs c at) in omega (arith, above, same, is))))
  where
    named : (ys : List HoldCounts) (c : HoldCounts) → Among c ys → Among c.number (map (λ s. s.number) (standings_of ys))
    named [] c at = absurd at
    named (y ∷ ys) c (inl same) = inl (ap (λ (z : HoldCounts). z.number) same)
    named (y ∷ ys) c (inr later) = inr (named ys c later)
rows-removed low (x ∷ xs) (suc k) n d rises below is =
    ap (λ rest. x ∷ rest) (rows-removed x.number xs k n d rises.1 (omega (arith, below)) is)
    ∙ sym (ap (λ b. cond b (x ∷ filter (λ c. not (c.number == n)) xs) (filter (λ c. not (c.number == n)) xs)) (but-passes n x.number (λ same.
    let above = rise_first x.number (map (λ s. s.number) (standings_of xs)) (get_or xs k d).number rises.1 (at xs k (omega (arith, below))) in omega (arith, above, same, is))))
  where
    at : (ys : List HoldCounts) (j : ℕ) → j < length ys → Among (get_or ys j d).number (map (λ s. s.number) (standings_of ys))
    at [] j short = absurd (omega (arith, short))
    at (y ∷ ys) zero short = inl refl
    at (y ∷ ys) (suc j) short = inr (at ys j (omega (arith, short)))

pub removed-row : (number place : ℕ) (counts : List HoldCounts) → RiseAbove 0 (map (λ s. s.number) (standings_of counts)) → position_from (λ count. count.number == number) 0 counts ≡ Some place
    → remove counts place ≡ filter (λ c. not (c.number == number)) counts
removed-row number place counts rises h =
    let found = found_from (is_it number) 0 place counts h in
    let below = found_within (is_it number) place counts h in
    let item = found_item (is_it number) place counts h (get_or counts place found.item) (default-same counts place found.item below) in
    rows-removed 0 counts place number found.item rises below (ap (λ (c : HoldCounts). c.number) item ∙ same_number (found.item).number number found.passes)
  where
    default-same : (xs : List HoldCounts) (k : ℕ) (d : HoldCounts) → k < length xs → get_or xs k d ≡ get_or xs k (get_or xs k d)
    default-same [] k d below = absurd (omega (arith, below))
    default-same (x ∷ xs) zero d below = refl
    default-same (x ∷ xs) (suc k) d below = default-same xs k d (omega (arith, below))

pub none-removed : (number : ℕ) (counts : List HoldCounts) → position_from (λ count. count.number == number) 0 counts ≡ None → counts ≡ filter (λ c. not (c.number == number)) counts
none-removed number counts h = sym (filter-all (λ c. not (c.number == number)) counts (λ c at. none counts c at (none_found (is_it number) 0 counts h)))
  where
    none : (xs : List HoldCounts) (c : HoldCounts) → Among c xs → list_any (is_it number) xs ≡ false → not (c.number == number) ≡ true
    none [] c at e = absurd at
    none (x ∷ xs) c (inl same) e = ap not (ap (λ (y : HoldCounts). y.number == number) same ∙ (neither (x.number == number) (list_any (is_it number) xs) e).0)
    none (x ∷ xs) c (inr later) e = none xs c later (neither (x.number == number) (list_any (is_it number) xs) e).1

pub standings-removed : (number : ℕ) (counts left : List HoldCounts) → left ≡ filter (λ c. not (c.number == number)) counts → standings_of left ≡ kept_standings (λ n. not (n == number)) (standings_of counts)
standings-removed number counts left is = ap standings_of is ∙ map_filter standing_of (λ (s : GroupHolds). not (s.number == number)) counts

pub totals-removed : (number : ℕ) (counts left : List HoldCounts) → left ≡ filter (λ c. not (c.number == number)) counts → AreTotals counts → AreTotals left
totals-removed number counts left is are c at = are c (among_filter (λ (x : HoldCounts). not (x.number == number)) counts c (subst (Among c) is at)).0

-- ---- totals

among-set : {A : Type 0} (xs : List A) (k : ℕ) (y x : A) → Among x (set xs k y) → Among x xs ⊎ (x ≡ y)
among-set [] k y x at = absurd at
among-set (z ∷ zs) zero y x (inl same) = inr same
among-set (z ∷ zs) zero y x (inr later) = inl (inr later)
among-set (z ∷ zs) (suc k) y x (inl same) = inl (inl same)
among-set {A} (z ∷ zs) (suc k) y x (inr later) = by (among-set zs k y x later)
  where
    by : Among x zs ⊎ (x ≡ y) → ((x ≡ z) ⊎ Among x zs) ⊎ (x ≡ y)
    by (inl there) = inl (inr there)
    by (inr same) = inr same

pub totals-set : (counts : List HoldCounts) (place : ℕ) (y : HoldCounts) → AreTotals counts → y.total ≡ sum y.holds.items → AreTotals (set counts place y)
totals-set counts place y are own c at = by (among-set counts place y c at)
  where
    by : Among c counts ⊎ (c ≡ y) → c.total ≡ sum c.holds.items
    by (inl there) = are c there
    by (inr same) = subst (λ (x : HoldCounts). x.total ≡ sum x.holds.items) (sym same) own

-- with one more, or one less, of a party
pub sum-more : (holds : List ℕ) (party : ℕ) → party < length holds → sum (set holds party (get_or holds party 0 + 1)) ≡ sum holds + 1
sum-more holds party within = let told = sum_by-set (λ x. x) holds party (get_or holds party 0 + 1) 0 within in omega (arith, told)

pub sum-less : (holds : List ℕ) (party : ℕ) → party < length holds → 1 ≤ get_or holds party 0 → sum (set holds party (get_or holds party 0 - 1)) ≡ sum holds - 1
sum-less holds party within some =
    let told = sum_by-set (λ x. x) holds party (get_or holds party 0 - 1) 0 within in
    let least = get_or-le-sum_by (λ x. x) holds party 0 within in
    omega (arith, told, some, least)

pub held-sum : (holds : List ℕ) → is_held holds ≡ nat_lt 0 (sum holds)
held-sum [] = refl
held-sum (h ∷ holds) = by (nat_lt 0 h) refl (held-sum holds) (sum_by-cons (λ x. x) h holds)
  where
    above : (n m : ℕ) → nat_lt 0 n ≡ true → n ≤ m → nat_lt 0 m ≡ true
    above n m e less = grind (arith, e, less)

    none : (n : ℕ) → nat_lt 0 n ≡ false → n ≡ 0
    none n e = grind (arith, e)

    by : (b : Bool) → nat_lt 0 h ≡ b → is_held holds ≡ nat_lt 0 (sum holds) → sum (h ∷ holds) ≡ h + sum holds → (b || is_held holds) ≡ nat_lt 0 (sum (h ∷ holds))
    by true e later first = sym (above h (sum (h ∷ holds)) e (omega (arith, first)))
    by false e later first = later ∙ ap (nat_lt 0) (let n = none h e in omega (arith, n, first))

-- ---- what keeps a group

pub root-found : (number place : ℕ) (counts : List HoldCounts) (x : HoldCounts) → position_from (λ count. count.number == number) 0 counts ≡ Some place
    → x ≡ get_or counts place x → is_root (standings_of counts) number ≡ is_rooted (standing_of x)
root-found number place counts x h e = as-row counts ∙ row-found (λ c. is_rooted (standing_of c)) false number place counts x h e
  where
    as-row : (list : List HoldCounts) → is_root (standings_of list) number ≡ row_has (λ c. is_rooted (standing_of c)) false list number
    as-row [] = refl
    as-row (c ∷ list) = ap (cond (c.number == number) (is_rooted (standing_of c))) (as-row list)

pub root-none : (number : ℕ) (counts : List HoldCounts) → position_from (λ count. count.number == number) 0 counts ≡ None → is_root (standings_of counts) number ≡ false
root-none number counts h = as-row counts ∙ row-none (λ c. is_rooted (standing_of c)) false number counts h
  where
    as-row : (list : List HoldCounts) → is_root (standings_of list) number ≡ row_has (λ c. is_rooted (standing_of c)) false list number
    as-row [] = refl
    as-row (c ∷ list) = ap (cond (c.number == number) (is_rooted (standing_of c))) (as-row list)

-- ---- what a count stands for stays

pub standings-same : (counts : List HoldCounts) (place : ℕ) (x y : HoldCounts) → x ≡ get_or counts place x → standing_of y ≡ standing_of x → standings_of (set counts place y) ≡ standings_of counts
standings-same [] place x y is same = refl
standings-same (c ∷ counts) zero x y is same = ap (λ (s : GroupHolds). s ∷ standings_of counts) (same ∙ ap standing_of is)
standings-same (c ∷ counts) (suc place) x y is same = ap (λ (rest : List GroupHolds). standing_of c ∷ rest) (standings-same counts place x y is same)

pub none-stands : (number : ℕ) (counts : List HoldCounts) → position_from (λ count. count.number == number) 0 counts ≡ None → Among number (map (λ s. s.number) (standings_of counts)) → ⊥
none-stands number counts h at = none counts at (none_found (is_it number) 0 counts h)
  where
    none : (xs : List HoldCounts) → Among number (map (λ s. s.number) (standings_of xs)) → list_any (is_it number) xs ≡ false → ⊥
    none [] there e = there
    none (x ∷ xs) (inl same) e = differ x.number number (neither (x.number == number) (list_any (is_it number) xs) e).0 (sym same)
    none (x ∷ xs) (inr later) e = none xs later (neither (x.number == number) (list_any (is_it number) xs) e).1

-- the test of a count
pub loose : (references total : ℕ) (holds : List ℕ) (waits : Bool) → total ≡ sum holds → ((references == 0) && ((total == 0) && not waits)) ≡ ((references == 0) && not (is_held holds || waits))
loose references total holds waits is = ap (λ b. (references == 0) && b) (by (nat_lt 0 (sum holds)) refl waits ∙ ap (λ b. not (b || waits)) (sym (held-sum holds)))
  where
    none : nat_lt 0 (sum holds) ≡ false → (total == 0) ≡ true
    none e = eq-eqb total 0 (let zero_sum : sum holds ≡ 0 = grind (arith, e) in is ∙ zero_sum)

    some : nat_lt 0 (sum holds) ≡ true → (total == 0) ≡ false
    some e = not_same total 0 (λ h. let above : 0 < sum holds = grind (arith, e) in omega (arith, is, h, above))

    by : (b : Bool) → nat_lt 0 (sum holds) ≡ b → (w : Bool) → ((total == 0) && not w) ≡ not (nat_lt 0 (sum holds) || w)
    by true e w = ap (λ c. c && not w) (some e) ∙ sym (ap (λ c. not (c || w)) e)
    by false e w = ap (λ c. c && not w) (none e) ∙ sym (ap (λ c. not (c || w)) e)
