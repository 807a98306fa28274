-- What is looked up by a number in the counts, where one group's are changed and where some are kept.
use Rattle.std.proofs.Common.{◌≡◌, ◌≢◌, ℕ, zero, suc, ◌+◌, ◌-◌, ◌<◌, ◌≤◌, ◌==◌, ◌⊎◌, inl, inr, Bool, true, false, cond, ◌||◌, List, [], ◌∷◌, length, map, slice_index, slice_set, nat_lt, refl, sym, ap, ◌∙◌, arith}
use Rattle.std.specs.List.{filter}
use Rattle.std.proofs.lemmas.Bool.{false≢true, or_left, or_right, false_from_ne_true, cond-true, cond-false}
use Rattle.wt_model.specs.Registered.{RegisteredGroup, GroupHolds}
use Rattle.wt_env.specs.Among.{Among}
use Rattle.wt_model.specs.Holds.{is_held, held_at, change, gained}
use Rattle.wt_model.specs.Removal.{is_rooted, is_root, kept_made, kept_standings, fewer, now_waits}
use Rattle.wt_model.specs.Holds.{no_longer}
use Rattle.wt_env.proofs.lists.Filtered.{among_filter, map_filter}
use Rattle.wt_model.proofs.holds.Leads.{or_either}
use Rattle.wt_model.proofs.holds.Standings.{is_held-raised}

-- what the first one with this number has
abbrev look : {A : Type 0} → (GroupHolds → A) → A → List GroupHolds → ℕ → A
look f default [] number = default
look f default (s ∷ standings) number = cond (s.number == number) (f s) (look f default standings number)

root-look : (standings : List GroupHolds) (number : ℕ) → is_root standings number ≡ look is_rooted false standings number
root-look [] number = refl
root-look (s ∷ standings) number = ap (cond (s.number == number) (is_rooted s)) (root-look standings number)

abbrev held_of : ℕ → GroupHolds → ℕ
held_of party s = slice_index s.holds party

held-look : (standings : List GroupHolds) (party number : ℕ) → held_at standings party number ≡ look (held_of party) 0 standings number
held-look [] party number = refl
held-look (s ∷ standings) party number = ap (cond (s.number == number) (slice_index s.holds party)) (held-look standings party number)

same_number : (n m : ℕ) → (n == m) ≡ true → n ≡ m
same_number n m h = grind (arith, h)

-- ---- some are kept

pub among-kept_standings : (keep : ℕ → Bool) (standings : List GroupHolds) (s : GroupHolds) → Among s (kept_standings keep standings) → Among s standings
among-kept_standings keep standings s at = (among_filter (λ t. keep t.number) standings s at).0

-- the counts that are kept stand under the numbers of the groups that are
pub numbers-kept : (keep : ℕ → Bool) (made : List RegisteredGroup) (standings : List GroupHolds) → map (λ s. s.number) standings ≡ map (λ m. m.number) made
    → map (λ s. s.number) (kept_standings keep standings) ≡ map (λ m. m.number) (kept_made keep made)
numbers-kept keep made standings same =
    map_filter (λ (s : GroupHolds). s.number) keep standings ∙ (ap (filter keep) same ∙ sym (map_filter (λ (m : RegisteredGroup). m.number) keep made))

other_number : (keep : ℕ → Bool) (b : Bool) (m n : ℕ) → keep m ≡ b → keep n ≡ true → b ≡ false → (m == n) ≡ false
other_number keep b m n e passes is =
    false_from_ne_true (m == n) (λ h. false≢true (sym is ∙ (sym e ∙ (ap keep (same_number m n h) ∙ passes))))

look-kept : {A : Type 0} (keep : ℕ → Bool) (f : GroupHolds → A) (default : A) (standings : List GroupHolds) (number : ℕ) → keep number ≡ true
    → look f default (kept_standings keep standings) number ≡ look f default standings number
look-kept keep f default [] number passes = refl
look-kept {A} keep f default (s ∷ standings) number passes = by (keep s.number) refl (look-kept keep f default standings number passes)
  where
    by : (b : Bool) → keep s.number ≡ b → look f default (kept_standings keep standings) number ≡ look f default standings number
        → look f default (cond b (s ∷ kept_standings keep standings) (kept_standings keep standings)) number ≡ cond (s.number == number) (f s) (look f default standings number)
    by true e later = ap (cond (s.number == number) (f s)) later
    by false e later = later ∙ sym (cond-false (s.number == number) (f s) (look f default standings number) (other_number keep false s.number number e passes refl))

look-left : {A : Type 0} (keep : ℕ → Bool) (f : GroupHolds → A) (default : A) (standings : List GroupHolds) (number : ℕ) → keep number ≡ false
    → look f default (kept_standings keep standings) number ≡ default
look-left keep f default [] number leaves = refl
look-left {A} keep f default (s ∷ standings) number leaves = by (keep s.number) refl (look-left keep f default standings number leaves)
  where
    other : keep s.number ≡ true → (s.number == number) ≡ false
    other e = false_from_ne_true (s.number == number) (λ h. false≢true (sym leaves ∙ (ap keep (sym (same_number s.number number h)) ∙ e)))

    by : (b : Bool) → keep s.number ≡ b → look f default (kept_standings keep standings) number ≡ default
        → look f default (cond b (s ∷ kept_standings keep standings) (kept_standings keep standings)) number ≡ default
    by true e later = cond-false (s.number == number) (f s) (look f default (kept_standings keep standings) number) (other e) ∙ later
    by false e later = later

-- where each root is kept, the same are roots
pub root-kept : (keep : ℕ → Bool) (standings : List GroupHolds) → ((n : ℕ) → is_root standings n ≡ true → keep n ≡ true) → (n : ℕ) → is_root (kept_standings keep standings) n ≡ is_root standings n
root-kept keep standings roots n = root-look (kept_standings keep standings) n ∙ (by (keep n) refl ∙ sym (root-look standings n))
  where
    by : (b : Bool) → keep n ≡ b → look is_rooted false (kept_standings keep standings) n ≡ look is_rooted false standings n
    by true e = look-kept keep is_rooted false standings n e
    by false e =
        look-left keep is_rooted false standings n e
        ∙ (sym (false_from_ne_true (is_root standings n) (λ is. false≢true (sym e ∙ roots n is))) ∙ root-look standings n)

pub held-kept : (keep : ℕ → Bool) (standings : List GroupHolds) (party n : ℕ) → (keep n ≡ false → held_at standings party n ≡ 0) → held_at (kept_standings keep standings) party n ≡ held_at standings party n
held-kept keep standings party n unheld = held-look (kept_standings keep standings) party n ∙ (by (keep n) refl ∙ sym (held-look standings party n))
  where
    by : (b : Bool) → keep n ≡ b → look (held_of party) 0 (kept_standings keep standings) n ≡ look (held_of party) 0 standings n
    by true e = look-kept keep (held_of party) 0 standings n e
    by false e = look-left keep (held_of party) 0 standings n e ∙ (sym (unheld e) ∙ held-look standings party n)

-- ---- one group's are changed

pub among-changed : (number : ℕ) (g : GroupHolds → GroupHolds) (standings : List GroupHolds) (s : GroupHolds) → Among s (change number g standings)
    → Among s standings ⊎ ((t : GroupHolds) × Among t standings × (t.number ≡ number) × (s ≡ g t))
among-changed number g [] s at = absurd at
among-changed number g (x ∷ standings) s at = by (x.number == number) refl at (among-changed number g standings s)
  where
    further : Among s standings ⊎ ((t : GroupHolds) × Among t standings × (t.number ≡ number) × (s ≡ g t))
        → ((s ≡ x) ⊎ Among s standings) ⊎ ((t : GroupHolds) × ((t ≡ x) ⊎ Among t standings) × (t.number ≡ number) × (s ≡ g t))
    further (inl there) = inl (inr there)
    further (inr found) = inr (found.0, inr found.1, found.2, found.3)

    by : (b : Bool) → (x.number == number) ≡ b → Among s (cond b (g x ∷ standings) (x ∷ change number g standings))
        → (Among s (change number g standings) → Among s standings ⊎ ((t : GroupHolds) × Among t standings × (t.number ≡ number) × (s ≡ g t)))
        → ((s ≡ x) ⊎ Among s standings) ⊎ ((t : GroupHolds) × ((t ≡ x) ⊎ Among t standings) × (t.number ≡ number) × (s ≡ g t))
    by true e (inl same) later = inr (x, inl refl, same_number x.number number e, same)
    by true e (inr there) later = inl (inr there)
    by false e (inl same) later = inl (inl same)
    by false e (inr there) later = further (later there)

pub numbers-change : (number : ℕ) (g : GroupHolds → GroupHolds) (standings : List GroupHolds) → ((s : GroupHolds) → (g s).number ≡ s.number)
    → map (λ s. s.number) (change number g standings) ≡ map (λ s. s.number) standings
numbers-change number g [] same = refl
numbers-change number g (x ∷ standings) same = by (x.number == number) (numbers-change number g standings same)
  where
    by : (b : Bool) → map (λ s. s.number) (change number g standings) ≡ map (λ s. s.number) standings
        → map (λ s. s.number) (cond b (g x ∷ standings) (x ∷ change number g standings)) ≡ x.number ∷ map (λ s. s.number) standings
    by true later = ap (λ n. n ∷ map (λ s. s.number) standings) (same x)
    by false later = ap (λ numbers. x.number ∷ numbers) later

look-other : {A : Type 0} (f : GroupHolds → A) (default : A) (number : ℕ) (g : GroupHolds → GroupHolds) (standings : List GroupHolds) (n : ℕ) → ((s : GroupHolds) → (g s).number ≡ s.number) → n ≢ number
    → look f default (change number g standings) n ≡ look f default standings n
look-other f default number g [] n same differs = refl
look-other {A} f default number g (s ∷ standings) n same differs = by (s.number == number) refl (look-other f default number g standings n same differs)
  where
    not_it : (k : ℕ) → k ≡ s.number → (s.number == number) ≡ true → (k == n) ≡ false
    not_it k is e = false_from_ne_true (k == n) (λ h. differs (sym (same_number k n h) ∙ (is ∙ same_number s.number number e)))

    by : (b : Bool) → (s.number == number) ≡ b → look f default (change number g standings) n ≡ look f default standings n
        → look f default (cond b (g s ∷ standings) (s ∷ change number g standings)) n ≡ cond (s.number == n) (f s) (look f default standings n)
    by true e later =
        cond-false ((g s).number == n) (f (g s)) (look f default standings n) (not_it (g s).number (same s) e)
        ∙ sym (cond-false (s.number == n) (f s) (look f default standings n) (not_it s.number refl e))
    by false e later = ap (cond (s.number == n) (f s)) later

look-at : {A : Type 0} (f : GroupHolds → A) (default : A) (number : ℕ) (g : GroupHolds → GroupHolds) (standings : List GroupHolds) → ((s : GroupHolds) → (g s).number ≡ s.number)
    → look f default (change number g standings) number ≡ look (λ s. f (g s)) default standings number
look-at f default number g [] same = refl
look-at {A} f default number g (s ∷ standings) same = by (s.number == number) refl (look-at f default number g standings same)
  where
    by : (b : Bool) → (s.number == number) ≡ b → look f default (change number g standings) number ≡ look (λ t. f (g t)) default standings number
        → look f default (cond b (g s ∷ standings) (s ∷ change number g standings)) number ≡ cond b (f (g s)) (look (λ t. f (g t)) default standings number)
    by true e later = cond-true ((g s).number == number) (f (g s)) (look f default standings number) (ap (λ k. k == number) (same s) ∙ e)
    by false e later = cond-false (s.number == number) (f s) (look f default (change number g standings) number) e ∙ later

look-more : (f h : GroupHolds → Bool) (standings : List GroupHolds) (number : ℕ) → ((s : GroupHolds) → f s ≡ true → h s ≡ true) → look f false standings number ≡ true → look h false standings number ≡ true
look-more f h [] number more is = is
look-more f h (s ∷ standings) number more is = by (s.number == number) is (look-more f h standings number more)
  where
    by : (b : Bool) → cond b (f s) (look f false standings number) ≡ true → (look f false standings number ≡ true → look h false standings number ≡ true)
        → cond b (h s) (look h false standings number) ≡ true
    by true own later = more s own
    by false there later = later there

pub root-other : (number : ℕ) (g : GroupHolds → GroupHolds) (standings : List GroupHolds) (n : ℕ) → ((s : GroupHolds) → (g s).number ≡ s.number) → n ≢ number
    → is_root (change number g standings) n ≡ is_root standings n
root-other number g standings n same differs =
    root-look (change number g standings) n ∙ (look-other is_rooted false number g standings n same differs ∙ sym (root-look standings n))

differ : (n m : ℕ) → (n == m) ≡ false → n ≢ m
differ n m e same = grind (arith, e, same)

-- where the change makes no root, a root was one
pub root-less : (number : ℕ) (g : GroupHolds → GroupHolds) (standings : List GroupHolds) (n : ℕ) → ((s : GroupHolds) → (g s).number ≡ s.number)
    → ((s : GroupHolds) → is_rooted (g s) ≡ true → is_rooted s ≡ true) → is_root (change number g standings) n ≡ true → is_root standings n ≡ true
root-less number g standings n same less is = by (n == number) refl
  where
    own : is_root (change number g standings) number ≡ true → is_root standings number ≡ true
    own at =
        root-look standings number
        ∙ look-more (λ s. is_rooted (g s)) is_rooted standings number less
        (sym (look-at is_rooted false number g standings same) ∙ (sym (root-look (change number g standings) number) ∙ at))

    by : (b : Bool) → (n == number) ≡ b → is_root standings n ≡ true
    by true e =
        let it = same_number n number e in
        ap (is_root standings) it ∙ own (ap (is_root (change number g standings)) (sym it) ∙ is)
    by false e = sym (root-other number g standings n same (differ n number e)) ∙ is

-- what waits now is a root, and each other that was one
pub root-waits : (number : ℕ) (standings : List GroupHolds) (n : ℕ) → is_root standings n ≡ true → is_root (change number now_waits standings) n ≡ true
root-waits number standings n is = by (n == number) refl
  where
    own : is_root standings number ≡ true → is_root (change number now_waits standings) number ≡ true
    own at =
        root-look (change number now_waits standings) number
        ∙ (look-at is_rooted false number now_waits standings (λ s. refl)
        ∙ look-more is_rooted (λ s. is_rooted (now_waits s)) standings number (λ s _. or_right (is_held s.holds) true refl) (sym (root-look standings number) ∙ at))

    by : (b : Bool) → (n == number) ≡ b → is_root (change number now_waits standings) n ≡ true
    by true e =
        let it = same_number n number e in
        ap (is_root (change number now_waits standings)) it ∙ own (ap (is_root standings) (sym it) ∙ is)
    by false e = root-other number now_waits standings n (λ s. refl) (differ n number e) ∙ is

pub waits-root : (number : ℕ) (standings : List GroupHolds) → Among number (map (λ s. s.number) standings) → is_root (change number now_waits standings) number ≡ true
waits-root number standings at = root-look (change number now_waits standings) number ∙ (look-at is_rooted false number now_waits standings (λ s. refl) ∙ found standings at)
  where
    found : (list : List GroupHolds) → Among number (map (λ s. s.number) list) → look (λ s. is_rooted (now_waits s)) false list number ≡ true
    found [] there = absurd there
    found (s ∷ list) there = by (s.number == number) refl there (found list)
      where
        by : (b : Bool) → (s.number == number) ≡ b → (number ≡ s.number) ⊎ Among number (map (λ t. t.number) list)
            → (Among number (map (λ t. t.number) list) → look (λ t. is_rooted (now_waits t)) false list number ≡ true)
            → cond b (is_held s.holds || true) (look (λ t. is_rooted (now_waits t)) false list number) ≡ true
        by true e here later = or_right (is_held s.holds) true refl
        by false e (inl same) later = absurd (differ s.number number e (sym same))
        by false e (inr rest) later = later rest

-- a group that one more hold is of is a root
pub gained-root : (party number : ℕ) (standings : List GroupHolds) → Among number (map (λ s. s.number) standings) → ((s : GroupHolds) → Among s standings → party < length s.holds)
    → is_root (change number (gained party) standings) number ≡ true
gained-root party number [] at within = absurd at
gained-root party number (s ∷ standings) at within = by (s.number == number) refl at (λ there. gained-root party number standings there (λ t among. within t (inr among)))
  where
    by : (b : Bool) → (s.number == number) ≡ b → (number ≡ s.number) ⊎ Among number (map (λ t. t.number) standings)
        → (Among number (map (λ t. t.number) standings) → is_root (change number (gained party) standings) number ≡ true)
        → is_root (cond b (gained party s ∷ standings) (s ∷ change number (gained party) standings)) number ≡ true
    by true e here later =
        cond-true (s.number == number) (is_rooted (gained party s)) (is_root standings number) e
        ∙ or_left (is_held (slice_set s.holds party (slice_index s.holds party + 1))) false (is_held-raised s.holds party (slice_index s.holds party) (within s (inl refl)))
    by false e (inl same) later = absurd (differ s.number number e (sym same))
    by false e (inr rest) later = cond-false (s.number == number) (is_rooted s) (is_root (change number (gained party) standings) number) e ∙ later rest

-- ---- one hold less

lowered-held : (holds : List ℕ) (party n : ℕ) → n ≤ slice_index holds party → is_held (slice_set holds party n) ≡ true → is_held holds ≡ true
lowered-held [] party n less held = held
lowered-held (count ∷ holds) party n less held = by party less held (λ p. lowered-held holds p n)
  where
    more : (k : ℕ) → k ≤ count → nat_lt 0 k ≡ true → nat_lt 0 count ≡ true
    more k less above = grind (arith, less, above)

    first : (nat_lt 0 n ≡ true) ⊎ (is_held holds ≡ true) → n ≤ count → (nat_lt 0 count || is_held holds) ≡ true
    first (inl above) less = or_left (nat_lt 0 count) (is_held holds) (more n less above)
    first (inr rest) less = or_right (nat_lt 0 count) (is_held holds) rest

    second : (p : ℕ) → (nat_lt 0 count ≡ true) ⊎ (is_held (slice_set holds p n) ≡ true) → (is_held (slice_set holds p n) ≡ true → is_held holds ≡ true) → (nat_lt 0 count || is_held holds) ≡ true
    second p (inl above) later = or_left (nat_lt 0 count) (is_held holds) above
    second p (inr rest) later = or_right (nat_lt 0 count) (is_held holds) (later rest)

    by : (p : ℕ) → n ≤ slice_index (count ∷ holds) p → is_held (slice_set (count ∷ holds) p n) ≡ true
        → ((q : ℕ) → n ≤ slice_index holds q → is_held (slice_set holds q n) ≡ true → is_held holds ≡ true)
        → (nat_lt 0 count || is_held holds) ≡ true
    by zero below is later = first (or_either (nat_lt 0 n) (is_held holds) is) below
    by (suc p) below is later = second p (or_either (nat_lt 0 count) (is_held (slice_set holds p n)) is) (later p below)

pub rooted-fewer : (party : ℕ) (s : GroupHolds) → is_rooted (fewer party s) ≡ true → is_rooted s ≡ true
rooted-fewer party s is = by (or_either (is_held (slice_set s.holds party (slice_index s.holds party - 1))) false is)
  where
    by : (is_held (slice_set s.holds party (slice_index s.holds party - 1)) ≡ true) ⊎ (false ≡ true) → (is_held s.holds || s.waits) ≡ true
    by (inl held) = or_left (is_held s.holds) s.waits (lowered-held s.holds party (slice_index s.holds party - 1) (omega arith) held)
    by (inr never) = absurd (false≢true never)

pub rooted-no_longer : (s : GroupHolds) → is_rooted (no_longer s) ≡ true → is_rooted s ≡ true
rooted-no_longer s is = by (or_either (is_held s.holds) false is)
  where
    by : (is_held s.holds ≡ true) ⊎ (false ≡ true) → (is_held s.holds || s.waits) ≡ true
    by (inl held) = or_left (is_held s.holds) s.waits held
    by (inr never) = absurd (false≢true never)

-- ---- holds

-- a change that is of no holds
pub held-same : (number : ℕ) (g : GroupHolds → GroupHolds) (standings : List GroupHolds) (party n : ℕ) → ((s : GroupHolds) → (g s).number ≡ s.number) → ((s : GroupHolds) → (g s).holds ≡ s.holds)
    → held_at (change number g standings) party n ≡ held_at standings party n
held-same number g [] party n numbers holds = refl
held-same number g (s ∷ standings) party n numbers holds = by (s.number == number) (held-same number g standings party n numbers holds)
  where
    by : (b : Bool) → held_at (change number g standings) party n ≡ held_at standings party n
        → held_at (cond b (g s ∷ standings) (s ∷ change number g standings)) party n ≡ cond (s.number == n) (slice_index s.holds party) (held_at standings party n)
    by true later = λ i. cond (numbers s i == n) (slice_index (holds s i) party) (held_at standings party n)
    by false later = ap (cond (s.number == n) (slice_index s.holds party)) later
