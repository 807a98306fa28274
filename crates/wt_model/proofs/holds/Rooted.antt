-- The look at the counts tells what is held or waits.
use Rattle.std.proofs.Common.{◌≡◌, ◌↔◌, ℕ, zero, suc, ◌<◌, ◌≤◌, ◌==◌, ◌⊎◌, inl, inr, Bool, true, false, cond, ◌||◌, List, [], ◌∷◌, map, slice_index, nat_lt, refl, sym, ap, subst, ◌∙◌, arith}
use Rattle.std.proofs.lemmas.Bool.{false≢true, or_left, or_right}
use Rattle.wt_model.specs.Registered.{RegisteredGroup, GroupHolds, Registry}
use Rattle.wt_env.specs.Among.{Among}
use Rattle.wt_model.specs.Holds.{is_held, held_at, waits_at, waiting}
use Rattle.wt_model.specs.Sound.{IsRising, IsRoot}
use Rattle.wt_model.specs.Removal.{is_rooted, is_root}
use Rattle.wt_env.proofs.lists.Mapped.{among_mapped}
use Rattle.wt_model.proofs.holds.Leads.{or_either}

-- ---- the counts of one group

held_by_some : (holds : List ℕ) → is_held holds ≡ true → (party : ℕ) × (1 ≤ slice_index holds party)
held_by_some [] held = absurd (false≢true held)
held_by_some (count ∷ holds) held = by (nat_lt 0 count) refl held (held_by_some holds)
  where
    above_zero : (n : ℕ) → nat_lt 0 n ≡ true → 1 ≤ n
    above_zero n above = grind arith

    by : (b : Bool) → nat_lt 0 count ≡ b → (b || is_held holds) ≡ true → (is_held holds ≡ true → (party : ℕ) × (1 ≤ slice_index holds party))
        → (party : ℕ) × (1 ≤ slice_index (count ∷ holds) party)
    by true above held later = (zero, above_zero count above)
    by false above held later = let found = later held in (suc found.0, found.1)

one_above : (n : ℕ) → 1 ≤ n → nat_lt 0 n ≡ true
one_above n h = grind arith

pub held_by_one : (holds : List ℕ) (party : ℕ) → 1 ≤ slice_index holds party → is_held holds ≡ true
held_by_one [] party h = absurd (omega (arith, h))
held_by_one (count ∷ holds) zero h = or_left (nat_lt 0 count) (is_held holds) (one_above count h)
held_by_one (count ∷ holds) (suc party) h = or_right (nat_lt 0 count) (is_held holds) (held_by_one holds party h)

-- ---- numbers that rise

abbrev pub RiseAbove : ℕ → List ℕ → Type 0
RiseAbove low [] = Unit {0}
RiseAbove low (n ∷ rest) = (low < n) × RiseAbove n rest

rise_above : (low top : ℕ) (made : List RegisteredGroup) → IsRising low made top → RiseAbove low (map (λ m. m.number) made)
rise_above low top [] rising = tt
rise_above low top (m ∷ made) rising = (rising.0, rise_above m.number top made rising.1)

-- the counts stand under the groups' numbers, which rise
pub rise_with : (top : ℕ) (made : List RegisteredGroup) (standings : List GroupHolds) → IsRising 0 made top → map (λ s. s.number) standings ≡ map (λ m. m.number) made → RiseAbove 0 (map (λ s. s.number) standings)
rise_with top made standings rising numbers = subst (RiseAbove 0) (sym numbers) (rise_above 0 top made rising)

pub rise_first : (low : ℕ) (numbers : List ℕ) (n : ℕ) → RiseAbove low numbers → Among n numbers → low < n
rise_first low [] n rise at = absurd at
rise_first low (m ∷ numbers) n rise (inl same) = let first : low < m = rise.0 in omega (arith, first, same)
rise_first low (m ∷ numbers) n rise (inr later) =
    let rest : m < n = rise_first m numbers n rise.1 later in
    let first : low < m = rise.0 in
    omega (arith, first, rest)

-- ---- what stands, looked at by its number

not_first : (s : GroupHolds) (standings : List GroupHolds) (t : GroupHolds) → RiseAbove s.number (map (λ x. x.number) standings) → Among t standings → (s.number == t.number) ≡ true → ⊥
not_first s standings t rise at e =
    let above : s.number < t.number = rise_first s.number (map (λ x. x.number) standings) t.number rise (among_mapped (λ (x : GroupHolds). x.number) standings t at) in
    grind (arith, above, e)

first_number : (s t : GroupHolds) → t ≡ s → (s.number == t.number) ≡ true
first_number s t same = let number : t.number ≡ s.number = ap (λ (x : GroupHolds). x.number) same in grind (arith, number)

pub root-at : (low : ℕ) (standings : List GroupHolds) (t : GroupHolds) → RiseAbove low (map (λ s. s.number) standings) → Among t standings → is_root standings t.number ≡ is_rooted t
root-at low [] t rise at = absurd at
root-at low (s ∷ standings) t rise at = by (s.number == t.number) refl at (root-at s.number standings t rise.1)
  where
    by : (b : Bool) → (s.number == t.number) ≡ b → (t ≡ s) ⊎ Among t standings → (Among t standings → is_root standings t.number ≡ is_rooted t)
        → cond b (is_rooted s) (is_root standings t.number) ≡ is_rooted t
    by true e (inl same) later = ap is_rooted (sym same)
    by true e (inr there) later = absurd (not_first s standings t rise.1 there e)
    by false e (inl same) later = absurd (false≢true (sym e ∙ first_number s t same))
    by false e (inr there) later = later there

pub held-at : (low : ℕ) (standings : List GroupHolds) (t : GroupHolds) (party : ℕ) → RiseAbove low (map (λ s. s.number) standings) → Among t standings → held_at standings party t.number ≡ slice_index t.holds party
held-at low [] t party rise at = absurd at
held-at low (s ∷ standings) t party rise at = by (s.number == t.number) refl at (held-at s.number standings t party rise.1)
  where
    by : (b : Bool) → (s.number == t.number) ≡ b → (t ≡ s) ⊎ Among t standings → (Among t standings → held_at standings party t.number ≡ slice_index t.holds party)
        → cond b (slice_index s.holds party) (held_at standings party t.number) ≡ slice_index t.holds party
    by true e (inl same) later = ap (λ (x : GroupHolds). slice_index x.holds party) (sym same)
    by true e (inr there) later = absurd (not_first s standings t rise.1 there e)
    by false e (inl same) later = absurd (false≢true (sym e ∙ first_number s t same))
    by false e (inr there) later = later there

-- ---- what waits

pub waiting-stands : (standings : List GroupHolds) (number : ℕ) → Among number (waiting standings) → (s : GroupHolds) × Among s standings × (s.waits ≡ true) × (number ≡ s.number)
waiting-stands [] number at = absurd at
waiting-stands (s ∷ standings) number at = by s.waits refl at (waiting-stands standings number)
  where
    by : (b : Bool) → s.waits ≡ b → Among number (cond b (s.number ∷ waiting standings) (waiting standings))
        → (Among number (waiting standings) → (t : GroupHolds) × Among t standings × (t.waits ≡ true) × (number ≡ t.number))
        → (t : GroupHolds) × ((t ≡ s) ⊎ Among t standings) × (t.waits ≡ true) × (number ≡ t.number)
    by true e (inl same) later = (s, inl refl, e, same)
    by true e (inr there) later = let found = later there in (found.0, inr found.1, found.2, found.3)
    by false e there later = let found = later there in (found.0, inr found.1, found.2, found.3)

pub stands-waiting : (standings : List GroupHolds) (s : GroupHolds) → Among s standings → s.waits ≡ true → Among s.number (waiting standings)
stands-waiting [] s at waits = absurd at
stands-waiting (x ∷ standings) s at waits = by x.waits refl at (λ there. stands-waiting standings s there waits)
  where
    by : (b : Bool) → x.waits ≡ b → (s ≡ x) ⊎ Among s standings → (Among s standings → Among s.number (waiting standings))
        → Among s.number (cond b (x.number ∷ waiting standings) (waiting standings))
    by true e (inl same) later = inl (ap (λ (t : GroupHolds). t.number) same)
    by true e (inr there) later = inr (later there)
    by false e (inl same) later = absurd (false≢true (sym e ∙ (ap (λ (t : GroupHolds). t.waits) (sym same) ∙ waits)))
    by false e (inr there) later = later there

pub waits_at-stands : (standings : List GroupHolds) (number : ℕ) → waits_at standings number ≡ true → (s : GroupHolds) × Among s standings × (s.waits ≡ true) × (number ≡ s.number)
waits_at-stands [] number h = absurd (false≢true h)
waits_at-stands (s ∷ standings) number h = by (s.number == number) refl h (waits_at-stands standings number)
  where
    by : (b : Bool) → (s.number == number) ≡ b → cond b s.waits (waits_at standings number) ≡ true
        → (waits_at standings number ≡ true → (t : GroupHolds) × Among t standings × (t.waits ≡ true) × (number ≡ t.number))
        → (t : GroupHolds) × ((t ≡ s) ⊎ Among t standings) × (t.waits ≡ true) × (number ≡ t.number)
    by true e waits later = (s, inl refl, waits, grind (arith, e))
    by false e there later = let found = later there in (found.0, inr found.1, found.2, found.3)

-- ---- what is held

pub held-stands : (standings : List GroupHolds) (party number : ℕ) → 1 ≤ held_at standings party number → (s : GroupHolds) × Among s standings × (is_held s.holds ≡ true) × (number ≡ s.number)
held-stands [] party number h = absurd (omega (arith, h))
held-stands (s ∷ standings) party number h = by (s.number == number) refl h (held-stands standings party number)
  where
    by : (b : Bool) → (s.number == number) ≡ b → 1 ≤ cond b (slice_index s.holds party) (held_at standings party number)
        → (1 ≤ held_at standings party number → (t : GroupHolds) × Among t standings × (is_held t.holds ≡ true) × (number ≡ t.number))
        → (t : GroupHolds) × ((t ≡ s) ⊎ Among t standings) × (is_held t.holds ≡ true) × (number ≡ t.number)
    by true e held later = (s, inl refl, held_by_one s.holds party held, grind (arith, e))
    by false e there later = let found = later there in (found.0, inr found.1, found.2, found.3)

pub held-root : (standings : List GroupHolds) (party number : ℕ) → 1 ≤ held_at standings party number → is_root standings number ≡ true
held-root [] party number h = absurd (omega (arith, h))
held-root (s ∷ standings) party number h = by (s.number == number) h (held-root standings party number)
  where
    by : (b : Bool) → 1 ≤ cond b (slice_index s.holds party) (held_at standings party number) → (1 ≤ held_at standings party number → is_root standings number ≡ true)
        → cond b (is_rooted s) (is_root standings number) ≡ true
    by true held later = or_left (is_held s.holds) s.waits (held_by_one s.holds party held)
    by false there later = later there

-- what is no root is held by nobody
pub no_root-unheld : (standings : List GroupHolds) (party number : ℕ) → is_root standings number ≡ false → held_at standings party number ≡ 0
no_root-unheld standings party number none = by_held (held_at standings party number) (λ some. false≢true (sym none ∙ held-root standings party number some))
  where
    by_held : (n : ℕ) → (1 ≤ n → ⊥) → n ≡ 0
    by_held zero never = refl
    by_held (suc n) never = absurd (never (omega arith))

-- ---- roots

abbrev Rooted : List GroupHolds → ℕ → Type 0
Rooted standings number = ((party : ℕ) × (1 ≤ held_at standings party number)) ⊎ Among number (waiting standings)

pub root-told : (standings : List GroupHolds) (number : ℕ) → is_root standings number ≡ true → Rooted standings number
root-told [] number h = absurd (false≢true h)
root-told (s ∷ standings) number h = by (s.number == number) refl s.waits refl h (root-told standings number)
  where
    held : (b : Bool) → b ≡ true → (party : ℕ) × (1 ≤ slice_index s.holds party) → (party : ℕ) × (1 ≤ cond b (slice_index s.holds party) (held_at standings party number))
    held true e found = found
    held false e found = absurd (false≢true e)

    still : (w : Bool) → Among number (waiting standings) → Among number (cond w (s.number ∷ waiting standings) (waiting standings))
    still true there = inr there
    still false there = there

    first : (w : Bool) → (s.number == number) ≡ true → (is_held s.holds ≡ true) ⊎ (w ≡ true)
        → ((party : ℕ) × (1 ≤ slice_index s.holds party)) ⊎ Among number (cond w (s.number ∷ waiting standings) (waiting standings))
    first w e (inl is) = inl (held_by_some s.holds is)
    first true e (inr is) = inr (inl (grind (arith, e)))
    first false e (inr is) = absurd (false≢true is)

    later : (w : Bool) → Rooted standings number → ((party : ℕ) × (1 ≤ held_at standings party number)) ⊎ Among number (cond w (s.number ∷ waiting standings) (waiting standings))
    later w (inl found) = inl found
    later w (inr there) = inr (still w there)

    by : (b : Bool) → (s.number == number) ≡ b → (w : Bool) → s.waits ≡ w → cond b (is_held s.holds || w) (is_root standings number) ≡ true
        → (is_root standings number ≡ true → Rooted standings number)
        → ((party : ℕ) × (1 ≤ cond b (slice_index s.holds party) (held_at standings party number))) ⊎ Among number (cond w (s.number ∷ waiting standings) (waiting standings))
    by true e w f is rest = first w e (or_either (is_held s.holds) w is)
    by false e w f is rest = later w (rest is)

pub root-tells : (top : ℕ) (registry : Registry) (number : ℕ) → IsRising 0 registry.made top → map (λ s. s.number) registry.standings ≡ map (λ m. m.number) registry.made
    → (is_root registry.standings number ≡ true) ↔ IsRoot registry number
root-tells top registry number rising numbers = (root-told registry.standings number, back)
  where
    back : Rooted registry.standings number → is_root registry.standings number ≡ true
    back (inl found) = held-root registry.standings found.0 number found.1
    back (inr waits) =
        let found = waiting-stands registry.standings number waits in
        let own : is_rooted found.0 ≡ true = or_right (is_held (found.0).holds) (found.0).waits found.2 in
        subst (λ n. is_root registry.standings n ≡ true) (sym found.3)
        (root-at 0 registry.standings found.0 (rise_with top registry.made registry.standings rising numbers) found.1 ∙ own)
