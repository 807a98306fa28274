-- What a call of the groups that new ones refer to leaves: no hold is changed, and none of them waits.
use Rattle.std.proofs.Common.{◌≡◌, ◌≢◌, ℕ, ◌<◌, ◌==◌, ◌⊎◌, inl, inr, Bool, true, false, cond, List, [], ◌∷◌, ◌++◌, map, refl, sym, ap, ◌∙◌, subst, arith}
use Rattle.std.proofs.lemmas.Bool.{false≢true}
use Rattle.wt_model.specs.Registered.{RegisteredGroup, GroupHolds}
use Rattle.wt_model.specs.Reach.{edges}
use Rattle.wt_env.specs.Among.{Among}
use Rattle.wt_model.specs.Holds.{held_at, change, no_longer, stop_waiting}
use Rattle.wt_model.specs.Removal.{is_root}
use Rattle.wt_model.specs.Registration.{stop_waiting_each}
use Rattle.wt_env.proofs.lists.Mapped.{among_mapped}
use Rattle.wt_model.proofs.holds.Looked.{among-changed, numbers-change, held-same, root-other}
use Rattle.wt_model.proofs.holds.Rooted.{RiseAbove, rise_first}
use Rattle.wt_model.proofs.holds.Stand.{still_there}

-- ---- holds

held_at-stop_waiting : (outer : List ℕ) (standings : List GroupHolds) (party number : ℕ) → held_at (stop_waiting outer standings) party number ≡ held_at standings party number
held_at-stop_waiting [] standings party number = refl
held_at-stop_waiting (r ∷ outer) standings party number =
    held_at-stop_waiting outer (change r no_longer standings) party number ∙ held-same r no_longer standings party number (λ s. refl) (λ s. refl)

pub held_at-stop_waiting_each : (added : List RegisteredGroup) (standings : List GroupHolds) (party number : ℕ) → held_at (stop_waiting_each added standings) party number ≡ held_at standings party number
held_at-stop_waiting_each [] standings party number = refl
held_at-stop_waiting_each (e ∷ added) standings party number =
    held_at-stop_waiting_each added (stop_waiting (edges e) standings) party number ∙ held_at-stop_waiting (edges e) standings party number

-- what is true of the holds of all that stands stays true
module _ (P : List ℕ → Type 0) where
  one_called : (number : ℕ) (standings : List GroupHolds) → ((s : GroupHolds) → Among s standings → P s.holds) → (s : GroupHolds) → Among s (change number no_longer standings) → P s.holds
  one_called number standings each s at = by (among-changed number no_longer standings s at)
    where
      by : Among s standings ⊎ ((t : GroupHolds) × Among t standings × (t.number ≡ number) × (s ≡ no_longer t)) → P s.holds
      by (inl there) = each s there
      by (inr found) = subst (λ (x : GroupHolds). P x.holds) (sym found.3) (each found.0 found.1)

  holds-stop_waiting : (outer : List ℕ) (standings : List GroupHolds) → ((s : GroupHolds) → Among s standings → P s.holds) → (s : GroupHolds) → Among s (stop_waiting outer standings) → P s.holds
  holds-stop_waiting [] standings each = each
  holds-stop_waiting (r ∷ outer) standings each = holds-stop_waiting outer (change r no_longer standings) (one_called r standings each)

  pub holds-stop_waiting_each : (added : List RegisteredGroup) (standings : List GroupHolds) → ((s : GroupHolds) → Among s standings → P s.holds) → (s : GroupHolds) → Among s (stop_waiting_each added standings) → P s.holds
  holds-stop_waiting_each [] standings each = each
  holds-stop_waiting_each (e ∷ added) standings each = holds-stop_waiting_each added (stop_waiting (edges e) standings) (holds-stop_waiting (edges e) standings each)

-- ---- numbers

numbers-stop_waiting : (outer : List ℕ) (standings : List GroupHolds) → map (λ s. s.number) (stop_waiting outer standings) ≡ map (λ s. s.number) standings
numbers-stop_waiting [] standings = refl
numbers-stop_waiting (r ∷ outer) standings = numbers-stop_waiting outer (change r no_longer standings) ∙ numbers-change r no_longer standings (λ s. refl)

pub numbers-stop_waiting_each : (added : List RegisteredGroup) (standings : List GroupHolds) → map (λ s. s.number) (stop_waiting_each added standings) ≡ map (λ s. s.number) standings
numbers-stop_waiting_each [] standings = refl
numbers-stop_waiting_each (e ∷ added) standings = numbers-stop_waiting_each added (stop_waiting (edges e) standings) ∙ numbers-stop_waiting (edges e) standings

-- ---- what waits

still-stop_waiting : (outer : List ℕ) (standings : List GroupHolds) (s : GroupHolds) → Among s (stop_waiting outer standings) → s.waits ≡ true → Among s standings
still-stop_waiting [] standings s at waits = at
still-stop_waiting (r ∷ outer) standings s at waits =
    still_there r no_longer standings (λ t. refl) s (still-stop_waiting outer (change r no_longer standings) s at waits) waits

-- what waits then waited before
pub still-stop_waiting_each : (added : List RegisteredGroup) (standings : List GroupHolds) (s : GroupHolds) → Among s (stop_waiting_each added standings) → s.waits ≡ true → Among s standings
still-stop_waiting_each [] standings s at waits = at
still-stop_waiting_each (e ∷ added) standings s at waits =
    still-stop_waiting (edges e) standings s (still-stop_waiting_each added (stop_waiting (edges e) standings) s at waits) waits

same_number : (n m : ℕ) → (n == m) ≡ true → n ≡ m
same_number n m h = grind (arith, h)

no_number : (n m : ℕ) → (n == m) ≡ false → n ≢ m
no_number n m e same = grind (arith, e, same)

-- what waits after a change isn't what was changed, since the numbers rise
not_changed : (low number : ℕ) (standings : List GroupHolds) (s : GroupHolds) → RiseAbove low (map (λ t. t.number) standings) → Among s (change number no_longer standings) → s.waits ≡ true → s.number ≢ number
not_changed low number [] s rise at waits = absurd at
not_changed low number (x ∷ standings) s rise at waits = by (x.number == number) refl at (λ there. not_changed x.number number standings s rise.1 there waits)
  where
    by : (b : Bool) → (x.number == number) ≡ b → Among s (cond b (no_longer x ∷ standings) (x ∷ change number no_longer standings))
        → (Among s (change number no_longer standings) → s.number ≢ number) → s.number ≢ number
    by true e (inl same) later = absurd (false≢true (ap (λ (t : GroupHolds). t.waits) (sym same) ∙ waits))
    by true e (inr there) later = λ same.
        let above : x.number < s.number = rise_first x.number (map (λ t. t.number) standings) s.number rise.1 (among_mapped (λ (t : GroupHolds). t.number) standings s there) in
        let first : x.number ≡ number = same_number x.number number e in
        omega (arith, above, first, same)
    by false e (inl same) later = λ is. no_number x.number number e (sym (ap (λ (t : GroupHolds). t.number) same) ∙ is)
    by false e (inr there) later = later there

not_called : (outer : List ℕ) (standings : List GroupHolds) (s : GroupHolds) → RiseAbove 0 (map (λ t. t.number) standings) → Among s (stop_waiting outer standings) → s.waits ≡ true
    → (r : ℕ) → Among r outer → s.number ≢ r
not_called [] standings s rise at waits r refers = absurd refers
not_called (x ∷ outer) standings s rise at waits r (inl same) = λ is.
    not_changed 0 x standings s rise (still-stop_waiting outer (change x no_longer standings) s at waits) waits (is ∙ same)
not_called (x ∷ outer) standings s rise at waits r (inr later) =
    not_called outer (change x no_longer standings) s (subst (RiseAbove 0) (sym (numbers-change x no_longer standings (λ t. refl))) rise) at waits r later

-- none that waits then is referred to
pub not_led_by : (added : List RegisteredGroup) (standings : List GroupHolds) (s : GroupHolds) → RiseAbove 0 (map (λ t. t.number) standings) → Among s (stop_waiting_each added standings) → s.waits ≡ true
    → (group : RegisteredGroup) (r : ℕ) → Among group added → Among r (edges group) → s.number ≢ r
not_led_by [] standings s rise at waits group r among refers = absurd among
not_led_by (e ∷ added) standings s rise at waits group r (inl same) refers =
    not_called (edges e) standings s rise (still-stop_waiting_each added (stop_waiting (edges e) standings) s at waits) waits r (subst (λ (x : RegisteredGroup). Among r (edges x)) same refers)
not_led_by (e ∷ added) standings s rise at waits group r (inr later) refers =
    not_led_by added (stop_waiting (edges e) standings) s (subst (RiseAbove 0) (sym (numbers-stop_waiting (edges e) standings)) rise) at waits group r later refers

-- ---- roots

root-stop_waiting : (outer : List ℕ) (standings : List GroupHolds) (n : ℕ) → is_root standings n ≡ true
    → (is_root (stop_waiting outer standings) n ≡ true) ⊎ Among n outer
root-stop_waiting [] standings n is = inl is
root-stop_waiting (r ∷ outer) standings n is = by (n == r) refl (root-stop_waiting outer (change r no_longer standings) n)
  where
    further : (is_root (stop_waiting outer (change r no_longer standings)) n ≡ true) ⊎ Among n outer
        → (is_root (stop_waiting outer (change r no_longer standings)) n ≡ true) ⊎ ((n ≡ r) ⊎ Among n outer)
    further (inl root) = inl root
    further (inr found) = inr (inr found)

    by : (b : Bool) → (n == r) ≡ b
        → (is_root (change r no_longer standings) n ≡ true → (is_root (stop_waiting outer (change r no_longer standings)) n ≡ true) ⊎ Among n outer)
        → (is_root (stop_waiting outer (change r no_longer standings)) n ≡ true) ⊎ ((n ≡ r) ⊎ Among n outer)
    by true e later = inr (inl (same_number n r e))
    by false e later = further (later (root-other r no_longer standings n (λ s. refl) (no_number n r e) ∙ is))

-- a root stays one, or a new group leads to it
pub root-stop_waiting_each : (added : List RegisteredGroup) (standings : List GroupHolds) (n : ℕ) → is_root standings n ≡ true
    → (is_root (stop_waiting_each added standings) n ≡ true) ⊎ ((group : RegisteredGroup) × Among group added × Among n (edges group))
root-stop_waiting_each [] standings n is = inl is
root-stop_waiting_each (e ∷ added) standings n is = by (root-stop_waiting (edges e) standings n is) (root-stop_waiting_each added (stop_waiting (edges e) standings) n)
  where
    further : (is_root (stop_waiting_each added (stop_waiting (edges e) standings)) n ≡ true) ⊎ ((group : RegisteredGroup) × Among group added × Among n (edges group))
        → (is_root (stop_waiting_each added (stop_waiting (edges e) standings)) n ≡ true) ⊎ ((group : RegisteredGroup) × ((group ≡ e) ⊎ Among group added) × Among n (edges group))
    further (inl root) = inl root
    further (inr found) = inr (found.0, inr found.1, found.2)

    by : (is_root (stop_waiting (edges e) standings) n ≡ true) ⊎ Among n (edges e)
        → (is_root (stop_waiting (edges e) standings) n ≡ true → (is_root (stop_waiting_each added (stop_waiting (edges e) standings)) n ≡ true) ⊎ ((group : RegisteredGroup) × Among group added × Among n (edges group)))
        → (is_root (stop_waiting_each added (stop_waiting (edges e) standings)) n ≡ true) ⊎ ((group : RegisteredGroup) × ((group ≡ e) ⊎ Among group added) × Among n (edges group))
    by (inl root) later = further (later root)
    by (inr found) later = inr (e, inl refl, found)

change-calm : (number : ℕ) (standings : List GroupHolds) → ((s : GroupHolds) → Among s standings → s.waits ≡ false) → change number no_longer standings ≡ standings
change-calm number [] calm = refl
change-calm number (s ∷ standings) calm = by (s.number == number) (change-calm number standings (λ t at. calm t (inr at)))
  where
    by : (b : Bool) → change number no_longer standings ≡ standings → cond b (no_longer s ∷ standings) (s ∷ change number no_longer standings) ≡ s ∷ standings
    by true later = ap (λ (w : Bool). record s { waits = w } ∷ standings) (sym (calm s (inl refl)))
    by false later = ap (λ (rest : List GroupHolds). s ∷ rest) later

-- over a list behind which none waits
change-joined : (number : ℕ) (first calm_ones : List GroupHolds) → ((s : GroupHolds) → Among s calm_ones → s.waits ≡ false) → change number no_longer (first ++ calm_ones) ≡ change number no_longer first ++ calm_ones
change-joined number [] calm_ones calm = change-calm number calm_ones calm
change-joined number (s ∷ first) calm_ones calm = by (s.number == number) (change-joined number first calm_ones calm)
  where
    by : (b : Bool) → change number no_longer (first ++ calm_ones) ≡ change number no_longer first ++ calm_ones
        → cond b (no_longer s ∷ (first ++ calm_ones)) (s ∷ change number no_longer (first ++ calm_ones)) ≡ cond b (no_longer s ∷ first) (s ∷ change number no_longer first) ++ calm_ones
    by true later = refl
    by false later = ap (λ (rest : List GroupHolds). s ∷ rest) later

pub stop_waiting-joined : (outer : List ℕ) (first calm_ones : List GroupHolds) → ((s : GroupHolds) → Among s calm_ones → s.waits ≡ false) → stop_waiting outer (first ++ calm_ones) ≡ stop_waiting outer first ++ calm_ones
stop_waiting-joined [] first calm_ones calm = refl
stop_waiting-joined (r ∷ outer) first calm_ones calm =
    ap (stop_waiting outer) (change-joined r first calm_ones calm) ∙ stop_waiting-joined outer (change r no_longer first) calm_ones calm

-- what doesn't wait stays as it is behind
pub stop_waiting_each-joined : (added : List RegisteredGroup) (first calm_ones : List GroupHolds) → ((s : GroupHolds) → Among s calm_ones → s.waits ≡ false) → stop_waiting_each added (first ++ calm_ones) ≡ stop_waiting_each added first ++ calm_ones
stop_waiting_each-joined [] first calm_ones calm = refl
stop_waiting_each-joined (e ∷ added) first calm_ones calm =
    ap (stop_waiting_each added) (stop_waiting-joined (edges e) first calm_ones calm) ∙ stop_waiting_each-joined added (stop_waiting (edges e) first) calm_ones calm
