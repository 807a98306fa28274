-- The walk over the groups tells what edges lead to.
use Rattle.std.proofs.Common.{◌≡◌, ◌↔◌, ℕ, ◌<◌, ◌==◌, ◌⊎◌, inl, inr, Bool, true, false, ◌||◌, ◌&&◌, List, [], ◌∷◌, refl, sym, ap, subst, ◌∙◌, arith}
use Rattle.std.specs.List.{list_any}
use Rattle.std.proofs.lemmas.Bool.{false≢true, or_left, or_right, and_from, false_from_ne_true}
use Rattle.wt_model.specs.Registered.{RegisteredGroup}
use Rattle.wt_env.specs.Among.{Among}
use Rattle.wt_model.specs.Sound.{IsRising, NamesOlder}
use Rattle.wt_model.specs.Reach.{edges, leads_to, Edge, Reach, here, further}
use Rattle.wt_model.specs.Removal.{is_reached}

-- ---- tests

pub or_either : (a b : Bool) → (a || b) ≡ true → (a ≡ true) ⊎ (b ≡ true)
or_either true b h = inl refl
or_either false b h = inr h

pub and_both : (a b : Bool) → (a && b) ≡ true → (a ≡ true) × (b ≡ true)
and_both true b h = (refl, h)
and_both false b h = absurd (false≢true h)

-- ---- edges

pub reach_wider : (made wider : List RegisteredGroup) → ((g : RegisteredGroup) → Among g made → Among g wider) → (from number : ℕ) → Reach made from number → Reach wider from number
reach_wider made wider all from number here = here
reach_wider made wider all from number (further to next reach edge) =
    further to next (reach_wider made wider all from to reach) (edge.0, all edge.0 edge.1, edge.2, edge.3)

pub reach_joined : (made : List RegisteredGroup) (a b c : ℕ) → Reach made a b → Reach made b c → Reach made a c
reach_joined made a b c first here = first
reach_joined made a b c first (further to next reach edge) = further to next (reach_joined made a b to first reach) edge

-- a group leads to itself, and to what its edges name
pub reach-led : (made : List RegisteredGroup) (by : RegisteredGroup) (n : ℕ) → Among by made → (n ≡ by.number) ⊎ Among n (edges by) → Reach made by.number n
reach-led made by n there (inl same) = subst (Reach made by.number) (sym same) here
reach-led made by n there (inr leads) = further by.number n here (by, there, refl, leads)

-- ---- one edge

led-told : (numbers : List ℕ) (number : ℕ) → list_any (λ n. n == number) numbers ≡ true → Among number numbers
led-told [] number h = absurd (false≢true h)
led-told (n ∷ numbers) number h = by (n == number) refl h (led-told numbers number)
  where
    by : (b : Bool) → (n == number) ≡ b → (b || list_any (λ n. n == number) numbers) ≡ true
        → (list_any (λ n. n == number) numbers ≡ true → Among number numbers) → (number ≡ n) ⊎ Among number numbers
    by true e told later = inl (grind (arith, e))
    by false e told later = inr (later told)

led-tells : (numbers : List ℕ) (number : ℕ) → Among number numbers → list_any (λ n. n == number) numbers ≡ true
led-tells [] number at = absurd at
led-tells (n ∷ numbers) number (inl same) = or_left (n == number) (list_any (λ n. n == number) numbers) (grind (arith, same))
led-tells (n ∷ numbers) number (inr later) = or_right (n == number) (list_any (λ n. n == number) numbers) (led-tells numbers number later)

-- ---- what the walk finds is led to

pub reached-leads : (made : List RegisteredGroup) (root : ℕ → Bool) (number : ℕ) → is_reached made root number ≡ true → (from : ℕ) × (root from ≡ true) × Reach made from number
reached-leads [] root number h = (number, h, here)
reached-leads (m ∷ made) root number h =
    by (or_either (is_reached made root number) (leads_to m number && is_reached made root m.number) h) (reached-leads made root number) (reached-leads made root m.number)
  where
    wider : (from n : ℕ) → Reach made from n → Reach (m ∷ made) from n
    wider from n = reach_wider made (m ∷ made) (λ g at. inr at) from n

    by : (is_reached made root number ≡ true) ⊎ ((leads_to m number && is_reached made root m.number) ≡ true)
        → (is_reached made root number ≡ true → (from : ℕ) × (root from ≡ true) × Reach made from number)
        → (is_reached made root m.number ≡ true → (from : ℕ) × (root from ≡ true) × Reach made from m.number)
        → (from : ℕ) × (root from ≡ true) × Reach (m ∷ made) from number
    by (inl before) later through = let found = later before in (found.0, found.1, wider found.0 number found.2)
    by (inr both) later through =
        let parts = and_both (leads_to m number) (is_reached made root m.number) both in
        let found = through parts.1 in
        (found.0, found.1, further m.number number (wider found.0 m.number found.2) (m, inl refl, refl, led-told (edges m) number parts.0))

-- ---- what is led to is found

-- each edge leads to an older group
abbrev pub Fall : List RegisteredGroup → Type 0
Fall made = (a : RegisteredGroup) (number : ℕ) → Among a made → Among number (edges a) → number < a.number

pub fall : (made : List RegisteredGroup) → NamesOlder made → Fall made
fall made older a number at leads = (older a number at leads).0

-- no group leads to one that isn't older
pub not_led : (made : List RegisteredGroup) (x : RegisteredGroup) (number : ℕ) → Fall made → Among x made → x.number < number → leads_to x number ≡ false
not_led made x number falls at above = false_from_ne_true (leads_to x number) never
  where
    never : leads_to x number ≡ true → ⊥
    never leads =
        let below : number < x.number = falls x number at (led-told (edges x) number leads) in
        omega (arith, below, above)

pub above_low : (low top : ℕ) (made : List RegisteredGroup) (m : RegisteredGroup) → IsRising low made top → Among m made → low < m.number
above_low low top [] m rising at = absurd at
above_low low top (x ∷ made) m rising (inl same) = subst (λ (y : RegisteredGroup). low < y.number) (sym same) rising.0
above_low low top (x ∷ made) m rising (inr later) =
    let rest : x.number < m.number = above_low x.number top made m rising.1 later in
    let first : low < x.number = rising.0 in
    omega (arith, rest, first)

pub root-reached : (made : List RegisteredGroup) (root : ℕ → Bool) (number : ℕ) → root number ≡ true → is_reached made root number ≡ true
root-reached [] root number h = h
root-reached (m ∷ made) root number h =
    or_left (is_reached made root number) (leads_to m number && is_reached made root m.number) (root-reached made root number h)

itself : (a b : Bool) → (a || (b && a)) ≡ true → a ≡ true
itself true b h = refl
itself false true h = h
itself false false h = h

reached-led : (low top : ℕ) (made : List RegisteredGroup) (root : ℕ → Bool) (to next : ℕ) → IsRising low made top → Fall made → is_reached made root to ≡ true
    → (g : RegisteredGroup) → Among g made → g.number ≡ to → Among next (edges g) → is_reached made root next ≡ true
reached-led low top [] root to next rising falls reached g at number leads = absurd at
reached-led low top (x ∷ made) root to next rising falls reached g (inl same) number leads =
    let named : leads_to x next ≡ true = led-tells (edges x) next (subst (λ (m : RegisteredGroup). Among next (edges m)) same leads) in
    let first : to ≡ x.number = sym number ∙ ap (λ (m : RegisteredGroup). m.number) same in
    let there : is_reached (x ∷ made) root x.number ≡ true = subst (λ n. is_reached (x ∷ made) root n ≡ true) first reached in
    let reaches : is_reached made root x.number ≡ true = itself (is_reached made root x.number) (leads_to x x.number) there in
    or_right (is_reached made root next) (leads_to x next && is_reached made root x.number) (and_from (leads_to x next) (is_reached made root x.number) named reaches)
reached-led low top (x ∷ made) root to next rising falls reached g (inr later) number leads =
    by (or_either (is_reached made root to) (leads_to x to && is_reached made root x.number) reached)
    (λ before. reached-led x.number top made root to next rising.1 (λ a n at. falls a n (inr at)) before g later number leads)
  where
    -- what stands in front can't lead to it, since it stands behind
    too_old : leads_to x to ≡ true → ⊥
    too_old named =
        let below : to < x.number = falls x to (inl refl) (led-told (edges x) to named) in
        let above : x.number < g.number = above_low x.number top made g rising.1 later in
        omega (arith, below, above, number)

    by : (is_reached made root to ≡ true) ⊎ ((leads_to x to && is_reached made root x.number) ≡ true)
        → (is_reached made root to ≡ true → is_reached made root next ≡ true)
        → (is_reached made root next || (leads_to x next && is_reached made root x.number)) ≡ true
    by (inl before) go = or_left (is_reached made root next) (leads_to x next && is_reached made root x.number) (go before)
    by (inr both) go = absurd (too_old (and_both (leads_to x to) (is_reached made root x.number) both).0)

pub reached-edge : (top : ℕ) (made : List RegisteredGroup) (root : ℕ → Bool) (to next : ℕ) → IsRising 0 made top → Fall made → is_reached made root to ≡ true → Edge made to next → is_reached made root next ≡ true
reached-edge top made root to next rising falls reached edge = reached-led 0 top made root to next rising falls reached edge.0 edge.1 edge.2 edge.3

-- what is reached leads to what is reached
pub reached-on : (top : ℕ) (made : List RegisteredGroup) (root : ℕ → Bool) (from number : ℕ) → IsRising 0 made top → Fall made → is_reached made root from ≡ true → Reach made from number → is_reached made root number ≡ true
reached-on top made root from number rising falls reached here = reached
reached-on top made root from number rising falls reached (further to next reach edge) =
    reached-edge top made root to next rising falls (reached-on top made root from to rising falls reached reach) edge

pub leads-reached : (top : ℕ) (made : List RegisteredGroup) (root : ℕ → Bool) (from number : ℕ) → IsRising 0 made top → Fall made → root from ≡ true → Reach made from number → is_reached made root number ≡ true
leads-reached top made root from number rising falls is reach = reached-on top made root from number rising falls (root-reached made root from is) reach

pub reached-tells : (top : ℕ) (made : List RegisteredGroup) (root : ℕ → Bool) (number : ℕ) → IsRising 0 made top → NamesOlder made
    → (is_reached made root number ≡ true) ↔ ((from : ℕ) × (root from ≡ true) × Reach made from number)
reached-tells top made root number rising older =
    (reached-leads made root number, λ found. leads-reached top made root found.0 number rising (fall made older) found.1 found.2)

-- the walk goes by the roots' values alone
pub reached-agree : (made : List RegisteredGroup) (root other : ℕ → Bool) (number : ℕ) → ((n : ℕ) → root n ≡ other n) → is_reached made root number ≡ is_reached made other number
reached-agree made root other number same = λ i. is_reached made (λ n. same n i) number
