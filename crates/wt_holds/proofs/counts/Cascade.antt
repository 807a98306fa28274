-- Groups are removed by their counts: each step keeps what is true while they are.
use Rattle.std.proofs.Common.{◌≡◌, ◌≢◌, ℕ, zero, suc, ◌+◌, ◌-◌, ◌<◌, ◌≤◌, ◌==◌, ◌⊎◌, inl, inr, Bool, true, false, cond, not, ◌||◌, ◌&&◌, List, [], ◌∷◌, ◌++◌, length, refl, sym, ap, subst, ◌∙◌, arith, eq-eqb}
use Rattle.std.proofs.lemmas.Bool.{false≢true, false_from_ne_true, or_left, or_right}
use Rattle.wt_env.specs.Among.{Among}
use Rattle.wt_model.specs.Registered.{RegisteredGroup}
use Rattle.wt_model.specs.Holds.{times, is_registered}
use Rattle.wt_model.specs.Reach.{edges, Reach, here, further}
use Rattle.wt_model.specs.Removal.{is_reached}
use Rattle.wt_model.specs.Sound.{IsRising, NamesOlder}
use Rattle.wt_model.proofs.holds.Leads.{Fall, fall, reached-leads, reached-edge, root-reached, leads-reached}
use Rattle.wt_holds.specs.References.{references, is_due, one_if, pushed_if, Cascading}
use Rattle.wt_holds.proofs.counts.Times.{same_number, differ, not_same, times-append, times-first, times-last, times-among, among-times, room}

-- ---- references and edges

pub edge-references : (made : List RegisteredGroup) (g : RegisteredGroup) (n : ℕ) → Among g made → Among n (edges g) → 1 ≤ references made n
edge-references [] g n at leads = absurd at
edge-references (x ∷ made) g n (inl same) leads =
    let own = among-times n (edges x) (subst (λ (m : RegisteredGroup). Among n (edges m)) same leads) in
    omega (arith, own)
edge-references (x ∷ made) g n (inr later) leads = let rest = edge-references made g n later leads in omega (arith, rest)

pub references-edge : (made : List RegisteredGroup) (n : ℕ) → 1 ≤ references made n → (g : RegisteredGroup) × Among g made × Among n (edges g)
references-edge [] n some = absurd (omega (arith, some))
references-edge (x ∷ made) n some = by (times n (edges x)) refl (references-edge made n)
  where
    by : (t : ℕ) → times n (edges x) ≡ t → (1 ≤ references made n → (g : RegisteredGroup) × Among g made × Among n (edges g))
        → (g : RegisteredGroup) × Among g (x ∷ made) × Among n (edges g)
    by zero e later = let found = later (omega (arith, some, e)) in (found.0, inr found.1, found.2)
    by (suc t) e later = (x, inl refl, times-among n (edges x) (omega (arith, e)))

-- what nothing leads to and is no root isn't reached
pub unreached : (made : List RegisteredGroup) (root : ℕ → Bool) (n : ℕ) → references made n ≡ 0 → root n ≡ false → is_reached made root n ≡ false
unreached made root n none off = false_from_ne_true (is_reached made root n) (λ is. by (reached-leads made root n is))
  where
    from_root : (from : ℕ) (to : ℕ) → to ≡ n → root from ≡ true → Reach made from to → ⊥
    from_root from to same is here = false≢true (sym off ∙ (ap root (sym same) ∙ is))
    from_root from to same is (further before next reach edge) =
        let some = edge-references made edge.0 next edge.1 edge.3 in
        let none_next = ap (references made) same ∙ none in
        omega (arith, some, none_next)

    by : (from : ℕ) × (root from ≡ true) × Reach made from n → ⊥
    by found = from_root found.0 n refl found.1 found.2

-- where each registered group is a root or has a reference, each is reached
module _ (top : ℕ) (made : List RegisteredGroup) (root : ℕ → Bool) (rising : IsRising 0 made top) (older : NamesOlder made)
    (kept : (m : RegisteredGroup) → Among m made → (root m.number ≡ true) ⊎ (1 ≤ references made m.number)) where
  below_top : (low : ℕ) (list : List RegisteredGroup) (m : RegisteredGroup) → IsRising low list top → Among m list → m.number ≤ top
  below_top low [] m rises at = absurd at
  below_top low (x ∷ list) m rises (inl same) = subst (λ (y : RegisteredGroup). y.number ≤ top) (sym same) (highest x.number list rises.1)
    where
      highest : (n : ℕ) (rest : List RegisteredGroup) → IsRising n rest top → n ≤ top
      highest n [] rises = rises
      highest n (y ∷ rest) rises = let later = highest y.number rest rises.1 in omega (arith, later, rises.0)
  below_top low (x ∷ list) m rises (inr later) = below_top x.number list m rises.1 later

  within : (steps : ℕ) (m : RegisteredGroup) → Among m made → top < m.number + steps → is_reached made root m.number ≡ true
  within zero m at far = let most = below_top 0 made m rising at in absurd (omega (arith, most, far))
  within (suc steps) m at far = by (kept m at) (within steps)
    where
      by : (root m.number ≡ true) ⊎ (1 ≤ references made m.number) → ((g : RegisteredGroup) → Among g made → top < g.number + steps → is_reached made root g.number ≡ true)
          → is_reached made root m.number ≡ true
      by (inl is) later = root-reached made root m.number is
      by (inr some) later =
          let found = references-edge made m.number some in
          let less : m.number < (found.0).number = fall made older found.0 m.number found.1 found.2 in
          reached-edge top made root (found.0).number m.number rising (fall made older) (later found.0 found.1 (omega (arith, less, far))) (found.0, found.1, refl, found.2)

  pub each-reached : (m : RegisteredGroup) → Among m made → is_reached made root m.number ≡ true
  each-reached m at = within (top + 1) m at (omega arith)

-- ---- what is due

registered-at : (made : List RegisteredGroup) (n : ℕ) → is_registered made n ≡ true → (m : RegisteredGroup) × Among m made × (m.number ≡ n)
registered-at [] n h = absurd (false≢true h)
registered-at (x ∷ made) n h = by (x.number == n) refl h (registered-at made n)
  where
    by : (b : Bool) → (x.number == n) ≡ b → (b || is_registered made n) ≡ true → (is_registered made n ≡ true → (m : RegisteredGroup) × Among m made × (m.number ≡ n))
        → (m : RegisteredGroup) × Among m (x ∷ made) × (m.number ≡ n)
    by true e told later = (x, inl refl, same_number x.number n e)
    by false e told later = let found = later told in (found.0, inr found.1, found.2)

pub at-registered : (made : List RegisteredGroup) (m : RegisteredGroup) → Among m made → is_registered made m.number ≡ true
at-registered [] m at = absurd at
at-registered (x ∷ made) m (inl same) = or_left (x.number == m.number) (is_registered made m.number) (eq-eqb x.number m.number (ap (λ (y : RegisteredGroup). y.number) (sym same)))
at-registered (x ∷ made) m (inr later) = or_right (x.number == m.number) (is_registered made m.number) (at-registered made m later)

-- the parts of what is due
pub record Due (made : List RegisteredGroup) (root : ℕ → Bool) (count : ℕ → ℕ) (n : ℕ) : Type 0 where
  pub registered : is_registered made n ≡ true
  pub none : count n ≡ 0
  pub unrooted : root n ≡ false

due_parts : (a b c : Bool) → (a && (b && not c)) ≡ true → (a ≡ true) × (b ≡ true) × (c ≡ false)
due_parts true true false h = (refl, refl, refl)
due_parts true true true h = absurd (false≢true h)
due_parts true false c h = absurd (false≢true h)
due_parts false b c h = absurd (false≢true h)

pub due-told : (made : List RegisteredGroup) (root : ℕ → Bool) (count : ℕ → ℕ) (n : ℕ) → is_due made root count n ≡ true → Due made root count n
due-told made root count n h =
    let parts = due_parts (is_registered made n) (count n == 0) (root n) h in
    record { registered = parts.0; none = same_number (count n) 0 parts.1; unrooted = parts.2 }

pub due-tells : (made : List RegisteredGroup) (root : ℕ → Bool) (count : ℕ → ℕ) (n : ℕ) → Due made root count n → is_due made root count n ≡ true
due-tells made root count n due =
    (λ i. due.registered i && ((count n == 0) && not (due.unrooted i)))
    ∙ ap (λ b. true && (b && not false)) (eq-eqb (count n) 0 due.none)

one_if-false : (b : Bool) → (b ≡ true → ⊥) → one_if b ≡ 0
one_if-false true never = absurd (never refl)
one_if-false false never = refl

some_if : (b : Bool) → 1 ≤ one_if b → b ≡ true
some_if true h = refl
some_if false h = absurd (omega (arith, h))

most_if : (a b : Bool) → (a ≡ true → b ≡ true) → one_if a ≤ one_if b
most_if true b more = subst (λ c. 1 ≤ one_if c) (sym (more refl)) (omega arith)
most_if false b more = omega arith

-- the stack has no more than what is registered
pub stack-room : (made : List RegisteredGroup) (root : ℕ → Bool) (count : ℕ → ℕ) (stack pending : List ℕ) → Cascading made root count stack pending → length stack ≤ length made
stack-room made root count stack pending is =
    room made stack (λ n.
    let due = is.due n in
    let most = most_if (is_due made root count n) (is_registered made n) (λ h. (due-told made root count n h).registered) in
    omega (arith, due, most))

-- ---- at rest

pub rests : (made : List RegisteredGroup) (root : ℕ → Bool) (count : ℕ → ℕ) → ((n : ℕ) → count n ≡ references made n) → ((m : RegisteredGroup) → Among m made → is_reached made root m.number ≡ true)
    → Cascading made root count [] []
rests made root count counted reached = record {
  stand = λ n at. absurd at;
  counted = λ n. let same = counted n in omega (arith, same);
  due = λ n. sym (one_if-false (is_due made root count n) (λ h. never n (due-told made root count n h)));
}
  where
    never : (n : ℕ) → Due made root count n → ⊥
    never n due =
        let found = registered-at made n due.registered in
        let is : is_reached made root n ≡ true = subst (λ k. is_reached made root k ≡ true) found.2 (reached found.0 found.1) in
        false≢true (sym (unreached made root n (sym (counted n) ∙ due.none) due.unrooted) ∙ is)

pub rested : (top : ℕ) (made : List RegisteredGroup) (root : ℕ → Bool) (count : ℕ → ℕ) → IsRising 0 made top → NamesOlder made → Cascading made root count [] []
    → (m : RegisteredGroup) → Among m made → is_reached made root m.number ≡ true
rested top made root count rising older is = each-reached top made root rising older kept
  where
    kept : (m : RegisteredGroup) → Among m made → (root m.number ≡ true) ⊎ (1 ≤ references made m.number)
    kept m at = by (root m.number) refl (references made m.number) refl
      where
        by : (b : Bool) → root m.number ≡ b → (r : ℕ) → references made m.number ≡ r → (b ≡ true) ⊎ (1 ≤ r)
        by true e r f = inl refl
        by false e (suc r) f = inr (omega arith)
        by false e zero f =
            let due = due-tells made root count m.number (record { registered = at-registered made m at; none = is.counted m.number ∙ omega (arith, f); unrooted = e }) in
            let none = is.due m.number ∙ ap one_if due in
            absurd (omega (arith, none))

-- ---- a step at one number

times-pushed : (k n : ℕ) (b : Bool) (stack : List ℕ) → times k (stack ++ pushed_if b n) ≡ times k stack + cond b (one_if (n == k)) 0
times-pushed k n true stack = times-last k n stack
times-pushed k n false stack = times-append k stack []

module _ (made : List RegisteredGroup) (root now : ℕ → Bool) (count less : ℕ → ℕ) (stack : List ℕ) (n : ℕ) (falls : Bool)
    (due : (k : ℕ) → times k stack ≡ one_if (is_due made root count k))
    (stands : is_registered made n ≡ true) (not_due : Due made root count n → ⊥) (told : falls ≡ ((less n == 0) && not (now n)))
    (roots : (k : ℕ) → k ≢ n → now k ≡ root k) (counts : (k : ℕ) → k ≢ n → less k ≡ count k) where
  pub stepped-due : (k : ℕ) → times k (stack ++ pushed_if falls n) ≡ one_if (is_due made now less k)
  stepped-due k = by (n == k) refl
    where
      here : one_if falls ≡ one_if (is_due made now less n)
      here = ap one_if (told ∙ sym (ap (λ b. b && ((less n == 0) && not (now n))) stands))

      none : times n stack ≡ 0
      none = due n ∙ one_if-false (is_due made root count n) (λ h. not_due (due-told made root count n h))

      chosen : (b : Bool) → cond b 1 0 ≡ one_if b
      chosen true = refl
      chosen false = refl

      zeros : (b : Bool) → ◌≡◌ {A = ℕ} (cond b 0 0) 0
      zeros true = refl
      zeros false = refl

      by : (b : Bool) → (n == k) ≡ b → times k (stack ++ pushed_if falls n) ≡ one_if (is_due made now less k)
      by true e =
          subst (λ j. times j (stack ++ pushed_if falls n) ≡ one_if (is_due made now less j)) (same_number n k e)
          (let own = times-pushed n n falls stack ∙ ap (λ b. times n stack + cond falls (one_if b) 0) (eq-eqb n n refl) in
          let one = chosen falls in
          omega (arith, own, one, none, here))
      by false e =
          let own = times-pushed k n falls stack ∙ ap (λ b. times k stack + cond falls (one_if b) 0) e in
          let zero_more = zeros falls in
          let other : k ≢ n = λ same. differ n k e (sym same) in
          let same : is_due made now less k ≡ is_due made root count k = λ i. is_registered made k && ((counts k other i == 0) && not (roots k other i)) in
          let still = due k in
          let equal = ap one_if same in
          omega (arith, own, zero_more, still, equal)

-- one of the pending references is lowered
pub lowered : (made : List RegisteredGroup) (root : ℕ → Bool) (count less : ℕ → ℕ) (stack : List ℕ) (n : ℕ) (pending : List ℕ) (falls : Bool)
    → ((k : ℕ) → less k ≡ cond (n == k) (count k - 1) (count k)) → falls ≡ ((less n == 0) && not (root n))
    → Cascading made root count stack (n ∷ pending) → Cascading made root less (stack ++ pushed_if falls n) pending
lowered made root count less stack n pending falls lowers told is = record {
  stand = λ k at. is.stand k (inr at);
  counted = λ k. by k (n == k) refl;
  due = stepped-due made root root count less stack n falls is.due (is.stand n (inl refl)) some told (λ k other. refl)
      (λ k other. lowers k ∙ ap (λ b. cond b (count k - 1) (count k)) (not_same n k (λ same. other (sym same))));
}
  where
    by : (k : ℕ) (b : Bool) → (n == k) ≡ b → less k ≡ references made k + times k pending
    by k true e =
        let own = lowers k ∙ ap (λ b. cond b (count k - 1) (count k)) e in
        let before = is.counted k in
        let first = times-first k n pending in
        let one = ap one_if e in
        omega (arith, own, before, first, one)
    by k false e =
        let own = lowers k ∙ ap (λ b. cond b (count k - 1) (count k)) e in
        let before = is.counted k in
        let first = times-first k n pending in
        let one = ap one_if e in
        omega (arith, own, before, first, one)

    some : Due made root count n → ⊥
    some due =
        let before = is.counted n in
        let own = among-times n (n ∷ pending) (inl refl) in
        let zero_count = due.none in
        omega (arith, before, own, zero_count)

-- a root is none any more
pub ended : (made : List RegisteredGroup) (root now : ℕ → Bool) (count : ℕ → ℕ) (stack : List ℕ) (n : ℕ) (pending : List ℕ) (falls : Bool)
    → root n ≡ true → is_registered made n ≡ true → ((k : ℕ) → k ≢ n → now k ≡ root k) → falls ≡ ((count n == 0) && not (now n))
    → Cascading made root count stack pending → Cascading made now count (stack ++ pushed_if falls n) pending
ended made root now count stack n pending falls was stands roots told is = record {
  stand = is.stand;
  counted = is.counted;
  due = stepped-due made root now count count stack n falls is.due stands (λ due. false≢true (sym due.unrooted ∙ was)) told roots (λ k other. refl);
}

-- after a root has ended, the group is reached exactly where it isn't due
pub still-reached : (top : ℕ) (made : List RegisteredGroup) (root now : ℕ → Bool) (n : ℕ) → IsRising 0 made top → NamesOlder made
    → ((m : RegisteredGroup) → Among m made → is_reached made root m.number ≡ true) → ((k : ℕ) → k ≢ n → now k ≡ root k)
    → 1 ≤ references made n → is_reached made now n ≡ true
still-reached top made root now n rising older reached roots some =
    reached-edge top made now (found.0).number n rising falls
    (leads-reached top made now led.0 (found.0).number rising falls (roots led.0 apart ∙ led.1) led.2) (found.0, found.1, refl, found.2)
  where
    falls : Fall made
    falls = fall made older

    found : (g : RegisteredGroup) × Among g made × Among n (edges g)
    found = references-edge made n some

    led : (from : ℕ) × (root from ≡ true) × Reach made from (found.0).number
    led = reached-leads made root (found.0).number (reached found.0 found.1)

    down : (from to : ℕ) → Reach made from to → to ≤ from
    down from to here = omega arith
    down from to (further before next reach edge) =
        let less : next < (edge.0).number = falls edge.0 next edge.1 edge.3 in
        let rest = down from before reach in
        let same = edge.2 in
        omega (arith, less, rest, same)

    apart : led.0 ≢ n
    apart same =
        let less : n < (found.0).number = falls found.0 n found.1 found.2 in
        let above = down led.0 (found.0).number led.2 in
        omega (arith, less, above, same)
