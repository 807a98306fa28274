-- A group that is due is taken away: what is due then, and what is reached still.
use Rattle.std.proofs.Common.{◌≡◌, ◌≢◌, ℕ, ◌+◌, ◌<◌, ◌≤◌, ◌==◌, inl, inr, Bool, true, false, cond, not, ◌||◌, ◌&&◌, List, [], ◌∷◌, ◌++◌, length, refl, sym, ap, subst, ◌∙◌, arith, eq-eqb}
use Rattle.std.specs.List.{filter}
use Rattle.std.proofs.lemmas.Bool.{false≢true}
use Rattle.wt_env.specs.Among.{Among}
use Rattle.wt_model.specs.Registered.{RegisteredGroup, GroupHolds}
use Rattle.wt_model.specs.Holds.{times, is_registered}
use Rattle.wt_model.specs.Reach.{edges}
use Rattle.wt_model.specs.Removal.{is_root, is_reached, kept_made, kept_standings}
use Rattle.wt_model.specs.Sound.{IsRising, NamesOlder}
use Rattle.wt_model.proofs.holds.Leads.{above_low, reached-agree}
use Rattle.wt_model.proofs.holds.Looked.{root-kept}
use Rattle.wt_model.proofs.removal.KeptPart.{KeepsLed, reached-kept, kept-among, rising-kept, names_older-kept}
use Rattle.wt_keys.proofs.Removed.{filter-all}
use Rattle.wt_holds.specs.References.{references, is_due, one_if, Cascading}
use Rattle.wt_holds.proofs.counts.Times.{same_number, differ, not_same, times-last}
use Rattle.wt_holds.proofs.counts.Cascade.{Due, due-told, unreached, edge-references, at-registered}

-- every number but this
abbrev pub but : ℕ → ℕ → Bool
but n k = not (k == n)

pub but-passes : (n k : ℕ) → k ≢ n → but n k ≡ true
but-passes n k other = ap not (not_same k n other)

pub but-own : (n k : ℕ) → k ≡ n → but n k ≡ false
but-own n k same = ap not (eq-eqb k n same)

pub but-differs : (n k : ℕ) → but n k ≡ true → k ≢ n
but-differs n k passes same = false≢true (sym (but-own n k same) ∙ passes)

-- what passes the first test passes the second
pub filter-within : {A : Type 0} (p q : A → Bool) (xs : List A) → ((x : A) → p x ≡ true → q x ≡ true) → filter p (filter q xs) ≡ filter p xs
filter-within p q [] more = refl
filter-within {A} p q (x ∷ xs) more = by (q x) refl (p x) refl (filter-within p q xs more)
  where
    by : (b : Bool) → q x ≡ b → (a : Bool) → p x ≡ a → filter p (filter q xs) ≡ filter p xs
        → filter p (cond b (x ∷ filter q xs) (filter q xs)) ≡ cond a (x ∷ filter p xs) (filter p xs)
    by true e true f later = ap (λ b. cond b (x ∷ filter p (filter q xs)) (filter p (filter q xs))) f ∙ ap (λ rest. x ∷ rest) later
    by true e false f later = ap (λ b. cond b (x ∷ filter p (filter q xs)) (filter p (filter q xs))) f ∙ later
    by false e true f later = absurd (false≢true (sym e ∙ more x f))
    by false e false f later = later

-- ---- one group less

module _ (top n : ℕ) where
  -- those behind it have other numbers
  behind : (low : ℕ) (made : List RegisteredGroup) → IsRising low made top → n ≤ low → kept_made (but n) made ≡ made
  behind low made rising above = filter-all (λ (m : RegisteredGroup). but n m.number) made (λ m at.
      let more = above_low low top made m rising at in but-passes n m.number (λ same. omega (arith, more, above, same)))

  first-out : (x : RegisteredGroup) (made : List RegisteredGroup) → IsRising x.number made top → x.number ≡ n → kept_made (but n) (x ∷ made) ≡ made
  first-out x made rising same = ap (λ b. cond b (x ∷ kept_made (but n) made) (kept_made (but n) made)) (but-own n x.number same) ∙ behind x.number made rising (omega (arith, same))

  first-in : (x : RegisteredGroup) (made : List RegisteredGroup) → x.number ≢ n → kept_made (but n) (x ∷ made) ≡ x ∷ kept_made (but n) made
  first-in x made other = ap (λ b. cond b (x ∷ kept_made (but n) made) (kept_made (but n) made)) (but-passes n x.number other)

  apart : (x y : RegisteredGroup) (made : List RegisteredGroup) → IsRising x.number made top → Among y made → y.number ≡ n → x.number ≢ n
  apart x y made rising at same own = let more = above_low x.number top made y rising at in omega (arith, more, same, own)

  -- its edges are what references there are less
  pub references-without : (low : ℕ) (made : List RegisteredGroup) (g : RegisteredGroup) (k : ℕ) → IsRising low made top → Among g made → g.number ≡ n
      → references made k ≡ references (kept_made (but n) made) k + times k (edges g)
  references-without low [] g k rising at same = absurd at
  references-without low (x ∷ made) g k rising (inl here) same =
      let out = ap (λ (list : List RegisteredGroup). references list k) (first-out x made rising.1 (ap (λ (m : RegisteredGroup). m.number) (sym here) ∙ same)) in
      let own = ap (λ (m : RegisteredGroup). times k (edges m)) here in
      omega (arith, out, own)
  references-without low (x ∷ made) g k rising (inr later) same =
      let kept = ap (λ (list : List RegisteredGroup). references list k) (first-in x made (apart x g made rising.1 later same)) in
      let rest = references-without x.number made g k rising.1 later same in
      omega (arith, kept, rest)

  pub length-without : (low : ℕ) (made : List RegisteredGroup) (g : RegisteredGroup) → IsRising low made top → Among g made → g.number ≡ n → length (kept_made (but n) made) + 1 ≡ length made
  length-without low [] g rising at same = absurd at
  length-without low (x ∷ made) g rising (inl here) same =
      let out = ap length (first-out x made rising.1 (ap (λ (m : RegisteredGroup). m.number) (sym here) ∙ same)) in
      omega (arith, out)
  length-without low (x ∷ made) g rising (inr later) same =
      let kept = ap length (first-in x made (apart x g made rising.1 later same)) in
      let rest = length-without x.number made g rising.1 later same in
      omega (arith, kept, rest)

registered-without : (n : ℕ) (made : List RegisteredGroup) (k : ℕ) → is_registered (kept_made (but n) made) k ≡ (not (n == k) && is_registered made k)
registered-without n [] k = by (n == k)
  where
    by : (b : Bool) → false ≡ (not b && false)
    by true = refl
    by false = refl
registered-without n (x ∷ made) k = by (x.number == n) refl (x.number == k) refl (n == k) refl (registered-without n made k)
  where
    by : (a : Bool) → (x.number == n) ≡ a → (b : Bool) → (x.number == k) ≡ b → (c : Bool) → (n == k) ≡ c → is_registered (kept_made (but n) made) k ≡ (not c && is_registered made k)
        → is_registered (cond (not a) (x ∷ kept_made (but n) made) (kept_made (but n) made)) k ≡ (not c && (b || is_registered made k))
    by true e true f true g later = later
    by true e true f false g later = absurd (differ n k g (sym (same_number x.number n e) ∙ same_number x.number k f))
    by true e false f c g later = later
    by false e true f true g later = absurd (differ x.number n e (same_number x.number k f ∙ sym (same_number n k g)))
    by false e true f false g later = ap (λ b. b || is_registered (kept_made (but n) made) k) f
    by false e false f c g later = ap (λ b. b || is_registered (kept_made (but n) made) k) f ∙ later

-- ---- the group on top of the stack is taken away

module _ (top : ℕ) (made : List RegisteredGroup) (root : ℕ → Bool) (count : ℕ → ℕ) (stack : List ℕ) (n : ℕ) (rising : IsRising 0 made top) (older : NamesOlder made)
    (is : Cascading made root count (stack ++ n ∷ []) []) where
  once : (k : ℕ) → times k stack + one_if (n == k) ≡ one_if (is_due made root count k)
  once k = sym (times-last k n stack) ∙ is.due k

  own : (b : Bool) → times n stack + 1 ≡ one_if b → (b ≡ true) × (times n stack ≡ 0)
  own true h = (refl, omega (arith, h))
  own false h = absurd (omega (arith, h))

  last : (is_due made root count n ≡ true) × (times n stack ≡ 0)
  last = own (is_due made root count n) (ap (λ b. times n stack + one_if b) (sym (eq-eqb n n refl)) ∙ once n)

  pub popped-due : Due made root count n
  popped-due = due-told made root count n last.0

  pub no-references : references made n ≡ 0
  no-references = let told = is.counted n in let none = popped-due.none in omega (arith, told, none)

  -- what is kept leads to what is kept
  pub leads-kept : KeepsLed (but n) made
  leads-kept g k at passes leads = but-passes n k (λ same. let some = edge-references made g k at leads in let none = ap (references made) same ∙ no-references in omega (arith, some, none))

  pub rising-popped : IsRising 0 (kept_made (but n) made) top
  rising-popped = rising-kept (but n) 0 top made rising

  pub older-popped : NamesOlder (kept_made (but n) made)
  older-popped = names_older-kept (but n) made leads-kept older

  pub popped : (g : RegisteredGroup) (now : ℕ → Bool) (less : ℕ → ℕ) → Among g made → g.number ≡ n → ((k : ℕ) → now k ≡ root k) → ((k : ℕ) → less k ≡ cond (n == k) 0 (count k))
      → Cascading (kept_made (but n) made) now less stack (edges g)
  popped g now less at same roots lowers = record {
    stand = λ k leads.
        let old = older g k at leads in
        let less_than : k < g.number = old.0 in
        let apart_from : (old.1).number ≢ n = λ it. let is_k = old.3 in omega (arith, less_than, same, it, is_k) in
        subst (λ j. is_registered (kept_made (but n) made) j ≡ true) old.3
        (at-registered (kept_made (but n) made) old.1 (kept-among (but n) made old.1 old.2 (but-passes n (old.1).number apart_from)));
    counted = λ k. by k (n == k) refl;
    due = λ k. due_by k (n == k) refl;
  }
    where
      by : (k : ℕ) (b : Bool) → (n == k) ≡ b → less k ≡ references (kept_made (but n) made) k + times k (edges g)
      by k true e =
          let split = references-without top n 0 made g k rising at same in
          let none = ap (references made) (sym (same_number n k e)) ∙ no-references in
          let low = lowers k ∙ ap (λ b. cond b 0 (count k)) e in
          omega (arith, split, none, low)
      by k false e =
          let split = references-without top n 0 made g k rising at same in
          let told = is.counted k in
          let low = lowers k ∙ ap (λ b. cond b 0 (count k)) e in
          omega (arith, split, told, low)

      due_by : (k : ℕ) (b : Bool) → (n == k) ≡ b → times k stack ≡ one_if (is_due (kept_made (but n) made) now less k)
      due_by k true e =
          let gone : is_registered (kept_made (but n) made) k ≡ false = registered-without n made k ∙ ap (λ b. not b && is_registered made k) e in
          let none : is_due (kept_made (but n) made) now less k ≡ false = ap (λ b. b && ((less k == 0) && not (now k))) gone in
          let none_there : times k stack ≡ 0 = subst (λ j. times j stack ≡ 0) (same_number n k e) last.1 in
          none_there ∙ sym (ap one_if none)
      due_by k false e =
          let stays : is_registered (kept_made (but n) made) k ≡ is_registered made k = registered-without n made k ∙ ap (λ b. not b && is_registered made k) e in
          let low : less k ≡ count k = lowers k ∙ ap (λ b. cond b 0 (count k)) e in
          let same_due : is_due (kept_made (but n) made) now less k ≡ is_due made root count k = λ i. stays i && ((low i == 0) && not (roots k i)) in
          let before = once k ∙ ap one_if (sym same_due) in
          let zero_if = ap one_if e in
          omega (arith, before, zero_if)

  -- it wasn't reached
  unreached-popped : is_reached made root n ≡ false
  unreached-popped = unreached made root n no-references popped-due.unrooted

  passes-reached : (k : ℕ) → is_reached made root k ≡ true → but n k ≡ true
  passes-reached k reached = but-passes n k (λ same. false≢true (sym unreached-popped ∙ (ap (is_reached made root) (sym same) ∙ reached)))

  -- so that what is reached stays
  pub reached-popped : (now : ℕ → Bool) → ((k : ℕ) → now k ≡ root k) → (k : ℕ) → is_reached (kept_made (but n) made) now k ≡ is_reached made root k
  reached-popped now roots k = reached-agree (kept_made (but n) made) now root k roots ∙ reached-kept (but n) root made passes-reached k

  -- and what is kept of a list by what is reached is the same
  pub kept-popped : {A : Type 0} (number : A → ℕ) (xs : List A) (now : ℕ → Bool) → ((k : ℕ) → now k ≡ root k)
      → filter (λ x. is_reached (kept_made (but n) made) now (number x)) (filter (λ x. but n (number x)) xs) ≡ filter (λ x. is_reached made root (number x)) xs
  kept-popped number xs now roots =
      ap (λ (keep : ℕ → Bool). filter (λ x. keep (number x)) (filter (λ x. but n (number x)) xs)) (λ i k. reached-popped now roots k i)
      ∙ filter-within (λ x. is_reached made root (number x)) (λ x. but n (number x)) xs (λ x is. passes-reached (number x) is)

-- roots that are kept
pub root-popped : (standings : List GroupHolds) (n : ℕ) → is_root standings n ≡ false → (k : ℕ) → is_root (kept_standings (but n) standings) k ≡ is_root standings k
root-popped standings n off k = root-kept (but n) standings (λ j is. but-passes n j (λ same. false≢true (sym off ∙ (ap (is_root standings) (sym same) ∙ is)))) k
