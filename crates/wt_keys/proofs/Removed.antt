-- Where the entry at a place is taken away, those with other numbers are left.
use Rattle.std.proofs.Common.{◌≡◌, ℕ, zero, suc, ◌<◌, ◌==◌, inl, inr, Bool, true, false, cond, not, List, [], ◌∷◌, length, get_or, slice_get, Some, None, refl, sym, ap, subst, ◌∙◌, arith, ◌≢◌}
use Rattle.std.specs.List.{filter, find, remove}
use Rattle.std.proofs.lemmas.Bool.{false≢true, false_from_ne_true, eqb-true, eq-eqb}
use Rattle.wt_env.specs.Among.{Among}
use Rattle.wt_env.proofs.lists.Filtered.{among_filter}
use Rattle.wt_env.proofs.lists.Members.{find-found, find-none}
use Rattle.wt_keys.specs.declared.entry.RecGroupEntry.{RecGroupEntry}
use Rattle.wt_keys.specs.Filed.{NumbersRise, Agree, AreApart}
use Rattle.wt_keys.proofs.Numbered.{rise-above, rise-weaker}

-- where each passes, all are left
pub filter-all : {A : Type 0} (keep : A → Bool) (xs : List A) → ((x : A) → Among x xs → keep x ≡ true) → filter keep xs ≡ xs
filter-all keep [] passes = refl
filter-all keep (x ∷ xs) passes = ap (λ b. cond b (x ∷ filter keep xs) (filter keep xs)) (passes x (inl refl)) ∙ ap (λ rest. x ∷ rest) (filter-all keep xs (λ y at. passes y (inr at)))

abbrev other : ℕ → RecGroupEntry → Bool
other n e = not (e.number == n)

other-passes : (n : ℕ) (e : RecGroupEntry) → (e.number ≡ n → ⊥) → other n e ≡ true
other-passes n e differs = ap not (false_from_ne_true (e.number == n) (λ h. differs (grind (arith, h))))

pub removed-filter : (low : ℕ) (entries : List RecGroupEntry) (k n : ℕ) (d : RecGroupEntry) → NumbersRise low entries → k < length entries → (get_or entries k d).number ≡ n → remove entries k ≡ filter (λ e. not (e.number == n)) entries
removed-filter low [] k n d rises below is = absurd (omega (arith, below))
removed-filter low (x ∷ xs) zero n d rises below is =
    sym (
    ap (λ b. cond (not b) (x ∷ filter (other n) xs) (filter (other n) xs)) (eq-eqb x.number n is)
    ∙ filter-all (other n) xs (λ e at. other-passes n e (λ same. let above = rise-above x.number xs e rises.1 at in omega (arith, above, same, is))))
removed-filter low (x ∷ xs) (suc k) n d rises below is =
    ap (λ rest. x ∷ rest) (removed-filter x.number xs k n d rises.1 (omega (arith, below)) is)
    ∙ sym (ap (λ b. cond b (x ∷ filter (other n) xs) (filter (other n) xs)) (other-passes n x (λ same. let above = rise-above x.number xs (get_or xs k d) rises.1 (at xs k (omega (arith, below))) in omega (arith, above, same, is))))
  where
    at : (ys : List RecGroupEntry) (j : ℕ) → j < length ys → Among (get_or ys j d) ys
    at [] j short = absurd (omega (arith, short))
    at (y ∷ ys) zero short = inl refl
    at (y ∷ ys) (suc j) short = inr (at ys j (omega (arith, short)))

-- where none has the number, all are left
pub none-filter : (entries : List RecGroupEntry) (n : ℕ) → find (λ e. e.number == n) entries ≡ None → entries ≡ filter (λ e. not (e.number == n)) entries
none-filter entries n none = sym (filter-all (other n) entries (λ e at. ap not (find-none (λ (x : RecGroupEntry). x.number == n) entries none e at)))

pub within-get : {A : Type 0} (xs : List A) (k : ℕ) (d : A) → k < length xs → slice_get xs k ≡ Some (get_or xs k d)
within-get [] k d below = absurd (omega (arith, below))
within-get (x ∷ xs) zero d below = refl
within-get (x ∷ xs) (suc k) d below = within-get xs k d (omega (arith, below))

pub rise-filter : (low : ℕ) (keep : RecGroupEntry → Bool) (entries : List RecGroupEntry) → NumbersRise low entries → NumbersRise low (filter keep entries)
rise-filter low keep [] rises = tt
rise-filter low keep (x ∷ xs) rises = by (keep x) (rise-filter x.number keep xs rises.1)
  where
    by : (b : Bool) → NumbersRise x.number (filter keep xs) → NumbersRise low (cond b (x ∷ filter keep xs) (filter keep xs))
    by true later = (rises.0, later)
    by false later = rise-weaker low x.number (filter keep xs) (omega (arith, rises.0)) later

-- what is found at a place, and what is left without it
pub record TakenOut (entries : List RecGroupEntry) (n place : ℕ) (x : RecGroupEntry) : Type 0 where
  pub number : x.number ≡ n
  pub among : Among x entries
  pub found : Some x ≡ find (λ e. e.number == n) entries
  pub left : remove entries place ≡ filter (λ e. not (e.number == n)) entries

pub taken-out : (entries read : List RecGroupEntry) (n place : ℕ) (x : RecGroupEntry) → NumbersRise 0 entries → read ≡ entries → slice_get read place ≡ find (λ e. e.number == n) read → place < length read
    → x ≡ get_or entries place x → TakenOut entries n place x
taken-out entries read n place x rises same told below is =
    let within : place < length entries = subst (λ (es : List RecGroupEntry). place < length es) same below in
    let there : slice_get entries place ≡ find (λ e. e.number == n) entries = subst (λ (es : List RecGroupEntry). slice_get es place ≡ find (λ e. e.number == n) es) same told in
    let found : find (λ e. e.number == n) entries ≡ Some x = sym there ∙ within-get entries place x within ∙ ap Some (sym is) in
    let passes = find-found (λ (e : RecGroupEntry). e.number == n) entries x found in
    let number : x.number ≡ n = eqb-true x.number n passes.0 in
    record {
      number = number;
      among = passes.1;
      found = sym found;
      left = removed-filter 0 entries place n x rises within (ap (λ (e : RecGroupEntry). e.number) (sym is) ∙ number);
    }

-- what is left is told still, where what is told of others than the one with this number stays
pub left-filed : (entries : List RecGroupEntry) (n : ℕ) (x : RecGroupEntry) (Before After : RecGroupEntry → Type 0) → x.number ≡ n → Among x entries → AreApart entries
    → ((e : RecGroupEntry) → Agree e x → e.number ≢ x.number → Before e → After e) → ((e : RecGroupEntry) → Among e entries → Before e)
    → AreApart (filter (λ e. not (e.number == n)) entries) × ((e : RecGroupEntry) → Among e (filter (λ e. not (e.number == n)) entries) → After e)
left-filed entries n x Before After number at apart stays before = (
  record {
    rising = rise-filter 0 (other n) entries apart.rising;
    agree = λ a b here there. apart.agree a b (among_filter (other n) entries a here).0 (among_filter (other n) entries b there).0;
  },
  λ e here.
      let found = among_filter (other n) entries e here in
      stays e (apart.agree e x found.0 at) (λ same. differs e found.1 (same ∙ number)) (before e found.0),
)
  where
    differs : (e : RecGroupEntry) → other n e ≡ true → e.number ≡ n → ⊥
    differs e passes same = false≢true (sym (ap not (eq-eqb e.number n same)) ∙ passes)
