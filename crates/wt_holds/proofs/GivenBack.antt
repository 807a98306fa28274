-- The indices of groups that are removed are free again, and those of all others are not.
use Rattle.std.proofs.Common.{filter, ◌≤◌, subst, cond, ◌≡◌, ℕ, zero, suc, ◌+◌, ◌<◌, ◌==◌, Bool, true, false, not, ◌||◌, List, [], ◌∷◌, length, map, take, get_or, slice_get, Some, inl, inr, refl, ap, sym, ◌∙◌, arith, eqb-true}
use Rattle.std.proofs.lemmas.Bool.{false≢true}
use Rattle.std.specs.List.{find}
use Rattle.wt_env.specs.Among.{Among}
use Rattle.wt_env.specs.declared.types.VMSharedTypeIndex.{VMSharedTypeIndex}
use Rattle.wt_env.proofs.lists.Mapped.{among_mapped}
use Rattle.wt_env.proofs.lists.Members.{find-found, some_same}
use Rattle.wt_model.specs.Indices.{used, is_used}
use Rattle.wt_indices.proofs.Occurrences.{used-append}
use Rattle.wt_keys.specs.declared.entry.RecGroupEntry.{RecGroupEntry}
use Rattle.wt_keys.specs.Entries.{made_of, made_by}
use Rattle.wt_keys.specs.Keys.{AreKeys}
use Rattle.wt_keys.specs.Filed.{NumbersRise, AreApart}
use Rattle.wt_keys.proofs.ApartKeys.{keys-apart}
use Rattle.wt_keys.proofs.Numbered.{rise-above}
use Rattle.wt_holds.specs.GivenBack.{AreDifferent, AreSeparate}

abbrev bits_of : List VMSharedTypeIndex → List ℕ
bits_of indices = map (λ (i : VMSharedTypeIndex). i.0) indices

-- ---- the indices of one group

other_bool : (a b : ℕ) (u : Bool) → ((a == b) || u) ≡ false → (b == a) ≡ false
other_bool a b u h = grind (arith, h)

rest_bool : (a u : Bool) → (a || u) ≡ false → u ≡ false
rest_bool true u h = absurd (false≢true (sym h))
rest_bool false u h = h

unused-other : (xs : List VMSharedTypeIndex) (k n : ℕ) (d : VMSharedTypeIndex) → is_used (bits_of xs) k ≡ false → n < length xs → (k == (get_or xs n d).0) ≡ false
unused-other [] k n d none below = absurd (omega (arith, below))
unused-other (x ∷ xs) k zero d none below = other_bool x.0 k (is_used (bits_of xs) k) none
unused-other (x ∷ xs) k (suc n) d none below = unused-other xs k n d (rest_bool (x.0 == k) (is_used (bits_of xs) k) none) (omega (arith, below))

-- none before it is this one
pub different-before : (xs : List VMSharedTypeIndex) (n : ℕ) (d : VMSharedTypeIndex) → AreDifferent xs → n < length xs → is_used (bits_of (take n xs)) (get_or xs n d).0 ≡ false
different-before [] n d differ below = absurd (omega (arith, below))
different-before (x ∷ xs) zero d differ below = refl
different-before (x ∷ xs) (suc n) d differ below =
    ap (λ b. b || is_used (bits_of (take n xs)) (get_or xs n d).0) (unused-other xs x.0 n d differ.0 (omega (arith, below)))
    ∙ different-before xs n d differ.1 (omega (arith, below))

-- one more
pub used-next : (xs : List VMSharedTypeIndex) (n k : ℕ) (d : VMSharedTypeIndex) → n < length xs → is_used (bits_of (take (suc n) xs)) k ≡ (((get_or xs n d).0 == k) || is_used (bits_of (take n xs)) k)
used-next [] n k d below = absurd (omega (arith, below))
used-next (x ∷ xs) zero k d below = refl
used-next (x ∷ xs) (suc n) k d below =
    ap (λ b. (x.0 == k) || b) (used-next xs n k d (omega (arith, below)))
    ∙ swap (x.0 == k) ((get_or xs n d).0 == k) (is_used (bits_of (take n xs)) k)
  where
    swap : (a b c : Bool) → (a || (b || c)) ≡ (b || (a || c))
    swap true true c = refl
    swap true false c = refl
    swap false true c = refl
    swap false false c = refl

never : (b : Bool) (P : Type 0) → (b ≡ true → ⊥) → b ≡ false
never true P h = absurd (h refl)
never false P h = refl

-- ---- a group that is removed

abbrev others : ℕ → List RecGroupEntry → List RecGroupEntry
others number entries = filter (λ (e : RecGroupEntry). not (e.number == number)) entries

or_right : (a b : Bool) → b ≡ true → (a || b) ≡ true
or_right true b h = refl
or_right false b h = h

among-used-in : (k : ℕ) (e : RecGroupEntry) (entries : List RecGroupEntry) → Among e entries → is_used (bits_of e.shared_type_indices) k ≡ true → is_used (used (made_by entries)) k ≡ true
among-used-in k e [] at there = absurd at
among-used-in k e (x ∷ xs) (inl same) there =
    used-append k (bits_of x.shared_type_indices) (used (made_by xs)) ∙ ap (λ b. b || is_used (used (made_by xs)) k) (ap (λ (y : RecGroupEntry). is_used (bits_of y.shared_type_indices) k) (sym same) ∙ there)
among-used-in k e (x ∷ xs) (inr later) there =
    used-append k (bits_of x.shared_type_indices) (used (made_by xs)) ∙ or_right (is_used (bits_of x.shared_type_indices) k) (is_used (used (made_by xs)) k) (among-used-in k e xs later there)

-- where numbers are above this one, none is taken out
all-others : (low number : ℕ) (entries : List RecGroupEntry) → NumbersRise low entries → number ≤ low → others number entries ≡ entries
all-others low number [] rises within = refl
all-others low number (x ∷ xs) rises within =
    ap (λ b. cond (not b) (x ∷ others number xs) (others number xs)) (apart x.number number (omega (arith, within, rises.0)))
    ∙ ap (λ es. x ∷ es) (all-others x.number number xs rises.1 (omega (arith, within, rises.0)))
  where
    apart : (a b : ℕ) → b < a → (a == b) ≡ false
    apart a b less = grind (arith, less)

removed_bool : (ux ue us uf : Bool) → (ux ≡ true → us ≡ false) → (ue ≡ true → us ≡ true) → (ue || not us) ≡ not uf → (ue || not (ux || us)) ≡ not (ux || uf)
removed_bool true true us uf apart within h = absurd (false≢true (sym (apart refl) ∙ within refl))
removed_bool true false us uf apart within h = refl
removed_bool false ue us uf apart within h = h

gone_bool : (ux us : Bool) → (ux ≡ true → us ≡ false) → (ux || not (ux || us)) ≡ not us
gone_bool true us apart = ap not (sym (apart refl))
gone_bool false us apart = refl

-- what is free beside the others is what was free, and the indices of the group that is removed
pub free-removed : (low number k : ℕ) (entries : List RecGroupEntry) (e : RecGroupEntry) → NumbersRise low entries → AreSeparate entries → Among e entries → e.number ≡ number
    → (is_used (bits_of e.shared_type_indices) k || not (is_used (used (made_by entries)) k)) ≡ not (is_used (used (made_by (others number entries))) k)
free-removed low number k [] e rises separate at is = absurd at
free-removed low number k (x ∷ xs) e rises separate (inl same) is =
    ap (λ b. is_used (bits_of e.shared_type_indices) k || not b) (used-append k (bits_of x.shared_type_indices) (used (made_by xs)))
    ∙ ap (λ (y : RecGroupEntry). is_used (bits_of e.shared_type_indices) k || not (is_used (bits_of y.shared_type_indices) k || is_used (used (made_by xs)) k)) (sym same)
    ∙ gone_bool (is_used (bits_of e.shared_type_indices) k) (is_used (used (made_by xs)) k) (λ there. separate.1 k (ap (λ (y : RecGroupEntry). is_used (bits_of y.shared_type_indices) k) (sym same) ∙ there))
    ∙ ap (λ es. not (is_used (used (made_by es)) k)) (sym (ap (λ b. cond (not b) (x ∷ others number xs) (others number xs)) here ∙ all-others x.number number xs rises.1 (omega (arith, own))))
  where
    own : x.number ≡ number
    own = ap (λ (y : RecGroupEntry). y.number) (sym same) ∙ is

    here : (x.number == number) ≡ true
    here = same_numbers x.number number own
      where
        same_numbers : (a b : ℕ) → a ≡ b → (a == b) ≡ true
        same_numbers a b h = grind (arith, h)
free-removed low number k (x ∷ xs) e rises separate (inr later) is =
    ap (λ b. is_used (bits_of e.shared_type_indices) k || not b) (used-append k (bits_of x.shared_type_indices) (used (made_by xs)))
    ∙ removed_bool (is_used (bits_of x.shared_type_indices) k) (is_used (bits_of e.shared_type_indices) k) (is_used (used (made_by xs)) k) (is_used (used (made_by (others number xs))) k)
    (separate.1 k) (among-used-in k e xs later) (free-removed x.number number k xs e rises.1 separate.2 later is)
    ∙ ap not (sym (ap (λ b. is_used (used (made_by (cond (not b) (x ∷ others number xs) (others number xs)))) k) (apart x.number e.number number is (rise-above x.number xs e rises.1 later))
    ∙ used-append k (bits_of x.shared_type_indices) (used (made_by (others number xs)))))
  where
    apart : (a b n : ℕ) → b ≡ n → a < b → (a == n) ≡ false
    apart a b n same less = grind (arith, same, less)

-- what is left uses no more
fewer-used : (number k : ℕ) (entries : List RecGroupEntry) → is_used (used (made_by entries)) k ≡ false → is_used (used (made_by (others number entries))) k ≡ false
fewer-used number k [] none = refl
fewer-used number k (x ∷ xs) none = by (x.number == number) (fewer-used number k xs (rest_bool (is_used (bits_of x.shared_type_indices) k) (is_used (used (made_by xs)) k) parts))
  where
    parts : (is_used (bits_of x.shared_type_indices) k || is_used (used (made_by xs)) k) ≡ false
    parts = sym (used-append k (bits_of x.shared_type_indices) (used (made_by xs))) ∙ none

    first_bool : (a u : Bool) → (a || u) ≡ false → a ≡ false
    first_bool true u h = absurd (false≢true (sym h))
    first_bool false u h = refl

    by : (b : Bool) → is_used (used (made_by (others number xs))) k ≡ false → is_used (used (made_by (cond (not b) (x ∷ others number xs) (others number xs)))) k ≡ false
    by true rest = rest
    by false rest =
        used-append k (bits_of x.shared_type_indices) (used (made_by (others number xs)))
        ∙ ap (λ b. b || is_used (used (made_by (others number xs))) k) (first_bool (is_used (bits_of x.shared_type_indices) k) (is_used (used (made_by xs)) k) parts) ∙ rest

pub separate-removed : (number : ℕ) (entries : List RecGroupEntry) → AreSeparate entries → AreSeparate (others number entries)
separate-removed number [] separate = tt
separate-removed number (x ∷ xs) separate = by (x.number == number) (separate-removed number xs separate.2)
  where
    by : (b : Bool) → AreSeparate (others number xs) → AreSeparate (cond (not b) (x ∷ others number xs) (others number xs))
    by true rest = rest
    by false rest = (separate.0, (λ k here. fewer-used number k xs (separate.1 k here)), rest)

pub different-found : (e : RecGroupEntry) (entries : List RecGroupEntry) → AreSeparate entries → Among e entries → AreDifferent e.shared_type_indices
different-found e [] separate at = absurd at
different-found e (x ∷ xs) separate (inl same) = subst (λ (y : RecGroupEntry). AreDifferent y.shared_type_indices) (sym same) separate.0
different-found e (x ∷ xs) separate (inr later) = different-found e xs separate.2 later

among-used : (i : VMSharedTypeIndex) (xs : List VMSharedTypeIndex) → Among i xs → is_used (bits_of xs) i.0 ≡ true
among-used i [] at = absurd at
among-used i (x ∷ xs) (inl same) = own (ap (λ (y : VMSharedTypeIndex). y.0) (sym same)) (is_used (bits_of xs) i.0)
  where
    own : {m n : ℕ} → m ≡ n → (u : Bool) → ((m == n) || u) ≡ true
    own {m} {n} same u = grind (arith, same)
among-used i (x ∷ xs) (inr later) = or_right (x.0 == i.0) (is_used (bits_of xs) i.0) (among-used i xs later)

-- its indices weren't free
pub used-found-in : (i : VMSharedTypeIndex) (e : RecGroupEntry) (entries : List RecGroupEntry) → Among e entries → Among i e.shared_type_indices → is_used (used (made_by entries)) i.0 ≡ true
used-found-in i e entries at here = among-used-in i.0 e entries at (among-used i e.shared_type_indices here)

-- ---- the groups of a registry

places-differ : (i : VMSharedTypeIndex) (rest : List VMSharedTypeIndex) → ((j : ℕ) → slice_get rest j ≡ Some i → ⊥) → is_used (bits_of rest) i.0 ≡ false
places-differ i [] none = refl
places-differ i (x ∷ xs) none = by (x.0 == i.0) refl (places-differ i xs (λ j is. none (suc j) is))
  where
    by : (b : Bool) → (x.0 == i.0) ≡ b → is_used (bits_of xs) i.0 ≡ false → ((x.0 == i.0) || is_used (bits_of xs) i.0) ≡ false
    by true at rest = absurd (none 0 (ap (λ (n : ℕ). Some (record { 0 = n })) (eqb-true x.0 i.0 at)))
    by false at rest = ap (λ b. b || is_used (bits_of xs) i.0) at ∙ rest

different : (xs : List VMSharedTypeIndex) → ((j k : ℕ) (i : VMSharedTypeIndex) → slice_get xs j ≡ Some i → slice_get xs k ≡ Some i → j ≡ k) → AreDifferent xs
different [] distinct = tt
different (x ∷ xs) distinct = (places-differ x xs (λ j is. let same = distinct 0 (suc j) x refl is in absurd (omega (arith, same))), different xs (λ j k i one two. let same = distinct (suc j) (suc k) i one two in omega (arith, same)))

used-among : (k : ℕ) (xs : List VMSharedTypeIndex) → is_used (bits_of xs) k ≡ true → Among (record { 0 = k }) xs
used-among k [] there = absurd (false≢true there)
used-among k (x ∷ xs) there = by (x.0 == k) refl (used-among k xs)
  where
    by : (b : Bool) → (x.0 == k) ≡ b → (is_used (bits_of xs) k ≡ true → Among (record { 0 = k }) xs) → Among (record { 0 = k }) (x ∷ xs)
    by true at later = inl (ap (λ (n : ℕ). record { 0 = n }) (sym (eqb-true x.0 k at)))
    by false at later = inr (later (ap (λ b. b || is_used (bits_of xs) k) (sym at) ∙ there))

used-found : (k : ℕ) (entries : List RecGroupEntry) → is_used (used (made_by entries)) k ≡ true → (a : RecGroupEntry) × Among a entries × Among (record { 0 = k }) a.shared_type_indices
used-found k [] there = absurd (false≢true there)
used-found k (e ∷ es) there = by (is_used (bits_of e.shared_type_indices) k) refl (used-found k es)
  where
    by : (b : Bool) → is_used (bits_of e.shared_type_indices) k ≡ b → (is_used (used (made_by es)) k ≡ true → (a : RecGroupEntry) × Among a es × Among (record { 0 = k }) a.shared_type_indices)
        → (a : RecGroupEntry) × Among a (e ∷ es) × Among (record { 0 = k }) a.shared_type_indices
    by true at rest = (e, inl refl, used-among k e.shared_type_indices at)
    by false at rest =
        let later = rest (ap (λ b. b || is_used (used (made_by es)) k) (sym at) ∙ sym (used-append k (bits_of e.shared_type_indices) (used (made_by es))) ∙ there) in
        (later.0, inr later.1, later.2)

apart-separate : (low : ℕ) (entries : List RecGroupEntry) → NumbersRise low entries → ((a b : RecGroupEntry) (i : VMSharedTypeIndex) → Among a entries → Among b entries → Among i a.shared_type_indices → Among i b.shared_type_indices → a.number ≡ b.number)
    → ((a : RecGroupEntry) → Among a entries → AreDifferent a.shared_type_indices) → AreSeparate entries
apart-separate low [] rises agree differ = tt
apart-separate low (e ∷ es) rises agree differ = (
  differ e (inl refl),
  (λ k here. never (is_used (used (made_by es)) k) (Unit {0}) (λ there.
      let found = used-found k es there in
      let same = agree e found.0 (record { 0 = k }) (inl refl) (inr found.1) (used-among k e.shared_type_indices here) found.2 in
      let above = rise-above e.number es found.0 rises.1 found.1 in
      absurd (omega (arith, same, above)))),
  apart-separate e.number es rises.1 (λ a b i one two here there. agree a b i (inr one) (inr two) here there) (λ a at. differ a (inr at)),
)

-- no two registered types have one index
pub keys-separate : (entries : List RecGroupEntry) (top : ℕ) → AreKeys entries top → AreSeparate entries
keys-separate entries top keys =
    apart-separate 0 entries apart.rising (λ a b i one two here there. (apart.agree a b one two).indices i here there)
    (λ a at. different a.shared_type_indices (λ j k i one two.
    ap (λ (place : ℕ × ℕ). place.1) (some_same (sym (keys.located (made_of a) j i (among_mapped made_of entries a at) one) ∙ keys.located (made_of a) k i (among_mapped made_of entries a at) two))))
  where
    apart : AreApart entries
    apart = keys-apart entries top keys

next_place : (n : ℕ) → n + 1 ≡ suc n
next_place n = omega arith

pub used-more : (xs : List VMSharedTypeIndex) (n k : ℕ) (d : VMSharedTypeIndex) → n < length xs → is_used (bits_of (take (n + 1) xs)) k ≡ (((get_or xs n d).0 == k) || is_used (bits_of (take n xs)) k)
used-more xs n k d below = ap (λ m. is_used (bits_of (take m xs)) k) (next_place n) ∙ used-next xs n k d below

pub or_assoc : (a b c : Bool) → (a || (b || c)) ≡ ((a || b) || c)
or_assoc true b c = refl
or_assoc false b c = refl

-- what is found by a number
pub found-parts : (number : ℕ) (entries : List RecGroupEntry) (e : RecGroupEntry) → find (λ (x : RecGroupEntry). x.number == number) entries ≡ Some e → (e.number ≡ number) × Among e entries
found-parts number entries e is = let found = find-found (λ (x : RecGroupEntry). x.number == number) entries e is in (eqb-true e.number number found.0, found.1)
