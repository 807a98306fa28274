-- What is kept true of free indices when one is taken and when some are given back.
use Rattle.std.proofs.Common.{◌≡◌, ℕ, ◌+◌, ◌<◌, ◌≤◌, inl, inr, ◌==◌, Bool, true, false, not, cond, ◌||◌, ◌&&◌, List, [], ◌∷◌, ◌++◌, length, nat_le, refl, ap, sym, subst, ◌∙◌, arith, append_assoc, append-nil, eqb-true, length-append}
use Rattle.std.proofs.lemmas.Bool.{false≢true}
use Rattle.wt_model.specs.Indices.{is_used}
use Rattle.wt_indices.specs.Free.{FreeSet, is_free, is_free_before, occurrences, AreDistinctBelow}
use Rattle.wt_indices.specs.Heap.{TakesSmallest}
use Rattle.wt_indices.proofs.Occurrences.{occurrences-cons, occurrences-append, none-used, unused-none, used-same, used-append, few-distinct}

-- the same numbers in another order
pub distinct-same : (bound : ℕ) (xs ys : List ℕ) → ((k : ℕ) → occurrences k xs ≡ occurrences k ys) → AreDistinctBelow bound xs → AreDistinctBelow bound ys
distinct-same bound xs ys same distinct = record {
  once = λ k. subst (λ n. n ≤ 1) (same k) (distinct.once k);
  below = λ k there. distinct.below k (used-same k xs ys (same k) ∙ there);
}

or_right : (a b : Bool) → b ≡ true → (a || b) ≡ true
or_right true b h = refl
or_right false b h = h

-- those that are left
pub distinct-right : (bound : ℕ) (xs ys : List ℕ) → AreDistinctBelow bound (xs ++ ys) → AreDistinctBelow bound ys
distinct-right bound xs ys distinct = record {
  once = λ k. let all = distinct.once k in let parts = occurrences-append k xs ys in omega (arith, all, parts);
  below = λ k there. distinct.below k (used-append k xs ys ∙ or_right (is_used xs k) (is_used ys k) there);
}

unused_bool : (a b c : Bool) → (a || (b || c)) ≡ false → (a || b) ≡ false
unused_bool true b c h = absurd (false≢true (sym h))
unused_bool false true c h = absurd (false≢true (sym h))
unused_bool false false c h = refl

fresh_bool : (a b c : Bool) → (a || (b || c)) ≡ false → c ≡ false
fresh_bool true b c h = absurd (false≢true (sym h))
fresh_bool false true c h = absurd (false≢true (sym h))
fresh_bool false false c h = h

below_fresh : (k n : ℕ) → nat_le n k ≡ false → k < n
below_fresh k n h = grind (arith, h)

-- one more that was used
pub distinct-more : (free : FreeSet) (k : ℕ) → is_free_before free k ≡ false → AreDistinctBelow free.fresh_from (free.taken ++ free.given_back) → AreDistinctBelow free.fresh_from (k ∷ (free.taken ++ free.given_back))
distinct-more free k used distinct = record {
  once = λ j. by j (k == j) refl;
  below = λ j there. under j (k == j) refl there;
}
  where
    others : List ℕ
    others = free.taken ++ free.given_back

    unused : is_used others k ≡ false
    unused = used-append k free.taken free.given_back ∙ unused_bool (is_used free.taken k) (is_used free.given_back k) (nat_le free.fresh_from k) used

    by : (j : ℕ) (b : Bool) → (k == j) ≡ b → occurrences j (k ∷ others) ≤ 1
    by j true at =
        let none : occurrences j others ≡ 0 = ap (λ n. occurrences n others) (sym (eqb-true k j at)) ∙ unused-none k others unused in
        let count : occurrences j (k ∷ others) ≡ 1 + occurrences j others = occurrences-cons j k others ∙ ap (λ b. cond b 1 0 + occurrences j others) at in
        omega (arith, none, count)
    by j false at =
        let count : occurrences j (k ∷ others) ≡ 0 + occurrences j others = occurrences-cons j k others ∙ ap (λ b. cond b 1 0 + occurrences j others) at in
        let once = distinct.once j in
        omega (arith, count, once)

    under : (j : ℕ) (b : Bool) → (k == j) ≡ b → is_used (k ∷ others) j ≡ true → j < free.fresh_from
    under j true at there = subst (λ n. n < free.fresh_from) (eqb-true k j at) (below_fresh k free.fresh_from (fresh_bool (is_used free.taken k) (is_used free.given_back k) (nat_le free.fresh_from k) used))
    under j false at there = distinct.below j (ap (λ b. b || is_used others j) (sym at) ∙ there)

-- there is room for one more that was used
pub room-more : (free : FreeSet) (k capacity : ℕ) → is_free_before free k ≡ false → AreDistinctBelow free.fresh_from (free.taken ++ free.given_back) → free.fresh_from ≤ capacity → length free.given_back < capacity
room-more free k capacity used distinct room =
    let few = few-distinct free.fresh_from (k ∷ (free.taken ++ free.given_back)) (distinct-more free k used distinct) in
    let long = length-append free.taken free.given_back in
    omega (arith, few, long, room)

-- there is room for all that was taken
pub room-all : (fresh_from capacity : ℕ) (taken given_back : List ℕ) → AreDistinctBelow fresh_from (taken ++ given_back) → fresh_from ≤ capacity → length given_back + length taken ≤ capacity
room-all fresh_from capacity taken given_back distinct room =
    let few = few-distinct fresh_from (taken ++ given_back) distinct in
    let long = length-append taken given_back in
    omega (arith, few, long, room)

-- ---- giving back

or_assoc : (a b c : Bool) → ((a || b) || c) ≡ (a || (b || c))
or_assoc true b c = refl
or_assoc false b c = refl

-- one is given back
pub distinct-given : (free : FreeSet) (k : ℕ) (after : List ℕ) → is_free_before free k ≡ false → AreDistinctBelow free.fresh_from (free.taken ++ free.given_back)
    → ((j : ℕ) → occurrences j (k ∷ free.given_back) ≡ occurrences j after) → AreDistinctBelow free.fresh_from (free.taken ++ after)
distinct-given free k after used distinct same =
    distinct-same free.fresh_from (k ∷ (free.taken ++ free.given_back)) (free.taken ++ after) all (distinct-more free k used distinct)
  where
    all : (j : ℕ) → occurrences j (k ∷ (free.taken ++ free.given_back)) ≡ occurrences j (free.taken ++ after)
    all j =
        let one = occurrences-cons j k (free.taken ++ free.given_back) in
        let two = occurrences-cons j k free.given_back in
        let before = occurrences-append j free.taken free.given_back in
        let then = occurrences-append j free.taken after in
        let same = same j in
        omega (arith, one, two, before, then, same)

-- it is free then
pub free-given : (given_back after : List ℕ) (fresh_from k j : ℕ) → occurrences j (k ∷ given_back) ≡ occurrences j after
    → (is_used after j || nat_le fresh_from j) ≡ ((k == j) || (is_used given_back j || nat_le fresh_from j))
free-given given_back after fresh_from k j same =
    ap (λ b. b || nat_le fresh_from j) (sym (used-same j (k ∷ given_back) after same))
    ∙ or_assoc (k == j) (is_used given_back j) (nat_le fresh_from j)

-- all that was taken is free then
pub free-returned : (given_back taken after : List ℕ) (fresh_from j : ℕ) → occurrences j (taken ++ given_back) ≡ occurrences j after
    → (is_used after j || nat_le fresh_from j) ≡ (is_used taken j || (is_used given_back j || nat_le fresh_from j))
free-returned given_back taken after fresh_from j same =
    ap (λ b. b || nat_le fresh_from j) (sym (used-same j (taken ++ given_back) after same) ∙ used-append j taken given_back)
    ∙ or_assoc (is_used taken j) (is_used given_back j) (nat_le fresh_from j)

-- ---- taking

le_bool : (n k : ℕ) → k < n → nat_le n k ≡ false
le_bool n k less = grind (arith, less)

le_self : (n : ℕ) → nat_le n n ≡ true
le_self n = grind arith

le_next : (n k : ℕ) → nat_le (n + 1) k ≡ (nat_le n k && not (n == k))
le_next n k = grind arith

and_true : (a : Bool) → (a && true) ≡ a
and_true true = refl
and_true false = refl

own : (k : ℕ) (u : Bool) → ((k == k) || u) ≡ true
own k u = grind arith

-- what is kept true where one more was taken
pub distinct-taken : (given_back left taken : List ℕ) (fresh_from fresh_after index : ℕ) → TakesSmallest given_back fresh_from left fresh_after index
    → AreDistinctBelow fresh_from (taken ++ given_back) → AreDistinctBelow fresh_after ((taken ++ index ∷ []) ++ left)
distinct-taken given_back left taken fresh_from fresh_after index (inl (takes, same)) distinct =
    subst (λ n. AreDistinctBelow n ((taken ++ index ∷ []) ++ left)) (sym same)
    (distinct-same fresh_from (taken ++ given_back) ((taken ++ index ∷ []) ++ left) all distinct)
  where
    all : (k : ℕ) → occurrences k (taken ++ given_back) ≡ occurrences k ((taken ++ index ∷ []) ++ left)
    all k =
        occurrences-append k taken given_back
        ∙ ap (λ n. occurrences k taken + n) (takes.once k)
        ∙ sym (occurrences-append k taken (index ∷ left))
        ∙ ap (λ xs. occurrences k xs) (sym (append_assoc taken (index ∷ []) left))
distinct-taken given_back left taken fresh_from fresh_after index (inr takes) distinct = record {
  once = λ k. by k (index == k) refl;
  below = λ k there. under k (is_used taken k) refl there;
}
  where
    free : FreeSet
    free = record { given_back = []; fresh_from = fresh_from; taken = taken }

    alone : AreDistinctBelow fresh_from taken
    alone = subst (λ xs. AreDistinctBelow fresh_from xs) (ap (λ xs. taken ++ xs) takes.none ∙ append-nil taken) distinct

    parts : (k : ℕ) → occurrences k ((taken ++ index ∷ []) ++ left) ≡ occurrences k taken + occurrences k (index ∷ [])
    parts k = ap (λ xs. occurrences k ((taken ++ index ∷ []) ++ xs)) takes.still_none ∙ ap (λ xs. occurrences k xs) (append-nil (taken ++ index ∷ [])) ∙ occurrences-append k taken (index ∷ [])

    not_below : (k : ℕ) → (index == k) ≡ true → (b : Bool) → is_used taken k ≡ b → is_used taken k ≡ false
    not_below k at true there = let below = alone.below k there in let first = takes.first in let same = eqb-true index k at in absurd (omega (arith, below, first, same))
    not_below k at false there = there

    by : (k : ℕ) (b : Bool) → (index == k) ≡ b → occurrences k ((taken ++ index ∷ []) ++ left) ≤ 1
    by k true at =
        let none = unused-none k taken (not_below k at (is_used taken k) refl) in
        let all = parts k in
        let one : occurrences k (index ∷ []) ≡ 1 + 0 = occurrences-cons k index [] ∙ ap (λ b. cond b 1 0 + 0) at in
        omega (arith, none, all, one)
    by k false at =
        let few = alone.once k in
        let all = parts k in
        let one : occurrences k (index ∷ []) ≡ 0 + 0 = occurrences-cons k index [] ∙ ap (λ b. cond b 1 0 + 0) at in
        omega (arith, few, all, one)

    used : (k : ℕ) → is_used ((taken ++ index ∷ []) ++ left) k ≡ (is_used taken k || is_used (index ∷ []) k)
    used k = ap (λ xs. is_used ((taken ++ index ∷ []) ++ xs) k) takes.still_none ∙ ap (λ xs. is_used xs k) (append-nil (taken ++ index ∷ [])) ∙ used-append k taken (index ∷ [])

    is_last : (k : ℕ) → ((index == k) || false) ≡ true → index ≡ k
    is_last k h = grind (arith, h)

    under : (k : ℕ) (b : Bool) → is_used taken k ≡ b → is_used ((taken ++ index ∷ []) ++ left) k ≡ true → k < fresh_after
    under k true at there = let below = alone.below k at in let first = takes.first in let after = takes.after in omega (arith, below, first, after)
    under k false at there =
        let same = is_last k (sym (ap (λ b. b || is_used (index ∷ []) k) at) ∙ sym (used k) ∙ there) in
        let after = takes.after in
        omega (arith, same, after)

-- what is taken was free
pub free-taken : (given_back left taken : List ℕ) (fresh_from fresh_after index : ℕ) → TakesSmallest given_back fresh_from left fresh_after index
    → (is_used given_back index || nat_le fresh_from index) ≡ true
free-taken given_back left taken fresh_from fresh_after index (inl (takes, same)) =
    ap (λ b. b || nat_le fresh_from index) (used-same index given_back (index ∷ left) (takes.once index) ∙ own index (is_used left index))
free-taken given_back left taken fresh_from fresh_after index (inr takes) =
    ap (λ xs. is_used xs index || nat_le fresh_from index) takes.none ∙ ap (λ n. nat_le fresh_from n) takes.first ∙ le_self fresh_from

-- nothing below it was free
pub least-taken : (given_back left taken : List ℕ) (fresh_from fresh_after index : ℕ) → TakesSmallest given_back fresh_from left fresh_after index
    → AreDistinctBelow fresh_from (taken ++ given_back) → (k : ℕ) → k < index → (is_used given_back k || nat_le fresh_from k) ≡ false
least-taken given_back left taken fresh_from fresh_after index (inl (takes, same)) distinct k less =
    ap (λ b. b || nat_le fresh_from k) (takes.least k less) ∙ le_bool fresh_from k (omega (arith, less, within))
  where
    within : index < fresh_from
    within = (distinct-right fresh_from taken given_back distinct).below index (used-same index given_back (index ∷ left) (takes.once index) ∙ own index (is_used left index))
least-taken given_back left taken fresh_from fresh_after index (inr takes) distinct k less =
    ap (λ xs. is_used xs k || nat_le fresh_from k) takes.none ∙ le_bool fresh_from k (subst (λ n. k < n) takes.first less)

-- all else that was free is free still
pub left-taken : (given_back left taken : List ℕ) (fresh_from fresh_after index : ℕ) → TakesSmallest given_back fresh_from left fresh_after index
    → AreDistinctBelow fresh_from (taken ++ given_back) → (k : ℕ)
    → (is_used left k || nat_le fresh_after k) ≡ ((is_used given_back k || nat_le fresh_from k) && not (index == k))
left-taken given_back left taken fresh_from fresh_after index (inl (takes, same)) distinct k =
    ap (λ n. is_used left k || nat_le n k) same
    ∙ by (index == k) refl
    ∙ ap (λ b. (b || nat_le fresh_from k) && not (index == k)) (sym (used-same k given_back (index ∷ left) (takes.once k)))
  where
    alone : AreDistinctBelow fresh_from given_back
    alone = distinct-right fresh_from taken given_back distinct

    gone : (index == k) ≡ true → is_used left k ≡ false
    gone at = none-used k left
        (let once = alone.once k in
        let count : occurrences k given_back ≡ 1 + occurrences k left = takes.once k ∙ occurrences-cons k index left ∙ ap (λ b. cond b 1 0 + occurrences k left) at in
        omega (arith, once, count))

    above : (index == k) ≡ true → nat_le fresh_from k ≡ false
    above at = le_bool fresh_from k (alone.below k (used-same k given_back (index ∷ left) (takes.once k) ∙ ap (λ b. b || is_used left k) at))

    by : (b : Bool) → (index == k) ≡ b → (is_used left k || nat_le fresh_from k) ≡ ((((index == k) || is_used left k) || nat_le fresh_from k) && not (index == k))
    by true at = ap (λ b. b || nat_le fresh_from k) (gone at) ∙ above at ∙ sym (ap (λ b. ((b || is_used left k) || nat_le fresh_from k) && not b) at)
    by false at = sym (and_true (is_used left k || nat_le fresh_from k)) ∙ sym (ap (λ b. ((b || is_used left k) || nat_le fresh_from k) && not b) at)
left-taken given_back left taken fresh_from fresh_after index (inr takes) distinct k =
    ap (λ xs. is_used xs k || nat_le fresh_after k) takes.still_none
    ∙ ap (λ n. nat_le n k) (takes.after ∙ ap (λ n. n + 1) takes.first)
    ∙ le_next fresh_from k
    ∙ ap (λ n. nat_le fresh_from k && not (n == k)) (sym takes.first)
    ∙ ap (λ xs. (is_used xs k || nat_le fresh_from k) && not (index == k)) (sym takes.none)

before_bool : (t f own : Bool) → (own ≡ true → f ≡ true) → ((t || (own || false)) || (f && not own)) ≡ (t || f)
before_bool true f own free = refl
before_bool false f true free = sym (free refl)
before_bool false f false free = and_true f

-- what was taken is free before it was
pub before-taken : (old new : FreeSet) (index : ℕ) → is_free old index ≡ true → ((k : ℕ) → is_free new k ≡ (is_free old k && not (index == k))) → new.taken ≡ old.taken ++ index ∷ []
    → (k : ℕ) → is_free_before new k ≡ is_free_before old k
before-taken old new index free left taken k =
    ap (λ xs. is_used xs k || is_free new k) taken
    ∙ ap (λ b. is_used (old.taken ++ index ∷ []) k || b) (left k)
    ∙ ap (λ b. b || (is_free old k && not (index == k))) (used-append k old.taken (index ∷ []))
    ∙ before_bool (is_used old.taken k) (is_free old k) (index == k) (λ at. ap (is_free old) (sym (eqb-true index k at)) ∙ free)
