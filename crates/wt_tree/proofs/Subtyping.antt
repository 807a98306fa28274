-- Declared steps, as a test and as a relation: the test is true exactly where steps lead that fall in rank, which all
-- steps do between types that have indices.
use Rattle.std.proofs.Common.{◌≡◌, ◌↔◌, ℕ, zero, suc, ◌<◌, ◌≤◌, ◌⊎◌, inl, inr, Bool, true, false, ◌&&◌, ◌||◌, ◌==◌, nat_lt, if◌then◌else◌, Option, Some, None, refl, sym, ap, subst, ◌∙◌, arith}
use Rattle.std.proofs.lemmas.Bool.{false≢true}
use Rattle.std.specs.Prelude.{option_and_then}
use Rattle.std.specs.Cmp.{first_so, second_so, unsigned_Decides}
use Rattle.wt_env.specs.declared.types.VMSharedTypeIndex.{VMSharedTypeIndex}
use Rattle.wt_env.proofs.lists.Members.{some_same, same_test}
use Rattle.wt_tree.specs.Tree.{ClosedTree, tree_eq}
use Rattle.wt_tree.specs.Subtyping.{supertype_of, Sub, same, step, closed_tree_eq, rank, if_lower, lower_supertype, is_some_where, is_sub_within, is_sub, IsTypeMap}
use Rattle.wt_tree.proofs.TreeEquality.{both, tree_eq-exact, tree_eq-refl}

-- ---- equal closed trees

pub closed_tree_eq-exact : (a b : ClosedTree) → closed_tree_eq a b ≡ true → a ≡ b
closed_tree_eq-exact a b h =
    let tree = tree_eq-exact a.tree b.tree (first_so (tree_eq a.tree b.tree) (a.place == b.place) h) in
    let place = (unsigned_Decides a.place b.place).0 (second_so (tree_eq a.tree b.tree) (a.place == b.place) h) in
    λ i. record { tree = tree i; place = place i }

pub closed_tree_eq-refl : (a : ClosedTree) → closed_tree_eq a a ≡ true
closed_tree_eq-refl a = both (tree_eq-refl a.tree) ((unsigned_Decides a.place a.place).1 refl)

-- one of two tests is true
pub either_so : (s t : Bool) → (s || t) ≡ true → (s ≡ true) ⊎ (t ≡ true)
either_so true t h = inl refl
either_so false t h = inr h

pub or_first : (s t : Bool) → s ≡ true → (s || t) ≡ true
or_first s t h = ap (λ (b : Bool). b || t) h

pub or_second : (s t : Bool) → t ≡ true → (s || t) ≡ true
or_second true t h = refl
or_second false t h = h

-- ---- steps that fall in rank

-- zero or more declared steps, each to a smaller rank
pub data Lower : ClosedTree → ClosedTree → Type 0 where
  end : (t : ClosedTree) → Lower t t
  fall : (s t u : ClosedTree) → lower_supertype s ≡ Some t → Lower t u → Lower s u

-- a lower supertype is the declared one
lower-declared : (s t : ClosedTree) → lower_supertype s ≡ Some t → (supertype_of s ≡ Some t) × (rank t < rank s)
lower-declared s t is = by (supertype_of s) refl is
  where
    bound : (u : ClosedTree) (b : Bool) → nat_lt (rank u) (rank s) ≡ b → (if b then Some u else None) ≡ Some t → (u ≡ t) × (rank u < rank s)
    bound u true e found = let below : rank u < rank s = grind (arith, e) in (some_same found, below)
    bound u false e found = absurd (cc)

    by : (found : Option ClosedTree) → supertype_of s ≡ found → option_and_then (if_lower (rank s)) found ≡ Some t → (supertype_of s ≡ Some t) × (rank t < rank s)
    by None e found = absurd (cc)
    by (Some u) e found =
        let lower = bound u (nat_lt (rank u) (rank s)) refl found in
        (e ∙ ap Some lower.0, subst (λ (v : ClosedTree). rank v < rank s) lower.0 lower.1)

-- and the declared one of a smaller rank is lower
declared-lower : (s t : ClosedTree) → supertype_of s ≡ Some t → rank t < rank s → lower_supertype s ≡ Some t
declared-lower s t is below =
    let test : nat_lt (rank t) (rank s) ≡ true = grind (arith, below) in
    ap (option_and_then (if_lower (rank s))) is ∙ ap (λ (b : Bool). if b then Some t else None) test

pub lower-steps : {a b : ClosedTree} → Lower a b → Sub a b
lower-steps (end t) = same t
lower-steps (fall s t u is rest) = step s t u ((lower-declared s t is).0) (lower-steps rest)

lower-trans : {a b c : ClosedTree} → Lower a b → Lower b c → Lower a c
lower-trans (end t) more = more
lower-trans {c = c} (fall s t u is rest) more = fall s t c is (lower-trans rest more)

-- steps that fall lead to the same closed tree or to one of a smaller rank
lower-falls : {a b : ClosedTree} → Lower a b → (a ≡ b) ⊎ (rank b < rank a)
lower-falls (end t) = inl refl
lower-falls (fall s t u is rest) = by (lower-falls rest)
  where
    below : rank t < rank s
    below = (lower-declared s t is).1

    by : (t ≡ u) ⊎ (rank u < rank t) → (s ≡ u) ⊎ (rank u < rank s)
    by (inl e) = inr (subst (λ (v : ClosedTree). rank v < rank s) e below)
    by (inr lower) = let further : rank u < rank s = omega (arith, lower, below) in inr further

lower-antisym : {a b : ClosedTree} → Lower a b → Lower b a → a ≡ b
lower-antisym {a} {b} there back = by (lower-falls there) (lower-falls back)
  where
    by : (a ≡ b) ⊎ (rank b < rank a) → (b ≡ a) ⊎ (rank a < rank b) → a ≡ b
    by (inl e) other = e
    by (inr lower) (inl e) = sym e
    by (inr lower) (inr higher) = absurd (omega (arith, lower, higher))

-- ---- the test

within-lower : (n : ℕ) (a b : ClosedTree) → is_sub_within n a b ≡ true → Lower a b
within-lower zero a b h = subst (Lower a) (closed_tree_eq-exact a b h) (end a)
within-lower (suc n) a b h = by (λ t. within-lower n t b) (either_so (closed_tree_eq a b) (is_some_where (λ t. is_sub_within n t b) (lower_supertype a)) h)
  where
    further : ((t : ClosedTree) → is_sub_within n t b ≡ true → Lower t b)
        → (found : Option ClosedTree) → lower_supertype a ≡ found → is_some_where (λ t. is_sub_within n t b) found ≡ true → Lower a b
    further later None e found = absurd (false≢true found)
    further later (Some t) e found = fall a t b e (later t found)

    by : ((t : ClosedTree) → is_sub_within n t b ≡ true → Lower t b)
        → (closed_tree_eq a b ≡ true) ⊎ (is_some_where (λ t. is_sub_within n t b) (lower_supertype a) ≡ true) → Lower a b
    by later (inl equal) = subst (Lower a) (closed_tree_eq-exact a b equal) (end a)
    by later (inr on) = further later (lower_supertype a) refl on

within-refl : (n : ℕ) (a : ClosedTree) → is_sub_within n a a ≡ true
within-refl zero a = closed_tree_eq-refl a
within-refl (suc n) a = or_first (closed_tree_eq a a) (is_some_where (λ t. is_sub_within n t a) (lower_supertype a)) (closed_tree_eq-refl a)

lower-within : (n : ℕ) {a b : ClosedTree} → Lower a b → rank a ≤ n → is_sub_within n a b ≡ true
lower-within n (end t) few = within-refl n t
lower-within zero (fall s t u is rest) few =
    let below : rank t < rank s = (lower-declared s t is).1 in
    absurd (omega (arith, below, few))
lower-within (suc n) (fall s t u is rest) few =
    let below : rank t < rank s = (lower-declared s t is).1 in
    let left : rank t ≤ n = omega (arith, below, few) in
    or_second (closed_tree_eq s u) (is_some_where (λ v. is_sub_within n v u) (lower_supertype s))
    (ap (is_some_where (λ v. is_sub_within n v u)) is ∙ lower-within n rest left)

sub-lower : (a b : ClosedTree) → is_sub a b ≡ true → Lower a b
sub-lower a b h = within-lower (rank a) a b h

lower-sub : (a b : ClosedTree) → Lower a b → is_sub a b ≡ true
lower-sub a b lower = let all : rank a ≤ rank a = omega (arith) in lower-within (rank a) lower all

-- the test is reflexive, transitive and antisymmetric
pub is_sub-refl : (a : ClosedTree) → is_sub a a ≡ true
is_sub-refl a = within-refl (rank a) a

pub is_sub-trans : (a b c : ClosedTree) → is_sub a b ≡ true → is_sub b c ≡ true → is_sub a c ≡ true
is_sub-trans a b c there on = lower-sub a c (lower-trans (sub-lower a b there) (sub-lower b c on))

pub is_sub-antisym : (a b : ClosedTree) → is_sub a b ≡ true → is_sub b a ≡ true → a ≡ b
is_sub-antisym a b there back = lower-antisym (sub-lower a b there) (sub-lower b a back)

-- what it answers is true
pub is_sub-sound : (a b : ClosedTree) → is_sub a b ≡ true → Sub a b
is_sub-sound a b h = lower-steps (sub-lower a b h)

-- two closed trees are equal exactly where each is the other's by declared steps
pub same_both_ways : (a b : ClosedTree) → (is_sub a b && is_sub b a) ≡ closed_tree_eq a b
same_both_ways a b = same_test (is_sub a b && is_sub b a) (closed_tree_eq a b) there back
  where
    there : (is_sub a b && is_sub b a) ≡ true → closed_tree_eq a b ≡ true
    there h =
        let equal = is_sub-antisym a b (first_so (is_sub a b) (is_sub b a) h) (second_so (is_sub a b) (is_sub b a) h) in
        subst (λ (c : ClosedTree). closed_tree_eq a c ≡ true) equal (closed_tree_eq-refl a)

    back : closed_tree_eq a b ≡ true → (is_sub a b && is_sub b a) ≡ true
    back h = subst (λ (c : ClosedTree). (is_sub a c && is_sub c a) ≡ true) (closed_tree_eq-exact a b h) (both (is_sub-refl a) (is_sub-refl a))

-- ---- types with indices

module _ (types : VMSharedTypeIndex → Option ClosedTree) (map : IsTypeMap types) where
  -- each step from a type with an index falls
  indexed-lower : {a b : ClosedTree} → Sub a b → (i : VMSharedTypeIndex) → types i ≡ Some a → Lower a b
  indexed-lower (same t) i is = end t
  indexed-lower (step s t u declared rest) i is =
      let more = map.supertypes i s t is declared in
      fall s t u (declared-lower s t declared (map.lower i s t is declared)) (indexed-lower rest more.0 more.1)

  -- between types with indices, the test is true exactly where declared steps lead
  pub is_sub-exact : (i : VMSharedTypeIndex) (a b : ClosedTree) → types i ≡ Some a → (is_sub a b ≡ true) ↔ Sub a b
  is_sub-exact i a b is = (is_sub-sound a b, λ steps. lower-sub a b (indexed-lower steps i is))
