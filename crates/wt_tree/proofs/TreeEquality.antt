-- The test of trees answers `true` exactly at equal trees.
use Rattle.std.proofs.Common.{◌≡◌, ◌↔◌, ◌==◌, ◌&&◌, Bool, true, refl, subst}
use Rattle.std.proofs.lemmas.Bool.{false≢true}
use Rattle.std.specs.Cmp.{first_so, second_so, unsigned_Decides}
use Rattle.wt_env.specs.Equality.{sub_types_eq, sub_types_eq-exact, sub_types_eq-refl}
use Rattle.wt_tree.specs.Tree.{Tree, Outer, group, none, outer, tree_eq, outer_eq}

pub both : {s t : Bool} → s ≡ true → t ≡ true → (s && t) ≡ true
both p q = λ i. p i && q i

mutual
  pub tree_eq-exact : (a b : Tree) → tree_eq a b ≡ true → a ≡ b
  tree_eq-exact (group a x) (group b y) h =
      let members = sub_types_eq-exact a b (first_so (sub_types_eq a b) (outer_eq x y) h) in
      let leaving = outer_eq-exact x y (second_so (sub_types_eq a b) (outer_eq x y) h) in
      λ i. group (members i) (leaving i)

  pub outer_eq-exact : (a b : Outer) → outer_eq a b ≡ true → a ≡ b
  outer_eq-exact none none h = refl
  outer_eq-exact none (outer t k y) h = absurd (false≢true h)
  outer_eq-exact (outer s j x) none h = absurd (false≢true h)
  outer_eq-exact (outer s j x) (outer t k y) h =
      let two = first_so (tree_eq s t && (j == k)) (outer_eq x y) h in
      let tree = tree_eq-exact s t (first_so (tree_eq s t) (j == k) two) in
      let place = (unsigned_Decides j k).0 (second_so (tree_eq s t) (j == k) two) in
      let rest = outer_eq-exact x y (second_so (tree_eq s t && (j == k)) (outer_eq x y) h) in
      λ i. outer (tree i) (place i) (rest i)

mutual
  pub tree_eq-refl : (a : Tree) → tree_eq a a ≡ true
  tree_eq-refl (group a x) = both (sub_types_eq-refl a) (outer_eq-refl x)

  pub outer_eq-refl : (a : Outer) → outer_eq a a ≡ true
  outer_eq-refl none = refl
  outer_eq-refl (outer t k y) = both (both (tree_eq-refl t) ((unsigned_Decides k k).1 refl)) (outer_eq-refl y)

pub tree_eq-decides : (a b : Tree) → (tree_eq a b ≡ true) ↔ (a ≡ b)
tree_eq-decides a b = (tree_eq-exact a b, λ same. subst (λ t. tree_eq a t ≡ true) same (tree_eq-refl a))

pub outer_eq-decides : (a b : Outer) → (outer_eq a b ≡ true) ↔ (a ≡ b)
outer_eq-decides a b = (outer_eq-exact a b, λ same. subst (λ t. outer_eq a t ≡ true) same (outer_eq-refl a))
