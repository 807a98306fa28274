-- Two registered indices are one exactly where their closed trees are equal.
use Rattle.std.proofs.Common.{◌≡◌, ℕ, ◌==◌, Bool, true, false, IsTrue, ◌&&◌, List, Option, Some, None, IsSome, option_map, refl, sym, ap, ◌∙◌, arith}
use Rattle.wt_env.specs.declared.types.VMSharedTypeIndex.{VMSharedTypeIndex}
use Rattle.wt_tree.specs.Tree.{ClosedTree}
use Rattle.wt_model.specs.Registered.{RegisteredGroup}
use Rattle.wt_model.specs.Holds.{Hold}
use Rattle.wt_model.specs.Trees.{trees}
use Rattle.wt_model.specs.Indices.{closed_tree, locate}
use Rattle.wt_model.specs.Sound.{OneIndexPerTree}
use Rattle.wt_model.proofs.indices.Places.{same_index, locate-at}

abbrev tree_at : List RegisteredGroup → ℕ × ℕ → ClosedTree
tree_at made at = record { tree = trees made at.0; place = at.1 }

one_tree : (made : List RegisteredGroup) (i l : VMSharedTypeIndex) (a b : ℕ × ℕ) → OneIndexPerTree made → locate made i ≡ Some a → locate made l ≡ Some b
    → closed_tree made i ≡ closed_tree made l → i ≡ l
one_tree made i l a b one left right same =
    let x = locate-at made i a left in
    let y = locate-at made l b right in
    let named : Some (tree_at made a) ≡ Some (tree_at made b) =
    ap (option_map (tree_at made)) (sym left) ∙ same ∙ ap (option_map (tree_at made)) right in
    let closed : tree_at made a ≡ tree_at made b = cc in
    let tree : trees made a.0 ≡ trees made b.0 = ap (λ (c : ClosedTree). c.tree) closed in
    let place : a.1 ≡ b.1 = ap (λ (c : ClosedTree). c.place) closed in
    (one x.group y.group a.1 b.1 i l x.among y.among x.place y.place).1
    (ap (trees made) x.number ∙ tree ∙ ap (trees made) (sym y.number), place)

pub one_type : (made : List RegisteredGroup) (i l : VMSharedTypeIndex) → OneIndexPerTree made → IsSome (locate made i) → IsSome (locate made l)
    → closed_tree made i ≡ closed_tree made l → i ≡ l
one_type made i l one left right same = by (locate made i) refl left (locate made l) refl right
  where
    by : (a : Option (ℕ × ℕ)) → locate made i ≡ a → IsSome a → (b : Option (ℕ × ℕ)) → locate made l ≡ b → IsSome b → i ≡ l
    by (Some a) x there (Some b) y there_too = one_tree made i l a b one x y same
    by (Some a) x there None y none = absurd (cc)
    by None x none b y there_too = absurd (cc)

-- ---- equality of holds

both_true : (a b : Bool) → (a && b) ≡ true → (a ≡ true) × (b ≡ true)
both_true true b told = (refl, told)
both_true false b told = absurd (cc)

pub index_equal : (left right : Hold) (answer : Bool) → answer ≡ ((left.engine == right.engine) && (left.index.0 == right.index.0)) → IsTrue answer → left.index ≡ right.index
index_equal left right answer is told =
    same_index right.index left.index (both_true (left.engine == right.engine) (left.index.0 == right.index.0) (sym is ∙ told)).1

same_number : (n m : ℕ) → n ≡ m → (n == m) ≡ true
same_number n m e = grind (arith, e)

pub holds_equal : (left right : Hold) (answer : Bool) → answer ≡ ((left.engine == right.engine) && (left.index.0 == right.index.0)) → left.engine ≡ right.engine → left.index ≡ right.index → IsTrue answer
holds_equal left right answer is engine index =
    let a = same_number left.engine right.engine engine in
    let b = same_number left.index.0 right.index.0 (ap (λ (i : VMSharedTypeIndex). i.0) index) in
    is ∙ (λ i. a i && b i)
