-- Indices whose closed trees are the same are the same, also where more was registered in between.
use Rattle.std.proofs.Common.{◌≡◌, ℕ, zero, suc, ◌+◌, ◌<◌, inl, inr, List, [], ◌∷◌, ◌++◌, length, map, Option, Some, IsSome, option_map, refl, sym, ap, subst, ◌∙◌, arith, append-nil}
use Rattle.std.proofs.lemmas.List.{append_assoc, length-append}
use Rattle.wt_env.proofs.lists.Members.{first_same, rest_same, among_behind}
use Rattle.wt_env.specs.declared.types.VMSharedTypeIndex.{VMSharedTypeIndex}
use Rattle.wt_env.specs.declared.types.WasmRecGroup.{WasmRecGroup}
use Rattle.wt_env.specs.Among.{Among}
use Rattle.wt_tree.specs.Tree.{Tree, ClosedTree}
use Rattle.wt_tree.specs.ModuleTree.{module_trees, members_from, group_tree}
use Rattle.wt_model.proofs.holds.Leads.{above_low}
use Rattle.wt_model.proofs.indices.Places.{locate-at, locate-before}
use Rattle.wt_model.proofs.trees.KnownTrees.{closed_tree-located, trees-length}
use Rattle.wt_model.proofs.trees.OneTree.{one_type}
use Rattle.wt_model.proofs.trees.Trees.{trees-pushed}
use Rattle.wt_registry.specs.Registered.{RegisteredGroup, Registry}
use Rattle.wt_registry.specs.Trees.{trees}
use Rattle.wt_registry.specs.Indices.{locate, closed_tree}
use Rattle.wt_registry.specs.Sound.{IsRising, OneIndexPerTree, IsSound}
use Rattle.wt_registry.specs.Changes.{HoldChanges}
use Rattle.wt_registry.specs.Rules.{total_members}

-- ---- what is registered later leaves closed trees as they are

above : (low top : ℕ) (made more : List RegisteredGroup) (a m : RegisteredGroup) → IsRising low (made ++ more) top → Among a made → Among m more → a.number < m.number
above low top [] more a m rising at later = absurd at
above low top (x ∷ made) more a m rising (inl same) later =
    subst (λ (y : RegisteredGroup). y.number < m.number) (sym same) (above_low x.number top (made ++ more) m rising.1 (among_behind made more m later))
above low top (x ∷ made) more a m rising (inr at) later = above x.number top made more a m rising.1 at later

trees-later : (made more : List RegisteredGroup) (n : ℕ) → ((m : RegisteredGroup) → Among m more → n < m.number) → trees (made ++ more) n ≡ trees made n
trees-later made [] n below = ap (λ (all : List RegisteredGroup). trees all n) (append-nil made)
trees-later made (m ∷ more) n below =
    let first = below m (inl refl) in
    ap (λ (all : List RegisteredGroup). trees all n) (sym (append_assoc made (m ∷ []) more))
    ∙ trees-later (made ++ m ∷ []) more n (λ k at. below k (inr at))
    ∙ trees-pushed made m n (λ same. absurd (omega (arith, first, same)))

tree_at : (ℕ → Tree) → ℕ × ℕ → ClosedTree
tree_at all at = record { tree = all at.0; place = at.1 }

closed_tree-later : (made more : List RegisteredGroup) (top : ℕ) (i : VMSharedTypeIndex) (closed : ClosedTree) → IsRising 0 (made ++ more) top
    → closed_tree made i ≡ Some closed → closed_tree (made ++ more) i ≡ Some closed
closed_tree-later made more top i closed rising is =
    let found = closed_tree-located made i closed is in
    let at = found.0 in
    let there = locate-at made i at found.1 in
    let below : (m : RegisteredGroup) → Among m more → at.0 < m.number = λ m later.
    subst (λ (n : ℕ). n < m.number) there.number (above 0 top made more there.group m rising there.among later) in
    ap (option_map (λ at. record { tree = trees (made ++ more) at.0; place = at.1 })) (locate-before made more i at found.1)
    ∙ ap (λ (tree : Tree). Some (record { tree = tree; place = at.1 })) (trees-later made more at.0 below)
    ∙ ap Some (sym found.2)

closed_trees-later : (made more : List RegisteredGroup) (top : ℕ) (indices : List VMSharedTypeIndex) (known : List ClosedTree) → IsRising 0 (made ++ more) top
    → map (closed_tree made) indices ≡ map Some known → map (closed_tree (made ++ more)) indices ≡ map Some known
closed_trees-later made more top [] [] rising is = refl
closed_trees-later made more top [] (closed ∷ known) rising is = absurd (cc)
closed_trees-later made more top (i ∷ indices) [] rising is = absurd (cc)
closed_trees-later made more top (i ∷ indices) (closed ∷ known) rising is =
    let first = closed_tree-later made more top i closed rising (first_same is) in
    let rest = closed_trees-later made more top indices known rising (rest_same is) in
    λ t. first t ∷ rest t

-- ---- one index for each closed tree

located : (made : List RegisteredGroup) (i : VMSharedTypeIndex) (closed : ClosedTree) → closed_tree made i ≡ Some closed → IsSome (locate made i)
located made i closed is = let found = closed_tree-located made i closed is in subst (λ (at : Option (ℕ × ℕ)). IsSome at) (sym found.1) refl

one_index : (made : List RegisteredGroup) (left right : List VMSharedTypeIndex) (known : List ClosedTree) → OneIndexPerTree made
    → map (closed_tree made) left ≡ map Some known → map (closed_tree made) right ≡ map Some known → left ≡ right
one_index made [] [] [] one first second = refl
one_index made [] [] (closed ∷ known) one first second = absurd (cc)
one_index made [] (l ∷ right) [] one first second = absurd (cc)
one_index made [] (l ∷ right) (closed ∷ known) one first second = absurd (cc)
one_index made (i ∷ left) [] [] one first second = absurd (cc)
one_index made (i ∷ left) [] (closed ∷ known) one first second = absurd (cc)
one_index made (i ∷ left) (l ∷ right) [] one first second = absurd (cc)
one_index made (i ∷ left) (l ∷ right) (closed ∷ known) one first second =
    let a = first_same first in
    let b = first_same second in
    let here = one_type made i l one (located made i closed a) (located made l closed b) (a ∙ sym b) in
    let rest = one_index made left right known one (rest_same first) (rest_same second) in
    λ t. here t ∷ rest t

-- Closed trees that were registered, and are registered again for other holds, have the same indices.
pub same_indices : (old new : Registry) (party : ℕ) (numbers : List ℕ) (left right : List VMSharedTypeIndex) (known : List ClosedTree) → HoldChanges old new party numbers → IsSound new
    → map (closed_tree old.made) left ≡ map Some known → map (closed_tree new.made) right ≡ map Some known → left ≡ right
same_indices old new party numbers left right known changes sound first second =
    let added = changes.made.0 in
    let same = changes.made.1 in
    let rising = subst (λ (made : List RegisteredGroup). IsRising 0 made new.given.numbers) same sound.rising in
    let later = closed_trees-later old.made added new.given.numbers left known rising first in
    let still = subst (λ (made : List RegisteredGroup). map (closed_tree made) left ≡ map Some known) (sym same) later in
    one_index new.made left right known sound.one_index still second

-- ---- a module has as many closed trees as types

length-members_from : (tree : Tree) (place count : ℕ) → length (members_from tree place count) ≡ count
length-members_from tree place zero = refl
length-members_from tree place (suc more) = ap suc (length-members_from tree (place + 1) more)

length-module_trees : (known : List ClosedTree) (groups : List WasmRecGroup) → length (module_trees known groups) ≡ length known + total_members groups
length-module_trees known [] = omega arith
length-module_trees known (g ∷ groups) =
    let tree = group_tree known g.types in
    let rest = length-module_trees (known ++ members_from tree 0 (length g.types)) groups in
    let own = length-members_from tree 0 (length g.types) in
    let both = length-append known (members_from tree 0 (length g.types)) in
    omega (arith, rest, own, both)

pub as_many : (made : List RegisteredGroup) (indices : List VMSharedTypeIndex) (groups : List WasmRecGroup) → map (closed_tree made) indices ≡ map Some (module_trees [] groups) → length indices ≡ total_members groups
as_many made indices groups is =
    let known = trees-length made indices (module_trees [] groups) is in
    let count = length-module_trees [] groups in
    omega (arith, known, count)
