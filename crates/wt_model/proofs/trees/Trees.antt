-- The tree of each registered group is its description, closed by the trees of all; a group that is added
-- leaves the trees that there were.
use Rattle.std.proofs.Common.{◌≡◌, ◌≢◌, ℕ, ◌<◌, ◌≤◌, ◌==◌, inl, inr, true, false, List, [], ◌∷◌, ◌++◌, refl, sym, ap, subst, ◌∙◌, arith}
use Rattle.std.proofs.lemmas.Bool.{cond-true, cond-false}
use Rattle.wt_tree.specs.Tree.{Tree, group, none, close}
use Rattle.wt_tree.proofs.Closing.{close-agree}
use Rattle.wt_model.specs.Registered.{RegisteredGroup}
use Rattle.wt_env.specs.Among.{Among}
use Rattle.wt_model.specs.Trees.{with_tree, trees_from, trees}
use Rattle.wt_model.specs.Sound.{IsRising}

-- each reference names a number below that of its group
abbrev pub NamesBelow : List RegisteredGroup → Type 0
NamesBelow made = (m : RegisteredGroup) (reference : ℕ × ℕ) → Among m made → Among reference m.description.outer → reference.0 < m.number

same_number : (n : ℕ) → (n == n) ≡ true
same_number n = grind arith

other_number : (k n : ℕ) → k ≢ n → (k == n) ≡ false
other_number k n differ = grind (arith, differ)

with_tree-same : (n : ℕ) (tree : Tree) (known : ℕ → Tree) → with_tree n tree known n ≡ tree
with_tree-same n tree known = cond-true (n == n) tree (known n) (same_number n)

with_tree-other : (n : ℕ) (tree : Tree) (known : ℕ → Tree) (k : ℕ) → k ≢ n → with_tree n tree known k ≡ known k
with_tree-other n tree known k differ = cond-false (k == n) tree (known k) (other_number k n differ)

trees_from-older : (low top n : ℕ) (made : List RegisteredGroup) (known : ℕ → Tree) → IsRising low made top → n ≤ low → trees_from known made n ≡ known n
trees_from-older low top n [] known rising h = refl
trees_from-older low top n (m ∷ ms) known rising h =
    let below : n < m.number = omega (arith, rising.0) in
    trees_from-older m.number top n ms (with_tree m.number (close known m.description) known) rising.1 (omega (arith, below))
    ∙ with_tree-other m.number (close known m.description) known n (omega (arith, below))

trees_from-closed : (low top : ℕ) (made : List RegisteredGroup) (known : ℕ → Tree) → IsRising low made top → NamesBelow made → (m : RegisteredGroup) → Among m made → trees_from known made m.number ≡ close (trees_from known made) m.description
trees_from-closed low top [] known rising below m at = absurd at
trees_from-closed low top (x ∷ xs) known rising below m (inl same) =
    let next = with_tree x.number (close known x.description) known in
    let all = trees_from next xs in
    let here : all x.number ≡ close known x.description =
    trees_from-older x.number top x.number xs next rising.1 (omega arith) ∙ with_tree-same x.number (close known x.description) known in
    let known_below : (n : ℕ) → n < x.number → known n ≡ all n = λ n less.
    sym (trees_from-older x.number top n xs next rising.1 (omega (arith, less)) ∙ with_tree-other x.number (close known x.description) known n (omega (arith, less))) in
    let agree = close-agree known all x.description (λ r at. known_below r.0 (below x r (inl refl) at)) in
    subst (λ (y : RegisteredGroup). all y.number ≡ close all y.description) (sym same) (here ∙ agree)
trees_from-closed low top (x ∷ xs) known rising below m (inr later) =
    trees_from-closed x.number top xs (with_tree x.number (close known x.description) known) rising.1 (λ y r at. below y r (inr at)) m later

-- the tree of a registered group is its description, closed by the trees of all
pub trees-registered : (top : ℕ) (made : List RegisteredGroup) → IsRising 0 made top → NamesBelow made → (m : RegisteredGroup) → Among m made → trees made m.number ≡ close (trees made) m.description
trees-registered top made rising below m at = trees_from-closed 0 top made (λ _. group [] none) rising below m at

trees_from-pushed : (known : ℕ → Tree) (made : List RegisteredGroup) (m : RegisteredGroup) → trees_from known (made ++ m ∷ []) ≡ with_tree m.number (close (trees_from known made) m.description) (trees_from known made)
trees_from-pushed known [] m = refl
trees_from-pushed known (x ∷ xs) m = trees_from-pushed (with_tree x.number (close known x.description) known) xs m

-- where a group is added, those with other numbers have the trees that they had
pub trees-pushed : (made : List RegisteredGroup) (m : RegisteredGroup) (n : ℕ) → n ≢ m.number → trees (made ++ m ∷ []) n ≡ trees made n
trees-pushed made m n differ =
    ap (λ (all : ℕ → Tree). all n) (trees_from-pushed (λ _. group [] none) made m)
    ∙ with_tree-other m.number (close (trees made) m.description) (trees made) n differ

-- and its own is its description, closed by those
pub trees-pushed_own : (made : List RegisteredGroup) (m : RegisteredGroup) → trees (made ++ m ∷ []) m.number ≡ close (trees made) m.description
trees-pushed_own made m =
    ap (λ (all : ℕ → Tree). all m.number) (trees_from-pushed (λ _. group [] none) made m)
    ∙ with_tree-same m.number (close (trees made) m.description) (trees made)
