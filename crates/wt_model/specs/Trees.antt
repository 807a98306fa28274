-- The tree of each registered group.
use Rattle.std.specs.Prelude.{ℕ, ◌==◌, List, [], ◌∷◌, if◌then◌else◌}
use Rattle.wt_tree.specs.Tree.{Tree, group, none, close}
use Rattle.wt_model.specs.Registered.{RegisteredGroup}

-- the known trees, with this one at n
abbrev pub with_tree : ℕ → Tree → (ℕ → Tree) → ℕ → Tree
with_tree n tree known k = if k == n then tree else known k

abbrev pub trees_from : (ℕ → Tree) → List RegisteredGroup → ℕ → Tree
trees_from known [] = known
trees_from known (made ∷ rest) = trees_from (with_tree made.number (close known made.description) known) rest

-- The tree of each registration number: its description, closed by the trees of older ones.
abbrev pub trees : List RegisteredGroup → ℕ → Tree
trees made = trees_from (λ _. group [] none) made
