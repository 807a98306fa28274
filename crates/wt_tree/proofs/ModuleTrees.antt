-- The closed trees of a module's types, a group at a time.
use Rattle.std.proofs.Common.{◌≡◌, ℕ, zero, suc, ◌+◌, List, [], ◌∷◌, ◌++◌, length, refl, ap}
use Rattle.wt_env.specs.declared.types.WasmRecGroup.{WasmRecGroup}
use Rattle.wt_tree.specs.Tree.{Tree, ClosedTree}
use Rattle.wt_tree.specs.ModuleTree.{group_tree, members_from, module_trees}

-- one group more adds the closed trees of its types, which know those of all before
pub module_trees-more : (known : List ClosedTree) (groups : List WasmRecGroup) (g : WasmRecGroup)
    → module_trees known (groups ++ g ∷ []) ≡ module_trees known groups ++ members_from (group_tree (module_trees known groups) g.types) 0 (length g.types)
module_trees-more known [] g = refl
module_trees-more known (h ∷ groups) g = module_trees-more (known ++ members_from (group_tree known h.types) 0 (length h.types)) groups g

-- as many as the group has types
pub length-members_from : (tree : Tree) (place count : ℕ) → length (members_from tree place count) ≡ count
length-members_from tree place zero = refl
length-members_from tree place (suc more) = ap suc (length-members_from tree (place + 1) more)
