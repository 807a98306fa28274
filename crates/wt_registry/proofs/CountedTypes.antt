-- How many types a module has: as many as closed trees, and as its map has indices.
use Rattle.std.proofs.Common.{◌≡◌, ℕ, zero, suc, ◌+◌, List, [], ◌∷◌, ◌++◌, length, map, Option, Some, sym, refl, ap, ◌∙◌, arith}
use Rattle.std.proofs.lemmas.List.{length-append, length-map}
use Rattle.wt_env.specs.declared.types.WasmRecGroup.{WasmRecGroup}
use Rattle.wt_tree.specs.Tree.{Tree, ClosedTree}
use Rattle.wt_tree.specs.ModuleTree.{group_tree, members_from, module_trees}
use Rattle.wt_rules.specs.Rules.{total_members}

length-members_from : (tree : Tree) (place more : ℕ) → length (members_from tree place more) ≡ more
length-members_from tree place zero = refl
length-members_from tree place (suc more) = ap suc (length-members_from tree (place + 1) more)

length-module_trees : (known : List ClosedTree) (groups : List WasmRecGroup) → length (module_trees known groups) ≡ length known + total_members groups
length-module_trees known [] = omega arith
length-module_trees known (g ∷ groups) =
    let members = members_from (group_tree known g.types) 0 (length g.types) in
    let rest = length-module_trees (known ++ members) groups in
    let both = length-append known members in
    let own = length-members_from (group_tree known g.types) 0 (length g.types) in
    omega (arith, rest, both, own)

-- what has a closed tree for each type of a module has as many as the module has types
pub length-typed : {A : Type 0} (tree_at : A → Option ClosedTree) (indices : List A) (groups : List WasmRecGroup) → map tree_at indices ≡ map Some (module_trees [] groups)
    → length indices ≡ total_members groups
length-typed tree_at indices groups same =
    let all = sym (length-map indices tree_at) ∙ ap length same ∙ length-map (module_trees [] groups) Some ∙ length-module_trees [] groups in
    omega (arith, all)
