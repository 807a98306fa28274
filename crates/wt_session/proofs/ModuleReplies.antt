-- A module has as many types as indices are told of it.
use Rattle.std.proofs.Common.{◌≡◌, ◌+◌, List, [], ◌∷◌, ◌++◌, length, map, Option, Some, sym, ap, ◌∙◌, arith}
use Rattle.std.proofs.lemmas.List.{length-append, length-map}
use Rattle.wt_env.specs.declared.types.VMSharedTypeIndex.{VMSharedTypeIndex}
use Rattle.wt_env.specs.declared.types.WasmRecGroup.{WasmRecGroup}
use Rattle.wt_tree.specs.Tree.{ClosedTree}
use Rattle.wt_tree.specs.ModuleTree.{members_from, group_tree, module_trees}
use Rattle.wt_tree.proofs.ModuleTrees.{length-members_from}
use Rattle.wt_registry.specs.Registered.{RegisteredGroup}
use Rattle.wt_registry.specs.Indices.{closed_tree}
use Rattle.wt_registry.specs.Rules.{total_members}

length-module_trees : (known : List ClosedTree) (groups : List WasmRecGroup) → length (module_trees known groups) ≡ length known + total_members groups
length-module_trees known [] = omega arith
length-module_trees known (g ∷ groups) =
    let members = members_from (group_tree known g.types) 0 (length g.types) in
    let later = length-module_trees (known ++ members) groups in
    let joined = length-append known members in
    let own = length-members_from (group_tree known g.types) 0 (length g.types) in
    omega (arith, later, joined, own)

pub as_many : (made : List RegisteredGroup) (indices : List VMSharedTypeIndex) (groups : List WasmRecGroup) → map (closed_tree made) indices ≡ map Some (module_trees [] groups) → length indices ≡ total_members groups
as_many made indices groups named =
    let long = sym (length-map indices (closed_tree made)) ∙ ap (λ (trees : List (Option ClosedTree)). length trees) named ∙ length-map (module_trees [] groups) Some in
    let types = length-module_trees [] groups in
    omega (arith, long, types)
