-- The closed trees of a module's types: a reference within a group is a place, and one to an earlier type is the
-- closed tree of that type (WebAssembly 3.0, "Recursive Types").
use Rattle.std.specs.Prelude.{ℕ, ◌+◌, zero, suc, List, [], ◌∷◌, ◌++◌, length, slice_get, unwrap_or}
use Rattle.wt_env.specs.declared.types.EngineOrModuleTypeIndex.{EngineOrModuleTypeIndex}
use Rattle.wt_env.specs.declared.types.EngineOrModuleTypeIndex.TheVariants as index
use Rattle.wt_env.specs.declared.types.WasmSubType.{WasmSubType}
use Rattle.wt_env.specs.declared.types.WasmRecGroup.{WasmRecGroup}
use Rattle.wt_tree.specs.Canonical.{own_index}
use Rattle.wt_tree.specs.MapRefs.{map_group_refs}
use Rattle.wt_tree.specs.References.{group_refs, number_group}
use Rattle.wt_tree.specs.Tree.{Tree, Outer, ClosedTree, group, none, outer, no_tree}

-- the closed tree that a reference to an earlier type names
abbrev pub known_tree : List ClosedTree → EngineOrModuleTypeIndex → ClosedTree
known_tree known (index.Engine i) = no_tree
known_tree known (index.Module i) = unwrap_or (slice_get known i.0) no_tree
known_tree known (index.RecGroup k) = no_tree

abbrev pub known_outer : List ClosedTree → List EngineOrModuleTypeIndex → Outer
known_outer known [] = none
known_outer known (i ∷ rest) = outer (known_tree known i).tree (known_tree known i).place (known_outer known rest)

-- the tree of a group whose types come behind those that are known
abbrev pub group_tree : List ClosedTree → List WasmSubType → Tree
group_tree known types =
    let own = map_group_refs (own_index (length known)) types in
    group (number_group own) (known_outer known (group_refs own))

-- the so many types of a group from a place on
abbrev pub members_from : Tree → ℕ → ℕ → List ClosedTree
members_from tree place zero = []
members_from tree place (suc more) = record { tree = tree; place = place } ∷ members_from tree (place + 1) more

-- the closed trees of the types that are known, and of the groups' types
abbrev pub module_trees : List ClosedTree → List WasmRecGroup → List ClosedTree
module_trees known [] = known
module_trees known (g ∷ groups) = module_trees (known ++ members_from (group_tree known g.types) 0 (length g.types)) groups
