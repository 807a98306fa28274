-- A group whose references that leave it are engine indices: its description and its tree.
use Rattle.std.specs.Prelude.{ℕ, List, map, Option, unwrap_or}
use Rattle.std.specs.List.{find}
use Rattle.wt_env.specs.declared.types.EngineOrModuleTypeIndex.{EngineOrModuleTypeIndex}
use Rattle.wt_env.specs.declared.types.EngineOrModuleTypeIndex.TheVariants as index
use Rattle.wt_env.specs.declared.types.WasmSubType.{WasmSubType}
use Rattle.wt_tree.specs.References.{number_group, group_refs}
use Rattle.wt_tree.specs.Tree.{Description, Tree, close, tree_eq}
use Rattle.wt_model.specs.Registered.{RegisteredGroup}
use Rattle.wt_model.specs.Trees.{trees}
use Rattle.wt_model.specs.Indices.{locate}

abbrev pub located : List RegisteredGroup → EngineOrModuleTypeIndex → ℕ × ℕ
located made (index.Engine i) = unwrap_or (locate made i) (0, 0)
located made (index.Module i) = (0, 0)
located made (index.RecGroup k) = (0, 0)

-- a group whose references that leave it are engine indices, by registration numbers
abbrev pub describe : List RegisteredGroup → List WasmSubType → Description
describe made members = record { members = number_group members; outer = map (located made) (group_refs members) }

-- the tree of such a group
abbrev pub tree_of : List RegisteredGroup → List WasmSubType → Tree
tree_of made members = close (trees made) (describe made members)

-- the registered group that has this tree
abbrev pub find_tree : List RegisteredGroup → Tree → Option RegisteredGroup
find_tree made tree = find (λ m. tree_eq (trees made m.number) tree) made
