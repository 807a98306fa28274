-- A plain list of sub types, each a recursion group of its own. Its type indices are engine indices, which are places
-- in the list: an entry names itself and earlier ones.
use Rattle.std.specs.Prelude.{◌≡◌, ℕ, ◌+◌, ◌-◌, ◌<◌, nat_lt, if◌then◌else◌, List, [], ◌∷◌, ◌++◌, length, slice_get, Option, Some, true, unwrap_or}
use Rattle.wt_env.specs.Among.{Among}
use Rattle.wt_env.specs.declared.types.VMSharedTypeIndex.{VMSharedTypeIndex}
use Rattle.wt_env.specs.declared.types.EngineOrModuleTypeIndex.{EngineOrModuleTypeIndex}
use Rattle.wt_env.specs.declared.types.EngineOrModuleTypeIndex.TheVariants as index
use Rattle.wt_env.specs.declared.types.WasmSubType.{WasmSubType}
use Rattle.wt_tree.specs.References.{group_refs, number_group}
use Rattle.wt_tree.specs.MapRefs.{map_sub_refs}
use Rattle.wt_tree.specs.Kinds.{type_indices}
use Rattle.wt_tree.specs.Tree.{Outer, ClosedTree, group, none, outer, no_tree}
use Rattle.wt_tree.specs.Subtyping.{supertype_of}
use Rattle.wt_tree.specs.Fit.{tree_fits}

-- in the entry behind so many others, its index of itself as a place
abbrev pub own_entry : ℕ → EngineOrModuleTypeIndex → EngineOrModuleTypeIndex
own_entry before (index.Engine i) = if nat_lt i.0 before then index.Engine i else index.RecGroup (i.0 - before)
own_entry before (index.Module n) = index.Module n
own_entry before (index.RecGroup k) = index.RecGroup k

-- the closed tree of an earlier entry
abbrev pub entry_tree : List ClosedTree → EngineOrModuleTypeIndex → ClosedTree
entry_tree known (index.Engine i) = unwrap_or (slice_get known i.0) no_tree
entry_tree known (index.Module n) = no_tree
entry_tree known (index.RecGroup k) = no_tree

-- what leaves an entry, by the closed trees of earlier ones
abbrev pub outer_of : List ClosedTree → List EngineOrModuleTypeIndex → Outer
outer_of known [] = none
outer_of known (i ∷ rest) = outer (entry_tree known i).tree (entry_tree known i).place (outer_of known rest)

-- the entry's own group, of one type
abbrev pub entry_group : ℕ → WasmSubType → List WasmSubType
entry_group before ty = map_sub_refs (own_entry before) ty ∷ []

abbrev pub closed_entry : List ClosedTree → WasmSubType → ClosedTree
closed_entry known ty = record {
  tree = group (number_group (entry_group (length known) ty)) (outer_of known (group_refs (entry_group (length known) ty)));
  place = 0;
}

-- the closed trees of entries behind those that are known
abbrev pub plain_trees : List ClosedTree → List WasmSubType → List ClosedTree
plain_trees known [] = known
plain_trees known (ty ∷ rest) = plain_trees (known ++ closed_entry known ty ∷ []) rest

-- the closed tree of the entry with this index
abbrev pub plain_types : List WasmSubType → VMSharedTypeIndex → Option ClosedTree
plain_types types i = slice_get (plain_trees [] types) i.0

-- an engine index of an entry before this place
abbrev pub IsBefore : ℕ → EngineOrModuleTypeIndex → Type 0
IsBefore place (index.Engine i) = i.0 < place
IsBefore place (index.Module n) = ⊥
IsBefore place (index.RecGroup k) = ⊥

-- Each entry names itself and earlier entries alone, and declares an earlier one as its supertype, whose shape its own
-- fits; different entries have different closed trees.
pub record ArePlain (types : List WasmSubType) : Type 0 where
  pub names : (place : ℕ) (ty : WasmSubType) (i : EngineOrModuleTypeIndex) → slice_get types place ≡ Some ty → Among i (type_indices ty) → IsBefore (place + 1) i
  pub supertypes : (place : ℕ) (ty : WasmSubType) (i : EngineOrModuleTypeIndex) → slice_get types place ≡ Some ty → ty.supertype ≡ Some i → IsBefore place i
  pub apart : (j k : ℕ) (t : ClosedTree) → slice_get (plain_trees [] types) j ≡ Some t → slice_get (plain_trees [] types) k ≡ Some t → j ≡ k
  pub fit : (j : ℕ) (t s : ClosedTree) → slice_get (plain_trees [] types) j ≡ Some t → supertype_of t ≡ Some s → tree_fits t s ≡ true
