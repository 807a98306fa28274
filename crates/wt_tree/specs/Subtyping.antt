-- Declared supertypes, by closed trees: which closed tree a type declares as its supertype, and which it reaches by
-- such steps (WebAssembly 3.0, "Recursive Types" and "Matching", where a type matches what it declares).
use Rattle.std.specs.Prelude.{◌≡◌, ◌↔◌, ℕ, zero, suc, ◌+◌, ◌<◌, Bool, true, false, ◌&&◌, ◌||◌, ◌==◌, nat_lt, if◌then◌else◌, length, slice_get, Option, Some, None, option_map, option_and_then}
use Rattle.wt_env.specs.declared.types.VMSharedTypeIndex.{VMSharedTypeIndex}
use Rattle.wt_env.specs.declared.types.EngineOrModuleTypeIndex.{EngineOrModuleTypeIndex}
use Rattle.wt_env.specs.declared.types.EngineOrModuleTypeIndex.TheVariants as index
use Rattle.wt_env.specs.declared.types.WasmSubType.{WasmSubType}
use Rattle.wt_tree.specs.Tree.{Tree, Outer, ClosedTree, group, none, outer, no_tree, members_of, tree_eq}

-- the closed tree in a numbered slot
abbrev pub outer_at : Outer → ℕ → ClosedTree
outer_at none n = no_tree
outer_at (outer tree place rest) zero = record { tree = tree; place = place }
outer_at (outer tree place rest) (suc n) = outer_at rest n

-- the closed tree that a type index in the members of a tree names: a member of the same tree, or what the numbered
-- slot holds
abbrev pub tree_at : Tree → EngineOrModuleTypeIndex → ClosedTree
tree_at (group members leaving) (index.Engine i) = no_tree
tree_at (group members leaving) (index.Module n) = outer_at leaving n.0
tree_at (group members leaving) (index.RecGroup k) = if nat_lt k (length members) then record { tree = group members leaving; place = k } else no_tree

-- the sub type of a closed tree
abbrev pub member_at : ClosedTree → Option WasmSubType
member_at t = slice_get (members_of t.tree) t.place

-- the closed tree that a closed tree declares as its supertype
abbrev pub supertype_of : ClosedTree → Option ClosedTree
supertype_of t = option_and_then (λ ty. option_map (tree_at t.tree) ty.supertype) (member_at t)

-- zero or more declared steps lead from the first closed tree to the second
pub data Sub : ClosedTree → ClosedTree → Type 0 where
  same : (t : ClosedTree) → Sub t t
  step : (s t u : ClosedTree) → supertype_of s ≡ Some t → Sub t u → Sub s u

-- ---- the same as a test

abbrev pub closed_tree_eq : ClosedTree → ClosedTree → Bool
closed_tree_eq a b = tree_eq a.tree b.tree && (a.place == b.place)

-- how many members a tree and all trees in it have
abbrev mutual
  pub size : Tree → ℕ
  size (group members leaving) = length members + outer_size leaving

  pub outer_size : Outer → ℕ
  outer_size none = 0
  outer_size (outer tree place rest) = size tree + outer_size rest

abbrev pub leaving_of : Tree → Outer
leaving_of (group members leaving) = leaving

-- Where a supertype stands before the types of its group that declare it, each step falls in rank: it leads to an
-- earlier place, or into a tree of a slot.
abbrev pub rank : ClosedTree → ℕ
rank t = if nat_lt t.place (length (members_of t.tree)) then suc (t.place + outer_size (leaving_of t.tree)) else 0

-- a declared supertype of a smaller rank
abbrev pub if_lower : ℕ → ClosedTree → Option ClosedTree
if_lower bound t = if nat_lt (rank t) bound then Some t else None

abbrev pub lower_supertype : ClosedTree → Option ClosedTree
lower_supertype t = option_and_then (if_lower (rank t)) (supertype_of t)

abbrev pub is_some_where : (ClosedTree → Bool) → Option ClosedTree → Bool
is_some_where test (Some t) = test t
is_some_where test None = false

abbrev pub is_sub_within : ℕ → ClosedTree → ClosedTree → Bool
is_sub_within zero a b = closed_tree_eq a b
is_sub_within (suc n) a b = closed_tree_eq a b || is_some_where (λ t. is_sub_within n t b) (lower_supertype a)

-- whether zero or more declared steps, each to a smaller rank, lead from the first closed tree to the second
abbrev pub is_sub : ClosedTree → ClosedTree → Bool
is_sub a b = is_sub_within (rank a) a b

-- ---- indices of closed trees

-- Different indices have different closed trees, and the supertype of each is one of them and of a smaller rank.
pub record IsTypeMap (types : VMSharedTypeIndex → Option ClosedTree) : Type 0 where
  pub one_index : (i j : VMSharedTypeIndex) (t : ClosedTree) → types i ≡ Some t → types j ≡ Some t → i ≡ j
  pub lower : (i : VMSharedTypeIndex) (t s : ClosedTree) → types i ≡ Some t → supertype_of t ≡ Some s → rank s < rank t
  pub supertypes : (i : VMSharedTypeIndex) (t s : ClosedTree) → types i ≡ Some t → supertype_of t ≡ Some s → (j : VMSharedTypeIndex) × (types j ≡ Some s)

-- what is answered for two indices: whether declared steps lead from the closed tree of the first to that of the second
abbrev pub TellsSteps : (VMSharedTypeIndex → Option ClosedTree) → VMSharedTypeIndex → VMSharedTypeIndex → Bool → Type 0
TellsSteps types i j told = (s t : ClosedTree) → types i ≡ Some s → types j ≡ Some t → (told ≡ true) ↔ Sub s t

-- the engine index that a type index is
abbrev pub engine_index : EngineOrModuleTypeIndex → Option VMSharedTypeIndex
engine_index (index.Engine i) = Some i
engine_index (index.Module n) = None
engine_index (index.RecGroup k) = None
