-- What a recursion group is, without indices: its description by registration numbers, its tree,
-- and the closed tree of one of its types (WebAssembly 3.0, "Recursive Types", where a recursive
-- type is unrolled to a tree).
use Rattle.std.specs.Prelude.{ℕ, List, [], ◌∷◌, Bool, true, false, ◌&&◌, ◌==◌}
use Rattle.wt_env.specs.declared.types.WasmSubType.{WasmSubType}
use Rattle.wt_env.specs.Equality.{sub_types_eq}

-- A group by numbers. In the members, `RecGroup k` is place k of the same group, and `Module i` is
-- entry i of outer: a registration number and a place in that group.
pub record Description : Type 0 where
  pub members : List WasmSubType
  pub outer : List (ℕ × ℕ)

-- A group by trees. `Module i` in the members is entry i of the outer trees.
mutual
  pub data Tree : Type 0 where
    group : List WasmSubType → Outer → Tree

  pub data Outer : Type 0 where
    none : Outer
    outer : Tree → ℕ → Outer → Outer

-- one type of a group
pub record ClosedTree : Type 0 where
  pub tree : Tree
  pub place : ℕ

-- what stands for a type that isn't there
abbrev pub no_tree : ClosedTree
no_tree = record { tree = group [] none; place = 0 }

-- the members of a tree
abbrev pub members_of : Tree → List WasmSubType
members_of (group members leaving) = members

-- each reference that leaves the group, as the closed tree that it names
abbrev pub close_outer : (ℕ → Tree) → List (ℕ × ℕ) → Outer
close_outer trees [] = none
close_outer trees (reference ∷ references) = outer (trees reference.0) reference.1 (close_outer trees references)

-- a description as a tree, by the trees of the numbers that it names
abbrev pub close : (ℕ → Tree) → Description → Tree
close trees description = group description.members (close_outer trees description.outer)

-- whether two trees are equal
abbrev mutual
  pub tree_eq : Tree → Tree → Bool
  tree_eq (group members leaving) (group members' leaving') = sub_types_eq members members' && outer_eq leaving leaving'

  pub outer_eq : Outer → Outer → Bool
  outer_eq none none = true
  outer_eq none (outer tree place rest) = false
  outer_eq (outer tree place rest) none = false
  outer_eq (outer tree place rest) (outer tree' place' rest') = tree_eq tree tree' && (place == place') && outer_eq rest rest'
