-- Declared supertypes of a tree: what a slot holds, and that a step to an earlier place or into a slot falls in rank.
use Rattle.std.proofs.Common.{◌≡◌, ℕ, zero, suc, ◌+◌, ◌<◌, ◌≤◌, Bool, true, false, nat_lt, if◌then◌else◌, List, [], ◌∷◌, length, slice_get, Option, Some, None, option_map, refl, sym, ap, subst, arith}
use Rattle.std.specs.Prelude.{option_and_then}
use Rattle.wt_env.proofs.lists.Members.{some_same}
use Rattle.wt_env.specs.declared.types.ModuleInternedTypeIndex.{ModuleInternedTypeIndex}
use Rattle.wt_env.specs.declared.types.EngineOrModuleTypeIndex.{EngineOrModuleTypeIndex}
use Rattle.wt_env.specs.declared.types.EngineOrModuleTypeIndex.TheVariants as index
use Rattle.wt_env.specs.declared.types.WasmSubType.{WasmSubType}
use Rattle.wt_tree.specs.Tree.{Tree, Outer, ClosedTree, group, none, outer, no_tree, members_of, close_outer}
use Rattle.wt_tree.specs.Subtyping.{outer_at, tree_at, member_at, supertype_of, size, outer_size, leaving_of, rank}

-- a slot of a description's tree holds the closed tree that its entry tells
pub outer_at-closed : (trees : ℕ → Tree) (references : List (ℕ × ℕ)) (n : ℕ) (at : ℕ × ℕ) → slice_get references n ≡ Some at
    → outer_at (close_outer trees references) n ≡ record { tree = trees at.0; place = at.1 }
outer_at-closed trees [] n at is = absurd (cc)
outer_at-closed trees (r ∷ references) zero at is = ap (λ (x : ℕ × ℕ). record { tree = trees x.0; place = x.1 }) (some_same is)
outer_at-closed trees (r ∷ references) (suc n) at is = outer_at-closed trees references n at is

-- what a slot holds has no more members than all slots
outer_at-size : (leaving : Outer) (n : ℕ) → size (outer_at leaving n).tree ≤ outer_size leaving
outer_at-size none n = omega arith
outer_at-size (outer tree place rest) zero = omega arith
outer_at-size (outer tree place rest) (suc n) =
    let later = outer_at-size rest n in
    omega (arith, later)

-- no rank is above the number of members
rank-within : (t : ClosedTree) → rank t ≤ size t.tree
rank-within t = by t.tree
  where
    bound : (place many more : ℕ) (within : Bool) → nat_lt place many ≡ within → (if within then suc (place + more) else 0) ≤ many + more
    bound place many more true is = let below : place < many = grind (arith, is) in omega (arith, below)
    bound place many more false is = omega arith

    by : (tree : Tree) → rank (record { tree = tree; place = t.place }) ≤ size tree
    by (group members leaving) = bound t.place (length members) (outer_size leaving) (nat_lt t.place (length members)) refl

-- the rank of a place that there is
rank-placed : (t : ClosedTree) → t.place < length (members_of t.tree) → rank t ≡ suc (t.place + outer_size (leaving_of t.tree))
rank-placed t within =
    let test : nat_lt t.place (length (members_of t.tree)) ≡ true = grind (arith, within) in
    ap (λ (b : Bool). if b then suc (t.place + outer_size (leaving_of t.tree)) else 0) test

-- an index of a slot names a tree of a smaller rank
pub rank-slot : (t : ClosedTree) (n : ModuleInternedTypeIndex) → t.place < length (members_of t.tree) → rank (tree_at t.tree (index.Module n)) < rank t
rank-slot t n within = subst (λ (r : ℕ). rank (tree_at t.tree (index.Module n)) < r) (sym (rank-placed t within)) (by t.tree)
  where
    by : (tree : Tree) → rank (tree_at tree (index.Module n)) < suc (t.place + outer_size (leaving_of tree))
    by (group members leaving) =
        let small = rank-within (outer_at leaving n.0) in
        let held = outer_at-size leaving n.0 in
        omega (arith, small, held)

-- and so does one of an earlier place of the same tree
pub rank-own : (t : ClosedTree) (k : ℕ) → t.place < length (members_of t.tree) → k < t.place → rank (tree_at t.tree (index.RecGroup k)) < rank t
rank-own t k within earlier = subst (λ (r : ℕ). rank (tree_at t.tree (index.RecGroup k)) < r) (sym (rank-placed t within)) (by t.tree within)
  where
    by : (tree : Tree) → t.place < length (members_of tree) → rank (tree_at tree (index.RecGroup k)) < suc (t.place + outer_size (leaving_of tree))
    by (group members leaving) below =
        let test : nat_lt k (length members) ≡ true = let less : k < length members = omega (arith, below, earlier) in grind (arith, less) in
        subst (λ (b : Bool). rank (if b then (record { tree = group members leaving; place = k }) else no_tree) < suc (t.place + outer_size leaving)) (sym test)
        (subst (λ (b : Bool). (if b then suc (k + outer_size leaving) else 0) < suc (t.place + outer_size leaving)) (sym test) (omega (arith, earlier)))

-- what a member declares as its supertype
pub record Declares (t s : ClosedTree) : Type 0 where
  pub member : WasmSubType
  pub named : EngineOrModuleTypeIndex
  pub stands : member_at t ≡ Some member
  pub declares : member.supertype ≡ Some named
  pub is : tree_at t.tree named ≡ s

pub supertype-declared : (t s : ClosedTree) → supertype_of t ≡ Some s → Declares t s
supertype-declared t s is = by (member_at t) refl is
  where
    with_member : (ty : WasmSubType) → member_at t ≡ Some ty → (i : Option EngineOrModuleTypeIndex) → ty.supertype ≡ i → option_map (tree_at t.tree) i ≡ Some s → Declares t s
    with_member ty stands None declares found = absurd (cc)
    with_member ty stands (Some i) declares found = record { member = ty; named = i; stands = stands; declares = declares; is = some_same found }

    by : (found : Option WasmSubType) → member_at t ≡ found → option_and_then (λ ty. option_map (tree_at t.tree) ty.supertype) found ≡ Some s → Declares t s
    by None stands found = absurd (cc)
    by (Some ty) stands found = with_member ty stands ty.supertype refl found
