-- The closed trees of a list of indices, where they are known.
use Rattle.std.proofs.Common.{◌≡◌, ℕ, suc, ◌+◌, List, [], ◌∷◌, length, map, slice_get, Option, Some, None, is_some, option_map, inl, inr, refl, sym, ap, ◌∙◌, arith}
use Rattle.std.proofs.lemmas.Option.{slice_get-map}
use Rattle.wt_env.specs.declared.types.VMSharedTypeIndex.{VMSharedTypeIndex}
use Rattle.wt_tree.specs.Tree.{Tree, ClosedTree}
use Rattle.wt_tree.specs.ModuleTree.{members_from}
use Rattle.wt_model.specs.Registered.{RegisteredGroup}
use Rattle.wt_env.specs.Among.{Among}
use Rattle.wt_model.specs.Trees.{trees}
use Rattle.wt_model.specs.Indices.{locate, closed_tree}
use Rattle.wt_env.proofs.lists.Members.{first_same, rest_same, some_same}

-- ---- the indices of a group

abbrev member_at : Tree → ℕ → Option ClosedTree
member_at tree place = Some (record { tree = tree; place = place })

members_from-named : (made : List RegisteredGroup) (tree : Tree) (place : ℕ) (indices : List VMSharedTypeIndex)
    → ((k : ℕ) (i : VMSharedTypeIndex) → slice_get indices k ≡ Some i → closed_tree made i ≡ member_at tree (place + k))
    → map (closed_tree made) indices ≡ map Some (members_from tree place (length indices))
members_from-named made tree place [] named = refl
members_from-named made tree place (i ∷ indices) named =
    let at : place + 0 ≡ place = omega arith in
    let here = named 0 i refl ∙ ap (member_at tree) at in
    let rest = members_from-named made tree (place + 1) indices (λ k j is. named (suc k) j is ∙ next k) in
    λ t. here t ∷ rest t
  where
    next : (k : ℕ) → member_at tree (place + suc k) ≡ member_at tree ((place + 1) + k)
    next k = let same : place + suc k ≡ (place + 1) + k = omega arith in ap (member_at tree) same

-- the closed trees of a group's indices are those of its members
pub members-named : (made : List RegisteredGroup) (tree : Tree) (indices : List VMSharedTypeIndex)
    → ((k : ℕ) (i : VMSharedTypeIndex) → slice_get indices k ≡ Some i → closed_tree made i ≡ Some (record { tree = tree; place = k }))
    → map (closed_tree made) indices ≡ map Some (members_from tree 0 (length indices))
members-named made tree indices named = members_from-named made tree 0 indices (λ k i is. named k i is ∙ from_first k)
  where
    from_first : (k : ℕ) → member_at tree k ≡ member_at tree (0 + k)
    from_first k = let same : k ≡ 0 + k = omega arith in ap (member_at tree) same

-- ---- what has a closed tree is located

-- where an index has this closed tree, it has a number and a place that tell it
pub closed_tree-located : (made : List RegisteredGroup) (i : VMSharedTypeIndex) (closed : ClosedTree) → closed_tree made i ≡ Some closed
    → (at : ℕ × ℕ) × (locate made i ≡ Some at) × (closed ≡ record { tree = trees made at.0; place = at.1 })
closed_tree-located made i closed is = by (locate made i) refl is
  where
    by : (found : Option (ℕ × ℕ)) → locate made i ≡ found → option_map (λ at. record { tree = trees made at.0; place = at.1 }) found ≡ Some closed
        → (at : ℕ × ℕ) × (locate made i ≡ Some at) × (closed ≡ record { tree = trees made at.0; place = at.1 })
    by None e h = absurd (cc)
    by (Some at) e h = (at, e, sym (some_same h))

pub trees-located : (made : List RegisteredGroup) (indices : List VMSharedTypeIndex) (known : List ClosedTree) → map (closed_tree made) indices ≡ map Some known
    → (i : VMSharedTypeIndex) → Among i indices → (at : ℕ × ℕ) × (locate made i ≡ Some at)
trees-located made [] known is i at = absurd at
trees-located made (j ∷ indices) [] is i at = absurd (cc)
trees-located made (j ∷ indices) (closed ∷ known) is i (inl same) =
    let found = closed_tree-located made i closed (ap (closed_tree made) same ∙ first_same is) in (found.0, found.1)
trees-located made (j ∷ indices) (closed ∷ known) is i (inr later) = trees-located made indices known (rest_same is) i later

-- as many closed trees as indices
pub trees-length : (made : List RegisteredGroup) (indices : List VMSharedTypeIndex) (known : List ClosedTree) → map (closed_tree made) indices ≡ map Some known → length indices ≡ length known
trees-length made [] [] is = refl
trees-length made [] (closed ∷ known) is = absurd (cc)
trees-length made (i ∷ indices) [] is = absurd (cc)
trees-length made (i ∷ indices) (closed ∷ known) is = ap suc (trees-length made indices known (rest_same is))

-- the closed tree of the index at a place
pub trees-at : (made : List RegisteredGroup) (indices : List VMSharedTypeIndex) (known : List ClosedTree) (k : ℕ) (i : VMSharedTypeIndex) → map (closed_tree made) indices ≡ map Some known
    → slice_get indices k ≡ Some i → slice_get known k ≡ closed_tree made i
trees-at made indices known k i is at =
    by (slice_get known k) (sym (slice_get-map Some known k) ∙ ap (λ xs. slice_get xs k) (sym is) ∙ slice_get-map (closed_tree made) indices k ∙ ap (option_map (closed_tree made)) at)
  where
    by : (found : Option ClosedTree) → option_map Some found ≡ Some (closed_tree made i) → found ≡ closed_tree made i
    by None h = absurd (cc)
    by (Some closed) h = some_same h

pub is_some-map : {A B : Type 0} (f : A → B) (o : Option A) → is_some (option_map f o) ≡ is_some o
is_some-map f (Some x) = refl
is_some-map f None = refl

-- an index has a closed tree exactly where it is located
pub closed-located : (made : List RegisteredGroup) (i : VMSharedTypeIndex) → is_some (closed_tree made i) ≡ is_some (locate made i)
closed-located made i = is_some-map (λ (at : ℕ × ℕ). let t : ClosedTree = record { tree = trees made at.0; place = at.1 } in t) (locate made i)
