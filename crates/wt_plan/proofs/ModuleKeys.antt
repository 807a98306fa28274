-- A group of a module's types as a key: its references to earlier types, by their engine indices, are those of
-- registered types, and its tree is the one that the closed trees of the earlier types give.
use Rattle.std.proofs.Common.{◌≡◌, ℕ, ◌<◌, true, List, [], ◌∷◌, length, map, slice_get, get_or, Option, Some, option_map, unwrap_or, inl, inr, refl, sym, ap, ◌∙◌}
use Rattle.std.proofs.lemmas.Bool.{false≢true}
use Rattle.std.proofs.lemmas.Option.{slice_get-get_or, slice_get_read}
use Rattle.wt_env.specs.declared.types.VMSharedTypeIndex.{VMSharedTypeIndex}
use Rattle.wt_env.specs.declared.types.ModuleInternedTypeIndex.{ModuleInternedTypeIndex}
use Rattle.wt_env.specs.declared.types.EngineOrModuleTypeIndex.{EngineOrModuleTypeIndex}
use Rattle.wt_env.specs.declared.types.EngineOrModuleTypeIndex.TheVariants as index
use Rattle.wt_env.specs.declared.types.WasmSubType.{WasmSubType}
use Rattle.wt_env.specs.declared.types.WasmRecGroup.{WasmRecGroup}
use Rattle.wt_env.specs.Among.{Among}
use Rattle.wt_tree.specs.References.{group_refs, number_group}
use Rattle.wt_tree.specs.MapRefs.{map_group_refs}
use Rattle.wt_tree.specs.Canonical.{known_index, own_index, canonical_index}
use Rattle.wt_tree.specs.Tree.{ClosedTree, group, outer, close_outer, no_tree}
use Rattle.wt_tree.specs.ModuleTree.{known_tree, known_outer, group_tree}
use Rattle.wt_tree.proofs.Canonical.{canonical_group-numbers, canonical_group-refs}
use Rattle.wt_tree.proofs.LeftReferences.{own_refs-earlier}
use Rattle.wt_model.specs.Registered.{RegisteredGroup}
use Rattle.wt_model.specs.Trees.{trees}
use Rattle.wt_model.specs.Indices.{locate, closed_tree}
use Rattle.wt_model.specs.Describe.{located, tree_of}
use Rattle.wt_keys.specs.Keys.{named_at}
use Rattle.wt_plan.specs.Planned.{AreResolved}
use Rattle.wt_rules.proofs.ModuleReferences.{leaving-module}
use Rattle.wt_rules.specs.Rules.{is_module_index, AreModuleTypes}
use Rattle.wt_env.proofs.lists.Members.{get_among}
use Rattle.wt_model.proofs.trees.KnownTrees.{trees-located, trees-length, trees-at}

-- ---- references to a module's types

pub module_index : (i : EngineOrModuleTypeIndex) → is_module_index i ≡ true → (j : ModuleInternedTypeIndex) × (i ≡ index.Module j)
module_index (index.Engine i) is = absurd (false≢true is)
module_index (index.Module j) is = (j, refl)
module_index (index.RecGroup k) is = absurd (false≢true is)

-- this is a reference to a type of the module before the one that is the n-th
abbrev IsEarlier : ℕ → EngineOrModuleTypeIndex → Type 0
IsEarlier n r = (j : ModuleInternedTypeIndex) × (r ≡ index.Module j) × (j.0 < n)

-- what leaves a module's group, where its references to itself are places: references to earlier types
pub own_refs-module : (start : ℕ) (types : List WasmSubType) → ((i : EngineOrModuleTypeIndex) → Among i (group_refs types) → is_module_index i ≡ true)
    → (r : EngineOrModuleTypeIndex) → Among r (group_refs (map_group_refs (own_index start) types)) → (j : ModuleInternedTypeIndex) × (r ≡ index.Module j) × (j.0 < start)
own_refs-module start types module_only r at = own_refs-earlier start types (λ i there. module_index i (module_only i there)) r at

-- each reference that leaves a group of the module is one to a module's type
pub module_group-refs : (groups : List WasmRecGroup) (g : WasmRecGroup) → AreModuleTypes groups → Among g groups
    → (i : EngineOrModuleTypeIndex) → Among i (group_refs g.types) → is_module_index i ≡ true
module_group-refs groups g module_only at i there = leaving-module groups module_only g i at there

-- the group at a place is one of the module's
pub module_group-among : (groups : List WasmRecGroup) (n : ℕ) (g : WasmRecGroup) → n < length groups → g ≡ get_or groups n g → Among g groups
module_group-among groups n g within is = get_among groups n g (slice_get_read groups (length groups) n g refl within is)

-- ---- by engine indices

pub known_index-at : (indices : List VMSharedTypeIndex) (j : ModuleInternedTypeIndex) (i : VMSharedTypeIndex) → slice_get indices j.0 ≡ Some i → known_index indices (index.Module j) ≡ index.Engine i
known_index-at indices j i is = ap (λ found. unwrap_or (option_map index.Engine found) (index.Module j)) is

-- the index of an earlier type
earlier_index : (indices : List VMSharedTypeIndex) (r : EngineOrModuleTypeIndex) → IsEarlier (length indices) r
    → (j : ModuleInternedTypeIndex) × (i : VMSharedTypeIndex) × (r ≡ index.Module j) × (slice_get indices j.0 ≡ Some i) × (known_index indices r ≡ index.Engine i)
earlier_index indices r earlier =
    let j = earlier.0 in
    let i = get_or indices j.0 (record { 0 = 0 }) in
    let at = slice_get-get_or indices j.0 (record { 0 = 0 }) earlier.2 in
    (j, i, earlier.1, at, ap (known_index indices) earlier.1 ∙ known_index-at indices j i at)

known-named : (made : List RegisteredGroup) (indices : List VMSharedTypeIndex) → ((i : VMSharedTypeIndex) → Among i indices → (at : ℕ × ℕ) × (locate made i ≡ Some at))
    → (refs : List EngineOrModuleTypeIndex) → ((r : EngineOrModuleTypeIndex) → Among r refs → IsEarlier (length indices) r)
    → (outer : List (ℕ × ℕ)) × (map (named_at made) (map (known_index indices) refs) ≡ map Some outer)
known-named made indices stand [] earlier = ([], refl)
known-named made indices stand (r ∷ refs) earlier =
    let found = earlier_index indices r (earlier r (inl refl)) in
    let at = stand found.1 (get_among indices found.0.0 found.1 found.3) in
    let here = ap (named_at made) found.4 ∙ at.1 in
    let rest = known-named made indices stand refs (λ s there. earlier s (inr there)) in
    (at.0 ∷ rest.0, λ t. here t ∷ rest.1 t)

-- where the earlier types are registered, what leaves the canonical group is registered
pub canonical-named : (made : List RegisteredGroup) (indices : List VMSharedTypeIndex) (types : List WasmSubType)
    → ((i : EngineOrModuleTypeIndex) → Among i (group_refs types) → is_module_index i ≡ true)
    → ((i : VMSharedTypeIndex) → Among i indices → (at : ℕ × ℕ) × (locate made i ≡ Some at))
    → AreResolved made (map_group_refs (canonical_index (length indices) indices) types)
canonical-named made indices types module_only stand =
    let own = map_group_refs (own_index (length indices)) types in
    let named = known-named made indices stand (group_refs own) (own_refs-module (length indices) types module_only) in
    (named.0, ap (map (named_at made)) (canonical_group-refs (length indices) indices types) ∙ named.1)

-- ---- by closed trees

located-at : (made : List RegisteredGroup) (i : VMSharedTypeIndex) (at : ℕ × ℕ) → locate made i ≡ Some at → located made (index.Engine i) ≡ at
located-at made i at is = ap (λ found. unwrap_or found (0, 0)) is

-- the closed tree that a reference names among the known ones is that of its index
earlier_tree : (made : List RegisteredGroup) (indices : List VMSharedTypeIndex) (known : List ClosedTree) → map (closed_tree made) indices ≡ map Some known
    → (r : EngineOrModuleTypeIndex) → IsEarlier (length indices) r
    → (at : ℕ × ℕ) × (located made (known_index indices r) ≡ at) × (known_tree known r ≡ record { tree = trees made at.0; place = at.1 })
earlier_tree made indices known is r earlier =
    let found = earlier_index indices r earlier in
    let stands = trees-located made indices known is found.1 (get_among indices found.0.0 found.1 found.3) in
    let closed = ap (option_map (λ (at : ℕ × ℕ). record { tree = trees made at.0; place = at.1 })) stands.1 in
    let tree = trees-at made indices known found.0.0 found.1 is found.3 ∙ closed in (
      stands.0,
      ap (located made) found.4 ∙ located-at made found.1 stands.0 stands.1,
      ap (known_tree known) found.2 ∙ ap (λ (c : Option ClosedTree). unwrap_or c no_tree) tree,
    )

known-closed : (made : List RegisteredGroup) (indices : List VMSharedTypeIndex) (known : List ClosedTree) → map (closed_tree made) indices ≡ map Some known
    → (refs : List EngineOrModuleTypeIndex) → ((r : EngineOrModuleTypeIndex) → Among r refs → IsEarlier (length indices) r)
    → close_outer (trees made) (map (located made) (map (known_index indices) refs)) ≡ known_outer known refs
known-closed made indices known is [] earlier = refl
known-closed made indices known is (r ∷ refs) earlier =
    let found = earlier_tree made indices known is r (earlier r (inl refl)) in
    let tree = ap (λ (at : ℕ × ℕ). trees made at.0) found.1 ∙ ap (λ (c : ClosedTree). c.tree) (sym found.2) in
    let place = ap (λ (at : ℕ × ℕ). at.1) found.1 ∙ ap (λ (c : ClosedTree). c.place) (sym found.2) in
    let rest = known-closed made indices known is refs (λ s there. earlier s (inr there)) in
    λ t. outer (tree t) (place t) (rest t)

-- the tree of the canonical group is the one that the closed trees of the earlier types give
pub canonical-tree : (made : List RegisteredGroup) (indices : List VMSharedTypeIndex) (known : List ClosedTree) (types : List WasmSubType)
    → ((i : EngineOrModuleTypeIndex) → Among i (group_refs types) → is_module_index i ≡ true)
    → map (closed_tree made) indices ≡ map Some known
    → tree_of made (map_group_refs (canonical_index (length indices) indices) types) ≡ group_tree known types
canonical-tree made indices known types module_only is =
    let own = map_group_refs (own_index (length indices)) types in
    let members = canonical_group-numbers (length indices) indices types in
    let references = ap (λ refs. close_outer (trees made) (map (located made) refs)) (canonical_group-refs (length indices) indices types) in
    let closed = known-closed made indices known is (group_refs own) (own_refs-module (length indices) types module_only) in
    let leaving = references ∙ closed in
    let count = trees-length made indices known is in
    (λ t. group (members t) (leaving t))
    ∙ ap (λ n. group (number_group (map_group_refs (own_index n) types)) (known_outer known (group_refs (map_group_refs (own_index n) types)))) count
