-- A key and the tree that it stands for: among registered groups keys are equal exactly where trees are, so the
-- search by keys finds what the search by trees does.
use Rattle.std.proofs.Common.{◌≡◌, ◌↔◌, ℕ, ◌<◌, inl, inr, List, [], ◌∷◌, map, Some, option_map, unwrap_or, refl, sym, ap, subst, ◌∙◌}
use Rattle.std.specs.List.{find}
use Rattle.wt_env.specs.Equality.{rec_group_eq, rec_group_eq-exact, rec_group_eq-refl}
use Rattle.wt_env.specs.declared.types.EngineOrModuleTypeIndex.{EngineOrModuleTypeIndex}
use Rattle.wt_env.specs.declared.types.EngineOrModuleTypeIndex.TheVariants as index
use Rattle.wt_env.specs.declared.types.WasmSubType.{WasmSubType}
use Rattle.wt_env.specs.declared.types.WasmRecGroup.{WasmRecGroup}
use Rattle.wt_tree.specs.References.{number_group, group_refs}
use Rattle.wt_tree.specs.Tree.{Description, close, tree_eq}
use Rattle.wt_tree.proofs.Closing.{close-injective}
use Rattle.wt_tree.proofs.Numbering.{group_from}
use Rattle.wt_tree.proofs.TreeEquality.{tree_eq-decides}
use Rattle.wt_keys.specs.declared.entry.RecGroupEntry.{RecGroupEntry}
use Rattle.wt_model.specs.Registered.{RegisteredGroup}
use Rattle.wt_env.specs.Among.{Among}
use Rattle.wt_model.specs.Trees.{trees}
use Rattle.wt_model.specs.Describe.{located, describe, tree_of, find_tree}
use Rattle.wt_model.specs.Sound.{IsRising}
use Rattle.wt_keys.specs.Entries.{made_of, made_by}
use Rattle.wt_keys.specs.Keys.{named_at, ResolvesTo, AreKeys}
use Rattle.wt_env.proofs.lists.Mapped.{among_map, among_mapped}
use Rattle.wt_env.proofs.lists.Members.{first_same, rest_same, same_test, find-map}
use Rattle.wt_model.proofs.indices.Places.{locate-at, one_place}
use Rattle.wt_model.proofs.trees.Trees.{NamesBelow, trees-registered}

-- ---- what references name

named-located : (made : List RegisteredGroup) (x : EngineOrModuleTypeIndex) (o : ℕ × ℕ) → named_at made x ≡ Some o → located made x ≡ o
named-located made (index.Engine i) o is = ap (λ found. unwrap_or found (0, 0)) is
named-located made (index.Module i) o is = absurd (cc)
named-located made (index.RecGroup k) o is = absurd (cc)

all-located : (made : List RegisteredGroup) (xs : List EngineOrModuleTypeIndex) (os : List (ℕ × ℕ)) → map (named_at made) xs ≡ map Some os → map (located made) xs ≡ os
all-located made [] [] is = refl
all-located made [] (o ∷ os) is = absurd (cc)
all-located made (x ∷ xs) [] is = absurd (cc)
all-located made (x ∷ xs) (o ∷ os) is =
    let here = named-located made x o (first_same is) in
    let rest = all-located made xs os (rest_same is) in
    λ t. here t ∷ rest t

-- the description of types whose references are known
pub describe-named : (made : List RegisteredGroup) (types : List WasmSubType) (outer : List (ℕ × ℕ)) → ResolvesTo made types outer → describe made types ≡ record { members = number_group types; outer = outer }
describe-named made types outer names =
    let same = all-located made (group_refs types) outer names in
    λ t. record { members = number_group types; outer = same t }

named-same : (top : ℕ) (made : List RegisteredGroup) → IsRising 0 made top → (x y : EngineOrModuleTypeIndex) (o : ℕ × ℕ) → named_at made x ≡ Some o → named_at made y ≡ Some o → x ≡ y
named-same top made rising (index.Engine i) (index.Engine j) o first second = ap index.Engine (one_place 0 top made i j o rising first second)
named-same top made rising (index.Engine i) (index.Module j) o first second = absurd (cc)
named-same top made rising (index.Engine i) (index.RecGroup k) o first second = absurd (cc)
named-same top made rising (index.Module i) y o first second = absurd (cc)
named-same top made rising (index.RecGroup k) y o first second = absurd (cc)

-- references that name the same are the same
refs_same : (top : ℕ) (made : List RegisteredGroup) → IsRising 0 made top → (xs ys : List EngineOrModuleTypeIndex) (os : List (ℕ × ℕ)) → map (named_at made) xs ≡ map Some os → map (named_at made) ys ≡ map Some os → xs ≡ ys
refs_same top made rising [] [] os first second = refl
refs_same top made rising [] (y ∷ ys) [] first second = absurd (cc)
refs_same top made rising [] (y ∷ ys) (o ∷ os) first second = absurd (cc)
refs_same top made rising (x ∷ xs) ys [] first second = absurd (cc)
refs_same top made rising (x ∷ xs) [] (o ∷ os) first second = absurd (cc)
refs_same top made rising (x ∷ xs) (y ∷ ys) (o ∷ os) first second =
    let here = named-same top made rising x y o (first_same first) (first_same second) in
    let rest = refs_same top made rising xs ys os (rest_same first) (rest_same second) in
    λ t. here t ∷ rest t

named-registered : (made : List RegisteredGroup) (x : EngineOrModuleTypeIndex) (o : ℕ × ℕ) → named_at made x ≡ Some o → (group : RegisteredGroup) × Among group made × (group.number ≡ o.0)
named-registered made (index.Engine i) o is = let at = locate-at made i o is in (at.group, at.among, at.number)
named-registered made (index.Module i) o is = absurd (cc)
named-registered made (index.RecGroup k) o is = absurd (cc)

refs-registered : (made : List RegisteredGroup) (xs : List EngineOrModuleTypeIndex) (os : List (ℕ × ℕ)) → map (named_at made) xs ≡ map Some os → (o : ℕ × ℕ) → Among o os → (group : RegisteredGroup) × Among group made × (group.number ≡ o.0)
refs-registered made xs [] is o at = absurd at
refs-registered made [] (p ∷ os) is o at = absurd (cc)
refs-registered made (x ∷ xs) (p ∷ os) is o (inl same) = named-registered made x o (first_same is ∙ ap Some (sym same))
refs-registered made (x ∷ xs) (p ∷ os) is o (inr later) = refs-registered made xs os (rest_same is) o later

-- what is named is registered
pub names-registered : (made : List RegisteredGroup) (types : List WasmSubType) (outer : List (ℕ × ℕ)) → ResolvesTo made types outer → (reference : ℕ × ℕ) → Among reference outer → (group : RegisteredGroup) × Among group made × (group.number ≡ reference.0)
names-registered made types outer names reference at = refs-registered made (group_refs types) outer names reference at

-- ---- keys and trees

pub names_below : (entries : List RecGroupEntry) (top : ℕ) → AreKeys entries top → NamesBelow (made_by entries)
names_below entries top keys m reference at refers =
    let named = among_map made_of entries m at in
    subst (λ (n : RegisteredGroup). reference.0 < n.number) (sym named.2)
    ((keys.keys named.0 named.1).older reference (subst (Among reference) (ap (λ (n : RegisteredGroup). n.description.outer) named.2) refers))

-- the tree of a registered group is its description, closed by the trees of all
tree-closed : (entries : List RecGroupEntry) (top : ℕ) (entry : RecGroupEntry) → AreKeys entries top → Among entry entries → trees (made_by entries) entry.number ≡ close (trees (made_by entries)) (made_of entry).description
tree-closed entries top entry keys at =
    trees-registered top (made_by entries) keys.rising (names_below entries top keys) (made_of entry) (among_mapped made_of entries entry at)

-- and it is the tree of its key
pub tree-of_key : (entries : List RecGroupEntry) (top : ℕ) (entry : RecGroupEntry) → AreKeys entries top → Among entry entries → trees (made_by entries) entry.number ≡ tree_of (made_by entries) entry.hash_consing_key.types
tree-of_key entries top entry keys at =
    tree-closed entries top entry keys at
    ∙ ap (close (trees (made_by entries))) (sym (describe-named (made_by entries) entry.hash_consing_key.types entry.outer (keys.keys entry at).names))

key-from_tree : (entries : List RecGroupEntry) (top : ℕ) (entry : RecGroupEntry) (types : List WasmSubType) (outer : List (ℕ × ℕ)) → AreKeys entries top → Among entry entries → ResolvesTo (made_by entries) types outer → trees (made_by entries) entry.number ≡ tree_of (made_by entries) types → entry.hash_consing_key.types ≡ types
key-from_tree entries top entry types outer keys at names same =
    let made = made_by entries in
    let named = (keys.keys entry at).names in
    let other : Description = record { members = number_group types; outer = outer } in
    let closed : close (trees made) (made_of entry).description ≡ close (trees made) other =
    sym (tree-closed entries top entry keys at) ∙ same ∙ ap (close (trees made)) (describe-named made types outer names) in
    let described = close-injective (trees made) (made_of entry).description other closed apart in
    let members = ap (λ (d : Description). d.members) described in
    let references = ap (λ (d : Description). map Some d.outer) described in
    group_from entry.hash_consing_key.types types members
    (refs_same top made keys.rising (group_refs entry.hash_consing_key.types) (group_refs types) outer (named ∙ references) names)
  where
    apart : (r s : ℕ × ℕ) → Among r entry.outer → Among s outer → trees (made_by entries) r.0 ≡ trees (made_by entries) s.0 → r.0 ≡ s.0
    apart r s first second equal =
        let a = names-registered (made_by entries) entry.hash_consing_key.types entry.outer (keys.keys entry at).names r first in
        let b = names-registered (made_by entries) types outer names s second in
        sym a.2 ∙ keys.apart a.0 b.0 a.1 b.1 (ap (trees (made_by entries)) a.2 ∙ equal ∙ ap (trees (made_by entries)) (sym b.2)) ∙ b.2

-- a registered group has these types as its key exactly where it has their tree
pub key-tree : (entries : List RecGroupEntry) (top : ℕ) (entry : RecGroupEntry) (types : List WasmSubType) (outer : List (ℕ × ℕ)) → AreKeys entries top → Among entry entries → ResolvesTo (made_by entries) types outer → (entry.hash_consing_key.types ≡ types) ↔ (trees (made_by entries) entry.number ≡ tree_of (made_by entries) types)
key-tree entries top entry types outer keys at names = (
  λ same. tree-of_key entries top entry keys at ∙ ap (tree_of (made_by entries)) same,
  key-from_tree entries top entry types outer keys at names,
)

key_test : (entries : List RecGroupEntry) (top : ℕ) (entry : RecGroupEntry) (types : List WasmSubType) (outer : List (ℕ × ℕ)) → AreKeys entries top → Among entry entries → ResolvesTo (made_by entries) types outer → rec_group_eq entry.hash_consing_key (record { types = types }) ≡ tree_eq (trees (made_by entries) entry.number) (tree_of (made_by entries) types)
key_test entries top entry types outer keys at names =
    let key : WasmRecGroup = record { types = types } in
    let both = key-tree entries top entry types outer keys at names in
    let tree = tree_eq-decides (trees (made_by entries) entry.number) (tree_of (made_by entries) types) in
    same_test (rec_group_eq entry.hash_consing_key key) (tree_eq (trees (made_by entries) entry.number) (tree_of (made_by entries) types))
    (λ passes. tree.1 (both.0 (ap (λ (g : WasmRecGroup). g.types) (rec_group_eq-exact entry.hash_consing_key key passes))))
    (λ passes. ap (λ ts. rec_group_eq (record { types = ts }) key) (both.1 (tree.0 passes)) ∙ rec_group_eq-refl key)

-- the search by trees finds what the search by keys does
pub find_tree-by_key : (entries : List RecGroupEntry) (top : ℕ) (types : List WasmSubType) (outer : List (ℕ × ℕ)) → AreKeys entries top → ResolvesTo (made_by entries) types outer → find_tree (made_by entries) (tree_of (made_by entries) types) ≡ option_map made_of (find (λ entry. rec_group_eq entry.hash_consing_key (record { types = types })) entries)
find_tree-by_key entries top types outer keys names =
    find-map made_of (λ entry. rec_group_eq entry.hash_consing_key (record { types = types })) (λ m. tree_eq (trees (made_by entries) m.number) (tree_of (made_by entries) types)) entries
    (λ entry at. key_test entries top entry types outer keys at names)
