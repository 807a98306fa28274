-- What is true of keys and indices, without what is told of supertypes, and what follows for the registry.
use Rattle.std.proofs.Common.{◌≡◌, ◌⊎◌, ℕ, ◌<◌, inl, inr, List, length, map, slice_get, Option, Some, sym, ap, subst, ◌∙◌}
use Rattle.std.specs.List.{filter_map}
use Rattle.wt_tree.specs.References.{number_group}
use Rattle.wt_tree.specs.Subtyping.{IsTypeMap}
use Rattle.wt_tree.proofs.Numbering.{length-number_group}
use Rattle.wt_keys.specs.declared.entry.RecGroupEntry.{RecGroupEntry}
use Rattle.wt_model.specs.Registered.{RegisteredGroup}
use Rattle.wt_env.specs.Among.{Among}
use Rattle.wt_model.specs.Trees.{trees}
use Rattle.wt_model.specs.Indices.{locate, closed_tree}
use Rattle.wt_model.specs.NamedTypes.{NamesTypes, NameTypes}
use Rattle.wt_model.proofs.Trampolines.{among-told, tell-registered}
use Rattle.wt_model.specs.Sound.{IsRising, IsLocated, OneIndexPerTree, NamesOlder, AreIndexed}
use Rattle.wt_keys.specs.Entries.{made_of, made_by}
use Rattle.wt_keys.specs.Keys.{IsKey, AreApartTrees, AreKeys}
use Rattle.wt_env.proofs.lists.Mapped.{among_map}
use Rattle.wt_env.proofs.lists.Members.{some_same, among_either}
use Rattle.wt_model.proofs.indices.Rising.{one_number}
use Rattle.wt_model.proofs.subtyping.NamedIndices.{AreTyped}
use Rattle.wt_model.proofs.subtyping.TypeMaps.{type-map}
use Rattle.wt_keys.proofs.KeyTrees.{names-registered}

-- what is true of all entries, but for the lists of supertypes
pub record AreKeyed (entries : List RecGroupEntry) (top : ℕ) : Type 0 where
  pub rising : IsRising 0 (made_by entries) top
  pub keys : (entry : RecGroupEntry) → Among entry entries → IsKey (made_by entries) entry
  pub located : IsLocated (made_by entries)
  pub apart : AreApartTrees (made_by entries)

pub keyed : {entries : List RecGroupEntry} {top : ℕ} → AreKeys entries top → AreKeyed entries top
keyed all = record { rising = all.rising; keys = all.keys; located = all.located; apart = all.apart }

-- a group has as many indices as members
pub keyed-indexed : (entries : List RecGroupEntry) (top : ℕ) → AreKeyed entries top → AreIndexed (made_by entries)
keyed-indexed entries top keys a at =
    let named = among_map made_of entries a at in
    let entry : RecGroupEntry = named.0 in
    let same : a ≡ made_of entry = named.2 in
    ap (λ (m : RegisteredGroup). length m.indices) same ∙ (keys.keys entry named.1).members
    ∙ sym (length-number_group entry.hash_consing_key.types) ∙ ap (λ (m : RegisteredGroup). length m.description.members) (sym same)

-- two registered types have one index exactly where their closed trees are equal
pub keyed-one_index : (entries : List RecGroupEntry) (top : ℕ) → AreKeyed entries top → OneIndexPerTree (made_by entries)
keyed-one_index entries top keys a b j k i l at bt first second = (there, back)
  where
    there : i ≡ l → (trees (made_by entries) a.number ≡ trees (made_by entries) b.number) × (j ≡ k)
    there same =
        let pair : (a.number, j) ≡ (b.number, k) = some_same (sym (keys.located a j i at first) ∙ ap (locate (made_by entries)) same ∙ keys.located b k l bt second) in
        (ap (λ (p : ℕ × ℕ). trees (made_by entries) p.0) pair, ap (λ (p : ℕ × ℕ). p.1) pair)

    back : (trees (made_by entries) a.number ≡ trees (made_by entries) b.number) × (j ≡ k) → i ≡ l
    back same =
        let one = one_number 0 top (made_by entries) a b keys.rising at bt (keys.apart a b at bt same.0) in
        some_same (sym first ∙ (λ t. slice_get (one t).indices (same.1 t)) ∙ second)

-- edges lead to older registered groups
pub keyed-names_older : (entries : List RecGroupEntry) (top : ℕ) → AreKeyed entries top → NamesOlder (made_by entries)
keyed-names_older entries top keys a number at leads =
    by (among_either (map (λ (r : ℕ × ℕ). r.0) a.description.outer) (filter_map (λ (told : Option ℕ). told) a.trampolines) number leads)
  where
    named : (entry : RecGroupEntry) × Among entry entries × (a ≡ made_of entry)
    named = among_map made_of entries a at

    key : IsKey (made_by entries) named.0
    key = keys.keys named.0 named.1

    by : Among number (map (λ (r : ℕ × ℕ). r.0) a.description.outer) ⊎ Among number (filter_map (λ (told : Option ℕ). told) a.trampolines)
        → (number < a.number) × (b : RegisteredGroup) × Among b (made_by entries) × (b.number ≡ number)
    by (inl refers) =
        let edge = among_map (λ (r : ℕ × ℕ). r.0) a.description.outer number refers in
        let there : Among edge.0 named.0.outer = subst (Among edge.0) (ap (λ (m : RegisteredGroup). m.description.outer) named.2) edge.1 in
        let below = subst (λ (m : RegisteredGroup). (edge.0).0 < m.number) (sym named.2) (key.older edge.0 there) in
        let group = names-registered (made_by entries) named.0.hash_consing_key.types named.0.outer key.names edge.0 there in
        (subst (λ n. n < a.number) (sym edge.2) below, group.0, group.1, group.2 ∙ sym edge.2)
    by (inr enters) =
        let there : Among (Some number) named.0.trampolines = subst (Among (Some number)) (ap (λ (m : RegisteredGroup). m.trampolines) named.2) (among-told number a.trampolines enters) in
        let below = subst (λ (m : RegisteredGroup). number < m.number) (sym named.2) (key.older_trampolines number there) in
        let group = tell-registered (made_by entries) (number_group named.0.hash_consing_key.types) named.0.trampolines number key.trampolines there in
        (below, group.0, group.1, group.2)

-- each registered group names types
pub keyed-name_types : (entries : List RecGroupEntry) (top : ℕ) → AreKeyed entries top → NameTypes (made_by entries)
keyed-name_types entries top keys a at =
    let named = among_map made_of entries a at in
    subst (λ (m : RegisteredGroup). NamesTypes (made_by entries) m.description) (sym named.2) (keys.keys named.0 named.1).name_types

-- the closed trees by their indices
pub keyed-typed : (entries : List RecGroupEntry) (top : ℕ) → AreKeyed entries top → AreTyped (made_by entries) top
keyed-typed entries top keys = record {
  rising = keys.rising;
  one_index = keyed-one_index entries top keys;
  names_older = keyed-names_older entries top keys;
  is_located = keys.located;
  indexed = keyed-indexed entries top keys;
  name_types = keyed-name_types entries top keys;
}

pub keyed-map : (entries : List RecGroupEntry) (top : ℕ) → AreKeyed entries top → IsTypeMap (closed_tree (made_by entries))
keyed-map entries top keys = type-map (made_by entries) top (keyed-typed entries top keys)
