-- What is true of the keys of all registered groups stays true of those that are kept, where what they lead to is
-- kept.
use Rattle.std.proofs.Common.{◌≡◌, ℕ, inl, inr, Bool, true, List, [], ◌∷◌, map, reverse, slice_get, Some, option_map, refl, sym, ap, subst, ◌∙◌, arith}
use Rattle.std.proofs.lemmas.Option.{slice_get_within}
use Rattle.wt_env.specs.declared.types.VMSharedTypeIndex.{VMSharedTypeIndex}
use Rattle.wt_env.specs.declared.types.EngineOrModuleTypeIndex.{EngineOrModuleTypeIndex}
use Rattle.wt_env.specs.declared.types.EngineOrModuleTypeIndex.TheVariants as index
use Rattle.wt_tree.specs.References.{group_refs}
use Rattle.wt_tree.specs.Tree.{Tree, ClosedTree}
use Rattle.wt_model.specs.Trees.{trees}
use Rattle.wt_model.specs.Indices.{closed_tree}
use Rattle.wt_model.proofs.subtyping.NamedIndices.{get_within}
use Rattle.wt_keys.specs.SupertypeChains.{IsSupertypeChain, TellsSupertypes}
use Rattle.wt_keys.proofs.SupertypeLists.{chain-kept}
use Rattle.wt_keys.proofs.KeyedGroups.{AreKeyed, keyed-map}
use Rattle.wt_keys.proofs.EntryTypes.{entries-map}
use Rattle.wt_keys.specs.declared.entry.RecGroupEntry.{RecGroupEntry}
use Rattle.wt_model.specs.Registered.{RegisteredGroup}
use Rattle.wt_env.specs.Among.{Among}
use Rattle.wt_model.specs.Sound.{IsRising, IsLocated}
use Rattle.wt_model.specs.Trampolines.{TellTrampolines}
use Rattle.wt_keys.specs.Entries.{made_of, made_by}
use Rattle.wt_model.specs.Removal.{kept_made}
use Rattle.wt_keys.specs.Keys.{named_at, IsKey, AreApartTrees, AreKeys}
use Rattle.wt_keys.specs.Keys.{AreShown}
use Rattle.wt_holds.specs.Marks.{kept_entries}
use Rattle.wt_env.proofs.lists.Filtered.{among_filter}
use Rattle.wt_env.proofs.lists.Mapped.{among_mapped}
use Rattle.wt_model.proofs.removal.KeptPart.{KeepsLed, KeepsNamed, led-named, among-kept, kept-among, rising-kept, trees-kept, locate-kept, is_located-kept, names_types-kept, have_trampolines-kept, closed_tree-kept}
use Rattle.wt_keys.proofs.KeyTrampolines.{have_trampolines}
use Rattle.wt_env.proofs.lists.Members.{first_same, rest_same}
use Rattle.wt_holds.proofs.marks.Marked.{made-kept}

-- ---- references still name what they did

named-kept : (keep : ℕ → Bool) (made : List RegisteredGroup) (x : EngineOrModuleTypeIndex) (o : ℕ × ℕ) → keep o.0 ≡ true → named_at made x ≡ Some o → named_at (kept_made keep made) x ≡ Some o
named-kept keep made (index.Engine i) o passes is = locate-kept keep made i o is passes
named-kept keep made (index.Module i) o passes is = absurd (cc)
named-kept keep made (index.RecGroup k) o passes is = absurd (cc)

refs-kept : (keep : ℕ → Bool) (made : List RegisteredGroup) (xs : List EngineOrModuleTypeIndex) (os : List (ℕ × ℕ)) → ((o : ℕ × ℕ) → Among o os → keep o.0 ≡ true)
    → map (named_at made) xs ≡ map Some os → map (named_at (kept_made keep made)) xs ≡ map Some os
refs-kept keep made [] [] passes is = refl
refs-kept keep made [] (o ∷ os) passes is = absurd (cc)
refs-kept keep made (x ∷ xs) [] passes is = absurd (cc)
refs-kept keep made (x ∷ xs) (o ∷ os) passes is =
    let here = named-kept keep made x o (passes o (inl refl)) (first_same is) in
    let rest = refs-kept keep made xs os (λ p at. passes p (inr at)) (rest_same is) in
    λ t. here t ∷ rest t

key-kept : (keep : ℕ → Bool) (made : List RegisteredGroup) (entry : RecGroupEntry) → ((reference : ℕ × ℕ) → Among reference entry.outer → keep reference.0 ≡ true)
    → TellTrampolines (kept_made keep made) (made_of entry).description.members entry.trampolines → IsKey made entry → IsKey (kept_made keep made) entry
key-kept keep made entry passes tell key = record {
  names = refs-kept keep made (group_refs entry.hash_consing_key.types) entry.outer passes key.names;
  older = key.older;
  members = key.members;
  name_types = names_types-kept keep made (made_of entry).description passes key.name_types;
  trampolines = tell;
  older_trampolines = key.older_trampolines;
}

apart-kept : (keep : ℕ → Bool) (made : List RegisteredGroup) → KeepsNamed keep made → AreApartTrees made → AreApartTrees (kept_made keep made)
apart-kept keep made named apart a b at bt same =
    let first = among-kept keep made a at in
    let second = among-kept keep made b bt in
    apart a b first.0 second.0 (sym (trees-kept keep made a.number named first.1) ∙ (same ∙ trees-kept keep made b.number named second.1))

-- ---- all that is true of keys

keyed-kept : (keep : ℕ → Bool) (entries : List RecGroupEntry) (top : ℕ) → AreKeys entries top → KeepsLed keep (made_by entries) → AreKeyed (kept_entries keep entries) top
keyed-kept keep entries top keys led = record {
  rising = subst (λ (made : List RegisteredGroup). IsRising 0 made top) (sym same) (rising-kept keep 0 top (made_by entries) keys.rising);
  keys = λ entry at.
      let found = among_filter (λ (e : RecGroupEntry). keep e.number) entries entry at in
      subst (λ (made : List RegisteredGroup). IsKey made entry) (sym same)
      (key-kept keep (made_by entries) entry (λ reference refers. named (made_of entry) reference (among_mapped made_of entries entry found.0) found.1 refers) (tell entry found.0 found.1) (keys.keys entry found.0));
  located = subst IsLocated (sym same) (is_located-kept keep (made_by entries) keys.located);
  apart = subst AreApartTrees (sym same) (apart-kept keep (made_by entries) named keys.apart);
}
  where
    same : made_by (kept_entries keep entries) ≡ kept_made keep (made_by entries)
    same = made-kept keep entries

    named : KeepsNamed keep (made_by entries)
    named = led-named keep (made_by entries) led

    -- the trampolines of what is kept are told still
    tell : (entry : RecGroupEntry) → Among entry entries → keep entry.number ≡ true → TellTrampolines (kept_made keep (made_by entries)) (made_of entry).description.members entry.trampolines
    tell entry at passes =
        have_trampolines-kept keep (made_by entries) led (have_trampolines entries top keys) (made_of entry)
        (kept-among keep (made_by entries) (made_of entry) (among_mapped made_of entries entry at) passes)

-- each index of what is kept had the closed tree that it has
tree-before : (keep : ℕ → Bool) (entries : List RecGroupEntry) (top : ℕ) → AreKeys entries top → KeepsLed keep (made_by entries) → (i : VMSharedTypeIndex) (t : ClosedTree)
    → closed_tree (made_by (kept_entries keep entries)) i ≡ Some t → closed_tree (made_by entries) i ≡ Some t
tree-before keep entries top keys led i t is =
    closed_tree-kept keep (made_by entries) (led-named keep (made_by entries) led) keys.located i t (ap (λ (made : List RegisteredGroup). closed_tree made i) (sym (made-kept keep entries)) ∙ is)

-- the supertypes of what is kept are told still
supertypes-kept : (keep : ℕ → Bool) (entries : List RecGroupEntry) (top : ℕ) → AreKeys entries top → KeepsLed keep (made_by entries) → (entry : RecGroupEntry) → Among entry (kept_entries keep entries)
    → TellsSupertypes (made_by (kept_entries keep entries)) entry
supertypes-kept keep entries top keys led entry at = record { lists = tells.lists; chains = chains }
  where
    found : Among entry entries × (keep entry.number ≡ true)
    found = among_filter (λ (e : RecGroupEntry). keep e.number) entries entry at

    tells : TellsSupertypes (made_by entries) entry
    tells = keys.supertypes entry found.0

    kept : AreKeyed (kept_entries keep entries) top
    kept = keyed-kept keep entries top keys led

    tree : trees (made_by (kept_entries keep entries)) entry.number ≡ trees (made_by entries) entry.number
    tree = ap (λ (made : List RegisteredGroup). trees made entry.number) (made-kept keep entries) ∙ trees-kept keep (made_by entries) entry.number (led-named keep (made_by entries) led) found.1

    chains : (place : ℕ) (list : List VMSharedTypeIndex) → slice_get entry.supertypes place ≡ Some list
        → IsSupertypeChain (closed_tree (made_by (kept_entries keep entries))) (record { tree = trees (made_by (kept_entries keep entries)) entry.number; place = place }) (reverse list)
    chains place list stands =
        let within = slice_get_within entry.supertypes place list stands in
        let lists = tells.lists in
        let members = (keys.keys entry found.0).members in
        let i = get_within entry.shared_type_indices place (omega (arith, within, lists, members)) in
        let here : closed_tree (made_by (kept_entries keep entries)) i.0 ≡ Some (record { tree = trees (made_by entries) entry.number; place = place }) =
        ap (option_map (λ (at : ℕ × ℕ). record { tree = trees (made_by (kept_entries keep entries)) at.0; place = at.1 })) (kept.located (made_of entry) place i.0 (among_mapped made_of (kept_entries keep entries) entry at) i.1)
        ∙ ap (λ (t : Tree). Some (record { tree = t; place = place })) tree in
        subst (λ (t : Tree). IsSupertypeChain (closed_tree (made_by (kept_entries keep entries))) (record { tree = t; place = place }) (reverse list)) (sym tree)
        (chain-kept (closed_tree (made_by entries)) (closed_tree (made_by (kept_entries keep entries))) (entries-map entries top keys) (keyed-map (kept_entries keep entries) top kept) (tree-before keep entries top keys led)
        (record { tree = trees (made_by entries) entry.number; place = place }) i.0 (reverse list) here (tells.chains place list stands))

pub keys-kept : (keep : ℕ → Bool) (entries : List RecGroupEntry) (top : ℕ) → AreKeys entries top → KeepsLed keep (made_by entries) → AreKeys (kept_entries keep entries) top
keys-kept keep entries top keys led =
    let kept = keyed-kept keep entries top keys led in
    record {
      rising = kept.rising;
      keys = kept.keys;
      located = kept.located;
      apart = kept.apart;
      supertypes = supertypes-kept keep entries top keys led;
    }

pub shown-kept : (keep : ℕ → Bool) (entries : List RecGroupEntry) → AreShown entries → AreShown (kept_entries keep entries)
shown-kept keep entries shown entry at = shown entry (among_filter (λ (e : RecGroupEntry). keep e.number) entries entry at).0
