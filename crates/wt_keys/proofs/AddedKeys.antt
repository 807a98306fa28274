-- What is true of all keys stays true where a new entry is added, and what follows for the registry: one index
-- for each closed tree, and the closed tree of each index.
use Rattle.std.proofs.Common.{◌≡◌, ◌≢◌, ◌⊎◌, ℕ, ◌+◌, ◌<◌, inl, inr, true, List, [], ◌∷◌, ◌++◌, length, map, reverse, slice_get, Some, option_map, refl, sym, ap, subst, ◌∙◌, arith}
use Rattle.std.proofs.lemmas.Bool.{false≢true}
use Rattle.std.proofs.lemmas.List.{map-append}
use Rattle.wt_env.specs.Equality.{rec_group_eq, rec_group_eq-refl}
use Rattle.wt_env.specs.declared.types.VMSharedTypeIndex.{VMSharedTypeIndex}
use Rattle.wt_env.specs.declared.types.EngineOrModuleTypeIndex.{EngineOrModuleTypeIndex}
use Rattle.wt_env.specs.declared.types.EngineOrModuleTypeIndex.TheVariants as index
use Rattle.wt_env.specs.declared.types.WasmSubType.{WasmSubType}
use Rattle.wt_tree.specs.References.{number_group, group_refs}
use Rattle.wt_tree.specs.Tree.{Description, ClosedTree, close}
use Rattle.wt_tree.proofs.Closing.{close-agree}
use Rattle.wt_keys.specs.declared.entry.RecGroupEntry.{RecGroupEntry}
use Rattle.wt_model.specs.Registered.{RegisteredGroup}
use Rattle.wt_env.specs.Among.{Among}
use Rattle.wt_model.specs.Trees.{trees}
use Rattle.wt_model.specs.Indices.{locate, closed_tree}
use Rattle.wt_model.specs.Describe.{tree_of}
use Rattle.wt_model.specs.NamedTypes.{NameTypes}
use Rattle.wt_model.specs.Trampolines.{TellTrampolines}
use Rattle.wt_model.proofs.Trampolines.{tell-before, tell-registered}
use Rattle.wt_model.specs.Sound.{IsRising, IsLocated, OneIndexPerTree, NamesOlder, AreIndexed}
use Rattle.wt_keys.specs.Entries.{made_of, made_by}
use Rattle.wt_keys.specs.Keys.{named_at, ResolvesTo, KeyNamesTypes, IsKey, AreApartTrees, AreKeys, IsNewKey}
use Rattle.wt_env.proofs.lists.Mapped.{among_map, among_mapped, among_last}
use Rattle.wt_env.proofs.lists.Members.{first_same, rest_same, among_pushed, find-none}
use Rattle.wt_model.proofs.indices.Rising.{number_within, rising-pushed}
use Rattle.wt_model.proofs.indices.Places.{locate-at, locate-before, located-added}
use Rattle.wt_model.proofs.trees.KnownTrees.{closed_tree-located}
use Rattle.wt_keys.proofs.ToldLists.{list-told}
use Rattle.wt_model.proofs.trees.Trees.{trees-pushed, trees-pushed_own}
use Rattle.wt_model.proofs.NamedTypes.{names_types-before}
use Rattle.wt_keys.proofs.KeyTrees.{describe-named, names-registered, key-tree}
use Rattle.wt_keys.proofs.NamedByKeys.{names_types-key}
use Rattle.wt_keys.proofs.KeyedGroups.{AreKeyed, keyed, keyed-indexed, keyed-one_index, keyed-names_older, keyed-name_types}
use Rattle.wt_keys.proofs.NewSupertypes.{new-chains}
use Rattle.wt_keys.proofs.SupertypeLists.{chain-grown}
use Rattle.wt_keys.specs.SupertypeChains.{IsSupertypeChain, TellsSupertypes, list_of}

-- ---- references still name what they did

named-before : (made more : List RegisteredGroup) (x : EngineOrModuleTypeIndex) (o : ℕ × ℕ) → named_at made x ≡ Some o → named_at (made ++ more) x ≡ Some o
named-before made more (index.Engine i) o is = locate-before made more i o is
named-before made more (index.Module i) o is = absurd (cc)
named-before made more (index.RecGroup k) o is = absurd (cc)

refs-before : (made more : List RegisteredGroup) (xs : List EngineOrModuleTypeIndex) (os : List (ℕ × ℕ)) → map (named_at made) xs ≡ map Some os → map (named_at (made ++ more)) xs ≡ map Some os
refs-before made more [] [] is = refl
refs-before made more [] (o ∷ os) is = absurd (cc)
refs-before made more (x ∷ xs) [] is = absurd (cc)
refs-before made more (x ∷ xs) (o ∷ os) is =
    let here = named-before made more x o (first_same is) in
    let rest = refs-before made more xs os (rest_same is) in
    λ t. here t ∷ rest t

-- where groups are added, references name what they named
pub names-before : (made more : List RegisteredGroup) (types : List WasmSubType) (outer : List (ℕ × ℕ)) → ResolvesTo made types outer → ResolvesTo (made ++ more) types outer
names-before made more types outer names = refs-before made more (group_refs types) outer names

key-before : (made more : List RegisteredGroup) (entry : RecGroupEntry) → IsKey made entry → IsKey (made ++ more) entry
key-before made more entry key = record {
  names = names-before made more entry.hash_consing_key.types entry.outer key.names;
  older = key.older;
  members = key.members;
  name_types = names_types-before made more (made_of entry).description key.name_types;
  trampolines = tell-before made more (made_of entry).description.members entry.trampolines key.trampolines;
  older_trampolines = key.older_trampolines;
}

-- a group has as many indices as members
pub indexed : (entries : List RecGroupEntry) (top : ℕ) → AreKeys entries top → AreIndexed (made_by entries)
indexed entries top keys = keyed-indexed entries top (keyed keys)

-- a new entry refers to older groups, since it refers to registered ones; where its key names types, it does
pub is_key-new : (entries : List RecGroupEntry) (top : ℕ) (entry : RecGroupEntry) → AreKeys entries top → entry.number ≡ top + 1 → ResolvesTo (made_by entries) entry.hash_consing_key.types entry.outer → length entry.shared_type_indices ≡ length entry.hash_consing_key.types → KeyNamesTypes entry.hash_consing_key.types
    → TellTrampolines (made_by entries) (number_group entry.hash_consing_key.types) entry.trampolines → IsKey (made_by entries) entry
is_key-new entries top entry keys next names members name_types tell = record {
  names = names;
  older = older;
  members = members;
  name_types = names_types-key (made_by entries) entry.hash_consing_key.types entry.outer names name_types (indexed entries top keys);
  trampolines = tell;
  older_trampolines = older_trampolines;
}
  where
    older_trampolines : (number : ℕ) → Among (Some number) entry.trampolines → number < entry.number
    older_trampolines number at =
        let named = tell-registered (made_by entries) (number_group entry.hash_consing_key.types) entry.trampolines number tell at in
        let within = number_within 0 top (made_by entries) named.0 keys.rising named.1 in
        let same = named.2 in
        omega (arith, next, within, same)

    older : (reference : ℕ × ℕ) → Among reference entry.outer → reference.0 < entry.number
    older reference at =
        let named = names-registered (made_by entries) entry.hash_consing_key.types entry.outer names reference at in
        let within = number_within 0 top (made_by entries) named.0 keys.rising named.1 in
        let same = named.2 in
        omega (arith, next, within, same)

-- ---- an entry more

-- all of it is true where nothing is registered
pub keys-none : (top : ℕ) → AreKeys [] top
keys-none top = record {
  rising = omega arith;
  keys = λ entry at. absurd at;
  located = λ a j i at is. absurd at;
  apart = λ a b at bt same. absurd at;
  supertypes = λ entry at. absurd at;
}

module _ (entries : List RecGroupEntry) (top : ℕ) (entry : RecGroupEntry) (keys : AreKeys entries top) (added : IsNewKey entries top entry) where
  pushed : made_by (entries ++ entry ∷ []) ≡ made_by entries ++ made_of entry ∷ []
  pushed = map-append made_of entries (entry ∷ [])

  other_number : (a : RegisteredGroup) → Among a (made_by entries) → a.number ≢ entry.number
  other_number a at =
      let within = number_within 0 top (made_by entries) a keys.rising at in
      let next = added.number in
      omega (arith, within, next)

  tree-before : (a : RegisteredGroup) → Among a (made_by entries) → trees (made_by entries ++ made_of entry ∷ []) a.number ≡ trees (made_by entries) a.number
  tree-before a at = trees-pushed (made_by entries) (made_of entry) a.number (other_number a at)

  tree-added : trees (made_by entries ++ made_of entry ∷ []) entry.number ≡ tree_of (made_by entries) entry.hash_consing_key.types
  tree-added =
      trees-pushed_own (made_by entries) (made_of entry)
      ∙ ap (close (trees (made_by entries))) (sym (describe-named (made_by entries) entry.hash_consing_key.types entry.outer added.key.names))

  -- no registered group has the tree of the new one, since none has its key
  other_tree : (a : RegisteredGroup) → Among a (made_by entries) → trees (made_by entries) a.number ≡ tree_of (made_by entries) entry.hash_consing_key.types → ⊥
  other_tree a at same =
      let named = among_map made_of entries a at in
      let tree = ap (λ (m : RegisteredGroup). trees (made_by entries) m.number) (sym named.2) ∙ same in
      let types = (key-tree entries top named.0 entry.hash_consing_key.types entry.outer keys named.1 added.key.names).1 tree in
      let passes : rec_group_eq named.0.hash_consing_key entry.hash_consing_key ≡ true = ap (λ ts. rec_group_eq (record { types = ts }) entry.hash_consing_key) types ∙ rec_group_eq-refl entry.hash_consing_key in
      let none = find-none (λ e. rec_group_eq e.hash_consing_key entry.hash_consing_key) entries added.new named.0 named.1 in
      false≢true (sym none ∙ passes)

  apart-pushed : AreApartTrees (made_by entries ++ made_of entry ∷ [])
  apart-pushed a b at bt same = by (among_pushed (made_by entries) (made_of entry) a at) (among_pushed (made_by entries) (made_of entry) b bt)
    where
      own : (c : RegisteredGroup) → c ≡ made_of entry → trees (made_by entries ++ made_of entry ∷ []) c.number ≡ tree_of (made_by entries) entry.hash_consing_key.types
      own c is = ap (λ (m : RegisteredGroup). trees (made_by entries ++ made_of entry ∷ []) m.number) is ∙ tree-added

      by : Among a (made_by entries) ⊎ (a ≡ made_of entry) → Among b (made_by entries) ⊎ (b ≡ made_of entry) → a.number ≡ b.number
      by (inl x) (inl y) = keys.apart a b x y (sym (tree-before a x) ∙ same ∙ tree-before b y)
      by (inl x) (inr f) = absurd (other_tree a x (sym (tree-before a x) ∙ same ∙ own b f))
      by (inr e) (inl y) = absurd (other_tree b y (sym (tree-before b y) ∙ sym same ∙ own a e))
      by (inr e) (inr f) = ap (λ (m : RegisteredGroup). m.number) (e ∙ sym f)

  keys-all : (e : RecGroupEntry) → Among e (entries ++ entry ∷ []) → IsKey (made_by entries ++ made_of entry ∷ []) e
  keys-all e at = by (among_pushed entries entry e at)
    where
      by : Among e entries ⊎ (e ≡ entry) → IsKey (made_by entries ++ made_of entry ∷ []) e
      by (inl there) = key-before (made_by entries) (made_of entry ∷ []) e (keys.keys e there)
      by (inr same) = subst (IsKey (made_by entries ++ made_of entry ∷ [])) (sym same) (key-before (made_by entries) (made_of entry ∷ []) entry added.key)

  -- what is true of keys and indices stays true
  keyed-push : AreKeyed (entries ++ entry ∷ []) (top + 1)
  keyed-push = record {
    rising = subst (λ made. IsRising 0 made (top + 1)) (sym pushed) (rising-pushed 0 top (made_by entries) (made_of entry) keys.rising added.number);
    keys = λ e at. subst (λ made. IsKey made e) (sym pushed) (keys-all e at);
    located = subst IsLocated (sym pushed) (located-added (made_by entries) (made_of entry) keys.located added.unused added.distinct);
    apart = subst AreApartTrees (sym pushed) apart-pushed;
  }

  -- a registered group has the tree that it had
  pub tree-kept : (a : RegisteredGroup) → Among a (made_by entries) → trees (made_by (entries ++ entry ∷ [])) a.number ≡ trees (made_by entries) a.number
  tree-kept a at = ap (λ made. trees made a.number) pushed ∙ tree-before a at

  -- and the new one has that of its key
  pub tree-new : trees (made_by (entries ++ entry ∷ [])) entry.number ≡ tree_of (made_by entries) entry.hash_consing_key.types
  tree-new = ap (λ made. trees made entry.number) pushed ∙ tree-added

  number-kept : (group : RegisteredGroup) (number : ℕ) → Among group (made_by entries) → group.number ≡ number → trees (made_by (entries ++ entry ∷ [])) number ≡ trees (made_by entries) number
  number-kept group number at same =
      ap (trees (made_by (entries ++ entry ∷ []))) (sym same) ∙ tree-kept group at ∙ ap (trees (made_by entries)) same

  -- types whose references are known have the tree that they had
  pub tree_of-kept : (types : List WasmSubType) (outer : List (ℕ × ℕ)) → ResolvesTo (made_by entries) types outer → tree_of (made_by (entries ++ entry ∷ [])) types ≡ tree_of (made_by entries) types
  tree_of-kept types outer names =
      let made = made_by entries in
      let more = made_by (entries ++ entry ∷ []) in
      let description : Description = record { members = number_group types; outer = outer } in
      let still = subst (λ all. ResolvesTo all types outer) (sym pushed) (names-before made (made_of entry ∷ []) types outer names) in
      let group = names-registered made types outer names in
      ap (close (trees more)) (describe-named more types outer still)
      ∙ close-agree (trees more) (trees made) description (λ r at. number-kept (group r at).0 r.0 (group r at).1 (group r at).2)
      ∙ ap (close (trees made)) (sym (describe-named made types outer names))

  -- and an index that was located has the closed tree that it had
  pub closed_tree-kept : (i : VMSharedTypeIndex) (at : ℕ × ℕ) → locate (made_by entries) i ≡ Some at → closed_tree (made_by (entries ++ entry ∷ [])) i ≡ closed_tree (made_by entries) i
  closed_tree-kept i at is =
      let place = locate-at (made_by entries) i at is in
      let still = ap (λ made. locate made i) pushed ∙ locate-before (made_by entries) (made_of entry ∷ []) i at is in
      ap (option_map (λ at. record { tree = trees (made_by (entries ++ entry ∷ [])) at.0; place = at.1 })) still
      ∙ ap (λ tree. Some (record { tree = tree; place = at.1 })) (number-kept place.group at.0 place.among place.number)
      ∙ sym (ap (option_map (λ at. record { tree = trees (made_by entries) at.0; place = at.1 })) is)

  -- each index has the closed tree that it had
  tree-still : (i : VMSharedTypeIndex) (t : ClosedTree) → closed_tree (made_by entries) i ≡ Some t → closed_tree (made_by (entries ++ entry ∷ [])) i ≡ Some t
  tree-still i t is = let found = closed_tree-located (made_by entries) i t is in closed_tree-kept i found.0 found.1 ∙ is

  -- lists that are told are told still
  supertypes-before : (e : RecGroupEntry) → Among e entries → TellsSupertypes (made_by (entries ++ entry ∷ [])) e
  supertypes-before e at = record {
    lists = (keys.supertypes e at).lists;
    chains = λ place list is.
        subst (λ tree. IsSupertypeChain (closed_tree (made_by (entries ++ entry ∷ []))) (record { tree = tree; place = place }) (reverse list)) (sym (tree-kept (made_of e) (among_mapped made_of entries e at)))
        (chain-grown (closed_tree (made_by entries)) (closed_tree (made_by (entries ++ entry ∷ []))) tree-still (record { tree = trees (made_by entries) e.number; place = place }) (reverse list) ((keys.supertypes e at).chains place list is));
  }

  -- so is the list of each index that was there
  told-before : (i : VMSharedTypeIndex) (list : List VMSharedTypeIndex) → list_of entries i ≡ Some list
      → (t : ClosedTree) × (closed_tree (made_by (entries ++ entry ∷ [])) i ≡ Some t) × IsSupertypeChain (closed_tree (made_by (entries ++ entry ∷ []))) t (reverse list)
  told-before i list is =
      let told = list-told entries i list keys.supertypes is in
      (told.0, tree-still i told.0 told.1, chain-grown (closed_tree (made_by entries)) (closed_tree (made_by (entries ++ entry ∷ []))) tree-still told.0 (reverse list) told.2)

  -- what is true of all entries stays true
  pub keys-push : AreKeys (entries ++ entry ∷ []) (top + 1)
  keys-push = record {
    rising = keyed-push.rising;
    keys = keyed-push.keys;
    located = keyed-push.located;
    apart = keyed-push.apart;
    supertypes = λ e at. by e (among_pushed entries entry e at);
  }
    where
      by : (e : RecGroupEntry) → Among e entries ⊎ (e ≡ entry) → TellsSupertypes (made_by (entries ++ entry ∷ [])) e
      by e (inl there) = supertypes-before e there
      by e (inr same) = subst (TellsSupertypes (made_by (entries ++ entry ∷ []))) (sym same)
          (new-chains (entries ++ entry ∷ []) (top + 1) entry keyed-push (among_last entries entry) entries told-before added.supertypes)

-- ---- the registry

-- two registered types have one index exactly where their closed trees are equal
pub one_index : (entries : List RecGroupEntry) (top : ℕ) → AreKeys entries top → OneIndexPerTree (made_by entries)
one_index entries top keys = keyed-one_index entries top (keyed keys)

-- edges lead to older registered groups
pub names_older : (entries : List RecGroupEntry) (top : ℕ) → AreKeys entries top → NamesOlder (made_by entries)
names_older entries top keys = keyed-names_older entries top (keyed keys)

-- each registered group names types
pub name_types : (entries : List RecGroupEntry) (top : ℕ) → AreKeys entries top → NameTypes (made_by entries)
name_types entries top keys = keyed-name_types entries top (keyed keys)

-- the closed tree of each index of a registered group
pub closed_tree-registered : (entries : List RecGroupEntry) (top : ℕ) (entry : RecGroupEntry) (k : ℕ) (i : VMSharedTypeIndex) → AreKeys entries top → Among entry entries → slice_get entry.shared_type_indices k ≡ Some i → closed_tree (made_by entries) i ≡ Some (record { tree = trees (made_by entries) entry.number; place = k })
closed_tree-registered entries top entry k i keys at is =
    ap (option_map (λ at. record { tree = trees (made_by entries) at.0; place = at.1 })) (keys.located (made_of entry) k i (among_mapped made_of entries entry at) is)

-- and of each index of a new one
pub closed_tree-new : (entries : List RecGroupEntry) (top : ℕ) (entry : RecGroupEntry) (k : ℕ) (i : VMSharedTypeIndex) → AreKeys entries top → IsNewKey entries top entry → slice_get entry.shared_type_indices k ≡ Some i → closed_tree (made_by (entries ++ entry ∷ [])) i ≡ Some (record { tree = tree_of (made_by entries) entry.hash_consing_key.types; place = k })
closed_tree-new entries top entry k i keys added is =
    closed_tree-registered (entries ++ entry ∷ []) (top + 1) entry k i (keys-push entries top entry keys added) (among_last entries entry) is
    ∙ ap (λ tree. Some (record { tree = tree; place = k })) (tree-new entries top entry keys added)
