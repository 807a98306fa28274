-- Where the types of a key name types, by engine indices and places of their own, so does the description of the
-- key, by numbered slots.
use Rattle.std.proofs.Common.{◌≡◌, ℕ, true, List, slice_get, Option, Some, None, option_map, unwrap_or, refl, sym, ap, subst, ◌∙◌, arith}
use Rattle.std.proofs.lemmas.Bool.{false≢true}
use Rattle.std.proofs.lemmas.Option.{slice_get-map, slice_get_within}
use Rattle.wt_env.specs.Among.{Among}
use Rattle.wt_env.specs.declared.types.VMSharedTypeIndex.{VMSharedTypeIndex}
use Rattle.wt_env.specs.declared.types.ModuleInternedTypeIndex.{ModuleInternedTypeIndex}
use Rattle.wt_env.specs.declared.types.EngineOrModuleTypeIndex.{EngineOrModuleTypeIndex}
use Rattle.wt_env.specs.declared.types.EngineOrModuleTypeIndex.TheVariants as index
use Rattle.wt_env.specs.declared.types.WasmSubType.{WasmSubType}
use Rattle.wt_env.proofs.lists.Mapped.{among_map, among_mapped}
use Rattle.wt_env.proofs.lists.Members.{get_among}
use Rattle.wt_tree.specs.References.{number_group, group_refs}
use Rattle.wt_tree.specs.MapRefs.{LeavesOwn, leaves_group, map_sub_refs, map_group_refs, fill_index}
use Rattle.wt_tree.specs.Tree.{Description}
use Rattle.wt_tree.proofs.Leaving.{leaves_own, number_group-over}
use Rattle.wt_tree.proofs.Numbering.{refill_group, length-number_group}
use Rattle.wt_tree.specs.Kinds.{type_indices}
use Rattle.wt_tree.proofs.ChangedKinds.{type_indices-changed}
use Rattle.wt_tree.proofs.ShownSupertypes.{supertype-among}
use Rattle.wt_model.specs.Registered.{RegisteredGroup}
use Rattle.wt_model.specs.NamedTypes.{HasPlace, NamesSlot, NamesEarlier, NamesTypes}
use Rattle.wt_model.specs.Sound.{AreIndexed}
use Rattle.wt_model.proofs.indices.Places.{locate-at}
use Rattle.wt_keys.specs.Keys.{named_at, ResolvesTo, KeyNamesSlot, KeyNamesEarlier, KeyNamesTypes}

-- ---- the numbered members, with their slots filled in

-- a numbered member, filled in, is one of the key
pub filled : (types : List WasmSubType) (ty : WasmSubType) → Among ty (number_group types) → Among (map_sub_refs (fill_index (group_refs types)) ty) types
filled types ty at =
    let fill = fill_index (group_refs types) in
    subst (Among (map_sub_refs fill ty)) (refill_group types) (among_mapped (map_sub_refs fill) (number_group types) ty at)

-- and so at its place
filled_at : (types : List WasmSubType) (place : ℕ) (ty : WasmSubType) → slice_get (number_group types) place ≡ Some ty → slice_get types place ≡ Some (map_sub_refs (fill_index (group_refs types)) ty)
filled_at types place ty is =
    let fill = fill_index (group_refs types) in
    ap (λ (ts : List WasmSubType). slice_get ts place) (sym (refill_group types))
    ∙ slice_get-map (map_sub_refs fill) (number_group types) place
    ∙ ap (option_map (map_sub_refs fill)) is

indices-changed : (f : EngineOrModuleTypeIndex → EngineOrModuleTypeIndex) (ty : WasmSubType) (i : EngineOrModuleTypeIndex) → Among i (type_indices ty) → Among (f i) (type_indices (map_sub_refs f ty))
indices-changed f ty i at = subst (Among (f i)) (sym (type_indices-changed f ty)) (among_mapped f (type_indices ty) i at)

-- ---- no engine index stands in a numbered member: it would be the same where there is none to number

abbrev without_engine : EngineOrModuleTypeIndex → EngineOrModuleTypeIndex
without_engine (index.Engine i) = index.Module (record { 0 = 0 })
without_engine (index.Module i) = index.Module i
without_engine (index.RecGroup k) = index.RecGroup k

without_engine-leaves : LeavesOwn without_engine
without_engine-leaves = leaves_own without_engine (λ k. refl) leaving
  where
    leaving : (i : EngineOrModuleTypeIndex) → leaves_group i ≡ true → leaves_group (without_engine i) ≡ true
    leaving (index.Engine i) leaves = refl
    leaving (index.Module i) leaves = refl
    leaving (index.RecGroup k) leaves = absurd (false≢true leaves)

never_engine : (i : VMSharedTypeIndex) (j : EngineOrModuleTypeIndex) → index.Engine i ≡ without_engine j → ⊥
never_engine i (index.Engine j) same = absurd (cc)
never_engine i (index.Module j) same = absurd (cc)
never_engine i (index.RecGroup k) same = absurd (cc)

pub no_engine : (types : List WasmSubType) (ty : WasmSubType) (i : VMSharedTypeIndex) → Among ty (number_group types) → Among (index.Engine i) (type_indices ty) → ⊥
no_engine types ty i at there =
    let others = map_group_refs without_engine types in
    let fill = fill_index (group_refs others) in
    let among = filled others ty (subst (Among ty) (sym (number_group-over without_engine without_engine-leaves types)) at) in
    let source = among_map (map_sub_refs without_engine) types (map_sub_refs fill ty) among in
    let changed = subst (λ (t : WasmSubType). Among (index.Engine i) (type_indices t)) source.2 (indices-changed fill ty (index.Engine i) there) in
    let from = among_map without_engine (type_indices source.0) (index.Engine i) (subst (Among (index.Engine i)) (type_indices-changed without_engine source.0) changed) in
    never_engine i from.0 from.2

-- ---- what leaves a key

-- what a reference of a key that leaves it names is the entry of outer with its number
slot_at : (made : List RegisteredGroup) (types : List WasmSubType) (outer : List (ℕ × ℕ)) (n : ℕ) (r : EngineOrModuleTypeIndex) → ResolvesTo made types outer → slice_get (group_refs types) n ≡ Some r
    → option_map Some (slice_get outer n) ≡ Some (named_at made r)
slot_at made types outer n r names is =
    sym (slice_get-map Some outer n)
    ∙ ap (λ (found : List (Option (ℕ × ℕ))). slice_get found n) (sym names)
    ∙ slice_get-map (named_at made) (group_refs types) n
    ∙ ap (option_map (named_at made)) is

slot_there : (found named : Option (ℕ × ℕ)) → option_map Some found ≡ Some named → (at : ℕ × ℕ) × (found ≡ Some at)
slot_there None named is = absurd (cc)
slot_there (Some at) named is = (at, refl)

located_place : (made : List RegisteredGroup) (x : EngineOrModuleTypeIndex) (at : ℕ × ℕ) → AreIndexed made → named_at made x ≡ Some at → HasPlace made at
located_place made (index.Engine i) at indexed is =
    let place = locate-at made i at is in
    let within = slice_get_within place.group.indices at.1 i place.place in
    let many = indexed place.group place.among in
    (place.group, place.among, place.number, omega (arith, within, many))
located_place made (index.Module i) at indexed is = absurd (cc)
located_place made (index.RecGroup k) at indexed is = absurd (cc)

-- each entry of outer is a place of a registered group
outer_places : (made : List RegisteredGroup) (types : List WasmSubType) (outer : List (ℕ × ℕ)) → AreIndexed made → ResolvesTo made types outer → (at : ℕ × ℕ) → Among at outer → HasPlace made at
outer_places made types outer indexed names at there =
    let found = among_map (named_at made) (group_refs types) (Some at) (subst (Among (Some at)) (sym names) (among_mapped Some outer at there)) in
    located_place made found.0 at indexed (sym found.2)

-- ---- all that stands in a key

module _ (made : List RegisteredGroup) (types : List WasmSubType) (outer : List (ℕ × ℕ)) (names : ResolvesTo made types outer) (key : KeyNamesTypes types) where
  abbrev described : Description
  described = record { members = number_group types; outer = outer }

  slot_told : (n : ModuleInternedTypeIndex) (found : Option EngineOrModuleTypeIndex) → slice_get (group_refs types) n.0 ≡ found
      → KeyNamesSlot types (unwrap_or found (index.Module n)) → NamesSlot described (index.Module n)
  slot_told n None is slot = absurd slot
  slot_told n (Some r) is slot = slot_there (slice_get outer n.0) (named_at made r) (slot_at made types outer n.0 r names is)

  slots_named : (ty : WasmSubType) (i : EngineOrModuleTypeIndex) → Among ty (number_group types) → Among i (type_indices ty) → NamesSlot described i
  slots_named ty (index.Engine i) at there = absurd (no_engine types ty i at there)
  slots_named ty (index.Module n) at there =
      let fill = fill_index (group_refs types) in
      slot_told n (slice_get (group_refs types) n.0) refl
      (key.slots (map_sub_refs fill ty) (fill (index.Module n)) (filled types ty at) (indices-changed fill ty (index.Module n) there))
  slots_named ty (index.RecGroup k) at there =
      let fill = fill_index (group_refs types) in
      let within = key.slots (map_sub_refs fill ty) (index.RecGroup k) (filled types ty at) (indices-changed fill ty (index.RecGroup k) there) in
      let many = length-number_group types in
      omega (arith, within, many)

  -- the supertype of a numbered member is the numbered supertype of the key's member there
  super_filled : (place : ℕ) (ty : WasmSubType) (i : EngineOrModuleTypeIndex) → slice_get (number_group types) place ≡ Some ty → ty.supertype ≡ Some i → KeyNamesEarlier place (fill_index (group_refs types) i)
  super_filled place ty i at is =
      let fill = fill_index (group_refs types) in
      key.supertypes place (map_sub_refs fill ty) (fill i) (filled_at types place ty at) (ap (option_map fill) is)

  -- a supertype is one of the type's indices
  super_slot : (place : ℕ) (ty : WasmSubType) (i : EngineOrModuleTypeIndex) → slice_get (number_group types) place ≡ Some ty → ty.supertype ≡ Some i → NamesSlot described i
  super_slot place ty i at is = slots_named ty i (get_among (number_group types) place ty at) (supertype-among ty i is)

  supertypes_named : (place : ℕ) (ty : WasmSubType) (i : EngineOrModuleTypeIndex) → slice_get (number_group types) place ≡ Some ty → ty.supertype ≡ Some i → NamesEarlier described place i
  supertypes_named place ty (index.Engine i) at is = super_slot place ty (index.Engine i) at is
  supertypes_named place ty (index.Module n) at is = super_slot place ty (index.Module n) at is
  supertypes_named place ty (index.RecGroup k) at is = super_filled place ty (index.RecGroup k) at is

  pub names_types-key : AreIndexed made → NamesTypes made described
  names_types-key indexed = record { outer = outer_places made types outer indexed names; slots = slots_named; supertypes = supertypes_named }
