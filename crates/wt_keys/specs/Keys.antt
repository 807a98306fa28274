-- Groups by keys: what is true of the key of each registered group, and of the form in which it is shown.
use Rattle.std.specs.Prelude.{◌≡◌, ℕ, ◌+◌, ◌<◌, List, length, map, slice_get, Option, Some, None, option_map, option_and_then, unwrap_or}
use Rattle.std.specs.List.{find}
use Rattle.wt_env.specs.Equality.{rec_group_eq}
use Rattle.wt_env.specs.declared.types.VMSharedTypeIndex.{VMSharedTypeIndex}
use Rattle.wt_env.specs.declared.types.EngineOrModuleTypeIndex.{EngineOrModuleTypeIndex}
use Rattle.wt_env.specs.declared.types.EngineOrModuleTypeIndex.TheVariants as index
use Rattle.wt_env.specs.declared.types.WasmSubType.{WasmSubType}
use Rattle.wt_tree.specs.References.{group_refs}
use Rattle.wt_tree.specs.MapRefs.{map_group_refs}
use Rattle.wt_tree.specs.Kinds.{type_indices}
use Rattle.wt_keys.specs.declared.entry.RecGroupEntry.{RecGroupEntry}
use Rattle.wt_model.specs.Registered.{RegisteredGroup}
use Rattle.wt_env.specs.Among.{Among}
use Rattle.wt_model.specs.Trees.{trees}
use Rattle.wt_model.specs.NamedTypes.{NamesTypes}
use Rattle.wt_model.specs.Trampolines.{TellTrampolines}
use Rattle.wt_model.specs.Indices.{locate, place_in, used, AreUnused, AreDistinct}
use Rattle.wt_model.specs.Sound.{IsRising, IsLocated}
use Rattle.wt_keys.specs.Entries.{made_of, made_by}
use Rattle.wt_keys.specs.SupertypeChains.{TellsSupertypes, FollowSupertypes}

-- the number and place that a reference of a key names
abbrev pub named_at : List RegisteredGroup → EngineOrModuleTypeIndex → Option (ℕ × ℕ)
named_at made (index.Engine i) = locate made i
named_at made (index.Module i) = None
named_at made (index.RecGroup k) = None

-- each reference that leaves these types is the index of a registered type, and this is its number and place
abbrev pub ResolvesTo : List RegisteredGroup → List WasmSubType → List (ℕ × ℕ) → Type 0
ResolvesTo made types outer = map (named_at made) (group_refs types) ≡ map Some outer

-- a type index in a key: a registered type, or a member of the key
abbrev pub KeyNamesSlot : List WasmSubType → EngineOrModuleTypeIndex → Type 0
KeyNamesSlot types (index.Engine i) = Unit {0}
KeyNamesSlot types (index.Module n) = ⊥
KeyNamesSlot types (index.RecGroup k) = k < length types

-- the supertype of the member at this place names a type before it: a registered one, or an earlier member of the key
abbrev pub KeyNamesEarlier : ℕ → EngineOrModuleTypeIndex → Type 0
KeyNamesEarlier place (index.Engine i) = Unit {0}
KeyNamesEarlier place (index.Module n) = ⊥
KeyNamesEarlier place (index.RecGroup k) = k < place

-- Each type index in the types of a key, supertypes included, is a registered type or a member of the key, and each
-- supertype is before the type that declares it.
pub record KeyNamesTypes (types : List WasmSubType) : Type 0 where
  pub slots : (ty : WasmSubType) (i : EngineOrModuleTypeIndex) → Among ty types → Among i (type_indices ty) → KeyNamesSlot types i
  pub supertypes : (place : ℕ) (ty : WasmSubType) (i : EngineOrModuleTypeIndex) → slice_get types place ≡ Some ty → ty.supertype ≡ Some i → KeyNamesEarlier place i

-- What is true of one entry among those that are registered: its references that leave are indices of
-- registered types, which outer tells, of older groups; it has one index for each member; what stands in it names
-- types; and the trampolines of its members are told, which are older groups too.
pub record IsKey (made : List RegisteredGroup) (entry : RecGroupEntry) : Type 0 where
  pub names : ResolvesTo made entry.hash_consing_key.types entry.outer
  pub older : (reference : ℕ × ℕ) → Among reference entry.outer → reference.0 < entry.number
  pub members : length entry.shared_type_indices ≡ length entry.hash_consing_key.types
  pub name_types : NamesTypes made (made_of entry).description
  pub trampolines : TellTrampolines made (made_of entry).description.members entry.trampolines
  pub older_trampolines : (number : ℕ) → Among (Some number) entry.trampolines → number < entry.number

-- registered groups with different numbers have different trees
abbrev pub AreApartTrees : List RegisteredGroup → Type 0
AreApartTrees made = (a b : RegisteredGroup) → Among a made → Among b made → trees made a.number ≡ trees made b.number → a.number ≡ b.number

-- what is true of all entries, of which none has a number above top
pub record AreKeys (entries : List RecGroupEntry) (top : ℕ) : Type 0 where
  pub rising : IsRising 0 (made_by entries) top
  pub keys : (entry : RecGroupEntry) → Among entry entries → IsKey (made_by entries) entry
  pub located : IsLocated (made_by entries)
  pub apart : AreApartTrees (made_by entries)
  pub supertypes : (entry : RecGroupEntry) → Among entry entries → TellsSupertypes (made_by entries) entry

-- ---- a new entry

-- what an entry needs to be added: the next number, a key that no entry has, indices of its own, and the list of each
-- member behind that of its supertype
pub record IsNewKey (entries : List RecGroupEntry) (top : ℕ) (entry : RecGroupEntry) : Type 0 where
  pub number : entry.number ≡ top + 1
  pub key : IsKey (made_by entries) entry
  pub new : find (λ e. rec_group_eq e.hash_consing_key entry.hash_consing_key) entries ≡ None
  pub unused : AreUnused (used (made_by entries)) entry.shared_type_indices
  pub distinct : AreDistinct entry.shared_type_indices
  pub within : (i : VMSharedTypeIndex) → Among i entry.shared_type_indices → i.0 < length (used (made_by entries)) + length entry.shared_type_indices
  pub supertypes : FollowSupertypes entries entry.shared_type_indices entry.hash_consing_key.types entry.supertypes

-- ---- every reference as an index

-- a reference of a key, with those to its own members as indices
abbrev pub own_shown : List VMSharedTypeIndex → EngineOrModuleTypeIndex → EngineOrModuleTypeIndex
own_shown indices (index.Engine i) = index.Engine i
own_shown indices (index.Module i) = index.Module i
own_shown indices (index.RecGroup k) = unwrap_or (option_map index.Engine (slice_get indices k)) (index.RecGroup k)

-- the form of an entry's members that is shown has every reference as an index
abbrev pub AreShown : List RecGroupEntry → Type 0
AreShown entries = (entry : RecGroupEntry) → Among entry entries → entry.runtime_types ≡ map_group_refs (own_shown entry.shared_type_indices) entry.hash_consing_key.types

-- the number of an entry, and the place of an index in it
abbrev pub at_entry : VMSharedTypeIndex → RecGroupEntry → Option (ℕ × ℕ)
at_entry i entry = option_map (λ place. (entry.number, place)) (place_in i entry.shared_type_indices)

-- what an entry shows at the place of an index
abbrev pub shown_in : VMSharedTypeIndex → Option RecGroupEntry → Option WasmSubType
shown_in i None = None
shown_in i (Some entry) = option_and_then (slice_get entry.runtime_types) (place_in i entry.shared_type_indices)
