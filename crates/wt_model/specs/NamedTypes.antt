-- What stands in the descriptions of registered groups names types: there are such places, and a supertype is before the
-- type that declares it.
use Rattle.std.specs.Prelude.{◌≡◌, ℕ, ◌<◌, List, length, slice_get, Some}
use Rattle.wt_env.specs.Among.{Among}
use Rattle.wt_env.specs.declared.types.EngineOrModuleTypeIndex.{EngineOrModuleTypeIndex}
use Rattle.wt_env.specs.declared.types.EngineOrModuleTypeIndex.TheVariants as index
use Rattle.wt_env.specs.declared.types.WasmSubType.{WasmSubType}
use Rattle.wt_tree.specs.Tree.{Description}
use Rattle.wt_tree.specs.Kinds.{type_indices}
use Rattle.wt_model.specs.Registered.{RegisteredGroup}

-- a registered group has this number, and a member at this place
abbrev pub HasPlace : List RegisteredGroup → ℕ × ℕ → Type 0
HasPlace made at = (b : RegisteredGroup) × Among b made × (b.number ≡ at.0) × (at.1 < length b.description.members)

-- A type index in the members of a group names a member of the group, or what a numbered slot tells. No engine index
-- stands there.
abbrev pub NamesSlot : Description → EngineOrModuleTypeIndex → Type 0
NamesSlot group (index.Engine i) = ⊥
NamesSlot group (index.Module n) = (at : ℕ × ℕ) × (slice_get group.outer n.0 ≡ Some at)
NamesSlot group (index.RecGroup k) = k < length group.members

-- The supertype of the member at this place names a type before it: an earlier member of the group, or the type of
-- another group that the numbered slot tells.
abbrev pub NamesEarlier : Description → ℕ → EngineOrModuleTypeIndex → Type 0
NamesEarlier group place (index.Engine i) = ⊥
NamesEarlier group place (index.Module n) = (at : ℕ × ℕ) × (slice_get group.outer n.0 ≡ Some at)
NamesEarlier group place (index.RecGroup k) = k < place

-- All that stands in a group names types: each place in another group is one that it has, each type index, supertypes
-- included, is a member or a numbered slot, and each supertype is before the type that declares it.
pub record NamesTypes (made : List RegisteredGroup) (group : Description) : Type 0 where
  pub outer : (at : ℕ × ℕ) → Among at group.outer → HasPlace made at
  pub slots : (ty : WasmSubType) (i : EngineOrModuleTypeIndex) → Among ty group.members → Among i (type_indices ty) → NamesSlot group i
  pub supertypes : (place : ℕ) (ty : WasmSubType) (i : EngineOrModuleTypeIndex) → slice_get group.members place ≡ Some ty → ty.supertype ≡ Some i → NamesEarlier group place i

-- each registered group names types that are registered
abbrev pub NameTypes : List RegisteredGroup → Type 0
NameTypes made = (a : RegisteredGroup) → Among a made → NamesTypes made a.description
