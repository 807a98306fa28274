-- The declared supertypes of registered types as lists of their indices, and what each entry keeps of them.
use Rattle.std.specs.Prelude.{◌≡◌, ℕ, List, [], ◌∷◌, ◌++◌, length, reverse, slice_get, Option, Some, None, option_and_then, is_some, Bool, false, ◌==◌}
use Rattle.std.specs.List.{find}
use Rattle.wt_env.specs.declared.types.VMSharedTypeIndex.{VMSharedTypeIndex}
use Rattle.wt_env.specs.declared.types.EngineOrModuleTypeIndex.{EngineOrModuleTypeIndex}
use Rattle.wt_env.specs.declared.types.EngineOrModuleTypeIndex.TheVariants as index
use Rattle.wt_env.specs.declared.types.WasmSubType.{WasmSubType}
use Rattle.wt_tree.specs.Tree.{ClosedTree}
use Rattle.wt_tree.specs.Subtyping.{supertype_of}
use Rattle.wt_model.specs.Registered.{RegisteredGroup}
use Rattle.wt_model.specs.Trees.{trees}
use Rattle.wt_model.specs.Indices.{place_in, closed_tree}
use Rattle.wt_keys.specs.declared.entry.RecGroupEntry.{RecGroupEntry}

-- these are the indices of the declared supertypes of a closed tree, the direct one first and the one that has none last
abbrev pub IsSupertypeChain : (VMSharedTypeIndex → Option ClosedTree) → ClosedTree → List VMSharedTypeIndex → Type 0
IsSupertypeChain types t [] = supertype_of t ≡ None
IsSupertypeChain types t (j ∷ rest) = (s : ClosedTree) × (supertype_of t ≡ Some s) × (types j ≡ Some s) × IsSupertypeChain types s rest

-- Each member of an entry has its list, of which the direct supertype is the last.
pub record TellsSupertypes (made : List RegisteredGroup) (entry : RecGroupEntry) : Type 0 where
  pub lists : length entry.supertypes ≡ length entry.hash_consing_key.types
  pub chains : (place : ℕ) (list : List VMSharedTypeIndex) → slice_get entry.supertypes place ≡ Some list
      → IsSupertypeChain (closed_tree made) (record { tree = trees made entry.number; place = place }) (reverse list)

-- the list that the entry keeps of the type that has this index
abbrev pub list_in : VMSharedTypeIndex → Option RecGroupEntry → Option (List VMSharedTypeIndex)
list_in i None = None
list_in i (Some entry) = option_and_then (slice_get entry.supertypes) (place_in i entry.shared_type_indices)

-- the list that is kept of the type that has this index
abbrev pub list_of : List RecGroupEntry → VMSharedTypeIndex → Option (List VMSharedTypeIndex)
list_of entries i = list_in i (find (λ entry. is_some (place_in i entry.shared_type_indices)) entries)

-- whether what was read is this index
abbrev pub is_index : Option VMSharedTypeIndex → VMSharedTypeIndex → Bool
is_index None i = false
is_index (Some j) i = j.0 == i.0

-- ---- a new group

-- a list is that of a type, and behind it the index of that type
abbrev pub IsListBehind : Option (List VMSharedTypeIndex) → VMSharedTypeIndex → List VMSharedTypeIndex → Type 0
IsListBehind above i list = (supertypes : List VMSharedTypeIndex) × (above ≡ Some supertypes) × (list ≡ supertypes ++ i ∷ [])

-- The list of a member of a key is that of the supertype that it declares, and behind it that supertype: the type of an
-- entry, or a member of the key, with these indices and lists. With no supertype it is empty.
abbrev pub FollowsSupertype : List RecGroupEntry → List VMSharedTypeIndex → List (List VMSharedTypeIndex) → Option EngineOrModuleTypeIndex → List VMSharedTypeIndex → Type 0
FollowsSupertype entries indices lists None list = list ≡ []
FollowsSupertype entries indices lists (Some (index.Engine i)) list = IsListBehind (list_of entries i) i list
FollowsSupertype entries indices lists (Some (index.Module n)) list = ⊥
FollowsSupertype entries indices lists (Some (index.RecGroup k)) list =
    (i : VMSharedTypeIndex) × (slice_get indices k ≡ Some i) × IsListBehind (slice_get lists k) i list

-- each member of a key has its list, where the members have these indices
pub record FollowSupertypes (entries : List RecGroupEntry) (indices : List VMSharedTypeIndex) (types : List WasmSubType) (lists : List (List VMSharedTypeIndex)) : Type 0 where
  pub many : length lists ≡ length types
  pub each : (place : ℕ) (ty : WasmSubType) (list : List VMSharedTypeIndex) → slice_get types place ≡ Some ty → slice_get lists place ≡ Some list
      → FollowsSupertype entries indices lists ty.supertype list
