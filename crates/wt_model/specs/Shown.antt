-- Every reference as an index: the form in which a registered type is shown.
use Rattle.std.specs.Prelude.{ℕ, ◌==◌, List, [], ◌∷◌, slice_get, if◌then◌else◌, Option, Some, None, option_map, unwrap_or}
use Rattle.wt_env.specs.declared.types.VMSharedTypeIndex.{VMSharedTypeIndex}
use Rattle.wt_env.specs.declared.types.EngineOrModuleTypeIndex.{EngineOrModuleTypeIndex}
use Rattle.wt_env.specs.declared.types.EngineOrModuleTypeIndex.TheVariants as index
use Rattle.wt_env.specs.declared.types.WasmSubType.{WasmSubType}
use Rattle.wt_tree.specs.MapRefs.{map_group_refs}
use Rattle.wt_model.specs.Registered.{RegisteredGroup}
use Rattle.wt_model.specs.Indices.{place_in}

-- the index at a place of the group with this number; 0 where there is none
abbrev pub index_at : List RegisteredGroup → ℕ × ℕ → VMSharedTypeIndex
index_at [] at = record { 0 = 0 }
index_at (made ∷ rest) at = if made.number == at.0 then unwrap_or (slice_get made.indices at.1) (record { 0 = 0 }) else index_at rest at

-- a reference in the members of a registered group, as the index of the type that it names
abbrev pub shown_index : List RegisteredGroup → RegisteredGroup → EngineOrModuleTypeIndex → EngineOrModuleTypeIndex
shown_index made group (index.Engine i) = index.Engine i
shown_index made group (index.Module n) = unwrap_or (option_map (λ at. index.Engine (index_at made at)) (slice_get group.description.outer n.0)) (index.Module n)
shown_index made group (index.RecGroup k) = unwrap_or (option_map index.Engine (slice_get group.indices k)) (index.RecGroup k)

-- the members of a registered group, with every reference as an index
abbrev pub shown : List RegisteredGroup → RegisteredGroup → List WasmSubType
shown made group = map_group_refs (shown_index made group) group.description.members

abbrev pub member_here : Option ℕ → List WasmSubType → Option WasmSubType → Option WasmSubType
member_here (Some place) members later = slice_get members place
member_here None members later = later

abbrev pub shown_at : List RegisteredGroup → List RegisteredGroup → VMSharedTypeIndex → Option WasmSubType
shown_at made [] i = None
shown_at made (group ∷ rest) i = member_here (place_in i group.indices) (shown made group) (shown_at made rest i)

-- the sub type that has this index, with every reference as an index
abbrev pub sub_type_at : List RegisteredGroup → VMSharedTypeIndex → Option WasmSubType
sub_type_at made i = shown_at made made i
