-- The indices of function types, and the trampolines that a module's types tell.
use Rattle.std.specs.Prelude.{◌≡◌, ℕ, ◌==◌, List, slice_get, true, if◌then◌else◌, Option, Some, None, option_map}
use Rattle.std.specs.List.{list_any}
use Rattle.wt_env.specs.Among.{Among}
use Rattle.wt_env.specs.declared.types.ModuleInternedTypeIndex.{ModuleInternedTypeIndex}
use Rattle.wt_env.specs.declared.types.VMSharedTypeIndex.{VMSharedTypeIndex}
use Rattle.wt_env.specs.declared.types.WasmSubType.{WasmSubType}
use Rattle.wt_rules.specs.Rules.{is_function}
use Rattle.wt_model.specs.Registered.{RegisteredGroup}
use Rattle.wt_model.specs.Indices.{place_in}
use Rattle.wt_model.specs.Holds.{Collection}

-- a registered group has the index at the place of a member that is a function
abbrev pub IsFunctionIndex : List RegisteredGroup → VMSharedTypeIndex → Type 0
IsFunctionIndex made i =
    (g : RegisteredGroup) × (place : ℕ) × (ty : WasmSubType) × Among g made
    × (slice_get g.indices place ≡ Some i) × (slice_get g.description.members place ≡ Some ty) × (is_function ty ≡ true)

-- the first type of a module that is registered at this index
abbrev pub module_type : Collection → VMSharedTypeIndex → Option ModuleInternedTypeIndex
module_type types i = option_map (λ place. record { 0 = place }) (place_in i types.map)

-- the first type of a module that is registered at this index, where this is the trampoline of one of its types
abbrev pub module_trampoline : Collection → VMSharedTypeIndex → Option ModuleInternedTypeIndex
module_trampoline types i = if list_any (λ j. j.0 == i.0) types.trampolines then module_type types i else None
