-- The canonical form of a module's group: what is registered is named by its engine index, and a type
-- of the group itself by its place in the group.
use Rattle.std.specs.Prelude.{ℕ, ◌-◌, nat_lt, if◌then◌else◌, List, slice_get, unwrap_or, option_map}
use Rattle.wt_env.specs.declared.types.VMSharedTypeIndex.{VMSharedTypeIndex}
use Rattle.wt_env.specs.declared.types.ModuleInternedTypeIndex.{ModuleInternedTypeIndex}
use Rattle.wt_env.specs.declared.types.EngineOrModuleTypeIndex.{EngineOrModuleTypeIndex}
use Rattle.wt_env.specs.declared.types.EngineOrModuleTypeIndex.TheVariants as index

-- the engine index of a module's type, where it is known; else the type stays as it is
abbrev pub known_at : List VMSharedTypeIndex → ModuleInternedTypeIndex → EngineOrModuleTypeIndex
known_at known i = unwrap_or (option_map index.Engine (slice_get known i.0)) (index.Module i)

abbrev pub known_index : List VMSharedTypeIndex → EngineOrModuleTypeIndex → EngineOrModuleTypeIndex
known_index known (index.Engine i) = index.Engine i
known_index known (index.Module i) = known_at known i
known_index known (index.RecGroup k) = index.RecGroup k

-- a type of the group that begins at the module's index start, as its place in the group
abbrev pub own_index : ℕ → EngineOrModuleTypeIndex → EngineOrModuleTypeIndex
own_index start (index.Engine i) = index.Engine i
own_index start (index.Module i) = if nat_lt i.0 start then index.Module i else index.RecGroup (i.0 - start)
own_index start (index.RecGroup k) = index.RecGroup k

-- both at once
abbrev pub canonical_index : ℕ → List VMSharedTypeIndex → EngineOrModuleTypeIndex → EngineOrModuleTypeIndex
canonical_index start known (index.Engine i) = index.Engine i
canonical_index start known (index.Module i) = if nat_lt i.0 start then known_at known i else index.RecGroup (i.0 - start)
canonical_index start known (index.RecGroup k) = index.RecGroup k
