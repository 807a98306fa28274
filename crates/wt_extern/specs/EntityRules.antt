-- Which data of imports and exports are external types of an engine: what they name, what is said of a memory, and the
-- limits of a table (WebAssembly 3.0, "External Types", "Memory Types" and "Limits").
use Rattle.std.specs.Prelude.{ℕ, ◌^◌, ◌-◌, Bool, true, not, ◌&&◌, ◌||◌, nat_lt, is_none, List, [], ◌∷◌}
use Rattle.wt_env.specs.declared.types.EngineOrModuleTypeIndex.{EngineOrModuleTypeIndex}
use Rattle.wt_tree.specs.Kinds.{kinded_heap, kinded_val, indices_of}
use Rattle.wt_extern.specs.declared.entity.Limits.{Limits}
use Rattle.wt_extern.specs.declared.entity.Global.{Global}
use Rattle.wt_extern.specs.declared.entity.Table.{Table}
use Rattle.wt_extern.specs.declared.entity.Memory.{Memory}
use Rattle.wt_extern.specs.declared.entity.EntityType.{EntityType}
use Rattle.wt_extern.specs.declared.entity.EntityType.TheVariants as entity
use Rattle.wt_extern.specs.Entities.{has_64_bits}
use Rattle.wt_extern.specs.Memory.{MemorySettings, some_is, memory_refusal}

-- ---- every type index that stands in it

abbrev pub global_indices : Global → List EngineOrModuleTypeIndex
global_indices g = indices_of (kinded_val g.wasm_ty)

abbrev pub table_indices : Table → List EngineOrModuleTypeIndex
table_indices t = indices_of (kinded_heap t.ref_type.heap_type)

abbrev pub entity_indices : EntityType → List EngineOrModuleTypeIndex
entity_indices (entity.Function i) = i ∷ []
entity_indices (entity.Global g) = global_indices g
entity_indices (entity.Table t) = table_indices t
entity_indices (entity.Memory m) = []
entity_indices (entity.Tag t) = t.signature ∷ []

-- ---- memories

-- what is said of a memory, as a builder takes it
abbrev pub memory_settings : Memory → MemorySettings
memory_settings m = record { minimum = m.limits.min; maximum = m.limits.max; is_64 = has_64_bits m.idx_type; is_shared = m.shared; page_size_log2 = m.page_size_log2 }

-- a builder accepts it
abbrev pub is_memory : Memory → Bool
is_memory m = is_none (memory_refusal (memory_settings m))

-- where it is a memory, a builder accepts it
abbrev pub has_memory_type : EntityType → Bool
has_memory_type (entity.Memory m) = is_memory m
has_memory_type _ = true

-- ---- tables

-- the maximum is below the minimum
abbrev pub has_low_maximum : Limits → Bool
has_low_maximum l = some_is l.max (λ most. nat_lt most l.min)

-- 32 bits don't hold the number
abbrev pub passes_u32 : ℕ → Bool
passes_u32 n = nat_lt (2 ^ 32 - 1) n

-- 32 bits don't hold the minimum or the maximum
abbrev pub has_large_limits : Limits → Bool
has_large_limits l = passes_u32 l.min || some_is l.max passes_u32

-- the maximum isn't below the minimum, and a table of 32 bits has limits that these hold
abbrev pub table_obeys_limits : Table → Bool
table_obeys_limits t = not (has_low_maximum t.limits) && (has_64_bits t.idx_type || not (has_large_limits t.limits))

-- where it is a table, it obeys the limits
abbrev pub obeys_limits : EntityType → Bool
obeys_limits (entity.Table t) = table_obeys_limits t
obeys_limits _ = true
