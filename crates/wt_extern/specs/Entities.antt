-- The types of what a module imports and exports as data, with each name of a type as the engine index that it has; and
-- which engine the type is of that one of them names. There is at most one such name in each.
use Rattle.std.specs.Prelude.{ℕ, Bool, true, false, Option, Some, None}
use Rattle.wt_env.specs.declared.types.EngineOrModuleTypeIndex.TheVariants as index
use Rattle.wt_heap.specs.Engines.{ref_engine, val_engine}
use Rattle.wt_heap.specs.ToWasm.{ref_to_wasm, val_to_wasm, is_variable}
use Rattle.wt_extern.specs.declared.entity.IndexType.{IndexType}
use Rattle.wt_extern.specs.declared.entity.IndexType.TheVariants as index_type
use Rattle.wt_extern.specs.declared.entity.Global.{Global}
use Rattle.wt_extern.specs.declared.entity.Table.{Table}
use Rattle.wt_extern.specs.declared.entity.Memory.{Memory}
use Rattle.wt_extern.specs.declared.entity.Tag.{Tag}
use Rattle.wt_extern.specs.declared.entity.EntityType.{EntityType}
use Rattle.wt_extern.specs.declared.entity.EntityType.TheVariants as entity
use Rattle.wt_extern.specs.declared.global_type.GlobalType.{GlobalType}
use Rattle.wt_extern.specs.declared.table_type.TableType.{TableType}
use Rattle.wt_extern.specs.declared.tag_type.TagType.{TagType}
use Rattle.wt_extern.specs.declared.extern_type.ExternType.{ExternType}
use Rattle.wt_extern.specs.declared.extern_type.ExternType.TheVariants as extern
use Rattle.wt_extern.specs.Memory.{MemorySettings}

-- addresses of 64 bits, or of 32
abbrev pub index_type_of : Bool → IndexType
index_type_of true = index_type.I64
index_type_of false = index_type.I32

abbrev pub has_64_bits : IndexType → Bool
has_64_bits index_type.I64 = true
has_64_bits index_type.I32 = false

abbrev pub global_to_wasm : GlobalType → Global
global_to_wasm g = record { wasm_ty = val_to_wasm g.content; mutability = is_variable g.mutability }

abbrev pub table_to_wasm : TableType → Table
table_to_wasm t = record { ref_type = ref_to_wasm t.element; idx_type = index_type_of t.is_64; limits = record { min = t.minimum; max = t.maximum } }

abbrev pub memory_to_wasm : MemorySettings → Memory
memory_to_wasm m = record { idx_type = index_type_of m.is_64; limits = record { min = m.minimum; max = m.maximum }; shared = m.is_shared; page_size_log2 = m.page_size_log2 }

abbrev pub tag_to_wasm : TagType → Tag
tag_to_wasm t = record { signature = index.Engine t.ty.index }

abbrev pub extern_to_entity : ExternType → EntityType
extern_to_entity (extern.Func name) = entity.Function (index.Engine name.index)
extern_to_entity (extern.Global g) = entity.Global (global_to_wasm g)
extern_to_entity (extern.Table t) = entity.Table (table_to_wasm t)
extern_to_entity (extern.Memory m) = entity.Memory (memory_to_wasm m)
extern_to_entity (extern.Tag t) = entity.Tag (tag_to_wasm t)

-- ---- the engine of the type that one names

abbrev pub global_engine : GlobalType → Option ℕ
global_engine g = val_engine g.content

abbrev pub table_engine : TableType → Option ℕ
table_engine t = ref_engine t.element

abbrev pub tag_engine : TagType → Option ℕ
tag_engine t = Some t.ty.engine

abbrev pub extern_engine : ExternType → Option ℕ
extern_engine (extern.Func name) = Some name.engine
extern_engine (extern.Global g) = global_engine g
extern_engine (extern.Table t) = table_engine t
extern_engine (extern.Memory m) = None
extern_engine (extern.Tag t) = tag_engine t
