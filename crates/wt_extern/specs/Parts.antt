-- The part of an external type that is of one form.
use Rattle.std.specs.Prelude.{Option, Some, None}
use Rattle.wt_heap.specs.declared.names.FuncName.{FuncName}
use Rattle.wt_extern.specs.declared.global_type.GlobalType.{GlobalType}
use Rattle.wt_extern.specs.declared.table_type.TableType.{TableType}
use Rattle.wt_extern.specs.declared.tag_type.TagType.{TagType}
use Rattle.wt_extern.specs.declared.extern_type.ExternType.{ExternType}
use Rattle.wt_extern.specs.declared.extern_type.ExternType.TheVariants as extern
use Rattle.wt_extern.specs.Memory.{MemorySettings}

abbrev pub extern_func : ExternType → Option FuncName
extern_func (extern.Func name) = Some name
extern_func _ = None

abbrev pub extern_global : ExternType → Option GlobalType
extern_global (extern.Global g) = Some g
extern_global _ = None

abbrev pub extern_table : ExternType → Option TableType
extern_table (extern.Table t) = Some t
extern_table _ = None

abbrev pub extern_memory : ExternType → Option MemorySettings
extern_memory (extern.Memory m) = Some m
extern_memory _ = None

abbrev pub extern_tag : ExternType → Option TagType
extern_tag (extern.Tag t) = Some t
extern_tag _ = None
