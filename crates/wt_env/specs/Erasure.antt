-- Erasure: what is left of a function type where each reference is the nullable top of its hierarchy (WebAssembly
-- 3.0, "Heap Types", has the hierarchies; that of continuations is after wasmtime).
use Rattle.std.specs.Prelude.{Bool, true, false, ◌&&◌, map}
use Rattle.std.specs.List.{list_all}
use Rattle.wt_env.specs.declared.types.WasmHeapType.{WasmHeapType}
use Rattle.wt_env.specs.declared.types.WasmHeapType.TheVariants as heap
use Rattle.wt_env.specs.declared.types.WasmValType.{WasmValType}
use Rattle.wt_env.specs.declared.types.WasmValType.TheVariants as val
use Rattle.wt_env.specs.declared.types.WasmFuncType.{WasmFuncType}

-- the top of a heap type's hierarchy
abbrev pub top_of : WasmHeapType → WasmHeapType
top_of heap.Extern = heap.Extern
top_of heap.NoExtern = heap.Extern
top_of heap.Func = heap.Func
top_of (heap.ConcreteFunc i) = heap.Func
top_of heap.NoFunc = heap.Func
top_of heap.Any = heap.Any
top_of heap.Eq = heap.Any
top_of heap.I31 = heap.Any
top_of heap.Array = heap.Any
top_of (heap.ConcreteArray i) = heap.Any
top_of heap.Struct = heap.Any
top_of (heap.ConcreteStruct i) = heap.Any
top_of heap.Exn = heap.Exn
top_of (heap.ConcreteExn i) = heap.Exn
top_of (heap.ConcreteCont i) = heap.Cont
top_of heap.Cont = heap.Cont
top_of heap.NoCont = heap.Cont
top_of heap.None = heap.Any
top_of heap.NoExn = heap.Exn

-- a reference becomes the nullable top of its hierarchy
abbrev pub erase_val : WasmValType → WasmValType
erase_val (val.Ref r) = val.Ref (record { nullable = true; heap_type = top_of r.heap_type })
erase_val v = v

-- a function type with its references erased
abbrev pub erase : WasmFuncType → WasmFuncType
erase f = record { params = map erase_val f.params; results = map erase_val f.results }

-- whether a heap type is the top of its hierarchy
abbrev pub is_top : WasmHeapType → Bool
is_top heap.Extern = true
is_top heap.Func = true
is_top heap.Any = true
is_top heap.Exn = true
is_top heap.Cont = true
is_top _ = false

-- whether a value type is erased already: a number, a vector, or a nullable reference to a top
abbrev pub is_erased_val : WasmValType → Bool
is_erased_val (val.Ref r) = r.nullable && is_top r.heap_type
is_erased_val v = true

-- whether a function type is erased already
abbrev pub is_erased : WasmFuncType → Bool
is_erased f = list_all is_erased_val f.params && list_all is_erased_val f.results
