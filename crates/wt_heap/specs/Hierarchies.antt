-- The five hierarchies of heap types, by their tops and bottoms (WebAssembly 3.0, "Heap Types" and "Matching"; that of
-- continuations after wasmtime).
use Rattle.std.specs.Prelude.{Bool, false, not, if◌then◌else◌, Option, Some, None}
use Rattle.wt_env.specs.Erasure.{top_of}
use Rattle.wt_env.specs.declared.types.WasmHeapType.{WasmHeapType}
use Rattle.wt_env.specs.declared.types.WasmHeapType.TheVariants as wasm_heap
use Rattle.wt_heap.specs.declared.heap_type.HeapType.{HeapType}
use Rattle.wt_heap.specs.declared.heap_type.HeapType.TheVariants as heap
use Rattle.wt_heap.specs.declared.hierarchy.HeapTopType.{HeapTopType}
use Rattle.wt_heap.specs.declared.hierarchy.HeapTopType.TheVariants as top
use Rattle.wt_heap.specs.declared.hierarchy.HeapBottomType.{HeapBottomType}
use Rattle.wt_heap.specs.declared.hierarchy.HeapBottomType.TheVariants as bottom
use Rattle.wt_heap.specs.declared.val_type.ValType.{ValType}
use Rattle.wt_heap.specs.declared.val_type.ValType.TheVariants as val
use Rattle.wt_heap.specs.declared.val_type.ValDefault.{ValDefault}
use Rattle.wt_heap.specs.declared.val_type.ValDefault.TheVariants as default
use Rattle.wt_heap.specs.ToWasm.{heap_to_wasm}

-- a top and a bottom as heap types
abbrev pub heap_of_top : HeapTopType → HeapType
heap_of_top top.Extern = heap.Extern
heap_of_top top.Any = heap.Any
heap_of_top top.Func = heap.Func
heap_of_top top.Exn = heap.Exn
heap_of_top top.Cont = heap.Cont

abbrev pub heap_of_bottom : HeapBottomType → HeapType
heap_of_bottom bottom.NoExtern = heap.NoExtern
heap_of_bottom bottom.None = heap.None
heap_of_bottom bottom.NoFunc = heap.NoFunc
heap_of_bottom bottom.NoExn = heap.NoExn
heap_of_bottom bottom.NoCont = heap.NoCont

-- the top that type data is; that of any other is `any`
abbrev pub as_top : WasmHeapType → HeapTopType
as_top wasm_heap.Extern = top.Extern
as_top wasm_heap.Func = top.Func
as_top wasm_heap.Exn = top.Exn
as_top wasm_heap.Cont = top.Cont
as_top _ = top.Any

-- the top of a heap type's hierarchy
abbrev pub hierarchy_top : HeapType → HeapTopType
hierarchy_top h = as_top (top_of (heap_to_wasm h))

-- the bottom of the hierarchy that has this top
abbrev pub bottom_under : HeapTopType → HeapBottomType
bottom_under top.Extern = bottom.NoExtern
bottom_under top.Any = bottom.None
bottom_under top.Func = bottom.NoFunc
bottom_under top.Exn = bottom.NoExn
bottom_under top.Cont = bottom.NoCont

-- ---- default values (WebAssembly 3.0, "Default Values")

-- the default of a value type: zero, or a null reference of the hierarchy where the reference is nullable
abbrev pub default_of : ValType → Option ValDefault
default_of val.I32 = Some default.I32
default_of val.I64 = Some default.I64
default_of val.F32 = Some default.F32
default_of val.F64 = Some default.F64
default_of val.V128 = Some default.V128
default_of (val.Ref r) = if r.is_nullable then Some (default.Null (hierarchy_top r.heap_type)) else None

-- a reference that isn't nullable
abbrev pub is_non_nullable : ValType → Bool
is_non_nullable (val.Ref r) = not r.is_nullable
is_non_nullable _ = false
