-- The types of an embedder as type data: each name of a type as the engine index that it has.
use Rattle.std.specs.Prelude.{Bool, true, false}
use Rattle.wt_env.specs.declared.types.EngineOrModuleTypeIndex.TheVariants as index
use Rattle.wt_env.specs.declared.types.WasmHeapType.{WasmHeapType}
use Rattle.wt_env.specs.declared.types.WasmHeapType.TheVariants as wasm_heap
use Rattle.wt_env.specs.declared.types.WasmRefType.{WasmRefType}
use Rattle.wt_env.specs.declared.types.WasmValType.{WasmValType}
use Rattle.wt_env.specs.declared.types.WasmValType.TheVariants as wasm_val
use Rattle.wt_env.specs.declared.types.WasmStorageType.{WasmStorageType}
use Rattle.wt_env.specs.declared.types.WasmStorageType.TheVariants as wasm_storage
use Rattle.wt_env.specs.declared.types.WasmFieldType.{WasmFieldType}
use Rattle.wt_heap.specs.declared.mutability.Mutability.{Mutability}
use Rattle.wt_heap.specs.declared.mutability.Mutability.TheVariants as mutability
use Rattle.wt_heap.specs.declared.heap_type.HeapType.{HeapType}
use Rattle.wt_heap.specs.declared.heap_type.HeapType.TheVariants as heap
use Rattle.wt_heap.specs.declared.ref_type.RefType.{RefType}
use Rattle.wt_heap.specs.declared.val_type.ValType.{ValType}
use Rattle.wt_heap.specs.declared.val_type.ValType.TheVariants as val
use Rattle.wt_heap.specs.declared.storage_type.StorageType.{StorageType}
use Rattle.wt_heap.specs.declared.storage_type.StorageType.TheVariants as storage
use Rattle.wt_heap.specs.declared.field_type.FieldType.{FieldType}

abbrev pub heap_to_wasm : HeapType → WasmHeapType
heap_to_wasm heap.Extern = wasm_heap.Extern
heap_to_wasm heap.NoExtern = wasm_heap.NoExtern
heap_to_wasm heap.Func = wasm_heap.Func
heap_to_wasm (heap.ConcreteFunc name) = wasm_heap.ConcreteFunc (index.Engine name.index)
heap_to_wasm heap.NoFunc = wasm_heap.NoFunc
heap_to_wasm heap.Any = wasm_heap.Any
heap_to_wasm heap.Eq = wasm_heap.Eq
heap_to_wasm heap.I31 = wasm_heap.I31
heap_to_wasm heap.Array = wasm_heap.Array
heap_to_wasm (heap.ConcreteArray name) = wasm_heap.ConcreteArray (index.Engine name.index)
heap_to_wasm heap.Struct = wasm_heap.Struct
heap_to_wasm (heap.ConcreteStruct name) = wasm_heap.ConcreteStruct (index.Engine name.index)
heap_to_wasm heap.Exn = wasm_heap.Exn
heap_to_wasm (heap.ConcreteExn name) = wasm_heap.ConcreteExn (index.Engine name.index)
heap_to_wasm (heap.ConcreteCont name) = wasm_heap.ConcreteCont (index.Engine name.index)
heap_to_wasm heap.Cont = wasm_heap.Cont
heap_to_wasm heap.NoCont = wasm_heap.NoCont
heap_to_wasm heap.None = wasm_heap.None
heap_to_wasm heap.NoExn = wasm_heap.NoExn

abbrev pub ref_to_wasm : RefType → WasmRefType
ref_to_wasm r = record { nullable = r.is_nullable; heap_type = heap_to_wasm r.heap_type }

abbrev pub val_to_wasm : ValType → WasmValType
val_to_wasm val.I32 = wasm_val.I32
val_to_wasm val.I64 = wasm_val.I64
val_to_wasm val.F32 = wasm_val.F32
val_to_wasm val.F64 = wasm_val.F64
val_to_wasm val.V128 = wasm_val.V128
val_to_wasm (val.Ref r) = wasm_val.Ref (ref_to_wasm r)

abbrev pub storage_to_wasm : StorageType → WasmStorageType
storage_to_wasm storage.I8 = wasm_storage.I8
storage_to_wasm storage.I16 = wasm_storage.I16
storage_to_wasm (storage.ValType v) = wasm_storage.Val (val_to_wasm v)

abbrev pub is_variable : Mutability → Bool
is_variable mutability.Const = false
is_variable mutability.Var = true

abbrev pub field_to_wasm : FieldType → WasmFieldType
field_to_wasm f = record { element_type = storage_to_wasm f.element_type; mutable = is_variable f.mutability }
