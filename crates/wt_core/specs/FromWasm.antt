-- Type data of a registry as the types of an embedder: each engine index as the name of a type of this engine. No other
-- type index stands in what a registry shows; one would be read as the engine index 0.
use Rattle.std.specs.Prelude.{ℕ, if◌then◌else◌}
use Rattle.wt_env.specs.declared.types.VMSharedTypeIndex.{VMSharedTypeIndex}
use Rattle.wt_env.specs.declared.types.EngineOrModuleTypeIndex.{EngineOrModuleTypeIndex}
use Rattle.wt_env.specs.declared.types.EngineOrModuleTypeIndex.TheVariants as index
use Rattle.wt_env.specs.declared.types.WasmHeapType.{WasmHeapType}
use Rattle.wt_env.specs.declared.types.WasmHeapType.TheVariants as wasm_heap
use Rattle.wt_env.specs.declared.types.WasmRefType.{WasmRefType}
use Rattle.wt_env.specs.declared.types.WasmValType.{WasmValType}
use Rattle.wt_env.specs.declared.types.WasmValType.TheVariants as wasm_val
use Rattle.wt_env.specs.declared.types.WasmStorageType.{WasmStorageType}
use Rattle.wt_env.specs.declared.types.WasmStorageType.TheVariants as wasm_storage
use Rattle.wt_env.specs.declared.types.WasmFieldType.{WasmFieldType}
use Rattle.wt_heap.specs.declared.mutability.Mutability.TheVariants as mutability
use Rattle.wt_heap.specs.declared.heap_type.HeapType.{HeapType}
use Rattle.wt_heap.specs.declared.heap_type.HeapType.TheVariants as heap
use Rattle.wt_heap.specs.declared.ref_type.RefType.{RefType}
use Rattle.wt_heap.specs.declared.val_type.ValType.{ValType}
use Rattle.wt_heap.specs.declared.val_type.ValType.TheVariants as val
use Rattle.wt_heap.specs.declared.storage_type.StorageType.{StorageType}
use Rattle.wt_heap.specs.declared.storage_type.StorageType.TheVariants as storage
use Rattle.wt_heap.specs.declared.field_type.FieldType.{FieldType}

abbrev pub shared_index : EngineOrModuleTypeIndex → VMSharedTypeIndex
shared_index (index.Engine i) = i
shared_index (index.Module n) = record { 0 = 0 }
shared_index (index.RecGroup k) = record { 0 = 0 }

abbrev pub heap_of : ℕ → WasmHeapType → HeapType
heap_of engine wasm_heap.Extern = heap.Extern
heap_of engine wasm_heap.NoExtern = heap.NoExtern
heap_of engine wasm_heap.Func = heap.Func
heap_of engine (wasm_heap.ConcreteFunc i) = heap.ConcreteFunc (record { engine = engine; index = shared_index i })
heap_of engine wasm_heap.NoFunc = heap.NoFunc
heap_of engine wasm_heap.Any = heap.Any
heap_of engine wasm_heap.Eq = heap.Eq
heap_of engine wasm_heap.I31 = heap.I31
heap_of engine wasm_heap.Array = heap.Array
heap_of engine (wasm_heap.ConcreteArray i) = heap.ConcreteArray (record { engine = engine; index = shared_index i })
heap_of engine wasm_heap.Struct = heap.Struct
heap_of engine (wasm_heap.ConcreteStruct i) = heap.ConcreteStruct (record { engine = engine; index = shared_index i })
heap_of engine wasm_heap.Exn = heap.Exn
heap_of engine (wasm_heap.ConcreteExn i) = heap.ConcreteExn (record { engine = engine; index = shared_index i })
heap_of engine (wasm_heap.ConcreteCont i) = heap.ConcreteCont (record { engine = engine; index = shared_index i })
heap_of engine wasm_heap.Cont = heap.Cont
heap_of engine wasm_heap.NoCont = heap.NoCont
heap_of engine wasm_heap.None = heap.None
heap_of engine wasm_heap.NoExn = heap.NoExn

abbrev pub ref_of : ℕ → WasmRefType → RefType
ref_of engine r = record { is_nullable = r.nullable; heap_type = heap_of engine r.heap_type }

abbrev pub val_of : ℕ → WasmValType → ValType
val_of engine wasm_val.I32 = val.I32
val_of engine wasm_val.I64 = val.I64
val_of engine wasm_val.F32 = val.F32
val_of engine wasm_val.F64 = val.F64
val_of engine wasm_val.V128 = val.V128
val_of engine (wasm_val.Ref r) = val.Ref (ref_of engine r)

abbrev pub storage_of : ℕ → WasmStorageType → StorageType
storage_of engine wasm_storage.I8 = storage.I8
storage_of engine wasm_storage.I16 = storage.I16
storage_of engine (wasm_storage.Val v) = storage.ValType (val_of engine v)

abbrev pub field_of : ℕ → WasmFieldType → FieldType
field_of engine f = record {
  mutability = if f.mutable then mutability.Var else mutability.Const;
  element_type = storage_of engine f.element_type;
}
