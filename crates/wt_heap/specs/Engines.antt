-- Which engine the type is of that a type of an embedder names. There is at most one such name in each.
use Rattle.std.specs.Prelude.{◌≡◌, ℕ, List, Option, Some, None, ⊤}
use Rattle.wt_env.specs.Among.{Among}
use Rattle.wt_env.specs.declared.types.EngineOrModuleTypeIndex.{EngineOrModuleTypeIndex}
use Rattle.wt_env.specs.declared.types.EngineOrModuleTypeIndex.TheVariants as index
use Rattle.wt_heap.specs.declared.heap_type.HeapType.{HeapType}
use Rattle.wt_heap.specs.declared.heap_type.HeapType.TheVariants as heap
use Rattle.wt_heap.specs.declared.ref_type.RefType.{RefType}
use Rattle.wt_heap.specs.declared.val_type.ValType.{ValType}
use Rattle.wt_heap.specs.declared.val_type.ValType.TheVariants as val
use Rattle.wt_heap.specs.declared.storage_type.StorageType.{StorageType}
use Rattle.wt_heap.specs.declared.storage_type.StorageType.TheVariants as storage
use Rattle.wt_heap.specs.declared.field_type.FieldType.{FieldType}

abbrev pub heap_engine : HeapType → Option ℕ
heap_engine (heap.ConcreteFunc name) = Some name.engine
heap_engine (heap.ConcreteArray name) = Some name.engine
heap_engine (heap.ConcreteStruct name) = Some name.engine
heap_engine (heap.ConcreteExn name) = Some name.engine
heap_engine (heap.ConcreteCont name) = Some name.engine
heap_engine _ = None

abbrev pub ref_engine : RefType → Option ℕ
ref_engine r = heap_engine r.heap_type

abbrev pub val_engine : ValType → Option ℕ
val_engine (val.Ref r) = ref_engine r
val_engine _ = None

abbrev pub storage_engine : StorageType → Option ℕ
storage_engine (storage.ValType v) = val_engine v
storage_engine _ = None

abbrev pub field_engine : FieldType → Option ℕ
field_engine f = storage_engine f.element_type

-- where a type is named, it is of this engine
abbrev pub IsOfEngine : ℕ → Option ℕ → Type 0
IsOfEngine engine (Some named) = named ≡ engine
IsOfEngine engine None = ⊤

-- where both name a type, these are of one engine
abbrev pub AreOfOneEngine : Option ℕ → Option ℕ → Type 0
AreOfOneEngine (Some left) (Some right) = left ≡ right
AreOfOneEngine (Some left) None = ⊤
AreOfOneEngine None right = ⊤

-- ---- type data by engine indices alone

abbrev pub IsEngineIndex : EngineOrModuleTypeIndex → Type 0
IsEngineIndex (index.Engine i) = ⊤
IsEngineIndex (index.Module n) = ⊥
IsEngineIndex (index.RecGroup k) = ⊥

pub record AreEngineIndices (indices : List EngineOrModuleTypeIndex) : Type 0 where
  pub each : (i : EngineOrModuleTypeIndex) → Among i indices → IsEngineIndex i
