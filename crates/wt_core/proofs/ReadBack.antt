-- What type data is as a type of an embedder is that type data again, and of the engine.
use Rattle.std.proofs.Common.{◌≡◌, ℕ, zero, suc, List, map, slice_get, option_map, Bool, true, false, if◌then◌else◌, [], ◌∷◌, inl, refl, ap}
use Rattle.wt_env.specs.declared.types.EngineOrModuleTypeIndex.{EngineOrModuleTypeIndex}
use Rattle.wt_env.specs.declared.types.EngineOrModuleTypeIndex.TheVariants as index
use Rattle.wt_env.specs.declared.types.WasmHeapType.{WasmHeapType}
use Rattle.wt_env.specs.declared.types.WasmHeapType.TheVariants as heap
use Rattle.wt_env.specs.declared.types.WasmValType.{WasmValType}
use Rattle.wt_env.specs.declared.types.WasmValType.TheVariants as val
use Rattle.wt_env.specs.declared.types.WasmStorageType.{WasmStorageType}
use Rattle.wt_env.specs.declared.types.WasmStorageType.TheVariants as storage
use Rattle.wt_env.specs.declared.types.WasmFieldType.{WasmFieldType}
use Rattle.wt_tree.specs.Kinds.{kinded_heap, kinded_val, kinded_storage, kinded_field, indices_of}
use Rattle.wt_heap.specs.declared.mutability.Mutability.TheVariants as mutability
use Rattle.wt_heap.specs.Engines.{heap_engine, val_engine, storage_engine, field_engine, IsOfEngine, IsEngineIndex, AreEngineIndices}
use Rattle.wt_heap.specs.ToWasm.{heap_to_wasm, val_to_wasm, storage_to_wasm, field_to_wasm, is_variable}
use Rattle.wt_core.specs.FromWasm.{shared_index, heap_of, val_of, storage_of, field_of}

index-back : (i : EngineOrModuleTypeIndex) → IsEngineIndex i → index.Engine (shared_index i) ≡ i
index-back (index.Engine i) is = refl
index-back (index.Module n) is = absurd is
index-back (index.RecGroup k) is = absurd is

module _ (engine : ℕ) where
  heap-back : (h : WasmHeapType) → AreEngineIndices (indices_of (kinded_heap h)) → heap_to_wasm (heap_of engine h) ≡ h
  heap-back (heap.ConcreteFunc i) engines = ap heap.ConcreteFunc (index-back i (engines.each i (inl refl)))
  heap-back (heap.ConcreteArray i) engines = ap heap.ConcreteArray (index-back i (engines.each i (inl refl)))
  heap-back (heap.ConcreteStruct i) engines = ap heap.ConcreteStruct (index-back i (engines.each i (inl refl)))
  heap-back (heap.ConcreteExn i) engines = ap heap.ConcreteExn (index-back i (engines.each i (inl refl)))
  heap-back (heap.ConcreteCont i) engines = ap heap.ConcreteCont (index-back i (engines.each i (inl refl)))
  heap-back _ engines = refl

  heap-own : (h : WasmHeapType) → IsOfEngine engine (heap_engine (heap_of engine h))
  heap-own (heap.ConcreteFunc i) = refl
  heap-own (heap.ConcreteArray i) = refl
  heap-own (heap.ConcreteStruct i) = refl
  heap-own (heap.ConcreteExn i) = refl
  heap-own (heap.ConcreteCont i) = refl
  heap-own _ = tt

  pub val-back : (v : WasmValType) → AreEngineIndices (indices_of (kinded_val v)) → val_to_wasm (val_of engine v) ≡ v
  val-back (val.Ref r) engines = ap (λ h. val.Ref (record { nullable = r.nullable; heap_type = h })) (heap-back r.heap_type engines)
  val-back _ engines = refl

  pub val-own : (v : WasmValType) → IsOfEngine engine (val_engine (val_of engine v))
  val-own (val.Ref r) = heap-own r.heap_type
  val-own _ = tt

  storage-back : (s : WasmStorageType) → AreEngineIndices (indices_of (kinded_storage s)) → storage_to_wasm (storage_of engine s) ≡ s
  storage-back (storage.Val v) engines = ap storage.Val (val-back v engines)
  storage-back _ engines = refl

  storage-own : (s : WasmStorageType) → IsOfEngine engine (storage_engine (storage_of engine s))
  storage-own (storage.Val v) = val-own v
  storage-own _ = tt

  variable-back : (mutable : Bool) → is_variable (if mutable then mutability.Var else mutability.Const) ≡ mutable
  variable-back true = refl
  variable-back false = refl

  pub field-back : (f : WasmFieldType) → AreEngineIndices (indices_of (kinded_field f)) → field_to_wasm (field_of engine f) ≡ f
  field-back f engines =
      let stored = storage-back f.element_type engines in
      let variable = variable-back f.mutable in
      λ k. record { element_type = stored k; mutable = variable k }

  pub field-own : (f : WasmFieldType) → IsOfEngine engine (field_engine (field_of engine f))
  field-own f = storage-own f.element_type

-- what stands at a place of a list that is read one by one
pub get-map : {A B : Type 0} (f : A → B) (xs : List A) (k : ℕ) → slice_get (map f xs) k ≡ option_map f (slice_get xs k)
get-map f [] k = refl
get-map f (x ∷ xs) zero = refl
get-map f (x ∷ xs) (suc k) = get-map f xs k
