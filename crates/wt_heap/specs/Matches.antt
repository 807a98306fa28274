-- When one type of an embedder matches another, by the closed trees of the types that they name (WebAssembly 3.0,
-- "Matching"; exceptions and continuations after wasmtime).
use Rattle.std.specs.Prelude.{Bool, ◌&&◌, Option}
use Rattle.wt_env.specs.declared.types.VMSharedTypeIndex.{VMSharedTypeIndex}
use Rattle.wt_tree.specs.Tree.{ClosedTree}
use Rattle.wt_tree.specs.Kinds.{kinded_heap, kinded_val, kinded_storage, kinded_field, indices_of}
use Rattle.wt_tree.specs.Fit.{heap_fits, ref_fits, val_fits, storage_fits, field_fits, named_by, AreKnown}
use Rattle.wt_heap.specs.declared.heap_type.HeapType.{HeapType}
use Rattle.wt_heap.specs.declared.ref_type.RefType.{RefType}
use Rattle.wt_heap.specs.declared.val_type.ValType.{ValType}
use Rattle.wt_heap.specs.declared.storage_type.StorageType.{StorageType}
use Rattle.wt_heap.specs.declared.field_type.FieldType.{FieldType}
use Rattle.wt_heap.specs.ToWasm.{heap_to_wasm, ref_to_wasm, val_to_wasm, storage_to_wasm, field_to_wasm}

-- ---- the type that is named, if any, has a closed tree

abbrev pub HeapIsKnown : (VMSharedTypeIndex → Option ClosedTree) → HeapType → Type 0
HeapIsKnown types h = AreKnown types (indices_of (kinded_heap (heap_to_wasm h)))

abbrev pub RefIsKnown : (VMSharedTypeIndex → Option ClosedTree) → RefType → Type 0
RefIsKnown types r = HeapIsKnown types r.heap_type

abbrev pub ValIsKnown : (VMSharedTypeIndex → Option ClosedTree) → ValType → Type 0
ValIsKnown types v = AreKnown types (indices_of (kinded_val (val_to_wasm v)))

abbrev pub StorageIsKnown : (VMSharedTypeIndex → Option ClosedTree) → StorageType → Type 0
StorageIsKnown types s = AreKnown types (indices_of (kinded_storage (storage_to_wasm s)))

abbrev pub FieldIsKnown : (VMSharedTypeIndex → Option ClosedTree) → FieldType → Type 0
FieldIsKnown types f = AreKnown types (indices_of (kinded_field (field_to_wasm f)))

-- ---- one matches another

abbrev pub heap_matches : (VMSharedTypeIndex → Option ClosedTree) → HeapType → HeapType → Bool
heap_matches types a b = heap_fits (named_by types) (named_by types) (heap_to_wasm a) (heap_to_wasm b)

abbrev pub ref_matches : (VMSharedTypeIndex → Option ClosedTree) → RefType → RefType → Bool
ref_matches types a b = ref_fits (named_by types) (named_by types) (ref_to_wasm a) (ref_to_wasm b)

abbrev pub val_matches : (VMSharedTypeIndex → Option ClosedTree) → ValType → ValType → Bool
val_matches types a b = val_fits (named_by types) (named_by types) (val_to_wasm a) (val_to_wasm b)

abbrev pub storage_matches : (VMSharedTypeIndex → Option ClosedTree) → StorageType → StorageType → Bool
storage_matches types a b = storage_fits (named_by types) (named_by types) (storage_to_wasm a) (storage_to_wasm b)

abbrev pub field_matches : (VMSharedTypeIndex → Option ClosedTree) → FieldType → FieldType → Bool
field_matches types a b = field_fits (named_by types) (named_by types) (field_to_wasm a) (field_to_wasm b)

-- each of two matches the other
abbrev pub both_ways : {A : Type 0} → (A → A → Bool) → A → A → Bool
both_ways test a b = test a b && test b a
