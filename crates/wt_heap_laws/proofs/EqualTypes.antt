-- Two types that match each other have equal contents, where each type is known by one index.
use Rattle.std.proofs.Common.{◌≡◌, Bool, true, false, not, ◌&&◌, ◌||◌, Option, Some, unwrap_or, inl, refl, sym, ap, ◌∙◌}
use Rattle.std.specs.Prelude.{is_some}
use Rattle.std.proofs.lemmas.Bool.{false≢true}
use Rattle.std.specs.Cmp.{first_so, second_so}
use Rattle.wt_env.specs.declared.types.VMSharedTypeIndex.{VMSharedTypeIndex}
use Rattle.wt_env.specs.declared.types.EngineOrModuleTypeIndex.TheVariants as index
use Rattle.wt_tree.specs.Tree.{ClosedTree, no_tree}
use Rattle.wt_tree.specs.Subtyping.{is_sub, IsTypeMap}
use Rattle.wt_tree.specs.Fit.{named_by, field_fits_by}
use Rattle.wt_tree.proofs.TreeEquality.{both}
use Rattle.wt_tree.proofs.Subtyping.{is_sub-antisym}
use Rattle.wt_tree.proofs.ToldSteps.{tree-known}
use Rattle.wt_heap.specs.declared.heap_type.HeapType.{HeapType}
use Rattle.wt_heap.specs.declared.heap_type.HeapType.TheVariants as heap
use Rattle.wt_heap.specs.declared.mutability.Mutability.{Mutability}
use Rattle.wt_heap.specs.declared.mutability.Mutability.TheVariants as mutability
use Rattle.wt_heap.specs.declared.ref_type.RefType.{RefType}
use Rattle.wt_heap.specs.declared.val_type.ValType.{ValType}
use Rattle.wt_heap.specs.declared.val_type.ValType.TheVariants as val
use Rattle.wt_heap.specs.declared.storage_type.StorageType.{StorageType}
use Rattle.wt_heap.specs.declared.storage_type.StorageType.TheVariants as storage
use Rattle.wt_heap.specs.declared.field_type.FieldType.{FieldType}
use Rattle.wt_heap.specs.Engines.{heap_engine, ref_engine, val_engine, storage_engine, field_engine, AreOfOneEngine}
use Rattle.wt_heap.specs.Matches.{HeapIsKnown, RefIsKnown, ValIsKnown, StorageIsKnown, FieldIsKnown, heap_matches, ref_matches, val_matches, storage_matches, field_matches, both_ways}
use Rattle.wt_heap.specs.ToWasm.{storage_to_wasm, is_variable}

-- two heap types of different forms don't match both ways
no : {A : Type 0} → false ≡ true → A
no h = absurd (false≢true h)

module _ (types : VMSharedTypeIndex → Option ClosedTree) (map : IsTypeMap types) where
  -- declared steps lead from each of two indices to the other at one index alone
  index-same : (i j : VMSharedTypeIndex) → is_some (types i) ≡ true → is_some (types j) ≡ true
      → (is_sub (named_by types (index.Engine i)) (named_by types (index.Engine j)) && is_sub (named_by types (index.Engine j)) (named_by types (index.Engine i))) ≡ true → i ≡ j
  index-same i j known-i known-j h =
      let a = named_by types (index.Engine i) in
      let b = named_by types (index.Engine j) in
      let s = tree-known types i known-i in
      let t = tree-known types j known-j in
      let equal = is_sub-antisym a b (first_so (is_sub a b) (is_sub b a) h) (second_so (is_sub a b) (is_sub b a) h) in
      let trees : t.0 ≡ s.0 = sym (λ k. unwrap_or (t.1 k) no_tree) ∙ sym equal ∙ (λ k. unwrap_or (s.1 k) no_tree) in
      map.one_index i j s.0 s.1 (t.1 ∙ ap Some trees)

  pub heap-same : (a b : HeapType) → HeapIsKnown types a → HeapIsKnown types b → AreOfOneEngine (heap_engine a) (heap_engine b) → both_ways (heap_matches types) a b ≡ true → a ≡ b
  heap-same heap.Extern heap.Extern known known' one h = refl
  heap-same heap.NoExtern heap.NoExtern known known' one h = refl
  heap-same heap.Func heap.Func known known' one h = refl
  heap-same (heap.ConcreteFunc n) (heap.ConcreteFunc m) known known' one h =
      let same = index-same n.index m.index (known.each (index.Engine n.index) (inl refl)) (known'.each (index.Engine m.index) (inl refl)) h in
      λ k. heap.ConcreteFunc (record { engine = one k; index = same k })
  heap-same heap.NoFunc heap.NoFunc known known' one h = refl
  heap-same heap.Any heap.Any known known' one h = refl
  heap-same heap.Eq heap.Eq known known' one h = refl
  heap-same heap.I31 heap.I31 known known' one h = refl
  heap-same heap.Array heap.Array known known' one h = refl
  heap-same (heap.ConcreteArray n) (heap.ConcreteArray m) known known' one h =
      let same = index-same n.index m.index (known.each (index.Engine n.index) (inl refl)) (known'.each (index.Engine m.index) (inl refl)) h in
      λ k. heap.ConcreteArray (record { engine = one k; index = same k })
  heap-same heap.Struct heap.Struct known known' one h = refl
  heap-same (heap.ConcreteStruct n) (heap.ConcreteStruct m) known known' one h =
      let same = index-same n.index m.index (known.each (index.Engine n.index) (inl refl)) (known'.each (index.Engine m.index) (inl refl)) h in
      λ k. heap.ConcreteStruct (record { engine = one k; index = same k })
  heap-same heap.Exn heap.Exn known known' one h = refl
  heap-same (heap.ConcreteExn n) (heap.ConcreteExn m) known known' one h =
      let same = index-same n.index m.index (known.each (index.Engine n.index) (inl refl)) (known'.each (index.Engine m.index) (inl refl)) h in
      λ k. heap.ConcreteExn (record { engine = one k; index = same k })
  heap-same (heap.ConcreteCont n) (heap.ConcreteCont m) known known' one h =
      let same = index-same n.index m.index (known.each (index.Engine n.index) (inl refl)) (known'.each (index.Engine m.index) (inl refl)) h in
      λ k. heap.ConcreteCont (record { engine = one k; index = same k })
  heap-same heap.Cont heap.Cont known known' one h = refl
  heap-same heap.NoCont heap.NoCont known known' one h = refl
  heap-same heap.None heap.None known known' one h = refl
  heap-same heap.NoExn heap.NoExn known known' one h = refl
  heap-same a b known known' one h = no h

  -- two flags of which each allows what the other does
  null-same : (x y : Bool) → (not x || y) ≡ true → (not y || x) ≡ true → x ≡ y
  null-same true true h k = refl
  null-same false false h k = refl
  null-same true false h k = no h
  null-same false true h k = no k

  pub ref-same : (a b : RefType) → RefIsKnown types a → RefIsKnown types b → AreOfOneEngine (ref_engine a) (ref_engine b) → both_ways (ref_matches types) a b ≡ true → a ≡ b
  ref-same a b known known' one h =
      let there = first_so (ref_matches types a b) (ref_matches types b a) h in
      let back = second_so (ref_matches types a b) (ref_matches types b a) h in
      let here = heap_matches types a.heap_type b.heap_type in
      let other = heap_matches types b.heap_type a.heap_type in
      let flags = null-same a.is_nullable b.is_nullable (first_so (not a.is_nullable || b.is_nullable) here there) (first_so (not b.is_nullable || a.is_nullable) other back) in
      let heaps = heap-same a.heap_type b.heap_type known known' one
      (both (second_so (not a.is_nullable || b.is_nullable) here there) (second_so (not b.is_nullable || a.is_nullable) other back)) in
      λ k. record { is_nullable = flags k; heap_type = heaps k }

  pub val-same : (a b : ValType) → ValIsKnown types a → ValIsKnown types b → AreOfOneEngine (val_engine a) (val_engine b) → both_ways (val_matches types) a b ≡ true → a ≡ b
  val-same val.I32 val.I32 known known' one h = refl
  val-same val.I64 val.I64 known known' one h = refl
  val-same val.F32 val.F32 known known' one h = refl
  val-same val.F64 val.F64 known known' one h = refl
  val-same val.V128 val.V128 known known' one h = refl
  val-same (val.Ref a) (val.Ref b) known known' one h = ap val.Ref (ref-same a b known known' one h)
  val-same a b known known' one h = no h

  pub storage-same : (a b : StorageType) → StorageIsKnown types a → StorageIsKnown types b → AreOfOneEngine (storage_engine a) (storage_engine b) → both_ways (storage_matches types) a b ≡ true → a ≡ b
  storage-same storage.I8 storage.I8 known known' one h = refl
  storage-same storage.I16 storage.I16 known known' one h = refl
  storage-same (storage.ValType a) (storage.ValType b) known known' one h = ap storage.ValType (val-same a b known known' one h)
  storage-same a b known known' one h = no h

  -- fields of this mutability that match each other
  parts-same : (m n : Mutability) (a b : StorageType) → StorageIsKnown types a → StorageIsKnown types b → AreOfOneEngine (storage_engine a) (storage_engine b)
      → field_fits_by (named_by types) (named_by types) (is_variable m) (is_variable n) (storage_to_wasm a) (storage_to_wasm b) ≡ true
      → field_fits_by (named_by types) (named_by types) (is_variable n) (is_variable m) (storage_to_wasm b) (storage_to_wasm a) ≡ true → (m ≡ n) × (a ≡ b)
  parts-same mutability.Const mutability.Const a b known known' one h k = (refl, storage-same a b known known' one (both h k))
  parts-same mutability.Var mutability.Var a b known known' one h k = (refl, storage-same a b known known' one h)
  parts-same mutability.Const mutability.Var a b known known' one h k = no h
  parts-same mutability.Var mutability.Const a b known known' one h k = no h

  pub field-same : (a b : FieldType) → FieldIsKnown types a → FieldIsKnown types b → AreOfOneEngine (field_engine a) (field_engine b) → both_ways (field_matches types) a b ≡ true → a ≡ b
  field-same a b known known' one h =
      let same = parts-same a.mutability b.mutability a.element_type b.element_type known known' one
      (first_so (field_matches types a b) (field_matches types b a) h) (second_so (field_matches types a b) (field_matches types b a) h) in
      λ k. record { mutability = same.0 k; element_type = same.1 k }
