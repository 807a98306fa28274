-- A type in which a function is applied to each type index depends on what the function makes of those that stand in it.
use Rattle.std.proofs.Common.{◌≡◌, List, [], ◌∷◌, Option, Some, None, option_map, inl, inr, refl, ap}
use Rattle.std.specs.Prelude.{option_to_list}
use Rattle.wt_env.specs.Among.{Among}
use Rattle.wt_env.proofs.lists.Members.{among_before, among_behind}
use Rattle.wt_env.specs.declared.types.EngineOrModuleTypeIndex.{EngineOrModuleTypeIndex}
use Rattle.wt_env.specs.declared.types.WasmHeapType.{WasmHeapType}
use Rattle.wt_env.specs.declared.types.WasmHeapType.TheVariants as heap
use Rattle.wt_env.specs.declared.types.WasmValType.{WasmValType}
use Rattle.wt_env.specs.declared.types.WasmValType.TheVariants as val
use Rattle.wt_env.specs.declared.types.WasmStorageType.{WasmStorageType}
use Rattle.wt_env.specs.declared.types.WasmStorageType.TheVariants as storage
use Rattle.wt_env.specs.declared.types.WasmFieldType.{WasmFieldType}
use Rattle.wt_env.specs.declared.types.WasmCompositeInnerType.{WasmCompositeInnerType}
use Rattle.wt_env.specs.declared.types.WasmCompositeInnerType.TheVariants as shape
use Rattle.wt_env.specs.declared.types.WasmSubType.{WasmSubType}
use Rattle.wt_tree.specs.Kinds.{kinded_heap, kinded_val, kinded_vals, kinded_storage, kinded_field, kinded_fields, kinded_shape, kinded_refs, indices_of, type_indices}
use Rattle.wt_tree.specs.MapRefs.{map_heap_refs, map_val_refs, map_vals_refs, map_storage_refs, map_field_refs, map_fields_refs, map_shape_refs, map_sub_refs}
use Rattle.wt_tree.proofs.KnownParts.{among_first, among_second}

module _ (f g : EngineOrModuleTypeIndex → EngineOrModuleTypeIndex) where
  -- the two make the same of these
  abbrev AreSame : List EngineOrModuleTypeIndex → Type 0
  AreSame indices = (i : EngineOrModuleTypeIndex) → Among i indices → f i ≡ g i

  heap-same : (h : WasmHeapType) → AreSame (indices_of (kinded_heap h)) → map_heap_refs f h ≡ map_heap_refs g h
  heap-same (heap.ConcreteFunc i) s = ap heap.ConcreteFunc (s i (inl refl))
  heap-same (heap.ConcreteArray i) s = ap heap.ConcreteArray (s i (inl refl))
  heap-same (heap.ConcreteStruct i) s = ap heap.ConcreteStruct (s i (inl refl))
  heap-same (heap.ConcreteExn i) s = ap heap.ConcreteExn (s i (inl refl))
  heap-same (heap.ConcreteCont i) s = ap heap.ConcreteCont (s i (inl refl))
  heap-same h s = refl

  val-same : (v : WasmValType) → AreSame (indices_of (kinded_val v)) → map_val_refs f v ≡ map_val_refs g v
  val-same (val.Ref r) s = let kept = heap-same r.heap_type s in λ i. val.Ref (record r { heap_type = kept i })
  val-same v s = refl

  vals-same : (vs : List WasmValType) → AreSame (indices_of (kinded_vals vs)) → map_vals_refs f vs ≡ map_vals_refs g vs
  vals-same [] s = refl
  vals-same (v ∷ vs) s =
      let first = val-same v (λ i at. s i (among_first (kinded_val v) (kinded_vals vs) i at)) in
      let rest = vals-same vs (λ i at. s i (among_second (kinded_val v) (kinded_vals vs) i at)) in
      λ i. first i ∷ rest i

  storage-same : (t : WasmStorageType) → AreSame (indices_of (kinded_storage t)) → map_storage_refs f t ≡ map_storage_refs g t
  storage-same (storage.Val v) s = ap storage.Val (val-same v s)
  storage-same t s = refl

  field-same : (t : WasmFieldType) → AreSame (indices_of (kinded_field t)) → map_field_refs f t ≡ map_field_refs g t
  field-same t s = let kept = storage-same t.element_type s in λ i. record t { element_type = kept i }

  fields-same : (ts : List WasmFieldType) → AreSame (indices_of (kinded_fields ts)) → map_fields_refs f ts ≡ map_fields_refs g ts
  fields-same [] s = refl
  fields-same (t ∷ ts) s =
      let first = field-same t (λ i at. s i (among_first (kinded_field t) (kinded_fields ts) i at)) in
      let rest = fields-same ts (λ i at. s i (among_second (kinded_field t) (kinded_fields ts) i at)) in
      λ i. first i ∷ rest i

  shape-same : (t : WasmCompositeInnerType) → AreSame (indices_of (kinded_shape t)) → map_shape_refs f t ≡ map_shape_refs g t
  shape-same (shape.Func t) s =
      let params = vals-same t.params (λ i at. s i (among_first (kinded_vals t.params) (kinded_vals t.results) i at)) in
      let results = vals-same t.results (λ i at. s i (among_second (kinded_vals t.params) (kinded_vals t.results) i at)) in
      λ i. shape.Func (record { params = params i; results = results i })
  shape-same (shape.Struct t) s = let fields = fields-same t.fields s in λ i. shape.Struct (record { fields = fields i })
  shape-same (shape.Array t) s = let field = field-same t.0 s in λ i. shape.Array (record { 0 = field i })
  shape-same (shape.Exn t) s =
      let func = s t.func_ty (inl refl) in
      let fields = fields-same t.fields (λ i at. s i (inr at)) in
      λ i. shape.Exn (record { func_ty = func i; fields = fields i })
  shape-same (shape.Cont t) s = let func = s t.0 (inl refl) in λ i. shape.Cont (record { 0 = func i })

  super-same : (found : Option EngineOrModuleTypeIndex) → AreSame (option_to_list found) → option_map f found ≡ option_map g found
  super-same None s = refl
  super-same (Some i) s = ap Some (s i (inl refl))

  -- where they make the same of each type index in it, they make the same of the type
  pub sub_type-same : (t : WasmSubType) → AreSame (type_indices t) → map_sub_refs f t ≡ map_sub_refs g t
  sub_type-same t s =
      let supertype = super-same t.supertype (λ i at. s i (among_before (option_to_list t.supertype) (indices_of (kinded_refs t)) i at)) in
      let composite = shape-same t.composite_type (λ i at. s i (among_behind (option_to_list t.supertype) (indices_of (kinded_refs t)) i at)) in
      λ i. record t { supertype = supertype i; composite_type = composite i }
