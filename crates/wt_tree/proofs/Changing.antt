-- Applying one function to each index after another, an equal one, and the one that changes nothing.
use Rattle.std.proofs.Common.{◌≡◌, List, [], ◌∷◌, Option, Some, None, option_map, map, refl, ap}
use Rattle.wt_env.specs.declared.types.EngineOrModuleTypeIndex.{EngineOrModuleTypeIndex}
use Rattle.wt_env.specs.declared.types.WasmHeapType.{WasmHeapType}
use Rattle.wt_env.specs.declared.types.WasmHeapType.TheVariants as heap
use Rattle.wt_env.specs.declared.types.WasmValType.{WasmValType}
use Rattle.wt_env.specs.declared.types.WasmValType.TheVariants as val
use Rattle.wt_env.specs.declared.types.WasmStorageType.{WasmStorageType}
use Rattle.wt_env.specs.declared.types.WasmStorageType.TheVariants as storage
use Rattle.wt_env.specs.declared.types.WasmFieldType.{WasmFieldType}
use Rattle.wt_env.specs.declared.types.WasmCompositeInnerType.{WasmCompositeInnerType}
use Rattle.wt_env.specs.declared.types.WasmCompositeInnerType.TheVariants as shape
use Rattle.wt_env.specs.declared.types.WasmSubType.{WasmSubType}
use Rattle.wt_tree.specs.MapRefs.{map_heap_refs, map_val_refs, map_vals_refs, map_storage_refs, map_field_refs, map_fields_refs, map_shape_refs, map_sub_refs, map_group_refs}

-- ---- lists and options

map-agree : {A B : Type 0} (f g : A → B) → ((x : A) → f x ≡ g x) → (xs : List A) → map f xs ≡ map g xs
map-agree f g same [] = refl
map-agree f g same (x ∷ xs) = let first = same x in let rest = map-agree f g same xs in λ i. first i ∷ rest i

map-twice : {A : Type 0} (f g h : A → A) → ((x : A) → f (g x) ≡ h x) → (xs : List A) → map f (map g xs) ≡ map h xs
map-twice f g h same [] = refl
map-twice f g h same (x ∷ xs) = let first = same x in let rest = map-twice f g h same xs in λ i. first i ∷ rest i

map-none : {A : Type 0} (f : A → A) → ((x : A) → f x ≡ x) → (xs : List A) → map f xs ≡ xs
map-none f same [] = refl
map-none f same (x ∷ xs) = let first = same x in let rest = map-none f same xs in λ i. first i ∷ rest i

-- ---- equal functions

module _ (f g : EngineOrModuleTypeIndex → EngineOrModuleTypeIndex) (same : (i : EngineOrModuleTypeIndex) → f i ≡ g i) where
  pub map_heap_refs-same : (h : WasmHeapType) → map_heap_refs f h ≡ map_heap_refs g h
  map_heap_refs-same (heap.ConcreteFunc i) = ap heap.ConcreteFunc (same i)
  map_heap_refs-same (heap.ConcreteArray i) = ap heap.ConcreteArray (same i)
  map_heap_refs-same (heap.ConcreteStruct i) = ap heap.ConcreteStruct (same i)
  map_heap_refs-same (heap.ConcreteExn i) = ap heap.ConcreteExn (same i)
  map_heap_refs-same (heap.ConcreteCont i) = ap heap.ConcreteCont (same i)
  map_heap_refs-same _ = refl

  pub map_val_refs-same : (v : WasmValType) → map_val_refs f v ≡ map_val_refs g v
  map_val_refs-same (val.Ref r) = let changed = map_heap_refs-same r.heap_type in λ i. val.Ref (record r { heap_type = changed i })
  map_val_refs-same _ = refl

  pub map_storage_refs-same : (s : WasmStorageType) → map_storage_refs f s ≡ map_storage_refs g s
  map_storage_refs-same (storage.Val v) = ap storage.Val (map_val_refs-same v)
  map_storage_refs-same _ = refl

  pub map_field_refs-same : (t : WasmFieldType) → map_field_refs f t ≡ map_field_refs g t
  map_field_refs-same t = let changed = map_storage_refs-same t.element_type in λ i. record t { element_type = changed i }

  pub map_shape_refs-same : (s : WasmCompositeInnerType) → map_shape_refs f s ≡ map_shape_refs g s
  map_shape_refs-same (shape.Func t) =
      let params = map-agree (map_val_refs f) (map_val_refs g) map_val_refs-same t.params in
      let results = map-agree (map_val_refs f) (map_val_refs g) map_val_refs-same t.results in
      λ i. shape.Func (record { params = params i; results = results i })
  map_shape_refs-same (shape.Struct s) =
      let fields = map-agree (map_field_refs f) (map_field_refs g) map_field_refs-same s.fields in
      λ i. shape.Struct (record { fields = fields i })
  map_shape_refs-same (shape.Array a) = let field = map_field_refs-same a.0 in λ i. shape.Array (record { 0 = field i })
  map_shape_refs-same (shape.Exn e) =
      let func = same e.func_ty in
      let fields = map-agree (map_field_refs f) (map_field_refs g) map_field_refs-same e.fields in
      λ i. shape.Exn (record { func_ty = func i; fields = fields i })
  map_shape_refs-same (shape.Cont c) = let func = same c.0 in λ i. shape.Cont (record { 0 = func i })

  over_super-same : (s : Option EngineOrModuleTypeIndex) → option_map f s ≡ option_map g s
  over_super-same None = refl
  over_super-same (Some i) = ap Some (same i)

  pub map_sub_refs-same : (t : WasmSubType) → map_sub_refs f t ≡ map_sub_refs g t
  map_sub_refs-same t =
      let super = over_super-same t.supertype in
      let shapes = map_shape_refs-same t.composite_type in
      λ i. record t { supertype = super i; composite_type = shapes i }

  pub map_group_refs-same : (ts : List WasmSubType) → map_group_refs f ts ≡ map_group_refs g ts
  map_group_refs-same = map-agree (map_sub_refs f) (map_sub_refs g) map_sub_refs-same

-- ---- one function after another

module _ (f g : EngineOrModuleTypeIndex → EngineOrModuleTypeIndex) where
  pub map_heap_refs-over : (h : WasmHeapType) → map_heap_refs f (map_heap_refs g h) ≡ map_heap_refs (λ i. f (g i)) h
  map_heap_refs-over (heap.ConcreteFunc i) = refl
  map_heap_refs-over (heap.ConcreteArray i) = refl
  map_heap_refs-over (heap.ConcreteStruct i) = refl
  map_heap_refs-over (heap.ConcreteExn i) = refl
  map_heap_refs-over (heap.ConcreteCont i) = refl
  map_heap_refs-over _ = refl

  pub map_val_refs-over : (v : WasmValType) → map_val_refs f (map_val_refs g v) ≡ map_val_refs (λ i. f (g i)) v
  map_val_refs-over (val.Ref r) = let changed = map_heap_refs-over r.heap_type in λ i. val.Ref (record r { heap_type = changed i })
  map_val_refs-over _ = refl

  pub map_storage_refs-over : (s : WasmStorageType) → map_storage_refs f (map_storage_refs g s) ≡ map_storage_refs (λ i. f (g i)) s
  map_storage_refs-over (storage.Val v) = ap storage.Val (map_val_refs-over v)
  map_storage_refs-over _ = refl

  pub map_field_refs-over : (t : WasmFieldType) → map_field_refs f (map_field_refs g t) ≡ map_field_refs (λ i. f (g i)) t
  map_field_refs-over t = let changed = map_storage_refs-over t.element_type in λ i. record t { element_type = changed i }

  map_vals_refs-over : (vs : List WasmValType) → map_vals_refs f (map_vals_refs g vs) ≡ map_vals_refs (λ i. f (g i)) vs
  map_vals_refs-over = map-twice (map_val_refs f) (map_val_refs g) (map_val_refs (λ i. f (g i))) map_val_refs-over

  map_fields_refs-over : (ts : List WasmFieldType) → map_fields_refs f (map_fields_refs g ts) ≡ map_fields_refs (λ i. f (g i)) ts
  map_fields_refs-over = map-twice (map_field_refs f) (map_field_refs g) (map_field_refs (λ i. f (g i))) map_field_refs-over

  pub map_shape_refs-over : (s : WasmCompositeInnerType) → map_shape_refs f (map_shape_refs g s) ≡ map_shape_refs (λ i. f (g i)) s
  map_shape_refs-over (shape.Func t) =
      let params = map_vals_refs-over t.params in
      let results = map_vals_refs-over t.results in
      λ i. shape.Func (record { params = params i; results = results i })
  map_shape_refs-over (shape.Struct s) = let fields = map_fields_refs-over s.fields in λ i. shape.Struct (record { fields = fields i })
  map_shape_refs-over (shape.Array a) = let field = map_field_refs-over a.0 in λ i. shape.Array (record { 0 = field i })
  map_shape_refs-over (shape.Exn e) =
      let fields = map_fields_refs-over e.fields in
      λ i. shape.Exn (record { func_ty = f (g e.func_ty); fields = fields i })
  map_shape_refs-over (shape.Cont c) = refl

  over_super-over : (s : Option EngineOrModuleTypeIndex) → option_map f (option_map g s) ≡ option_map (λ i. f (g i)) s
  over_super-over None = refl
  over_super-over (Some i) = refl

  pub map_sub_refs-over : (t : WasmSubType) → map_sub_refs f (map_sub_refs g t) ≡ map_sub_refs (λ i. f (g i)) t
  map_sub_refs-over t =
      let super = over_super-over t.supertype in
      let shapes = map_shape_refs-over t.composite_type in
      λ i. record t { supertype = super i; composite_type = shapes i }

  pub map_group_refs-over : (ts : List WasmSubType) → map_group_refs f (map_group_refs g ts) ≡ map_group_refs (λ i. f (g i)) ts
  map_group_refs-over = map-twice (map_sub_refs f) (map_sub_refs g) (map_sub_refs (λ i. f (g i))) map_sub_refs-over

-- ---- the function that changes nothing

map_heap_refs-none : (h : WasmHeapType) → map_heap_refs (λ i. i) h ≡ h
map_heap_refs-none (heap.ConcreteFunc i) = refl
map_heap_refs-none (heap.ConcreteArray i) = refl
map_heap_refs-none (heap.ConcreteStruct i) = refl
map_heap_refs-none (heap.ConcreteExn i) = refl
map_heap_refs-none (heap.ConcreteCont i) = refl
map_heap_refs-none _ = refl

map_val_refs-none : (v : WasmValType) → map_val_refs (λ i. i) v ≡ v
map_val_refs-none (val.Ref r) = let changed = map_heap_refs-none r.heap_type in λ i. val.Ref (record r { heap_type = changed i })
map_val_refs-none _ = refl

map_storage_refs-none : (s : WasmStorageType) → map_storage_refs (λ i. i) s ≡ s
map_storage_refs-none (storage.Val v) = ap storage.Val (map_val_refs-none v)
map_storage_refs-none _ = refl

map_field_refs-none : (t : WasmFieldType) → map_field_refs (λ i. i) t ≡ t
map_field_refs-none t = let changed = map_storage_refs-none t.element_type in λ i. record t { element_type = changed i }

map_shape_refs-none : (s : WasmCompositeInnerType) → map_shape_refs (λ i. i) s ≡ s
map_shape_refs-none (shape.Func t) =
    let params = map-none (map_val_refs (λ i. i)) map_val_refs-none t.params in
    let results = map-none (map_val_refs (λ i. i)) map_val_refs-none t.results in
    λ i. shape.Func (record { params = params i; results = results i })
map_shape_refs-none (shape.Struct s) =
    let fields = map-none (map_field_refs (λ i. i)) map_field_refs-none s.fields in
    λ i. shape.Struct (record { fields = fields i })
map_shape_refs-none (shape.Array a) = let field = map_field_refs-none a.0 in λ i. shape.Array (record { 0 = field i })
map_shape_refs-none (shape.Exn e) =
    let fields = map-none (map_field_refs (λ i. i)) map_field_refs-none e.fields in
    λ i. shape.Exn (record { func_ty = e.func_ty; fields = fields i })
map_shape_refs-none (shape.Cont c) = refl

over_super-none : (s : Option EngineOrModuleTypeIndex) → option_map (λ i. i) s ≡ s
over_super-none None = refl
over_super-none (Some i) = refl

pub map_sub_refs-none : (t : WasmSubType) → map_sub_refs (λ i. i) t ≡ t
map_sub_refs-none t =
    let super = over_super-none t.supertype in
    let shapes = map_shape_refs-none t.composite_type in
    λ i. record t { supertype = super i; composite_type = shapes i }

pub map_group_refs-none : (ts : List WasmSubType) → map_group_refs (λ i. i) ts ≡ ts
map_group_refs-none = map-none (map_sub_refs (λ i. i)) map_sub_refs-none
