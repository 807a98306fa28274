-- The fit of types depends on what their type indices name alone: where the indices are changed, and name the same
-- closed trees by another reading, the answer is the same.
use Rattle.std.proofs.Common.{◌≡◌, ◌↔◌, inl, inr, Bool, true, false, not, ◌&&◌, ◌||◌, List, [], ◌∷◌, map, Option, Some, None, IsTrue, unwrap_or, refl, sym, ◌∙◌}
use Rattle.std.specs.Prelude.{is_some}
use Rattle.std.proofs.lemmas.Bool.{false≢true}
use Rattle.wt_env.specs.Among.{Among}
use Rattle.wt_env.specs.Erasure.{top_of, is_top}
use Rattle.wt_env.specs.Equality.{heap_type_eq}
use Rattle.wt_env.specs.declared.types.VMSharedTypeIndex.{VMSharedTypeIndex}
use Rattle.wt_env.specs.declared.types.EngineOrModuleTypeIndex.{EngineOrModuleTypeIndex}
use Rattle.wt_env.specs.declared.types.EngineOrModuleTypeIndex.TheVariants as index
use Rattle.wt_env.specs.declared.types.WasmHeapType.{WasmHeapType}
use Rattle.wt_env.specs.declared.types.WasmHeapType.TheVariants as heap
use Rattle.wt_env.specs.declared.types.WasmRefType.{WasmRefType}
use Rattle.wt_env.specs.declared.types.WasmValType.{WasmValType}
use Rattle.wt_env.specs.declared.types.WasmValType.TheVariants as val
use Rattle.wt_env.specs.declared.types.WasmStorageType.{WasmStorageType}
use Rattle.wt_env.specs.declared.types.WasmStorageType.TheVariants as storage
use Rattle.wt_env.specs.declared.types.WasmFieldType.{WasmFieldType}
use Rattle.wt_env.specs.declared.types.WasmCompositeInnerType.{WasmCompositeInnerType}
use Rattle.wt_env.specs.declared.types.WasmCompositeInnerType.TheVariants as shape
use Rattle.wt_tree.specs.Tree.{ClosedTree, no_tree}
use Rattle.wt_tree.specs.Kinds.{kinded_heap, kinded_val, kinded_vals, kinded_storage, kinded_field, kinded_fields, kinded_shape, indices_of}
use Rattle.wt_tree.specs.MapRefs.{map_heap_refs, map_ref_refs, map_val_refs, map_vals_refs, map_storage_refs, map_field_refs, map_fields_refs, map_shape_refs}
use Rattle.wt_tree.specs.Subtyping.{closed_tree_eq, is_sub, Sub, IsTypeMap}
use Rattle.wt_tree.specs.Fit.{is_bottom, inner_fits, heap_fits, ref_fits, val_fits, vals_fit, storage_fits, field_fits_by, field_fits, fields_equal, fields_fit, shape_fits, named_by}
use Rattle.wt_tree.proofs.KnownParts.{among_first, among_second}
use Rattle.wt_tree.proofs.Subtyping.{is_sub-exact}
use Rattle.wt_env.proofs.lists.Members.{same_test}

-- ---- one side: its indices are changed, and what they name by a reading is what the old ones name by another

pub record Side : Type 0 where
  pub change : EngineOrModuleTypeIndex → EngineOrModuleTypeIndex
  pub read : EngineOrModuleTypeIndex → ClosedTree
  pub read_before : EngineOrModuleTypeIndex → ClosedTree

-- of these indices
abbrev pub Agree : Side → List EngineOrModuleTypeIndex → Type 0
Agree side indices = (i : EngineOrModuleTypeIndex) → Among i indices → side.read (side.change i) ≡ side.read_before i

-- ---- heap types

top-changed : (change : EngineOrModuleTypeIndex → EngineOrModuleTypeIndex) (h : WasmHeapType) → top_of (map_heap_refs change h) ≡ top_of h
top-changed change (heap.ConcreteFunc i) = refl
top-changed change (heap.ConcreteArray i) = refl
top-changed change (heap.ConcreteStruct i) = refl
top-changed change (heap.ConcreteExn i) = refl
top-changed change (heap.ConcreteCont i) = refl
top-changed change h = refl

is_top-changed : (change : EngineOrModuleTypeIndex → EngineOrModuleTypeIndex) (h : WasmHeapType) → is_top (map_heap_refs change h) ≡ is_top h
is_top-changed change (heap.ConcreteFunc i) = refl
is_top-changed change h = refl

is_bottom-changed : (change : EngineOrModuleTypeIndex → EngineOrModuleTypeIndex) (h : WasmHeapType) → is_bottom (map_heap_refs change h) ≡ is_bottom h
is_bottom-changed change (heap.ConcreteFunc i) = refl
is_bottom-changed change h = refl

inner-changed : (left right : Side) (a b : WasmHeapType) → Agree left (indices_of (kinded_heap a)) → Agree right (indices_of (kinded_heap b))
    → inner_fits left.read right.read (map_heap_refs left.change a) (map_heap_refs right.change b) ≡ inner_fits left.read_before right.read_before a b
inner-changed left right (heap.ConcreteFunc i) (heap.ConcreteFunc j) p q = λ t. is_sub (p i (inl refl) t) (q j (inl refl) t)
inner-changed left right (heap.ConcreteArray i) (heap.ConcreteArray j) p q = λ t. is_sub (p i (inl refl) t) (q j (inl refl) t)
inner-changed left right (heap.ConcreteStruct i) (heap.ConcreteStruct j) p q = λ t. is_sub (p i (inl refl) t) (q j (inl refl) t)
inner-changed left right (heap.ConcreteExn i) (heap.ConcreteExn j) p q = λ t. is_sub (p i (inl refl) t) (q j (inl refl) t)
inner-changed left right (heap.ConcreteCont i) (heap.ConcreteCont j) p q = λ t. is_sub (p i (inl refl) t) (q j (inl refl) t)
inner-changed left right heap.Eq heap.Eq p q = refl
inner-changed left right heap.I31 heap.I31 p q = refl
inner-changed left right heap.Array heap.Array p q = refl
inner-changed left right heap.Struct heap.Struct p q = refl
inner-changed left right a b p q = refl

heap-changed : (left right : Side) (a b : WasmHeapType) → Agree left (indices_of (kinded_heap a)) → Agree right (indices_of (kinded_heap b))
    → heap_fits left.read right.read (map_heap_refs left.change a) (map_heap_refs right.change b) ≡ heap_fits left.read_before right.read_before a b
heap-changed left right a b p q =
    λ t. heap_type_eq (top-changed left.change a t) (top-changed right.change b t)
    && (is_bottom-changed left.change a t || is_top-changed right.change b t || inner-changed left right a b p q t)

-- ---- values and fields

ref-changed : (left right : Side) (a b : WasmRefType) → Agree left (indices_of (kinded_heap a.heap_type)) → Agree right (indices_of (kinded_heap b.heap_type))
    → ref_fits left.read right.read (map_ref_refs left.change a) (map_ref_refs right.change b) ≡ ref_fits left.read_before right.read_before a b
ref-changed left right a b p q = λ t. (not a.nullable || b.nullable) && heap-changed left right a.heap_type b.heap_type p q t

val-changed : (left right : Side) (a b : WasmValType) → Agree left (indices_of (kinded_val a)) → Agree right (indices_of (kinded_val b))
    → val_fits left.read right.read (map_val_refs left.change a) (map_val_refs right.change b) ≡ val_fits left.read_before right.read_before a b
val-changed left right (val.Ref a) (val.Ref b) p q = ref-changed left right a b p q
val-changed left right val.I32 val.I32 p q = refl
val-changed left right val.I64 val.I64 p q = refl
val-changed left right val.F32 val.F32 p q = refl
val-changed left right val.F64 val.F64 p q = refl
val-changed left right val.V128 val.V128 p q = refl
val-changed left right a b p q = refl

vals-changed : (left right : Side) (xs ys : List WasmValType) → Agree left (indices_of (kinded_vals xs)) → Agree right (indices_of (kinded_vals ys))
    → vals_fit left.read right.read (map_vals_refs left.change xs) (map_vals_refs right.change ys) ≡ vals_fit left.read_before right.read_before xs ys
vals-changed left right [] [] p q = refl
vals-changed left right [] (y ∷ ys) p q = refl
vals-changed left right (x ∷ xs) [] p q = refl
vals-changed left right (x ∷ xs) (y ∷ ys) p q =
    let here = val-changed left right x y (λ i at. p i (among_first (kinded_val x) (kinded_vals xs) i at)) (λ i at. q i (among_first (kinded_val y) (kinded_vals ys) i at)) in
    let rest = vals-changed left right xs ys (λ i at. p i (among_second (kinded_val x) (kinded_vals xs) i at)) (λ i at. q i (among_second (kinded_val y) (kinded_vals ys) i at)) in
    λ t. here t && rest t

storage-changed : (left right : Side) (a b : WasmStorageType) → Agree left (indices_of (kinded_storage a)) → Agree right (indices_of (kinded_storage b))
    → storage_fits left.read right.read (map_storage_refs left.change a) (map_storage_refs right.change b) ≡ storage_fits left.read_before right.read_before a b
storage-changed left right (storage.Val a) (storage.Val b) p q = val-changed left right a b p q
storage-changed left right storage.I8 storage.I8 p q = refl
storage-changed left right storage.I16 storage.I16 p q = refl
storage-changed left right a b p q = refl

by-changed : (left right : Side) (x y : Bool) (a b : WasmStorageType) → Agree left (indices_of (kinded_storage a)) → Agree right (indices_of (kinded_storage b))
    → field_fits_by left.read right.read x y (map_storage_refs left.change a) (map_storage_refs right.change b) ≡ field_fits_by left.read_before right.read_before x y a b
by-changed left right false false a b p q = storage-changed left right a b p q
by-changed left right true true a b p q = λ t. storage-changed left right a b p q t && storage-changed right left b a q p t
by-changed left right false true a b p q = refl
by-changed left right true false a b p q = refl

field-changed : (left right : Side) (a b : WasmFieldType) → Agree left (indices_of (kinded_field a)) → Agree right (indices_of (kinded_field b))
    → field_fits left.read right.read (map_field_refs left.change a) (map_field_refs right.change b) ≡ field_fits left.read_before right.read_before a b
field-changed left right a b p q = by-changed left right a.mutable b.mutable a.element_type b.element_type p q

pub equal-changed : (left right : Side) (xs ys : List WasmFieldType) → Agree left (indices_of (kinded_fields xs)) → Agree right (indices_of (kinded_fields ys))
    → fields_equal left.read right.read (map_fields_refs left.change xs) (map_fields_refs right.change ys) ≡ fields_equal left.read_before right.read_before xs ys
equal-changed left right [] [] p q = refl
equal-changed left right [] (y ∷ ys) p q = refl
equal-changed left right (x ∷ xs) [] p q = refl
equal-changed left right (x ∷ xs) (y ∷ ys) p q =
    let p-here : Agree left (indices_of (kinded_field x)) = λ i at. p i (among_first (kinded_field x) (kinded_fields xs) i at) in
    let q-here : Agree right (indices_of (kinded_field y)) = λ i at. q i (among_first (kinded_field y) (kinded_fields ys) i at) in
    let rest = equal-changed left right xs ys (λ i at. p i (among_second (kinded_field x) (kinded_fields xs) i at)) (λ i at. q i (among_second (kinded_field y) (kinded_fields ys) i at)) in
    λ t. (field-changed left right x y p-here q-here t && field-changed right left y x q-here p-here t) && rest t

fields-changed : (left right : Side) (xs ys : List WasmFieldType) → Agree left (indices_of (kinded_fields xs)) → Agree right (indices_of (kinded_fields ys))
    → fields_fit left.read right.read (map_fields_refs left.change xs) (map_fields_refs right.change ys) ≡ fields_fit left.read_before right.read_before xs ys
fields-changed left right [] [] p q = refl
fields-changed left right (x ∷ xs) [] p q = refl
fields-changed left right [] (y ∷ ys) p q = refl
fields-changed left right (x ∷ xs) (y ∷ ys) p q =
    let here = field-changed left right x y (λ i at. p i (among_first (kinded_field x) (kinded_fields xs) i at)) (λ i at. q i (among_first (kinded_field y) (kinded_fields ys) i at)) in
    let rest = fields-changed left right xs ys (λ i at. p i (among_second (kinded_field x) (kinded_fields xs) i at)) (λ i at. q i (among_second (kinded_field y) (kinded_fields ys) i at)) in
    λ t. here t && rest t

-- ---- shapes

pub shape-changed : (left right : Side) (a b : WasmCompositeInnerType) → Agree left (indices_of (kinded_shape a)) → Agree right (indices_of (kinded_shape b))
    → shape_fits left.read right.read (map_shape_refs left.change a) (map_shape_refs right.change b) ≡ shape_fits left.read_before right.read_before a b
shape-changed left right (shape.Func a) (shape.Func b) p q =
    let params = vals-changed right left b.params a.params (λ i at. q i (among_first (kinded_vals b.params) (kinded_vals b.results) i at)) (λ i at. p i (among_first (kinded_vals a.params) (kinded_vals a.results) i at)) in
    let results = vals-changed left right a.results b.results (λ i at. p i (among_second (kinded_vals a.params) (kinded_vals a.results) i at)) (λ i at. q i (among_second (kinded_vals b.params) (kinded_vals b.results) i at)) in
    λ t. params t && results t
shape-changed left right (shape.Struct a) (shape.Struct b) p q = fields-changed left right a.fields b.fields p q
shape-changed left right (shape.Array a) (shape.Array b) p q = field-changed left right a.0 b.0 p q
shape-changed left right (shape.Exn a) (shape.Exn b) p q =
    let fields = equal-changed left right a.fields b.fields (λ i at. p i (inr at)) (λ i at. q i (inr at)) in
    λ t. closed_tree_eq (p a.func_ty (inl refl) t) (q b.func_ty (inl refl) t) && fields t
shape-changed left right (shape.Cont a) (shape.Cont b) p q = λ t. is_sub (p a.0 (inl refl) t) (q b.0 (inl refl) t)
shape-changed left right a b p q = refl

-- ---- what a walk over indices tells

-- declared steps between two types with indices, as the test on their closed trees
pub steps-told : (types : VMSharedTypeIndex → Option ClosedTree) → IsTypeMap types → (i j : VMSharedTypeIndex) → is_some (types i) ≡ true → is_some (types j) ≡ true
    → (result : Bool) → ((s t : ClosedTree) → types i ≡ Some s → types j ≡ Some t → IsTrue result ↔ Sub s t)
    → result ≡ is_sub (named_by types (index.Engine i)) (named_by types (index.Engine j))
steps-told types map i j sub sup result told = by (types i) (types j) refl refl sub sup
  where
    by : (found found' : Option ClosedTree) → types i ≡ found → types j ≡ found' → is_some found ≡ true → is_some found' ≡ true
        → result ≡ is_sub (unwrap_or (types i) no_tree) (unwrap_or (types j) no_tree)
    by None found' e e' here there = absurd (false≢true here)
    by (Some s) None e e' here there = absurd (false≢true there)
    by (Some s) (Some t) e e' here there =
        let exact = is_sub-exact types map i s t e in
        let answer = told s t e e' in
        same_test result (is_sub s t) (λ h. exact.1 (answer.0 h)) (λ h. answer.1 (exact.0 h))
        ∙ λ k. is_sub (unwrap_or (sym e k) no_tree) (unwrap_or (sym e' k) no_tree)
