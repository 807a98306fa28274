-- The fit of types is reflexive and transitive, whatever the type indices name.
use Rattle.std.proofs.Common.{◌≡◌, ◌<◌, ◌⊎◌, inl, inr, Bool, true, false, not, ◌&&◌, ◌||◌, List, [], ◌∷◌, length, refl, sym, ap, subst, ◌∙◌, arith}
use Rattle.std.proofs.lemmas.Bool.{false≢true}
use Rattle.std.specs.Cmp.{first_so, second_so}
use Rattle.std.specs.Cmp.Lexicographic.{pointwise}
use Rattle.wt_env.specs.Erasure.{top_of, is_top}
use Rattle.wt_env.specs.Equality.{heap_type_eq, heap_type_eq-exact, heap_type_eq-refl}
use Rattle.wt_env.specs.declared.types.EngineOrModuleTypeIndex.{EngineOrModuleTypeIndex}
use Rattle.wt_env.specs.declared.types.WasmHeapType.{WasmHeapType}
use Rattle.wt_env.specs.declared.types.WasmHeapType.TheVariants as heap
use Rattle.wt_env.specs.declared.types.WasmRefType.{WasmRefType}
use Rattle.wt_env.specs.declared.types.WasmValType.{WasmValType}
use Rattle.wt_env.specs.declared.types.WasmValType.TheVariants as val
use Rattle.wt_env.specs.declared.types.WasmStorageType.{WasmStorageType}
use Rattle.wt_env.specs.declared.types.WasmStorageType.TheVariants as storage
use Rattle.wt_env.specs.declared.types.WasmFieldType.{WasmFieldType}
use Rattle.wt_env.specs.declared.types.WasmCompositeInnerType.{WasmCompositeInnerType}
use Rattle.wt_env.specs.declared.types.WasmCompositeInnerType.TheVariants as shape
use Rattle.wt_tree.specs.Tree.{ClosedTree}
use Rattle.wt_tree.specs.Subtyping.{closed_tree_eq}
use Rattle.wt_tree.specs.Fit.{is_bottom, inner_fits, heap_fits, ref_fits, val_fits, vals_fit, storage_fits, storage_equal, field_fits_by, field_fits, field_equal, fields_equal, fields_fit, shape_fits}
use Rattle.wt_tree.proofs.TreeEquality.{both}
use Rattle.wt_tree.proofs.Subtyping.{closed_tree_eq-exact, closed_tree_eq-refl, is_sub-refl, is_sub-trans}

-- two different variants don't fit
no : {A : Type 0} → false ≡ true → A
no h = absurd (false≢true h)

-- one of three tests is true
which_of_three : (s t u : Bool) → (s || t || u) ≡ true → (s ≡ true) ⊎ (t ≡ true) ⊎ (u ≡ true)
which_of_three true t u h = inl refl
which_of_three false true u h = inr (inl refl)
which_of_three false false u h = inr (inr h)

one_of_three : (s t u : Bool) → (s ≡ true) ⊎ (t ≡ true) ⊎ (u ≡ true) → (s || t || u) ≡ true
one_of_three true t u h = refl
one_of_three false true u h = refl
one_of_three false false u (inl h) = no h
one_of_three false false u (inr (inl h)) = no h
one_of_three false false u (inr (inr h)) = h

-- ---- lists, place by place

pointwise-refl : {A : Type 0} (test : A → A → Bool) → ((x : A) → test x x ≡ true) → (xs : List A) → pointwise test xs xs ≡ true
pointwise-refl test own [] = refl
pointwise-refl test own (x ∷ xs) = both (own x) (pointwise-refl test own xs)

pointwise-trans : {A : Type 0} (first second joined : A → A → Bool) → ((x y z : A) → first x y ≡ true → second y z ≡ true → joined x z ≡ true)
    → (xs ys zs : List A) → pointwise first xs ys ≡ true → pointwise second ys zs ≡ true → pointwise joined xs zs ≡ true
pointwise-trans first second joined each [] [] [] h k = refl
pointwise-trans first second joined each [] [] (z ∷ zs) h k = no k
pointwise-trans first second joined each [] (y ∷ ys) zs h k = no h
pointwise-trans first second joined each (x ∷ xs) [] zs h k = no h
pointwise-trans first second joined each (x ∷ xs) (y ∷ ys) [] h k = no k
pointwise-trans first second joined each (x ∷ xs) (y ∷ ys) (z ∷ zs) h k =
    both (each x y z (first_so (first x y) (pointwise first xs ys) h) (first_so (second y z) (pointwise second ys zs) k))
    (pointwise-trans first second joined each xs ys zs (second_so (first x y) (pointwise first xs ys) h) (second_so (second y z) (pointwise second ys zs) k))

-- fewer fields fit no more fields
pub fields_fit-short : (left right : EngineOrModuleTypeIndex → ClosedTree) (xs ys : List WasmFieldType) → length xs < length ys → fields_fit left right xs ys ≡ false
fields_fit-short left right xs [] few = absurd (omega (arith, few))
fields_fit-short left right [] (y ∷ ys) few = refl
fields_fit-short left right (x ∷ xs) (y ∷ ys) few =
    let fewer : length xs < length ys = omega (arith, few) in
    ap (λ (rest : Bool). field_fits left right x y && rest) (fields_fit-short left right xs ys fewer) ∙ no_more (field_fits left right x y)
  where
    no_more : (t : Bool) → (t && false) ≡ false
    no_more true = refl
    no_more false = refl

-- ---- a type fits itself

module _ (read : EngineOrModuleTypeIndex → ClosedTree) where
  -- what is neither top nor bottom
  inner-own : (h : WasmHeapType) → (is_bottom h || is_top h || inner_fits read read h h) ≡ true
  inner-own heap.Extern = refl
  inner-own heap.NoExtern = refl
  inner-own heap.Func = refl
  inner-own (heap.ConcreteFunc i) = is_sub-refl (read i)
  inner-own heap.NoFunc = refl
  inner-own heap.Any = refl
  inner-own heap.Eq = refl
  inner-own heap.I31 = refl
  inner-own heap.Array = refl
  inner-own (heap.ConcreteArray i) = is_sub-refl (read i)
  inner-own heap.Struct = refl
  inner-own (heap.ConcreteStruct i) = is_sub-refl (read i)
  inner-own heap.Exn = refl
  inner-own (heap.ConcreteExn i) = is_sub-refl (read i)
  inner-own (heap.ConcreteCont i) = is_sub-refl (read i)
  inner-own heap.Cont = refl
  inner-own heap.NoCont = refl
  inner-own heap.None = refl
  inner-own heap.NoExn = refl

  pub heap_fits-refl : (h : WasmHeapType) → heap_fits read read h h ≡ true
  heap_fits-refl h = both (heap_type_eq-refl (top_of h)) (inner-own h)

  nullable-own : (b : Bool) → (not b || b) ≡ true
  nullable-own true = refl
  nullable-own false = refl

  pub ref_fits-refl : (r : WasmRefType) → ref_fits read read r r ≡ true
  ref_fits-refl r = both (nullable-own r.nullable) (heap_fits-refl r.heap_type)

  pub val_fits-refl : (v : WasmValType) → val_fits read read v v ≡ true
  val_fits-refl val.I32 = refl
  val_fits-refl val.I64 = refl
  val_fits-refl val.F32 = refl
  val_fits-refl val.F64 = refl
  val_fits-refl val.V128 = refl
  val_fits-refl (val.Ref r) = ref_fits-refl r

  pub storage_fits-refl : (s : WasmStorageType) → storage_fits read read s s ≡ true
  storage_fits-refl storage.I8 = refl
  storage_fits-refl storage.I16 = refl
  storage_fits-refl (storage.Val v) = val_fits-refl v

  field-own : (mutable : Bool) (s : WasmStorageType) → field_fits_by read read mutable mutable s s ≡ true
  field-own true s = both (storage_fits-refl s) (storage_fits-refl s)
  field-own false s = storage_fits-refl s

  pub field_fits-refl : (f : WasmFieldType) → field_fits read read f f ≡ true
  field_fits-refl f = field-own f.mutable f.element_type

  fields-own : (fs : List WasmFieldType) → fields_fit read read fs fs ≡ true
  fields-own [] = refl
  fields-own (f ∷ fs) = both (field_fits-refl f) (fields-own fs)

  pub shape_fits-refl : (s : WasmCompositeInnerType) → shape_fits read read s s ≡ true
  shape_fits-refl (shape.Func f) =
      both (pointwise-refl (val_fits read read) val_fits-refl f.params) (pointwise-refl (val_fits read read) val_fits-refl f.results)
  shape_fits-refl (shape.Struct s) = fields-own s.fields
  shape_fits-refl (shape.Array a) = field_fits-refl a.0
  shape_fits-refl (shape.Exn e) =
      both (closed_tree_eq-refl (read e.func_ty))
      (pointwise-refl (field_equal read read) (λ f. both (field_fits-refl f) (field_fits-refl f)) e.fields)
  shape_fits-refl (shape.Cont c) = is_sub-refl (read c.0)

-- ---- a type fits what fits on

-- a top is no bottom, and in no order with what is between
top_no_bottom : (h : WasmHeapType) → is_top h ≡ true → is_bottom h ≡ false
top_no_bottom heap.Extern t = refl
top_no_bottom heap.Func t = refl
top_no_bottom heap.Any t = refl
top_no_bottom heap.Exn t = refl
top_no_bottom heap.Cont t = refl
top_no_bottom h t = no t

module _ (left middle right : EngineOrModuleTypeIndex → ClosedTree) where
  top-ends : (b c : WasmHeapType) → is_top b ≡ true → inner_fits middle right b c ≡ false
  top-ends heap.Extern c t = refl
  top-ends heap.Func c t = refl
  top-ends heap.Any c t = refl
  top-ends heap.Exn c t = refl
  top-ends heap.Cont c t = refl
  top-ends b c t = no t

  -- what another is below is no bottom
  inner-above : (a b : WasmHeapType) → inner_fits left middle a b ≡ true → is_bottom b ≡ false
  inner-above heap.Eq heap.Eq h = refl
  inner-above heap.I31 heap.I31 h = refl
  inner-above heap.I31 heap.Eq h = refl
  inner-above heap.Array heap.Array h = refl
  inner-above heap.Array heap.Eq h = refl
  inner-above (heap.ConcreteArray i) (heap.ConcreteArray j) h = refl
  inner-above (heap.ConcreteArray i) heap.Array h = refl
  inner-above (heap.ConcreteArray i) heap.Eq h = refl
  inner-above heap.Struct heap.Struct h = refl
  inner-above heap.Struct heap.Eq h = refl
  inner-above (heap.ConcreteStruct i) (heap.ConcreteStruct j) h = refl
  inner-above (heap.ConcreteStruct i) heap.Struct h = refl
  inner-above (heap.ConcreteStruct i) heap.Eq h = refl
  inner-above (heap.ConcreteFunc i) (heap.ConcreteFunc j) h = refl
  inner-above (heap.ConcreteExn i) (heap.ConcreteExn j) h = refl
  inner-above (heap.ConcreteCont i) (heap.ConcreteCont j) h = refl
  inner-above a b h = no h

  -- the order between bottom and top is transitive
  inner-trans : (a b c : WasmHeapType) → inner_fits left middle a b ≡ true → inner_fits middle right b c ≡ true → inner_fits left right a c ≡ true
  inner-trans heap.Eq heap.Eq heap.Eq h k = refl
  inner-trans heap.Eq heap.Eq c h k = no k
  inner-trans heap.I31 heap.I31 heap.I31 h k = refl
  inner-trans heap.I31 heap.I31 heap.Eq h k = refl
  inner-trans heap.I31 heap.I31 c h k = no k
  inner-trans heap.I31 heap.Eq heap.Eq h k = refl
  inner-trans heap.I31 heap.Eq c h k = no k
  inner-trans heap.Array heap.Array heap.Array h k = refl
  inner-trans heap.Array heap.Array heap.Eq h k = refl
  inner-trans heap.Array heap.Array c h k = no k
  inner-trans heap.Array heap.Eq heap.Eq h k = refl
  inner-trans heap.Array heap.Eq c h k = no k
  inner-trans (heap.ConcreteArray i) (heap.ConcreteArray j) (heap.ConcreteArray n) h k = is_sub-trans (left i) (middle j) (right n) h k
  inner-trans (heap.ConcreteArray i) (heap.ConcreteArray j) heap.Array h k = refl
  inner-trans (heap.ConcreteArray i) (heap.ConcreteArray j) heap.Eq h k = refl
  inner-trans (heap.ConcreteArray i) (heap.ConcreteArray j) c h k = no k
  inner-trans (heap.ConcreteArray i) heap.Array heap.Array h k = refl
  inner-trans (heap.ConcreteArray i) heap.Array heap.Eq h k = refl
  inner-trans (heap.ConcreteArray i) heap.Array c h k = no k
  inner-trans (heap.ConcreteArray i) heap.Eq heap.Eq h k = refl
  inner-trans (heap.ConcreteArray i) heap.Eq c h k = no k
  inner-trans heap.Struct heap.Struct heap.Struct h k = refl
  inner-trans heap.Struct heap.Struct heap.Eq h k = refl
  inner-trans heap.Struct heap.Struct c h k = no k
  inner-trans heap.Struct heap.Eq heap.Eq h k = refl
  inner-trans heap.Struct heap.Eq c h k = no k
  inner-trans (heap.ConcreteStruct i) (heap.ConcreteStruct j) (heap.ConcreteStruct n) h k = is_sub-trans (left i) (middle j) (right n) h k
  inner-trans (heap.ConcreteStruct i) (heap.ConcreteStruct j) heap.Struct h k = refl
  inner-trans (heap.ConcreteStruct i) (heap.ConcreteStruct j) heap.Eq h k = refl
  inner-trans (heap.ConcreteStruct i) (heap.ConcreteStruct j) c h k = no k
  inner-trans (heap.ConcreteStruct i) heap.Struct heap.Struct h k = refl
  inner-trans (heap.ConcreteStruct i) heap.Struct heap.Eq h k = refl
  inner-trans (heap.ConcreteStruct i) heap.Struct c h k = no k
  inner-trans (heap.ConcreteStruct i) heap.Eq heap.Eq h k = refl
  inner-trans (heap.ConcreteStruct i) heap.Eq c h k = no k
  inner-trans (heap.ConcreteFunc i) (heap.ConcreteFunc j) (heap.ConcreteFunc n) h k = is_sub-trans (left i) (middle j) (right n) h k
  inner-trans (heap.ConcreteFunc i) (heap.ConcreteFunc j) c h k = no k
  inner-trans (heap.ConcreteExn i) (heap.ConcreteExn j) (heap.ConcreteExn n) h k = is_sub-trans (left i) (middle j) (right n) h k
  inner-trans (heap.ConcreteExn i) (heap.ConcreteExn j) c h k = no k
  inner-trans (heap.ConcreteCont i) (heap.ConcreteCont j) (heap.ConcreteCont n) h k = is_sub-trans (left i) (middle j) (right n) h k
  inner-trans (heap.ConcreteCont i) (heap.ConcreteCont j) c h k = no k
  inner-trans a b c h k = no h

  -- what begins at a bottom, ends at a top, or is in order between
  three : (a b c : WasmHeapType) → (is_bottom a ≡ true) ⊎ (is_top b ≡ true) ⊎ (inner_fits left middle a b ≡ true)
      → (is_bottom b ≡ true) ⊎ (is_top c ≡ true) ⊎ (inner_fits middle right b c ≡ true) → (is_bottom a || is_top c || inner_fits left right a c) ≡ true
  three a b c (inl bottom) k = one_of_three (is_bottom a) (is_top c) (inner_fits left right a c) (inl bottom)
  three a b c (inr h) (inr (inl top)) = one_of_three (is_bottom a) (is_top c) (inner_fits left right a c) (inr (inl top))
  three a b c (inr (inl top)) (inl bottom) = no (sym (top_no_bottom b top) ∙ bottom)
  three a b c (inr (inl top)) (inr (inr next)) = no (sym (top-ends b c top) ∙ next)
  three a b c (inr (inr inner)) (inl bottom) = no (sym (inner-above a b inner) ∙ bottom)
  three a b c (inr (inr inner)) (inr (inr next)) = one_of_three (is_bottom a) (is_top c) (inner_fits left right a c) (inr (inr (inner-trans a b c inner next)))

  pub heap_fits-trans : (a b c : WasmHeapType) → heap_fits left middle a b ≡ true → heap_fits middle right b c ≡ true → heap_fits left right a c ≡ true
  heap_fits-trans a b c h k =
      let here = is_bottom a || is_top b || inner_fits left middle a b in
      let next = is_bottom b || is_top c || inner_fits middle right b c in
      let first = heap_type_eq-exact (top_of a) (top_of b) (first_so (heap_type_eq (top_of a) (top_of b)) here h) in
      let second = heap_type_eq-exact (top_of b) (top_of c) (first_so (heap_type_eq (top_of b) (top_of c)) next k) in
      both (subst (λ (t : WasmHeapType). heap_type_eq (top_of a) t ≡ true) (first ∙ second) (heap_type_eq-refl (top_of a)))
      (three a b c (which_of_three (is_bottom a) (is_top b) (inner_fits left middle a b) (second_so (heap_type_eq (top_of a) (top_of b)) here h))
      (which_of_three (is_bottom b) (is_top c) (inner_fits middle right b c) (second_so (heap_type_eq (top_of b) (top_of c)) next k)))

  nullable-trans : (x y z : Bool) → (not x || y) ≡ true → (not y || z) ≡ true → (not x || z) ≡ true
  nullable-trans false y z h k = refl
  nullable-trans true true z h k = k
  nullable-trans true false z h k = no h

  pub ref_fits-trans : (a b c : WasmRefType) → ref_fits left middle a b ≡ true → ref_fits middle right b c ≡ true → ref_fits left right a c ≡ true
  ref_fits-trans a b c h k =
      both (nullable-trans a.nullable b.nullable c.nullable (first_so (not a.nullable || b.nullable) (heap_fits left middle a.heap_type b.heap_type) h)
      (first_so (not b.nullable || c.nullable) (heap_fits middle right b.heap_type c.heap_type) k))
      (heap_fits-trans a.heap_type b.heap_type c.heap_type (second_so (not a.nullable || b.nullable) (heap_fits left middle a.heap_type b.heap_type) h)
      (second_so (not b.nullable || c.nullable) (heap_fits middle right b.heap_type c.heap_type) k))

  pub val_fits-trans : (a b c : WasmValType) → val_fits left middle a b ≡ true → val_fits middle right b c ≡ true → val_fits left right a c ≡ true
  val_fits-trans val.I32 val.I32 c h k = k
  val_fits-trans val.I64 val.I64 c h k = k
  val_fits-trans val.F32 val.F32 c h k = k
  val_fits-trans val.F64 val.F64 c h k = k
  val_fits-trans val.V128 val.V128 c h k = k
  val_fits-trans (val.Ref a) (val.Ref b) (val.Ref c) h k = ref_fits-trans a b c h k
  val_fits-trans (val.Ref a) (val.Ref b) c h k = no k
  val_fits-trans a b c h k = no h

  pub storage_fits-trans : (a b c : WasmStorageType) → storage_fits left middle a b ≡ true → storage_fits middle right b c ≡ true → storage_fits left right a c ≡ true
  storage_fits-trans storage.I8 storage.I8 c h k = k
  storage_fits-trans storage.I16 storage.I16 c h k = k
  storage_fits-trans (storage.Val a) (storage.Val b) (storage.Val c) h k = val_fits-trans a b c h k
  storage_fits-trans (storage.Val a) (storage.Val b) c h k = no k
  storage_fits-trans a b c h k = no h

-- both ways at once
module _ (left middle right : EngineOrModuleTypeIndex → ClosedTree) where
  pub storage_equal-trans : (a b c : WasmStorageType) → storage_equal left middle a b ≡ true → storage_equal middle right b c ≡ true → storage_equal left right a c ≡ true
  storage_equal-trans a b c h k =
      both (storage_fits-trans left middle right a b c (first_so (storage_fits left middle a b) (storage_fits middle left b a) h)
      (first_so (storage_fits middle right b c) (storage_fits right middle c b) k))
      (storage_fits-trans right middle left c b a (second_so (storage_fits middle right b c) (storage_fits right middle c b) k)
      (second_so (storage_fits left middle a b) (storage_fits middle left b a) h))

  field-trans : (x y z : Bool) (a b c : WasmStorageType) → field_fits_by left middle x y a b ≡ true → field_fits_by middle right y z b c ≡ true → field_fits_by left right x z a c ≡ true
  field-trans false false false a b c h k = storage_fits-trans left middle right a b c h k
  field-trans true true true a b c h k = storage_equal-trans a b c h k
  field-trans false false true a b c h k = no k
  field-trans true true false a b c h k = no k
  field-trans false true z a b c h k = no h
  field-trans true false z a b c h k = no h

  pub field_fits-trans : (a b c : WasmFieldType) → field_fits left middle a b ≡ true → field_fits middle right b c ≡ true → field_fits left right a c ≡ true
  field_fits-trans a b c h k = field-trans a.mutable b.mutable c.mutable a.element_type b.element_type c.element_type h k

  fields_fit-trans : (xs ys zs : List WasmFieldType) → fields_fit left middle xs ys ≡ true → fields_fit middle right ys zs ≡ true → fields_fit left right xs zs ≡ true
  fields_fit-trans xs ys [] h k = refl
  fields_fit-trans xs [] (z ∷ zs) h k = no k
  fields_fit-trans [] (y ∷ ys) (z ∷ zs) h k = no h
  fields_fit-trans (x ∷ xs) (y ∷ ys) (z ∷ zs) h k =
      both (field_fits-trans x y z (first_so (field_fits left middle x y) (fields_fit left middle xs ys) h) (first_so (field_fits middle right y z) (fields_fit middle right ys zs) k))
      (fields_fit-trans xs ys zs (second_so (field_fits left middle x y) (fields_fit left middle xs ys) h) (second_so (field_fits middle right y z) (fields_fit middle right ys zs) k))

-- two closed trees that equal a third are equal
same-trans : (a b c : ClosedTree) → closed_tree_eq a b ≡ true → closed_tree_eq b c ≡ true → closed_tree_eq a c ≡ true
same-trans a b c h k = subst (λ (t : ClosedTree). closed_tree_eq a t ≡ true) (closed_tree_eq-exact b c k) h

module _ (left middle right : EngineOrModuleTypeIndex → ClosedTree) where
  field_equal-trans : (a b c : WasmFieldType) → field_equal left middle a b ≡ true → field_equal middle right b c ≡ true → field_equal left right a c ≡ true
  field_equal-trans a b c h k =
      both (field_fits-trans left middle right a b c (first_so (field_fits left middle a b) (field_fits middle left b a) h)
      (first_so (field_fits middle right b c) (field_fits right middle c b) k))
      (field_fits-trans right middle left c b a (second_so (field_fits middle right b c) (field_fits right middle c b) k)
      (second_so (field_fits left middle a b) (field_fits middle left b a) h))

  pub shape_fits-trans : (a b c : WasmCompositeInnerType) → shape_fits left middle a b ≡ true → shape_fits middle right b c ≡ true → shape_fits left right a c ≡ true
  shape_fits-trans (shape.Func a) (shape.Func b) (shape.Func c) h k =
      both (pointwise-trans (val_fits right middle) (val_fits middle left) (val_fits right left) (val_fits-trans right middle left) c.params b.params a.params
      (first_so (vals_fit right middle c.params b.params) (vals_fit middle right b.results c.results) k)
      (first_so (vals_fit middle left b.params a.params) (vals_fit left middle a.results b.results) h))
      (pointwise-trans (val_fits left middle) (val_fits middle right) (val_fits left right) (val_fits-trans left middle right) a.results b.results c.results
      (second_so (vals_fit middle left b.params a.params) (vals_fit left middle a.results b.results) h)
      (second_so (vals_fit right middle c.params b.params) (vals_fit middle right b.results c.results) k))
  shape_fits-trans (shape.Func a) (shape.Func b) c h k = no k
  shape_fits-trans (shape.Struct a) (shape.Struct b) (shape.Struct c) h k = fields_fit-trans left middle right a.fields b.fields c.fields h k
  shape_fits-trans (shape.Struct a) (shape.Struct b) c h k = no k
  shape_fits-trans (shape.Array a) (shape.Array b) (shape.Array c) h k = field_fits-trans left middle right a.0 b.0 c.0 h k
  shape_fits-trans (shape.Array a) (shape.Array b) c h k = no k
  shape_fits-trans (shape.Exn a) (shape.Exn b) (shape.Exn c) h k =
      both (same-trans (left a.func_ty) (middle b.func_ty) (right c.func_ty)
      (first_so (closed_tree_eq (left a.func_ty) (middle b.func_ty)) (fields_equal left middle a.fields b.fields) h)
      (first_so (closed_tree_eq (middle b.func_ty) (right c.func_ty)) (fields_equal middle right b.fields c.fields) k))
      (pointwise-trans (field_equal left middle) (field_equal middle right) (field_equal left right) field_equal-trans a.fields b.fields c.fields
      (second_so (closed_tree_eq (left a.func_ty) (middle b.func_ty)) (fields_equal left middle a.fields b.fields) h)
      (second_so (closed_tree_eq (middle b.func_ty) (right c.func_ty)) (fields_equal middle right b.fields c.fields) k))
  shape_fits-trans (shape.Exn a) (shape.Exn b) c h k = no k
  shape_fits-trans (shape.Cont a) (shape.Cont b) (shape.Cont c) h k = is_sub-trans (left a.0) (middle b.0) (right c.0) h k
  shape_fits-trans (shape.Cont a) (shape.Cont b) c h k = no k
  shape_fits-trans a b c h k = no h
