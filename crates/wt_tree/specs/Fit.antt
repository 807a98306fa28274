-- When one type may stand for another, by the closed trees that their type indices name (WebAssembly 3.0, "Matching";
-- exceptions and continuations after wasmtime). Each of the two sides has a reading: which closed tree a type index
-- names there.
use Rattle.std.specs.Prelude.{◌≡◌, Bool, true, false, not, ◌&&◌, ◌||◌, List, [], ◌∷◌, Option, Some, None, unwrap_or, IsSome}
use Rattle.std.specs.Cmp.Lexicographic.{pointwise}
use Rattle.wt_env.specs.Among.{Among}
use Rattle.wt_env.specs.Erasure.{top_of, is_top}
use Rattle.wt_env.specs.Equality.{heap_type_eq}
use Rattle.wt_env.specs.declared.types.VMSharedTypeIndex.{VMSharedTypeIndex}
use Rattle.wt_env.specs.declared.types.EngineOrModuleTypeIndex.{EngineOrModuleTypeIndex}
use Rattle.wt_env.specs.declared.types.EngineOrModuleTypeIndex.TheVariants as index
use Rattle.wt_env.specs.declared.types.WasmHeapType.{WasmHeapType}
use Rattle.wt_env.specs.declared.types.WasmHeapType.TheVariants as heap
use Rattle.wt_env.specs.declared.types.WasmRefType.{WasmRefType}
use Rattle.wt_env.specs.declared.types.WasmValType.{WasmValType}
use Rattle.wt_env.specs.declared.types.WasmValType.TheVariants as val
use Rattle.wt_env.specs.declared.types.WasmStorageType.{WasmStorageType}
use Rattle.wt_env.specs.declared.types.WasmStorageType.TheVariants as storage
use Rattle.wt_env.specs.declared.types.WasmFieldType.{WasmFieldType}
use Rattle.wt_env.specs.declared.types.WasmCompositeInnerType.{WasmCompositeInnerType}
use Rattle.wt_env.specs.declared.types.WasmCompositeInnerType.TheVariants as shape
use Rattle.wt_env.specs.declared.types.WasmSubType.{WasmSubType}
use Rattle.wt_tree.specs.Tree.{ClosedTree, no_tree}
use Rattle.wt_tree.specs.Kinds.{type_indices}
use Rattle.wt_tree.specs.MapRefs.{map_sub_refs}
use Rattle.wt_tree.specs.Subtyping.{is_sub, closed_tree_eq, tree_at, member_at, supertype_of}

-- ---- heap types

-- whether a heap type is the bottom of its hierarchy
abbrev pub is_bottom : WasmHeapType → Bool
is_bottom heap.NoExtern = true
is_bottom heap.NoFunc = true
is_bottom heap.None = true
is_bottom heap.NoCont = true
is_bottom heap.NoExn = true
is_bottom _ = false

-- the order of the heap types that are neither top nor bottom
abbrev pub inner_fits : (left right : EngineOrModuleTypeIndex → ClosedTree) → WasmHeapType → WasmHeapType → Bool
inner_fits left right heap.Eq heap.Eq = true
inner_fits left right heap.I31 heap.I31 = true
inner_fits left right heap.I31 heap.Eq = true
inner_fits left right heap.Array heap.Array = true
inner_fits left right heap.Array heap.Eq = true
inner_fits left right (heap.ConcreteArray i) (heap.ConcreteArray j) = is_sub (left i) (right j)
inner_fits left right (heap.ConcreteArray i) heap.Array = true
inner_fits left right (heap.ConcreteArray i) heap.Eq = true
inner_fits left right heap.Struct heap.Struct = true
inner_fits left right heap.Struct heap.Eq = true
inner_fits left right (heap.ConcreteStruct i) (heap.ConcreteStruct j) = is_sub (left i) (right j)
inner_fits left right (heap.ConcreteStruct i) heap.Struct = true
inner_fits left right (heap.ConcreteStruct i) heap.Eq = true
inner_fits left right (heap.ConcreteFunc i) (heap.ConcreteFunc j) = is_sub (left i) (right j)
inner_fits left right (heap.ConcreteExn i) (heap.ConcreteExn j) = is_sub (left i) (right j)
inner_fits left right (heap.ConcreteCont i) (heap.ConcreteCont j) = is_sub (left i) (right j)
inner_fits left right _ _ = false

-- two heap types of one hierarchy, the first its bottom, or the second its top, or in order between them
abbrev pub heap_fits : (left right : EngineOrModuleTypeIndex → ClosedTree) → WasmHeapType → WasmHeapType → Bool
heap_fits left right a b = heap_type_eq (top_of a) (top_of b) && (is_bottom a || is_top b || inner_fits left right a b)

-- ---- values and fields

-- a reference that isn't nullable, or to a nullable one, to a heap type that fits
abbrev pub ref_fits : (left right : EngineOrModuleTypeIndex → ClosedTree) → WasmRefType → WasmRefType → Bool
ref_fits left right a b = (not a.nullable || b.nullable) && heap_fits left right a.heap_type b.heap_type

-- a number or a vector fits itself alone
abbrev pub val_fits : (left right : EngineOrModuleTypeIndex → ClosedTree) → WasmValType → WasmValType → Bool
val_fits left right val.I32 val.I32 = true
val_fits left right val.I64 val.I64 = true
val_fits left right val.F32 val.F32 = true
val_fits left right val.F64 val.F64 = true
val_fits left right val.V128 val.V128 = true
val_fits left right (val.Ref a) (val.Ref b) = ref_fits left right a b
val_fits left right _ _ = false

-- as many values, each of which fits the one at its place
abbrev pub vals_fit : (left right : EngineOrModuleTypeIndex → ClosedTree) → List WasmValType → List WasmValType → Bool
vals_fit left right xs ys = pointwise (val_fits left right) xs ys

-- a packed number fits itself alone
abbrev pub storage_fits : (left right : EngineOrModuleTypeIndex → ClosedTree) → WasmStorageType → WasmStorageType → Bool
storage_fits left right storage.I8 storage.I8 = true
storage_fits left right storage.I16 storage.I16 = true
storage_fits left right (storage.Val a) (storage.Val b) = val_fits left right a b
storage_fits left right _ _ = false

-- two are equal where each fits the other
abbrev pub storage_equal : (left right : EngineOrModuleTypeIndex → ClosedTree) → WasmStorageType → WasmStorageType → Bool
storage_equal left right a b = storage_fits left right a b && storage_fits right left b a

-- two constant fields whose storage fits, or two variable ones whose storage is equal
abbrev pub field_fits_by : (left right : EngineOrModuleTypeIndex → ClosedTree) → (mutable mutable' : Bool) → WasmStorageType → WasmStorageType → Bool
field_fits_by left right false false a b = storage_fits left right a b
field_fits_by left right true true a b = storage_equal left right a b
field_fits_by left right false true a b = false
field_fits_by left right true false a b = false

abbrev pub field_fits : (left right : EngineOrModuleTypeIndex → ClosedTree) → WasmFieldType → WasmFieldType → Bool
field_fits left right a b = field_fits_by left right a.mutable b.mutable a.element_type b.element_type

abbrev pub field_equal : (left right : EngineOrModuleTypeIndex → ClosedTree) → WasmFieldType → WasmFieldType → Bool
field_equal left right a b = field_fits left right a b && field_fits right left b a

-- as many fields, each equal to the one at its place
abbrev pub fields_equal : (left right : EngineOrModuleTypeIndex → ClosedTree) → List WasmFieldType → List WasmFieldType → Bool
fields_equal left right xs ys = pointwise (field_equal left right) xs ys

-- at least as many fields, of which each fits the one at its place
abbrev pub fields_fit : (left right : EngineOrModuleTypeIndex → ClosedTree) → List WasmFieldType → List WasmFieldType → Bool
fields_fit left right xs [] = true
fields_fit left right [] (y ∷ ys) = false
fields_fit left right (x ∷ xs) (y ∷ ys) = field_fits left right x y && fields_fit left right xs ys

-- ---- shapes

-- A function has as many parameters and results; the other's parameters fit its own, and its results the other's. The
-- function types of two exceptions are one
-- closed tree, and their fields are equal. The function type of a continuation is the other's by declared steps.
abbrev pub shape_fits : (left right : EngineOrModuleTypeIndex → ClosedTree) → WasmCompositeInnerType → WasmCompositeInnerType → Bool
shape_fits left right (shape.Func a) (shape.Func b) = vals_fit right left b.params a.params && vals_fit left right a.results b.results
shape_fits left right (shape.Struct a) (shape.Struct b) = fields_fit left right a.fields b.fields
shape_fits left right (shape.Array a) (shape.Array b) = field_fits left right a.0 b.0
shape_fits left right (shape.Exn a) (shape.Exn b) = closed_tree_eq (left a.func_ty) (right b.func_ty) && fields_equal left right a.fields b.fields
shape_fits left right (shape.Cont a) (shape.Cont b) = is_sub (left a.0) (right b.0)
shape_fits left right _ _ = false

-- the shapes of two closed trees, each read in its own tree
abbrev pub member_fits : ClosedTree → ClosedTree → Option WasmSubType → Option WasmSubType → Bool
member_fits s t (Some a) (Some b) = shape_fits (tree_at s.tree) (tree_at t.tree) a.composite_type b.composite_type
member_fits s t (Some a) None = false
member_fits s t None b = false

abbrev pub tree_fits : ClosedTree → ClosedTree → Bool
tree_fits s t = member_fits s t (member_at s) (member_at t)

-- ---- by indices

-- the closed tree that a type index names, where these are the closed trees of engine indices
abbrev pub named_by : (VMSharedTypeIndex → Option ClosedTree) → EngineOrModuleTypeIndex → ClosedTree
named_by types (index.Engine i) = unwrap_or (types i) no_tree
named_by types (index.Module n) = no_tree
named_by types (index.RecGroup k) = no_tree

-- an engine index that has a closed tree
abbrev pub IsKnown : (VMSharedTypeIndex → Option ClosedTree) → EngineOrModuleTypeIndex → Type 0
IsKnown types (index.Engine i) = IsSome (types i)
IsKnown types (index.Module n) = ⊥
IsKnown types (index.RecGroup k) = ⊥

-- each of these type indices has a closed tree
pub record AreKnown (types : VMSharedTypeIndex → Option ClosedTree) (indices : List EngineOrModuleTypeIndex) : Type 0 where
  pub each : (i : EngineOrModuleTypeIndex) → Among i indices → IsKnown types i

-- The sub type of a closed tree, with every type index as an engine index: of which each names the closed tree that the
-- index at its place in the tree names.
pub record Shows (types : VMSharedTypeIndex → Option ClosedTree) (t : ClosedTree) (ty : WasmSubType) : Type 0 where
  pub member : WasmSubType
  pub stands : member_at t ≡ Some member
  pub shown : EngineOrModuleTypeIndex → EngineOrModuleTypeIndex
  pub is_shown : ty ≡ map_sub_refs shown member
  pub names : (i : EngineOrModuleTypeIndex) → Among i (type_indices member) → named_by types (shown i) ≡ tree_at t.tree i
  pub known : AreKnown types (type_indices ty)

-- the sub type that an index has
abbrev pub ShowsAt : (VMSharedTypeIndex → Option ClosedTree) → VMSharedTypeIndex → WasmSubType → Type 0
ShowsAt types i ty = (t : ClosedTree) × (types i ≡ Some t) × Shows types t ty

-- of each closed tree with an index, the shape fits that of its declared supertype
abbrev pub StepsFit : (VMSharedTypeIndex → Option ClosedTree) → Type 0
StepsFit types = (i : VMSharedTypeIndex) (t s : ClosedTree) → types i ≡ Some t → supertype_of t ≡ Some s → tree_fits t s ≡ true

-- what is answered for two indices: whether the shape of the closed tree of the first fits that of the second
abbrev pub TellsFit : (VMSharedTypeIndex → Option ClosedTree) → VMSharedTypeIndex → VMSharedTypeIndex → Bool → Type 0
TellsFit types i j told = (s t : ClosedTree) → types i ≡ Some s → types j ≡ Some t → told ≡ tree_fits s t
