-- What the derived `==` of the type data answers, and that it answers `true` exactly at equal values:
-- of each test, `-exact` says that it is true only of equal values, `-refl` that it is true of a value
-- and itself, and `-tells`, where it is given, both at once.
use Rattle.std.proofs.Common.{◌≡◌, ◌≢◌, ◌⊎◌, inl, inr, sym, ◌∙◌, refl, Bool, true, false, ◌&&◌, List, ℕ, ap, subst}
use Rattle.std.proofs.lemmas.Bool.{false≢true}
use Rattle.std.specs.Prelude.{nat_eq}
use Rattle.std.specs.declared.option.Option.{Option}
use Rattle.std.specs.declared.option.Option.TheVariants.{None, Some}
use Rattle.std.specs.Bool.{Decides, beq}
use Rattle.std.specs.Option.{option_eq}
use Rattle.std.specs.Cmp.{booleans_Decides, unsigned_Decides, first_so, second_so}
use Rattle.std.specs.Cmp.Lexicographic.{pointwise, pointwise_decides}
use Rattle.wt_env.specs.declared.types.VMSharedTypeIndex.{VMSharedTypeIndex}
use Rattle.wt_env.specs.declared.types.ModuleInternedTypeIndex.{ModuleInternedTypeIndex}
use Rattle.wt_env.specs.declared.types.EngineOrModuleTypeIndex.{EngineOrModuleTypeIndex}
use Rattle.wt_env.specs.declared.types.EngineOrModuleTypeIndex.TheVariants.{Engine, Module, RecGroup}
use Rattle.wt_env.specs.declared.types.WasmHeapType.{WasmHeapType}
use Rattle.wt_env.specs.declared.types.WasmHeapType.TheVariants as heap
use Rattle.wt_env.specs.declared.types.WasmRefType.{WasmRefType}
use Rattle.wt_env.specs.declared.types.WasmValType.{WasmValType}
use Rattle.wt_env.specs.declared.types.WasmValType.TheVariants.{I32, I64, F32, F64, V128, Ref}
use Rattle.wt_env.specs.declared.types.WasmStorageType.{WasmStorageType}
use Rattle.wt_env.specs.declared.types.WasmStorageType.TheVariants.{I8, I16, Val}
use Rattle.wt_env.specs.declared.types.WasmFieldType.{WasmFieldType}
use Rattle.wt_env.specs.declared.types.WasmFuncType.{WasmFuncType}
use Rattle.wt_env.specs.declared.types.WasmStructType.{WasmStructType}
use Rattle.wt_env.specs.declared.types.WasmArrayType.{WasmArrayType}
use Rattle.wt_env.specs.declared.types.WasmExnType.{WasmExnType}
use Rattle.wt_env.specs.declared.types.WasmContType.{WasmContType}
use Rattle.wt_env.specs.declared.types.WasmCompositeInnerType.{WasmCompositeInnerType}
use Rattle.wt_env.specs.declared.types.WasmCompositeInnerType.TheVariants.{Func, Struct, Array, Exn, Cont}
use Rattle.wt_env.specs.declared.types.WasmSubType.{WasmSubType}
use Rattle.wt_env.specs.declared.types.WasmRecGroup.{WasmRecGroup}
use Rattle.wt_env.specs.contracts.types.VMSharedTypeIndexPartialEq.TheImpl as shared_index
use Rattle.wt_env.specs.contracts.types.ModuleInternedTypeIndexPartialEq.TheImpl as module_index
use Rattle.wt_env.specs.contracts.types.EngineOrModuleTypeIndexPartialEq.TheImpl as type_index
use Rattle.wt_env.specs.contracts.types.WasmHeapTypePartialEq.TheImpl as heap_type
use Rattle.wt_env.specs.contracts.types.WasmRefTypePartialEq.TheImpl as ref_type
use Rattle.wt_env.specs.contracts.types.WasmValTypePartialEq.TheImpl as val_type
use Rattle.wt_env.specs.contracts.types.WasmStorageTypePartialEq.TheImpl as storage_type
use Rattle.wt_env.specs.contracts.types.WasmFieldTypePartialEq.TheImpl as field_type
use Rattle.wt_env.specs.contracts.types.WasmFuncTypePartialEq.TheImpl as func_type
use Rattle.wt_env.specs.contracts.types.WasmStructTypePartialEq.TheImpl as struct_type
use Rattle.wt_env.specs.contracts.types.WasmArrayTypePartialEq.TheImpl as array_type
use Rattle.wt_env.specs.contracts.types.WasmExnTypePartialEq.TheImpl as exn_type
use Rattle.wt_env.specs.contracts.types.WasmContTypePartialEq.TheImpl as cont_type
use Rattle.wt_env.specs.contracts.types.WasmCompositeInnerTypePartialEq.TheImpl as composite_type
use Rattle.wt_env.specs.contracts.types.WasmSubTypePartialEq.TheImpl as sub_type
use Rattle.wt_env.specs.contracts.types.WasmRecGroupPartialEq.TheImpl as rec_group

-- the tests

abbrev pub shared_index_eq : VMSharedTypeIndex → VMSharedTypeIndex → Bool
shared_index_eq = (shared_index.ghosts).eq

abbrev pub module_index_eq : ModuleInternedTypeIndex → ModuleInternedTypeIndex → Bool
module_index_eq = (module_index.ghosts).eq

abbrev pub type_index_eq : EngineOrModuleTypeIndex → EngineOrModuleTypeIndex → Bool
type_index_eq = (type_index.ghosts).eq

abbrev pub supertype_eq : Option EngineOrModuleTypeIndex → Option EngineOrModuleTypeIndex → Bool
supertype_eq = option_eq type_index_eq

abbrev pub heap_type_eq : WasmHeapType → WasmHeapType → Bool
heap_type_eq = (heap_type.ghosts).eq

abbrev pub ref_type_eq : WasmRefType → WasmRefType → Bool
ref_type_eq = (ref_type.ghosts).eq

abbrev pub val_type_eq : WasmValType → WasmValType → Bool
val_type_eq = (val_type.ghosts).eq

abbrev pub val_types_eq : List WasmValType → List WasmValType → Bool
val_types_eq = pointwise val_type_eq

abbrev pub storage_type_eq : WasmStorageType → WasmStorageType → Bool
storage_type_eq = (storage_type.ghosts).eq

abbrev pub field_type_eq : WasmFieldType → WasmFieldType → Bool
field_type_eq = (field_type.ghosts).eq

abbrev pub field_types_eq : List WasmFieldType → List WasmFieldType → Bool
field_types_eq = pointwise field_type_eq

abbrev pub func_type_eq : WasmFuncType → WasmFuncType → Bool
func_type_eq = (func_type.ghosts).eq

abbrev pub struct_type_eq : WasmStructType → WasmStructType → Bool
struct_type_eq = (struct_type.ghosts).eq

abbrev pub array_type_eq : WasmArrayType → WasmArrayType → Bool
array_type_eq = (array_type.ghosts).eq

abbrev pub exn_type_eq : WasmExnType → WasmExnType → Bool
exn_type_eq = (exn_type.ghosts).eq

abbrev pub cont_type_eq : WasmContType → WasmContType → Bool
cont_type_eq = (cont_type.ghosts).eq

abbrev pub composite_type_eq : WasmCompositeInnerType → WasmCompositeInnerType → Bool
composite_type_eq = (composite_type.ghosts).eq

abbrev pub sub_type_eq : WasmSubType → WasmSubType → Bool
sub_type_eq = (sub_type.ghosts).eq

abbrev pub sub_types_eq : List WasmSubType → List WasmSubType → Bool
sub_types_eq = pointwise sub_type_eq

abbrev pub rec_group_eq : WasmRecGroup → WasmRecGroup → Bool
rec_group_eq = (rec_group.ghosts).eq

-- two tests that are both true
both : {s t : Bool} → s ≡ true → t ≡ true → (s && t) ≡ true
both p q = λ i. p i && q i

-- two different variants don't pass
no : {A : Type 0} → false ≡ true → A
no h = absurd (false≢true h)

-- a test that is true only of equal values, and of a value and itself, decides equality, and so does
-- that of lists, element by element
module _ {A : Type 0} (E : A → A → Bool) (exact : (a b : A) → E a b ≡ true → a ≡ b) (own : (a : A) → E a a ≡ true) where
  decides : (a b : A) → Decides (E a b) (a ≡ b)
  decides a b = (exact a b, λ e. subst (λ x. E a x ≡ true) e (own a))

  told : (a b : A) (t : Bool) → E a b ≡ t → ((E a b ≡ true) × (a ≡ b)) ⊎ ((E a b ≡ false) × (a ≢ b))
  told a b true h = inl (h, exact a b h)
  told a b false h = inr (h, λ e. false≢true (sym h ∙ (decides a b).1 e))

  tells : (a b : A) → ((E a b ≡ true) × (a ≡ b)) ⊎ ((E a b ≡ false) × (a ≢ b))
  tells a b = told a b (E a b) refl

  lists-exact : (a b : List A) → pointwise E a b ≡ true → a ≡ b
  lists-exact a b = (pointwise_decides decides a b).0

  lists-refl : (a : List A) → pointwise E a a ≡ true
  lists-refl a = (pointwise_decides decides a a).1 refl

-- numbers and flags
nat-exact : (a b : ℕ) → nat_eq a b ≡ true → a ≡ b
nat-exact a b = (unsigned_Decides a b).0

nat-refl : (a : ℕ) → nat_eq a a ≡ true
nat-refl a = (unsigned_Decides a a).1 refl

flag-exact : (a b : Bool) → beq a b ≡ true → a ≡ b
flag-exact a b = (booleans_Decides a b).0

flag-refl : (a : Bool) → beq a a ≡ true
flag-refl a = (booleans_Decides a a).1 refl

-- indices

pub shared_index_eq-exact : (a b : VMSharedTypeIndex) → shared_index_eq a b ≡ true → a ≡ b
shared_index_eq-exact a b h = λ i. record { 0 = nat-exact a.0 b.0 h i }

pub shared_index_eq-refl : (a : VMSharedTypeIndex) → shared_index_eq a a ≡ true
shared_index_eq-refl a = nat-refl a.0

pub module_index_eq-exact : (a b : ModuleInternedTypeIndex) → module_index_eq a b ≡ true → a ≡ b
module_index_eq-exact a b h = λ i. record { 0 = nat-exact a.0 b.0 h i }

pub module_index_eq-refl : (a : ModuleInternedTypeIndex) → module_index_eq a a ≡ true
module_index_eq-refl a = nat-refl a.0

pub type_index_eq-exact : (a b : EngineOrModuleTypeIndex) → type_index_eq a b ≡ true → a ≡ b
type_index_eq-exact (Engine a) (Engine b) h = ap Engine (shared_index_eq-exact a b h)
type_index_eq-exact (Module a) (Module b) h = ap Module (module_index_eq-exact a b h)
type_index_eq-exact (RecGroup a) (RecGroup b) h = ap RecGroup (nat-exact a b h)
type_index_eq-exact a b h = no h

pub type_index_eq-refl : (a : EngineOrModuleTypeIndex) → type_index_eq a a ≡ true
type_index_eq-refl (Engine a) = shared_index_eq-refl a
type_index_eq-refl (Module a) = module_index_eq-refl a
type_index_eq-refl (RecGroup a) = nat-refl a

-- an index or none
pub supertype_eq-exact : (a b : Option EngineOrModuleTypeIndex) → supertype_eq a b ≡ true → a ≡ b
supertype_eq-exact None None h = refl
supertype_eq-exact None (Some b) h = no h
supertype_eq-exact (Some a) None h = no h
supertype_eq-exact (Some a) (Some b) h = ap Some (type_index_eq-exact a b h)

pub supertype_eq-refl : (a : Option EngineOrModuleTypeIndex) → supertype_eq a a ≡ true
supertype_eq-refl None = refl
supertype_eq-refl (Some a) = type_index_eq-refl a

-- the types, from the heap types up

pub heap_type_eq-exact : (a b : WasmHeapType) → heap_type_eq a b ≡ true → a ≡ b
heap_type_eq-exact heap.Extern heap.Extern h = refl
heap_type_eq-exact heap.NoExtern heap.NoExtern h = refl
heap_type_eq-exact heap.Func heap.Func h = refl
heap_type_eq-exact (heap.ConcreteFunc a) (heap.ConcreteFunc b) h = ap heap.ConcreteFunc (type_index_eq-exact a b h)
heap_type_eq-exact heap.NoFunc heap.NoFunc h = refl
heap_type_eq-exact heap.Any heap.Any h = refl
heap_type_eq-exact heap.Eq heap.Eq h = refl
heap_type_eq-exact heap.I31 heap.I31 h = refl
heap_type_eq-exact heap.Array heap.Array h = refl
heap_type_eq-exact (heap.ConcreteArray a) (heap.ConcreteArray b) h = ap heap.ConcreteArray (type_index_eq-exact a b h)
heap_type_eq-exact heap.Struct heap.Struct h = refl
heap_type_eq-exact (heap.ConcreteStruct a) (heap.ConcreteStruct b) h = ap heap.ConcreteStruct (type_index_eq-exact a b h)
heap_type_eq-exact heap.Exn heap.Exn h = refl
heap_type_eq-exact (heap.ConcreteExn a) (heap.ConcreteExn b) h = ap heap.ConcreteExn (type_index_eq-exact a b h)
heap_type_eq-exact (heap.ConcreteCont a) (heap.ConcreteCont b) h = ap heap.ConcreteCont (type_index_eq-exact a b h)
heap_type_eq-exact heap.Cont heap.Cont h = refl
heap_type_eq-exact heap.NoCont heap.NoCont h = refl
heap_type_eq-exact heap.None heap.None h = refl
heap_type_eq-exact heap.NoExn heap.NoExn h = refl
heap_type_eq-exact a b h = no h

pub heap_type_eq-refl : (a : WasmHeapType) → heap_type_eq a a ≡ true
heap_type_eq-refl heap.Extern = refl
heap_type_eq-refl heap.NoExtern = refl
heap_type_eq-refl heap.Func = refl
heap_type_eq-refl (heap.ConcreteFunc a) = type_index_eq-refl a
heap_type_eq-refl heap.NoFunc = refl
heap_type_eq-refl heap.Any = refl
heap_type_eq-refl heap.Eq = refl
heap_type_eq-refl heap.I31 = refl
heap_type_eq-refl heap.Array = refl
heap_type_eq-refl (heap.ConcreteArray a) = type_index_eq-refl a
heap_type_eq-refl heap.Struct = refl
heap_type_eq-refl (heap.ConcreteStruct a) = type_index_eq-refl a
heap_type_eq-refl heap.Exn = refl
heap_type_eq-refl (heap.ConcreteExn a) = type_index_eq-refl a
heap_type_eq-refl (heap.ConcreteCont a) = type_index_eq-refl a
heap_type_eq-refl heap.Cont = refl
heap_type_eq-refl heap.NoCont = refl
heap_type_eq-refl heap.None = refl
heap_type_eq-refl heap.NoExn = refl

pub ref_type_eq-exact : (a b : WasmRefType) → ref_type_eq a b ≡ true → a ≡ b
ref_type_eq-exact a b h = λ i. record { nullable = flag-exact a.nullable b.nullable (first_so _ _ h) i; heap_type = heap_type_eq-exact a.heap_type b.heap_type (second_so _ _ h) i }

pub ref_type_eq-refl : (a : WasmRefType) → ref_type_eq a a ≡ true
ref_type_eq-refl a = both (flag-refl a.nullable) (heap_type_eq-refl a.heap_type)

pub val_type_eq-exact : (a b : WasmValType) → val_type_eq a b ≡ true → a ≡ b
val_type_eq-exact I32 I32 h = refl
val_type_eq-exact I64 I64 h = refl
val_type_eq-exact F32 F32 h = refl
val_type_eq-exact F64 F64 h = refl
val_type_eq-exact V128 V128 h = refl
val_type_eq-exact (Ref a) (Ref b) h = ap Ref (ref_type_eq-exact a b h)
val_type_eq-exact a b h = no h

pub val_type_eq-refl : (a : WasmValType) → val_type_eq a a ≡ true
val_type_eq-refl I32 = refl
val_type_eq-refl I64 = refl
val_type_eq-refl F32 = refl
val_type_eq-refl F64 = refl
val_type_eq-refl V128 = refl
val_type_eq-refl (Ref a) = ref_type_eq-refl a

pub val_types_eq-exact : (a b : List WasmValType) → val_types_eq a b ≡ true → a ≡ b
val_types_eq-exact = lists-exact val_type_eq val_type_eq-exact val_type_eq-refl

pub val_types_eq-refl : (a : List WasmValType) → val_types_eq a a ≡ true
val_types_eq-refl = lists-refl val_type_eq val_type_eq-exact val_type_eq-refl

pub storage_type_eq-exact : (a b : WasmStorageType) → storage_type_eq a b ≡ true → a ≡ b
storage_type_eq-exact I8 I8 h = refl
storage_type_eq-exact I16 I16 h = refl
storage_type_eq-exact (Val a) (Val b) h = ap Val (val_type_eq-exact a b h)
storage_type_eq-exact a b h = no h

pub storage_type_eq-refl : (a : WasmStorageType) → storage_type_eq a a ≡ true
storage_type_eq-refl I8 = refl
storage_type_eq-refl I16 = refl
storage_type_eq-refl (Val a) = val_type_eq-refl a

pub field_type_eq-exact : (a b : WasmFieldType) → field_type_eq a b ≡ true → a ≡ b
field_type_eq-exact a b h = λ i. record { element_type = storage_type_eq-exact a.element_type b.element_type (first_so _ _ h) i; mutable = flag-exact a.mutable b.mutable (second_so _ _ h) i }

pub field_type_eq-refl : (a : WasmFieldType) → field_type_eq a a ≡ true
field_type_eq-refl a = both (storage_type_eq-refl a.element_type) (flag-refl a.mutable)

pub field_types_eq-exact : (a b : List WasmFieldType) → field_types_eq a b ≡ true → a ≡ b
field_types_eq-exact = lists-exact field_type_eq field_type_eq-exact field_type_eq-refl

pub field_types_eq-refl : (a : List WasmFieldType) → field_types_eq a a ≡ true
field_types_eq-refl = lists-refl field_type_eq field_type_eq-exact field_type_eq-refl

pub func_type_eq-exact : (a b : WasmFuncType) → func_type_eq a b ≡ true → a ≡ b
func_type_eq-exact a b h = λ i. record { params = val_types_eq-exact a.params b.params (first_so _ _ h) i; results = val_types_eq-exact a.results b.results (second_so _ _ h) i }

pub func_type_eq-refl : (a : WasmFuncType) → func_type_eq a a ≡ true
func_type_eq-refl a = both (val_types_eq-refl a.params) (val_types_eq-refl a.results)

pub struct_type_eq-exact : (a b : WasmStructType) → struct_type_eq a b ≡ true → a ≡ b
struct_type_eq-exact a b h = λ i. record { fields = field_types_eq-exact a.fields b.fields h i }

pub struct_type_eq-refl : (a : WasmStructType) → struct_type_eq a a ≡ true
struct_type_eq-refl a = field_types_eq-refl a.fields

pub array_type_eq-exact : (a b : WasmArrayType) → array_type_eq a b ≡ true → a ≡ b
array_type_eq-exact a b h = λ i. record { 0 = field_type_eq-exact a.0 b.0 h i }

pub array_type_eq-refl : (a : WasmArrayType) → array_type_eq a a ≡ true
array_type_eq-refl a = field_type_eq-refl a.0

pub exn_type_eq-exact : (a b : WasmExnType) → exn_type_eq a b ≡ true → a ≡ b
exn_type_eq-exact a b h = λ i. record { func_ty = type_index_eq-exact a.func_ty b.func_ty (first_so _ _ h) i; fields = field_types_eq-exact a.fields b.fields (second_so _ _ h) i }

pub exn_type_eq-refl : (a : WasmExnType) → exn_type_eq a a ≡ true
exn_type_eq-refl a = both (type_index_eq-refl a.func_ty) (field_types_eq-refl a.fields)

pub cont_type_eq-exact : (a b : WasmContType) → cont_type_eq a b ≡ true → a ≡ b
cont_type_eq-exact a b h = λ i. record { 0 = type_index_eq-exact a.0 b.0 h i }

pub cont_type_eq-refl : (a : WasmContType) → cont_type_eq a a ≡ true
cont_type_eq-refl a = type_index_eq-refl a.0

pub composite_type_eq-exact : (a b : WasmCompositeInnerType) → composite_type_eq a b ≡ true → a ≡ b
composite_type_eq-exact (Func a) (Func b) h = ap Func (func_type_eq-exact a b h)
composite_type_eq-exact (Struct a) (Struct b) h = ap Struct (struct_type_eq-exact a b h)
composite_type_eq-exact (Array a) (Array b) h = ap Array (array_type_eq-exact a b h)
composite_type_eq-exact (Exn a) (Exn b) h = ap Exn (exn_type_eq-exact a b h)
composite_type_eq-exact (Cont a) (Cont b) h = ap Cont (cont_type_eq-exact a b h)
composite_type_eq-exact a b h = no h

pub composite_type_eq-refl : (a : WasmCompositeInnerType) → composite_type_eq a a ≡ true
composite_type_eq-refl (Func a) = func_type_eq-refl a
composite_type_eq-refl (Struct a) = struct_type_eq-refl a
composite_type_eq-refl (Array a) = array_type_eq-refl a
composite_type_eq-refl (Exn a) = exn_type_eq-refl a
composite_type_eq-refl (Cont a) = cont_type_eq-refl a

pub sub_type_eq-exact : (a b : WasmSubType) → sub_type_eq a b ≡ true → a ≡ b
sub_type_eq-exact a b h = λ i. record { is_final = flag-exact a.is_final b.is_final (first_so _ _ h) i; supertype = supertype_eq-exact a.supertype b.supertype (first_so _ _ (second_so _ _ h)) i; composite_type = composite_type_eq-exact a.composite_type b.composite_type (second_so _ _ (second_so _ _ h)) i }

pub sub_type_eq-refl : (a : WasmSubType) → sub_type_eq a a ≡ true
sub_type_eq-refl a = both (flag-refl a.is_final) (both (supertype_eq-refl a.supertype) (composite_type_eq-refl a.composite_type))

pub sub_types_eq-exact : (a b : List WasmSubType) → sub_types_eq a b ≡ true → a ≡ b
sub_types_eq-exact = lists-exact sub_type_eq sub_type_eq-exact sub_type_eq-refl

pub sub_types_eq-refl : (a : List WasmSubType) → sub_types_eq a a ≡ true
sub_types_eq-refl = lists-refl sub_type_eq sub_type_eq-exact sub_type_eq-refl

pub rec_group_eq-exact : (a b : WasmRecGroup) → rec_group_eq a b ≡ true → a ≡ b
rec_group_eq-exact a b h = λ i. record { types = sub_types_eq-exact a.types b.types h i }

pub rec_group_eq-refl : (a : WasmRecGroup) → rec_group_eq a a ≡ true
rec_group_eq-refl a = sub_types_eq-refl a.types

-- each test with what it tells, for `grind`

pub val_type_eq-tells : (a b : WasmValType) → ((val_type_eq a b ≡ true) × (a ≡ b)) ⊎ ((val_type_eq a b ≡ false) × (a ≢ b))
val_type_eq-tells = tells val_type_eq val_type_eq-exact val_type_eq-refl

pub field_type_eq-tells : (a b : WasmFieldType) → ((field_type_eq a b ≡ true) × (a ≡ b)) ⊎ ((field_type_eq a b ≡ false) × (a ≢ b))
field_type_eq-tells = tells field_type_eq field_type_eq-exact field_type_eq-refl

pub sub_type_eq-tells : (a b : WasmSubType) → ((sub_type_eq a b ≡ true) × (a ≡ b)) ⊎ ((sub_type_eq a b ≡ false) × (a ≢ b))
sub_type_eq-tells = tells sub_type_eq sub_type_eq-exact sub_type_eq-refl

pub sub_types_eq-tells : (a b : List WasmSubType) → ((sub_types_eq a b ≡ true) × (a ≡ b)) ⊎ ((sub_types_eq a b ≡ false) × (a ≢ b))
sub_types_eq-tells = tells sub_types_eq sub_types_eq-exact sub_types_eq-refl

pub rec_group_eq-tells : (a b : WasmRecGroup) → ((rec_group_eq a b ≡ true) × (a ≡ b)) ⊎ ((rec_group_eq a b ≡ false) × (a ≢ b))
rec_group_eq-tells = tells rec_group_eq rec_group_eq-exact rec_group_eq-refl

-- for `#[tactic(auto, using(..))]`, which takes no name with a dash
pub ruleset equality = (rec_group_eq-tells, sub_types_eq-tells, sub_type_eq-tells, field_type_eq-tells, val_type_eq-tells, rec_group_eq-exact, rec_group_eq-refl, sub_types_eq-exact, sub_types_eq-refl, sub_type_eq-exact, sub_type_eq-refl, field_type_eq-exact, field_type_eq-refl, val_type_eq-exact, val_type_eq-refl)
