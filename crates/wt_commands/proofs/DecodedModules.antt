-- The types of decoded groups refer to each other by module index alone.
use Rattle.std.proofs.Common.{◌≡◌, ℕ, ◌==◌, Bool, true, false, List, ◌++◌, map, Option, Some, None, option_map, option_and_then, refl}
use Rattle.std.specs.Prelude.{⊤, IfSome, bytes_eq, codes, option_to_list}
use Rattle.std.specs.Option.{option_map_or}
use Rattle.serde_json.specs.Data.{Data, Items, no_items, item}
use Rattle.serde_json.specs.Find.{get, as_str, as_array}
use Rattle.wt_decode.specs.Json.{key_count, only_at, decode_u32, each_of, two_of}
use Rattle.wt_decode.specs.DecodeValues.{abstract_named, decode_index, decode_concrete, decode_heap, nullable_named, ref_to, decode_spelled_ref, decode_ref, number_named, decode_number, decode_val, packed_named, decode_packed, decode_storage, field_of, decode_field}
use Rattle.wt_decode.specs.DecodeGroups.{decode_vals, func_from, decode_func, decode_struct, decode_array, decode_cont, decode_constant, decode_constants, exn_from, exn_in, composite_in, final_in, super_in, known_keys, member_in, decode_member, decode_group, decode_groups}
use Rattle.wt_env.specs.declared.types.EngineOrModuleTypeIndex.{EngineOrModuleTypeIndex}
use Rattle.wt_env.specs.declared.types.EngineOrModuleTypeIndex.TheVariants.{Module}
use Rattle.wt_env.specs.declared.types.Kind.{Kind}
use Rattle.wt_env.specs.declared.types.WasmHeapType.{WasmHeapType}
use Rattle.wt_env.specs.declared.types.WasmHeapType.TheVariants as heap
use Rattle.wt_env.specs.declared.types.WasmRefType.{WasmRefType}
use Rattle.wt_env.specs.declared.types.WasmValType.{WasmValType}
use Rattle.wt_env.specs.declared.types.WasmValType.TheVariants as val
use Rattle.wt_env.specs.declared.types.WasmStorageType.{WasmStorageType}
use Rattle.wt_env.specs.declared.types.WasmStorageType.TheVariants as storage
use Rattle.wt_env.specs.declared.types.WasmFieldType.{WasmFieldType}
use Rattle.wt_env.specs.declared.types.WasmFuncType.{WasmFuncType}
use Rattle.wt_env.specs.declared.types.WasmExnType.{WasmExnType}
use Rattle.wt_env.specs.declared.types.WasmCompositeInnerType.{WasmCompositeInnerType}
use Rattle.wt_env.specs.declared.types.WasmCompositeInnerType.TheVariants as shape
use Rattle.wt_env.specs.declared.types.WasmSubType.{WasmSubType}
use Rattle.wt_env.specs.declared.types.WasmRecGroup.{WasmRecGroup}
use Rattle.wt_tree.specs.Kinds.{kinded_heap, kinded_val, kinded_storage, kinded_field, kinded_vals, kinded_shape, type_indices}
use Rattle.wt_rules.specs.Rules.{is_module_index, AreModuleTypes}
use Rattle.wt_commands.proofs.Decoding.{any_value, mapped, chained, either, found_or, first_or, EachIs, each_among, each_append, each_flat, each_mapped, each_read}

abbrev IsOfModule : EngineOrModuleTypeIndex → Type 0
IsOfModule i = is_module_index i ≡ true

-- ---- at each level: each index that stands there is a module index

abbrev AreOfModule : List (Kind × EngineOrModuleTypeIndex) → Type 0
AreOfModule references = EachIs (λ reference. IsOfModule reference.1) references

abbrev HeapIs : WasmHeapType → Type 0
HeapIs h = AreOfModule (kinded_heap h)

abbrev RefIs : WasmRefType → Type 0
RefIs r = HeapIs r.heap_type

abbrev ValIs : WasmValType → Type 0
ValIs v = AreOfModule (kinded_val v)

abbrev StorageIs : WasmStorageType → Type 0
StorageIs s = AreOfModule (kinded_storage s)

abbrev FieldIs : WasmFieldType → Type 0
FieldIs f = AreOfModule (kinded_field f)

abbrev ShapeIs : WasmCompositeInnerType → Type 0
ShapeIs s = AreOfModule (kinded_shape s)

abbrev MemberIs : WasmSubType → Type 0
MemberIs t = EachIs IsOfModule (type_indices t)

abbrev GroupIs : WasmRecGroup → Type 0
GroupIs group = EachIs MemberIs group.types

-- ---- values

index_is : (d : Data) → IfSome (decode_index d) IsOfModule
index_is d = mapped (λ n. ⊤) IsOfModule (λ n. Module (record { 0 = n })) (λ n any. refl) (decode_u32 d) (any_value (decode_u32 d))

abstract_is : (name : List ℕ) → IfSome (abstract_named name) HeapIs
abstract_is name =
    either HeapIs (bytes_eq name (codes "extern")) (Some heap.Extern) _ tt (
    either HeapIs (bytes_eq name (codes "noextern")) (Some heap.NoExtern) _ tt (
    either HeapIs (bytes_eq name (codes "func")) (Some heap.Func) _ tt (
    either HeapIs (bytes_eq name (codes "nofunc")) (Some heap.NoFunc) _ tt (
    either HeapIs (bytes_eq name (codes "any")) (Some heap.Any) _ tt (
    either HeapIs (bytes_eq name (codes "eq")) (Some heap.Eq) _ tt (
    either HeapIs (bytes_eq name (codes "i31")) (Some heap.I31) _ tt (
    either HeapIs (bytes_eq name (codes "array")) (Some heap.Array) _ tt (
    either HeapIs (bytes_eq name (codes "struct")) (Some heap.Struct) _ tt (
    either HeapIs (bytes_eq name (codes "none")) (Some heap.None) _ tt (
    either HeapIs (bytes_eq name (codes "cont")) (Some heap.Cont) _ tt (
    either HeapIs (bytes_eq name (codes "nocont")) (Some heap.NoCont) _ tt (
    either HeapIs (bytes_eq name (codes "exn")) (Some heap.Exn) _ tt (
    either HeapIs (bytes_eq name (codes "noexn")) (Some heap.NoExn) None tt tt)))))))))))))

-- a concrete heap type has one index, that of its type
concrete_with : (f : EngineOrModuleTypeIndex → WasmHeapType) → ((i : EngineOrModuleTypeIndex) → IsOfModule i → HeapIs (f i)) → (o : Option Data) (otherwise : Option WasmHeapType) → IfSome otherwise HeapIs
    → IfSome (option_map_or (λ index. option_map f (decode_index index)) o otherwise) HeapIs
concrete_with f one o otherwise other = found_or (λ d. ⊤) HeapIs (λ index. option_map f (decode_index index)) (λ d any. mapped IsOfModule HeapIs f one (decode_index d) (index_is d)) o (any_value o) otherwise other

concrete_is : (d : Data) → IfSome (decode_concrete d) HeapIs
concrete_is d =
    concrete_with heap.ConcreteFunc (λ i is. (is, tt)) (only_at (codes "func") d) _ (
    concrete_with heap.ConcreteStruct (λ i is. (is, tt)) (only_at (codes "struct") d) _ (
    concrete_with heap.ConcreteArray (λ i is. (is, tt)) (only_at (codes "array") d) _ (
    concrete_with heap.ConcreteExn (λ i is. (is, tt)) (only_at (codes "exn") d) _ (
    concrete_with heap.ConcreteCont (λ i is. (is, tt)) (only_at (codes "cont") d) None tt))))

heap_is : (d : Data) → IfSome (decode_heap d) HeapIs
heap_is d = found_or (λ name. ⊤) HeapIs abstract_named (λ name any. abstract_is name) (as_str d) (any_value (as_str d)) (decode_concrete d) (concrete_is d)

nullable_is : (name : List ℕ) → IfSome (nullable_named name) HeapIs
nullable_is name =
    either HeapIs (bytes_eq name (codes "externref")) (Some heap.Extern) _ tt (
    either HeapIs (bytes_eq name (codes "nullexternref")) (Some heap.NoExtern) _ tt (
    either HeapIs (bytes_eq name (codes "funcref")) (Some heap.Func) _ tt (
    either HeapIs (bytes_eq name (codes "nullfuncref")) (Some heap.NoFunc) _ tt (
    either HeapIs (bytes_eq name (codes "anyref")) (Some heap.Any) _ tt (
    either HeapIs (bytes_eq name (codes "eqref")) (Some heap.Eq) _ tt (
    either HeapIs (bytes_eq name (codes "i31ref")) (Some heap.I31) _ tt (
    either HeapIs (bytes_eq name (codes "arrayref")) (Some heap.Array) _ tt (
    either HeapIs (bytes_eq name (codes "structref")) (Some heap.Struct) _ tt (
    either HeapIs (bytes_eq name (codes "nullref")) (Some heap.None) _ tt (
    either HeapIs (bytes_eq name (codes "contref")) (Some heap.Cont) _ tt (
    either HeapIs (bytes_eq name (codes "nullcontref")) (Some heap.NoCont) _ tt (
    either HeapIs (bytes_eq name (codes "exnref")) (Some heap.Exn) _ tt (
    either HeapIs (bytes_eq name (codes "nullexnref")) (Some heap.NoExn) None tt tt)))))))))))))

spelled_with : (nullable : Bool) (o : Option Data) (otherwise : Option WasmRefType) → IfSome otherwise RefIs → IfSome (option_map_or (λ target. option_map (ref_to nullable) (decode_heap target)) o otherwise) RefIs
spelled_with nullable o otherwise other =
    found_or (λ d. ⊤) RefIs (λ target. option_map (ref_to nullable) (decode_heap target)) (λ d any. mapped HeapIs RefIs (ref_to nullable) (λ h is. is) (decode_heap d) (heap_is d)) o (any_value o) otherwise other

spelled_is : (d : Data) → IfSome (decode_spelled_ref d) RefIs
spelled_is d = spelled_with false (only_at (codes "ref") d) _ (spelled_with true (only_at (codes "null") d) None tt)

ref_is : (d : Data) → IfSome (decode_ref d) RefIs
ref_is d =
    found_or (λ name. ⊤) RefIs (λ name. option_map (ref_to true) (nullable_named name)) (λ name any. mapped HeapIs RefIs (ref_to true) (λ h is. is) (nullable_named name) (nullable_is name)) (as_str d) (any_value (as_str d))
    (decode_spelled_ref d) (spelled_is d)

number_named_is : (name : List ℕ) → IfSome (number_named name) ValIs
number_named_is name =
    either ValIs (bytes_eq name (codes "i32")) (Some val.I32) _ tt (
    either ValIs (bytes_eq name (codes "i64")) (Some val.I64) _ tt (
    either ValIs (bytes_eq name (codes "f32")) (Some val.F32) _ tt (
    either ValIs (bytes_eq name (codes "f64")) (Some val.F64) _ tt (
    either ValIs (bytes_eq name (codes "v128")) (Some val.V128) None tt tt))))

number_is : (d : Data) → IfSome (decode_number d) ValIs
number_is d = chained (λ name. ⊤) ValIs number_named (λ name any. number_named_is name) (as_str d) (any_value (as_str d))

val_is : (d : Data) → IfSome (decode_val d) ValIs
val_is d = first_or ValIs (decode_number d) _ (number_is d) (mapped RefIs ValIs val.Ref (λ r is. is) (decode_ref d) (ref_is d))

packed_named_is : (name : List ℕ) → IfSome (packed_named name) StorageIs
packed_named_is name =
    either StorageIs (bytes_eq name (codes "i8")) (Some storage.I8) _ tt (
    either StorageIs (bytes_eq name (codes "i16")) (Some storage.I16) None tt tt)

packed_is : (d : Data) → IfSome (decode_packed d) StorageIs
packed_is d = chained (λ name. ⊤) StorageIs packed_named (λ name any. packed_named_is name) (as_str d) (any_value (as_str d))

storage_is : (d : Data) → IfSome (decode_storage d) StorageIs
storage_is d = first_or StorageIs (decode_packed d) _ (packed_is d) (mapped ValIs StorageIs storage.Val (λ v is. is) (decode_val d) (val_is d))

field_with : (mutable : Bool) (d : Data) → IfSome (option_map (field_of mutable) (decode_storage d)) FieldIs
field_with mutable d = mapped StorageIs FieldIs (field_of mutable) (λ s is. is) (decode_storage d) (storage_is d)

field_is : (d : Data) → IfSome (decode_field d) FieldIs
field_is d =
    found_or (λ stored. ⊤) FieldIs (λ stored. option_map (field_of true) (decode_storage stored)) (λ stored any. field_with true stored) (only_at (codes "mut") d) (any_value (only_at (codes "mut") d)) _ (field_with false d)

-- ---- shapes

listed : {A : Type 0} (P : A → Type 0) (read : Data → Option A) → ((d : Data) → IfSome (read d) P) → (d : Data) → IfSome (option_and_then (each_of read) (as_array d)) (EachIs P)
listed P read is d = chained (λ ds. ⊤) (EachIs P) (each_of read) (λ ds any. each_read P read is ds) (as_array d) (any_value (as_array d))

abbrev FuncIs : WasmFuncType → Type 0
FuncIs func = ShapeIs (shape.Func func)

func_from_is : (params results : Data) → IfSome (func_from params results) FuncIs
func_from_is params results =
    chained (EachIs ValIs) FuncIs (λ ps. option_map (λ rs. record { params = ps; results = rs }) (decode_vals results))
    (λ ps first. mapped (EachIs ValIs) FuncIs (λ rs. record { params = ps; results = rs })
    (λ rs second. each_append (λ reference. IsOfModule reference.1) (kinded_vals ps) (kinded_vals rs) (vals_are ps first) (vals_are rs second)) (decode_vals results) (listed ValIs decode_val val_is results))
    (decode_vals params) (listed ValIs decode_val val_is params)
  where
    vals_are : (vs : List WasmValType) → EachIs ValIs vs → AreOfModule (kinded_vals vs)
    vals_are vs each = each_flat (λ reference. IsOfModule reference.1) kinded_val vs each

func_of_is : (ds : Items) → IfSome (two_of func_from ds) FuncIs
func_of_is no_items = tt
func_of_is (item params no_items) = tt
func_of_is (item params (item results no_items)) = func_from_is params results
func_of_is (item params (item results (item d ds))) = tt

func_is : (d : Data) → IfSome (decode_func d) FuncIs
func_is d = chained (λ ds. ⊤) FuncIs (two_of func_from) (λ ds any. func_of_is ds) (as_array d) (any_value (as_array d))

struct_is : (d : Data) → IfSome (decode_struct d) (λ s. ShapeIs (shape.Struct s))
struct_is d =
    mapped (EachIs FieldIs) (λ s. ShapeIs (shape.Struct s)) (λ fields. record { fields = fields }) (λ fields each. each_flat (λ reference. IsOfModule reference.1) kinded_field fields each)
    (option_and_then (each_of decode_field) (as_array d)) (listed FieldIs decode_field field_is d)

array_is : (d : Data) → IfSome (decode_array d) (λ a. ShapeIs (shape.Array a))
array_is d = mapped FieldIs (λ a. ShapeIs (shape.Array a)) (λ field. record { 0 = field }) (λ field is. is) (decode_field d) (field_is d)

cont_is : (d : Data) → IfSome (decode_cont d) (λ c. ShapeIs (shape.Cont c))
cont_is d = mapped IsOfModule (λ c. ShapeIs (shape.Cont c)) (λ index. record { 0 = index }) (λ index is. (is, tt)) (decode_index d) (index_is d)

constant_is : (d : Data) → IfSome (decode_constant d) FieldIs
constant_is d = mapped ValIs FieldIs (λ v. field_of false (storage.Val v)) (λ v is. is) (decode_val d) (val_is d)

abbrev ExnIs : WasmExnType → Type 0
ExnIs exn = ShapeIs (shape.Exn exn)

exn_from_is : (func fields : Data) → IfSome (exn_from func fields) ExnIs
exn_from_is func fields =
    chained IsOfModule ExnIs (λ i. option_map (λ constants. record { func_ty = i; fields = constants }) (decode_constants fields))
    (λ i is. mapped (EachIs FieldIs) ExnIs (λ constants. record { func_ty = i; fields = constants })
    (λ constants each. (is, each_flat (λ reference. IsOfModule reference.1) kinded_field constants each)) (decode_constants fields) (listed FieldIs decode_constant constant_is fields))
    (decode_index func) (index_is func)

exn_is : (d func : Data) → IfSome (exn_in d func) ExnIs
exn_is d func = chained (λ fields. ⊤) ExnIs (exn_from func) (λ fields any. exn_from_is func fields) (get (codes "fields") d) (any_value (get (codes "fields") d))

shape_with : {A : Type 0} (f : A → WasmCompositeInnerType) (read : Data → Option A) → ((d : Data) → IfSome (read d) (λ a. ShapeIs (f a))) → (o : Option Data) (otherwise : Option WasmCompositeInnerType) → IfSome otherwise ShapeIs
    → IfSome (option_map_or (λ d. option_map f (read d)) o otherwise) ShapeIs
shape_with f read is o otherwise other =
    found_or (λ d. ⊤) ShapeIs (λ d. option_map f (read d)) (λ d any. mapped (λ a. ShapeIs (f a)) ShapeIs f (λ a so. so) (read d) (is d)) o (any_value o) otherwise other

shape_is : (d : Data) → IfSome (composite_in d) ShapeIs
shape_is d =
    shape_with shape.Exn (exn_in d) (exn_is d) (get (codes "exn") d) _ (
    shape_with shape.Func decode_func func_is (get (codes "func") d) _ (
    shape_with shape.Struct decode_struct struct_is (get (codes "struct") d) _ (
    shape_with shape.Array decode_array array_is (get (codes "array") d) _ (
    shape_with shape.Cont decode_cont cont_is (get (codes "cont") d) None tt))))

-- ---- groups

-- the supertype that a type declares, if it does
abbrev DeclaredIs : Option EngineOrModuleTypeIndex → Type 0
DeclaredIs supertype = IfSome supertype IsOfModule

super_is : (d : Data) → IfSome (super_in d) DeclaredIs
super_is d =
    found_or (λ index. ⊤) DeclaredIs (λ index. option_map Some (decode_index index)) (λ index any. mapped IsOfModule DeclaredIs Some (λ i is. is) (decode_index index) (index_is index))
    (get (codes "super") d) (any_value (get (codes "super") d)) (Some None) tt

-- a type's indices are those of its supertype and of its shape
indices_are : (supertype : Option EngineOrModuleTypeIndex) (s : WasmCompositeInnerType) → DeclaredIs supertype → ShapeIs s → EachIs IsOfModule (option_to_list supertype ++ map (λ reference. reference.1) (kinded_shape s))
indices_are None s declared is = each_mapped IsOfModule (λ reference. reference.1) (kinded_shape s) is
indices_are (Some i) s declared is = (declared, each_mapped IsOfModule (λ reference. reference.1) (kinded_shape s) is)

member_in_is : (d : Data) → IfSome (member_in d) MemberIs
member_in_is d =
    chained (λ is_final. ⊤) MemberIs _
    (λ is_final any. chained DeclaredIs MemberIs _
    (λ supertype declared. mapped ShapeIs MemberIs (λ s. record { is_final = is_final; supertype = supertype; composite_type = s }) (λ s is. indices_are supertype s declared is) (composite_in d) (shape_is d))
    (super_in d) (super_is d)) (final_in d) (any_value (final_in d))

member_is : (d : Data) → IfSome (decode_member d) MemberIs
member_is d = either MemberIs (key_count d == known_keys d) (member_in d) None (member_in_is d) tt

group_is : (d : Data) → IfSome (decode_group d) GroupIs
group_is d = mapped (EachIs MemberIs) GroupIs (λ types. record { types = types }) (λ types each. each) (option_and_then (each_of decode_member) (as_array d)) (listed MemberIs decode_member member_is d)

-- each type index that stands in decoded groups is a module index
pub decoded_module : (d : Data) → IfSome (decode_groups d) (λ types. AreModuleTypes types.groups)
decoded_module d =
    mapped (EachIs GroupIs) (λ types. AreModuleTypes types.groups) (λ groups. record { groups = groups })
    (λ groups each. record { by_index = λ group ty i in_groups in_group in_type. each_among IsOfModule (type_indices ty) i (each_among MemberIs group.types ty (each_among GroupIs groups group each in_groups) in_group) in_type })
    (option_and_then (each_of decode_group) (as_array d)) (listed GroupIs decode_group group_is d)
