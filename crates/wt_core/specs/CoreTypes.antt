-- Core types of an embedder: the type data of which one is built, and what a registered one is by its index
-- (WebAssembly 3.0, "Recursive Types" and "Composite Types"; exceptions and continuations after wasmtime).
use Rattle.std.specs.Prelude.{◌≡◌, ℕ, List, [], ◌∷◌, map, Bool, true, false, if◌then◌else◌, Option, Some, None, option_map, option_and_then, Result, Ok, ⊤}
use Rattle.std.specs.Option.{option_map_or}
use Rattle.wt_env.specs.declared.types.VMSharedTypeIndex.{VMSharedTypeIndex}
use Rattle.wt_env.specs.declared.types.EngineOrModuleTypeIndex.{EngineOrModuleTypeIndex}
use Rattle.wt_env.specs.declared.types.EngineOrModuleTypeIndex.TheVariants as index
use Rattle.wt_env.specs.declared.types.Kind.{Kind}
use Rattle.wt_env.specs.declared.types.WasmValType.{WasmValType}
use Rattle.wt_env.specs.declared.types.WasmFieldType.{WasmFieldType}
use Rattle.wt_env.specs.declared.types.WasmCompositeInnerType.{WasmCompositeInnerType}
use Rattle.wt_env.specs.declared.types.WasmCompositeInnerType.TheVariants as shape
use Rattle.wt_env.specs.declared.types.WasmSubType.{WasmSubType}
use Rattle.wt_tree.specs.Kinds.{member_kind, kind_eq}
use Rattle.wt_tree.specs.Subtyping.{engine_index}
use Rattle.wt_model.specs.declared.refusal.Full.{Full}
use Rattle.wt_model.specs.Registered.{RegisteredGroup, Registry}
use Rattle.wt_model.specs.Holds.{Hold, root}
use Rattle.wt_model.specs.Shown.{sub_type_at}
use Rattle.wt_model.specs.HostExceptions.{exception_over}
use Rattle.wt_heap.specs.declared.mutability.Finality.{Finality}
use Rattle.wt_heap.specs.declared.mutability.Finality.TheVariants as finality
use Rattle.wt_heap.specs.declared.names.FuncName.{FuncName}
use Rattle.wt_heap.specs.declared.names.ArrayName.{ArrayName}
use Rattle.wt_heap.specs.declared.names.StructName.{StructName}
use Rattle.wt_heap.specs.declared.val_type.ValType.{ValType}
use Rattle.wt_heap.specs.declared.field_type.FieldType.{FieldType}
use Rattle.wt_heap.specs.Engines.{val_engine, field_engine, IsOfEngine}
use Rattle.wt_heap.specs.ToWasm.{val_to_wasm, field_to_wasm}

-- ---- the type data of which a core type is built

abbrev pub is_final : Finality → Bool
is_final finality.Final = true
is_final finality.NonFinal = false

abbrev pub func_sub_type : Finality → Option FuncName → (params results : List ValType) → WasmSubType
func_sub_type finality supertype params results = record {
  is_final = is_final finality;
  supertype = option_map (λ name. index.Engine name.index) supertype;
  composite_type = shape.Func (record { params = map val_to_wasm params; results = map val_to_wasm results });
}

abbrev pub struct_sub_type : Finality → Option StructName → List FieldType → WasmSubType
struct_sub_type finality supertype fields = record {
  is_final = is_final finality;
  supertype = option_map (λ name. index.Engine name.index) supertype;
  composite_type = shape.Struct (record { fields = map field_to_wasm fields });
}

abbrev pub array_sub_type : Finality → Option ArrayName → FieldType → WasmSubType
array_sub_type finality supertype field = record {
  is_final = is_final finality;
  supertype = option_map (λ name. index.Engine name.index) supertype;
  composite_type = shape.Array (record { 0 = field_to_wasm field });
}

-- each type that is named is of this engine
abbrev pub ValsAreOfEngine : ℕ → List ValType → Type 0
ValsAreOfEngine engine [] = ⊤
ValsAreOfEngine engine (v ∷ vals) = IsOfEngine engine (val_engine v) × ValsAreOfEngine engine vals

abbrev pub FieldsAreOfEngine : ℕ → List FieldType → Type 0
FieldsAreOfEngine engine [] = ⊤
FieldsAreOfEngine engine (f ∷ fields) = IsOfEngine engine (field_engine f) × FieldsAreOfEngine engine fields

-- ---- the kind of a registered type

-- whether the type that has this index is of this kind; none is where no type has it
abbrev pub is_of_kind : List RegisteredGroup → Kind → VMSharedTypeIndex → Bool
is_of_kind made kind i = option_map_or (λ ty. kind_eq (member_kind ty) kind) (sub_type_at made i) false

abbrev pub IsOfKind : List RegisteredGroup → Kind → VMSharedTypeIndex → Type 0
IsOfKind made kind i = is_of_kind made kind i ≡ true

-- one more hold of the type that has this index, where it is of this kind
abbrev pub root_of_kind : Kind → Registry → ℕ → VMSharedTypeIndex → Result (Option Hold × Registry) Full
root_of_kind kind registry party i = if is_of_kind registry.made kind i then root registry party i else Ok (None, registry)

-- ---- what a registered type is, by its index

abbrev pub finality_of : WasmSubType → Finality
finality_of ty = if ty.is_final then finality.Final else finality.NonFinal

-- the index that a type declares as its supertype
abbrev pub declared_supertype : WasmSubType → Option VMSharedTypeIndex
declared_supertype ty = option_and_then engine_index ty.supertype

abbrev pub supertype_at : List RegisteredGroup → VMSharedTypeIndex → Option VMSharedTypeIndex
supertype_at made i = option_and_then declared_supertype (sub_type_at made i)

-- what a function takes, and gives
abbrev pub params_of : WasmSubType → List WasmValType
params_of ty = params ty.composite_type
  where
    params : WasmCompositeInnerType → List WasmValType
    params (shape.Func f) = f.params
    params _ = []

abbrev pub results_of : WasmSubType → List WasmValType
results_of ty = results ty.composite_type
  where
    results : WasmCompositeInnerType → List WasmValType
    results (shape.Func f) = f.results
    results _ = []

-- the fields of a struct or an exception
abbrev pub fields_of : WasmSubType → List WasmFieldType
fields_of ty = fields ty.composite_type
  where
    fields : WasmCompositeInnerType → List WasmFieldType
    fields (shape.Struct s) = s.fields
    fields (shape.Exn e) = e.fields
    fields _ = []

-- the elements of an array
abbrev pub element_of : WasmSubType → Option WasmFieldType
element_of ty = element ty.composite_type
  where
    element : WasmCompositeInnerType → Option WasmFieldType
    element (shape.Array a) = Some a.0
    element _ = None

-- the function type of an exception
abbrev pub function_of : WasmSubType → Option EngineOrModuleTypeIndex
function_of ty = function ty.composite_type
  where
    function : WasmCompositeInnerType → Option EngineOrModuleTypeIndex
    function (shape.Exn e) = Some e.func_ty
    function _ = None

abbrev pub params_at : List RegisteredGroup → VMSharedTypeIndex → List WasmValType
params_at made i = option_map_or params_of (sub_type_at made i) []

abbrev pub results_at : List RegisteredGroup → VMSharedTypeIndex → List WasmValType
results_at made i = option_map_or results_of (sub_type_at made i) []

abbrev pub fields_at : List RegisteredGroup → VMSharedTypeIndex → List WasmFieldType
fields_at made i = option_map_or fields_of (sub_type_at made i) []

abbrev pub element_at : List RegisteredGroup → VMSharedTypeIndex → Option WasmFieldType
element_at made i = option_and_then element_of (sub_type_at made i)

abbrev pub function_at : List RegisteredGroup → VMSharedTypeIndex → Option VMSharedTypeIndex
function_at made i = option_and_then (λ ty. option_and_then engine_index (function_of ty)) (sub_type_at made i)

-- the exception over the function type that has this index, which holds its parameters
abbrev pub tag_sub_type : List RegisteredGroup → VMSharedTypeIndex → WasmSubType
tag_sub_type made i = exception_over (index.Engine i) (params_at made i)
