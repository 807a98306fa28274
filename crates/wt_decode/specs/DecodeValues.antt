-- Which value types, references and fields a JSON value stands for. The words are those of the text
-- format (WebAssembly 3.0, "Number Types", "Vector Types", "Heap Types", "Reference Types", "Field
-- Types"; continuations after wasmtime). Any other value, key or form stands for none.
use Rattle.std.specs.Prelude.{ℕ, Bool, true, false, bytes_eq, codes, List, Option, Some, None, option_map, option_and_then, if◌then◌else◌}
use Rattle.std.specs.Option.{option_map_or, option_or}
use Rattle.serde_json.specs.Data.{Data}
use Rattle.serde_json.specs.Find.{as_str}
use Rattle.wt_decode.specs.Json.{only_at, decode_u32}
use Rattle.wt_env.specs.declared.types.EngineOrModuleTypeIndex.{EngineOrModuleTypeIndex}
use Rattle.wt_env.specs.declared.types.EngineOrModuleTypeIndex.TheVariants.{Module}
use Rattle.wt_env.specs.declared.types.WasmHeapType.{WasmHeapType}
use Rattle.wt_env.specs.declared.types.WasmHeapType.TheVariants as heap
use Rattle.wt_env.specs.declared.types.WasmRefType.{WasmRefType}
use Rattle.wt_env.specs.declared.types.WasmValType.{WasmValType}
use Rattle.wt_env.specs.declared.types.WasmValType.TheVariants.{I32, I64, F32, F64, V128, Ref}
use Rattle.wt_env.specs.declared.types.WasmStorageType.{WasmStorageType}
use Rattle.wt_env.specs.declared.types.WasmStorageType.TheVariants.{I8, I16, Val}
use Rattle.wt_env.specs.declared.types.WasmFieldType.{WasmFieldType}

-- the abstract heap type with a name
abbrev pub abstract_named : List ℕ → Option WasmHeapType
abstract_named name =
    if bytes_eq name (codes "extern") then Some heap.Extern else (
    if bytes_eq name (codes "noextern") then Some heap.NoExtern else (
    if bytes_eq name (codes "func") then Some heap.Func else (
    if bytes_eq name (codes "nofunc") then Some heap.NoFunc else (
    if bytes_eq name (codes "any") then Some heap.Any else (
    if bytes_eq name (codes "eq") then Some heap.Eq else (
    if bytes_eq name (codes "i31") then Some heap.I31 else (
    if bytes_eq name (codes "array") then Some heap.Array else (
    if bytes_eq name (codes "struct") then Some heap.Struct else (
    if bytes_eq name (codes "none") then Some heap.None else (
    if bytes_eq name (codes "cont") then Some heap.Cont else (
    if bytes_eq name (codes "nocont") then Some heap.NoCont else (
    if bytes_eq name (codes "exn") then Some heap.Exn else (
    if bytes_eq name (codes "noexn") then Some heap.NoExn else None)))))))))))))

-- a type of the module, by its index over all members of all groups
abbrev pub decode_index : Data → Option EngineOrModuleTypeIndex
decode_index d = option_map (λ index. Module (record { 0 = index })) (decode_u32 d)

-- a concrete heap type: the index of a type of the module, under the key that says its kind
abbrev pub decode_concrete : Data → Option WasmHeapType
decode_concrete d =
    option_map_or (λ index. option_map heap.ConcreteFunc (decode_index index)) (only_at (codes "func") d) (
    option_map_or (λ index. option_map heap.ConcreteStruct (decode_index index)) (only_at (codes "struct") d) (
    option_map_or (λ index. option_map heap.ConcreteArray (decode_index index)) (only_at (codes "array") d) (
    option_map_or (λ index. option_map heap.ConcreteExn (decode_index index)) (only_at (codes "exn") d) (
    option_map_or (λ index. option_map heap.ConcreteCont (decode_index index)) (only_at (codes "cont") d) None))))

-- a heap type
abbrev pub decode_heap : Data → Option WasmHeapType
decode_heap d = option_map_or abstract_named (as_str d) (decode_concrete d)

-- the heap type of the nullable abstract reference with a name
abbrev pub nullable_named : List ℕ → Option WasmHeapType
nullable_named name =
    if bytes_eq name (codes "externref") then Some heap.Extern else (
    if bytes_eq name (codes "nullexternref") then Some heap.NoExtern else (
    if bytes_eq name (codes "funcref") then Some heap.Func else (
    if bytes_eq name (codes "nullfuncref") then Some heap.NoFunc else (
    if bytes_eq name (codes "anyref") then Some heap.Any else (
    if bytes_eq name (codes "eqref") then Some heap.Eq else (
    if bytes_eq name (codes "i31ref") then Some heap.I31 else (
    if bytes_eq name (codes "arrayref") then Some heap.Array else (
    if bytes_eq name (codes "structref") then Some heap.Struct else (
    if bytes_eq name (codes "nullref") then Some heap.None else (
    if bytes_eq name (codes "contref") then Some heap.Cont else (
    if bytes_eq name (codes "nullcontref") then Some heap.NoCont else (
    if bytes_eq name (codes "exnref") then Some heap.Exn else (
    if bytes_eq name (codes "nullexnref") then Some heap.NoExn else None)))))))))))))

-- a reference to a heap type
abbrev pub ref_to : Bool → WasmHeapType → WasmRefType
ref_to nullable target = record { nullable = nullable; heap_type = target }

-- {"ref": heap type}, which isn't nullable, or {"null": heap type}, which is
abbrev pub decode_spelled_ref : Data → Option WasmRefType
decode_spelled_ref d =
    option_map_or (λ target. option_map (ref_to false) (decode_heap target)) (only_at (codes "ref") d) (
    option_map_or (λ target. option_map (ref_to true) (decode_heap target)) (only_at (codes "null") d) None)

-- a reference type: the name of a nullable abstract one, or one that is spelled out
abbrev pub decode_ref : Data → Option WasmRefType
decode_ref d = option_map_or (λ name. option_map (ref_to true) (nullable_named name)) (as_str d) (decode_spelled_ref d)

-- the number or vector type with a name
abbrev pub number_named : List ℕ → Option WasmValType
number_named name =
    if bytes_eq name (codes "i32") then Some I32 else (
    if bytes_eq name (codes "i64") then Some I64 else (
    if bytes_eq name (codes "f32") then Some F32 else (
    if bytes_eq name (codes "f64") then Some F64 else (
    if bytes_eq name (codes "v128") then Some V128 else None))))

abbrev pub decode_number : Data → Option WasmValType
decode_number d = option_and_then number_named (as_str d)

-- a value type: a number or a vector, or a reference
abbrev pub decode_val : Data → Option WasmValType
decode_val d = option_or (decode_number d) (option_map Ref (decode_ref d))

-- the packed type with a name
abbrev pub packed_named : List ℕ → Option WasmStorageType
packed_named name =
    if bytes_eq name (codes "i8") then Some I8 else (
    if bytes_eq name (codes "i16") then Some I16 else None)

abbrev pub decode_packed : Data → Option WasmStorageType
decode_packed d = option_and_then packed_named (as_str d)

-- a storage type: a packed number, or a value type
abbrev pub decode_storage : Data → Option WasmStorageType
decode_storage d = option_or (decode_packed d) (option_map Val (decode_val d))

-- a field that stores this
abbrev pub field_of : Bool → WasmStorageType → WasmFieldType
field_of mutable stored = record { element_type = stored; mutable = mutable }

-- a field: {"mut": storage type} where it is mutable, else the storage type alone
abbrev pub decode_field : Data → Option WasmFieldType
decode_field d =
    option_map_or (λ stored. option_map (field_of true) (decode_storage stored)) (only_at (codes "mut") d) (
    option_map (field_of false) (decode_storage d))
