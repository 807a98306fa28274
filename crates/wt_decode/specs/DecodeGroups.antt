-- Which recursion groups a JSON value stands for (WebAssembly 3.0, "Types" and "Recursive Types"). Any
-- value, key or form that isn't named here stands for none.
use Rattle.std.specs.Prelude.{ℕ, ◌+◌, ◌==◌, Bool, true, false, codes, List, Option, Some, None, option_map, option_and_then, if◌then◌else◌}
use Rattle.std.specs.Option.{option_map_or}
use Rattle.serde_json.specs.Data.{Data}
use Rattle.serde_json.specs.Find.{get, as_bool, as_array}
use Rattle.wt_decode.specs.Json.{key_count, count_at, each_of, two_of}
use Rattle.wt_decode.specs.DecodeValues.{decode_index, decode_val, field_of, decode_field}
use Rattle.wt_env.specs.declared.types.EngineOrModuleTypeIndex.{EngineOrModuleTypeIndex}
use Rattle.wt_env.specs.declared.types.WasmValType.{WasmValType}
use Rattle.wt_env.specs.declared.types.WasmStorageType.TheVariants.{Val}
use Rattle.wt_env.specs.declared.types.WasmFieldType.{WasmFieldType}
use Rattle.wt_env.specs.declared.types.WasmFuncType.{WasmFuncType}
use Rattle.wt_env.specs.declared.types.WasmStructType.{WasmStructType}
use Rattle.wt_env.specs.declared.types.WasmArrayType.{WasmArrayType}
use Rattle.wt_env.specs.declared.types.WasmExnType.{WasmExnType}
use Rattle.wt_env.specs.declared.types.WasmContType.{WasmContType}
use Rattle.wt_env.specs.declared.types.WasmCompositeInnerType.{WasmCompositeInnerType}
use Rattle.wt_env.specs.declared.types.WasmCompositeInnerType.TheVariants.{Func, Struct, Array, Exn, Cont}
use Rattle.wt_env.specs.declared.types.WasmSubType.{WasmSubType}
use Rattle.wt_env.specs.declared.types.WasmRecGroup.{WasmRecGroup}
use Rattle.wt_env.specs.declared.types.ModuleTypes.{ModuleTypes}

-- a list of value types
abbrev pub decode_vals : Data → Option (List WasmValType)
decode_vals d = option_and_then (each_of decode_val) (as_array d)

-- the function type with two lists of value types, as parameters and as results
abbrev pub func_from : Data → Data → Option WasmFuncType
func_from params results = option_and_then (λ ps. option_map (λ rs. record { params = ps; results = rs }) (decode_vals results)) (decode_vals params)

-- a function type: [parameters, results]
abbrev pub decode_func : Data → Option WasmFuncType
decode_func d = option_and_then (two_of func_from) (as_array d)

-- a struct type: the list of its fields
abbrev pub decode_struct : Data → Option WasmStructType
decode_struct d = option_map (λ fields. record { fields = fields }) (option_and_then (each_of decode_field) (as_array d))

-- an array type: its field
abbrev pub decode_array : Data → Option WasmArrayType
decode_array d = option_map (λ field. record { 0 = field }) (decode_field d)

-- a continuation type: the index of its function type
abbrev pub decode_cont : Data → Option WasmContType
decode_cont d = option_map (λ index. record { 0 = index }) (decode_index d)

-- a field of an exception: the value type that it stores, and it can't change
abbrev pub decode_constant : Data → Option WasmFieldType
decode_constant d = option_map (λ val. field_of false (Val val)) (decode_val d)

-- a list of such fields
abbrev pub decode_constants : Data → Option (List WasmFieldType)
decode_constants d = option_and_then (each_of decode_constant) (as_array d)

-- the exception type with the index of its function type, and its fields
abbrev pub exn_from : Data → Data → Option WasmExnType
exn_from func fields = option_and_then (λ index. option_map (λ constants. record { func_ty = index; fields = constants }) (decode_constants fields)) (decode_index func)

-- the exception type with the index of its function type, and its fields under their key
abbrev pub exn_in : Data → Data → Option WasmExnType
exn_in d func = option_and_then (exn_from func) (get (codes "fields") d)

-- the shape under the key that says its kind; an exception comes first, since it takes a second key
abbrev pub composite_in : Data → Option WasmCompositeInnerType
composite_in d =
    option_map_or (λ func. option_map Exn (exn_in d func)) (get (codes "exn") d) (
    option_map_or (λ func. option_map Func (decode_func func)) (get (codes "func") d) (
    option_map_or (λ fields. option_map Struct (decode_struct fields)) (get (codes "struct") d) (
    option_map_or (λ field. option_map Array (decode_array field)) (get (codes "array") d) (
    option_map_or (λ func. option_map Cont (decode_cont func)) (get (codes "cont") d) None))))

-- whether a type is final: as `final` says, and where it isn't there, it is
abbrev pub final_in : Data → Option Bool
final_in d = option_map_or as_bool (get (codes "final") d) (Some true)

-- the supertype that a type declares under `super`, if it does
abbrev pub super_in : Data → Option (Option EngineOrModuleTypeIndex)
super_in d = option_map_or (λ index. option_map Some (decode_index index)) (get (codes "super") d) (Some None)

-- how many keys a shape takes: two where it is an exception, else one
abbrev pub shape_keys : Data → ℕ
shape_keys d = 1 + count_at (codes "exn") d

-- how many keys a member has, if it has no other than it may
abbrev pub known_keys : Data → ℕ
known_keys d = count_at (codes "final") d + count_at (codes "super") d + shape_keys d

-- the sub type that stands under the keys of an object
abbrev pub member_in : Data → Option WasmSubType
member_in d =
    option_and_then (λ is_final. option_and_then (λ supertype. option_map (λ shape. record { is_final = is_final; supertype = supertype; composite_type = shape })
    (composite_in d)) (super_in d)) (final_in d)

-- a member of a group: an object with the keys of one shape, maybe `final`, maybe `super`, and no other
abbrev pub decode_member : Data → Option WasmSubType
decode_member d = if key_count d == known_keys d then member_in d else None

-- a group: the list of its members
abbrev pub decode_group : Data → Option WasmRecGroup
decode_group d = option_map (λ types. record { types = types }) (option_and_then (each_of decode_member) (as_array d))

-- the groups of a module: the list of them
abbrev pub decode_groups : Data → Option ModuleTypes
decode_groups d = option_map (λ groups. record { groups = groups }) (option_and_then (each_of decode_group) (as_array d))
