-- The types that are taken so far: final functions with no supertype, over numbers and vectors.
use Rattle.std.specs.Prelude.{Bool, true, false, ◌&&◌, is_none}
use Rattle.std.specs.List.{list_all}
use Rattle.wt_env.specs.declared.types.WasmValType.{WasmValType}
use Rattle.wt_env.specs.declared.types.WasmValType.TheVariants as val
use Rattle.wt_env.specs.declared.types.WasmCompositeInnerType.{WasmCompositeInnerType}
use Rattle.wt_env.specs.declared.types.WasmCompositeInnerType.TheVariants as shape
use Rattle.wt_env.specs.declared.types.WasmSubType.{WasmSubType}

-- a number or a vector, and so no reference
abbrev pub is_number : WasmValType → Bool
is_number val.I32 = true
is_number val.I64 = true
is_number val.F32 = true
is_number val.F64 = true
is_number val.V128 = true
is_number (val.Ref r) = false

abbrev pub is_over_numbers : WasmCompositeInnerType → Bool
is_over_numbers (shape.Func f) = list_all is_number f.params && list_all is_number f.results
is_over_numbers (shape.Struct s) = false
is_over_numbers (shape.Array a) = false
is_over_numbers (shape.Exn e) = false
is_over_numbers (shape.Cont c) = false

abbrev pub is_number_function : WasmSubType → Bool
is_number_function t = t.is_final && is_none t.supertype && is_over_numbers t.composite_type
