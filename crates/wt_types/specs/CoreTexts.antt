-- The texts of core types: those of wasmtime, but for that of a continuation. Finality and supertype aren't told. An
-- exception's has the text of its function type.
use Rattle.std.specs.Prelude.{ℕ, List, ◌++◌, codes, Option, Some, option_map, option_and_then}
use Rattle.wt_env.specs.Texts.{fields_text, sub_type_text, composite_text}
use Rattle.wt_env.specs.declared.types.VMSharedTypeIndex.{VMSharedTypeIndex}
use Rattle.wt_env.specs.declared.types.WasmCompositeInnerType.{WasmCompositeInnerType}
use Rattle.wt_env.specs.declared.types.WasmCompositeInnerType.TheVariants as shape
use Rattle.wt_env.specs.declared.types.WasmSubType.{WasmSubType}
use Rattle.wt_tree.specs.Subtyping.{engine_index}
use Rattle.wt_model.specs.Registered.{RegisteredGroup}
use Rattle.wt_model.specs.Shown.{sub_type_at}
use Rattle.wt_core.specs.CoreTypes.{function_of}

-- the text of a shape, where this is the function type of an exception
abbrev pub shape_text : Option WasmSubType → WasmCompositeInnerType → List ℕ
shape_text (Some function) (shape.Exn e) = codes "(exn " ++ sub_type_text function ++ fields_text e.fields ++ codes ")"
shape_text _ s = composite_text s

-- the registered function type of an exception
abbrev pub exception_function : List RegisteredGroup → WasmSubType → Option WasmSubType
exception_function made ty = option_and_then (sub_type_at made) (option_and_then engine_index (function_of ty))

-- the text of the type that has this index
abbrev pub text_at : List RegisteredGroup → VMSharedTypeIndex → Option (List ℕ)
text_at made i = option_map (λ ty. shape_text (exception_function made ty) ty.composite_type) (sub_type_at made i)
