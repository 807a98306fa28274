-- Exceptions of a host (after wasmtime): final, with no supertype, over a function type whose parameters they hold as
-- constant fields.
use Rattle.std.specs.Prelude.{List, [], ◌∷◌, map, true, Option, Some, None, option_map, option_and_then}
use Rattle.wt_env.specs.declared.types.VMSharedTypeIndex.{VMSharedTypeIndex}
use Rattle.wt_env.specs.declared.types.EngineOrModuleTypeIndex.{EngineOrModuleTypeIndex}
use Rattle.wt_env.specs.declared.types.EngineOrModuleTypeIndex.TheVariants as index
use Rattle.wt_env.specs.declared.types.WasmValType.{WasmValType}
use Rattle.wt_env.specs.declared.types.WasmCompositeInnerType.{WasmCompositeInnerType}
use Rattle.wt_env.specs.declared.types.WasmCompositeInnerType.TheVariants as shape
use Rattle.wt_env.specs.declared.types.WasmSubType.{WasmSubType}
use Rattle.wt_tree.specs.References.{vals_refs, number_group}
use Rattle.wt_tree.specs.Tree.{Tree, group, outer, close_outer}
use Rattle.wt_rules.specs.TypeRules.{constant_field}
use Rattle.wt_model.specs.Registered.{RegisteredGroup}
use Rattle.wt_model.specs.Trees.{trees}
use Rattle.wt_model.specs.Describe.{located, tree_of}
use Rattle.wt_model.specs.Shown.{sub_type_at}

-- the final function type that takes these and gives nothing
abbrev pub exception_function : List WasmValType → WasmSubType
exception_function fields = record {
  is_final = true;
  supertype = None;
  composite_type = shape.Func (record { params = fields; results = [] });
}

-- the exception over a function type that holds these
abbrev pub exception_over : EngineOrModuleTypeIndex → List WasmValType → WasmSubType
exception_over function fields = record {
  is_final = true;
  supertype = None;
  composite_type = shape.Exn (record { func_ty = function; fields = map constant_field fields });
}

-- The tree of the exception that holds these: the tree of its function type comes first among those that leave it, before
-- those that the fields name.
abbrev pub exception_tree : List RegisteredGroup → List WasmValType → Tree
exception_tree made fields =
    group (number_group (exception_over (index.Module (record { 0 = 0 })) fields ∷ []))
    (outer (tree_of made (exception_function fields ∷ [])) 0 (close_outer (trees made) (map (located made) (vals_refs fields))))

-- the parameters of a function type; none where it is no function
abbrev pub params_of : WasmCompositeInnerType → Option (List WasmValType)
params_of (shape.Func f) = Some f.params
params_of _ = None

-- the exception over the function type that has this index; none where no function type has it
abbrev pub tag_exception : List RegisteredGroup → VMSharedTypeIndex → Option WasmSubType
tag_exception made i =
    option_map (λ params. exception_over (index.Engine i) params)
    (option_and_then (λ ty. params_of ty.composite_type) (sub_type_at made i))
