-- Declared supertypes of registered types, by their indices.
use Rattle.std.specs.Prelude.{List, Bool}
use Rattle.wt_env.specs.declared.types.VMSharedTypeIndex.{VMSharedTypeIndex}
use Rattle.wt_env.specs.declared.types.EngineOrModuleTypeIndex.TheVariants as index
use Rattle.wt_tree.specs.Subtyping.{is_sub}
use Rattle.wt_tree.specs.Fit.{named_by}
use Rattle.wt_model.specs.Registered.{RegisteredGroup}
use Rattle.wt_model.specs.Indices.{closed_tree}

-- whether zero or more declared steps lead from the type with the first index to the one with the second
abbrev pub is_subtype_index : List RegisteredGroup → VMSharedTypeIndex → VMSharedTypeIndex → Bool
is_subtype_index made i j = is_sub (named_by (closed_tree made) (index.Engine i)) (named_by (closed_tree made) (index.Engine j))
