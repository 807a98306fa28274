-- The rules that a type keeps whose recursion group is in order, by closed trees alone (WebAssembly 3.0, "Recursive
-- Types", "Heap Types" and "Matching"; a kind for each concrete reference, exceptions and continuations after wasmtime).
-- A reading says which closed tree a type index names.
use Rattle.std.specs.Prelude.{List, map, length, nat_lt, Bool, true, false, ◌||◌, not, if◌then◌else◌, Option, Some, None, option_map, is_some}
use Rattle.std.specs.List.{list_any}
use Rattle.std.specs.Option.{option_or, option_map_or, option_and_then}
use Rattle.wt_env.specs.declared.types.EngineOrModuleTypeIndex.{EngineOrModuleTypeIndex}
use Rattle.wt_env.specs.declared.types.Kind.{Kind}
use Rattle.wt_env.specs.declared.types.WasmValType.{WasmValType}
use Rattle.wt_env.specs.declared.types.WasmStorageType.TheVariants as storage
use Rattle.wt_env.specs.declared.types.WasmFieldType.{WasmFieldType}
use Rattle.wt_env.specs.declared.types.WasmFuncType.{WasmFuncType}
use Rattle.wt_env.specs.declared.types.WasmExnType.{WasmExnType}
use Rattle.wt_env.specs.declared.types.WasmCompositeInnerType.{WasmCompositeInnerType}
use Rattle.wt_env.specs.declared.types.WasmCompositeInnerType.TheVariants as shape
use Rattle.wt_env.specs.declared.types.WasmSubType.{WasmSubType}
use Rattle.wt_tree.specs.Kinds.{member_kind, kind_eq, kinded_refs}
use Rattle.wt_tree.specs.Tree.{ClosedTree}
use Rattle.wt_tree.specs.Subtyping.{tree_at, member_at}
use Rattle.wt_tree.specs.Fit.{shape_fits, fields_equal}
use Rattle.wt_rules.specs.declared.place.Rule.{Rule}
use Rattle.wt_rules.specs.declared.place.Rule.TheVariants as rule

-- ---- a reference names a type of the kind that it says

-- the kind of a closed tree's type, if there is one
abbrev pub kind_of_tree : ClosedTree → Option Kind
kind_of_tree t = option_map member_kind (member_at t)

-- whether what a type is, if there is one, isn't what is wanted
abbrev pub is_other : Kind → Option Kind → Bool
is_other wanted (Some found) = not (kind_eq wanted found)
is_other wanted None = true

-- whether an index names a type of another kind
abbrev pub names_other : (EngineOrModuleTypeIndex → ClosedTree) → Kind → EngineOrModuleTypeIndex → Bool
names_other read wanted i = is_other wanted (kind_of_tree (read i))

-- a supertype says no kind
abbrev pub breaks_kind : (EngineOrModuleTypeIndex → ClosedTree) → WasmSubType → Bool
breaks_kind read ty = list_any (λ reference. names_other read reference.0 reference.1) (kinded_refs ty)

-- ---- a supertype isn't final, is of the same kind, and is one that the shape matches

abbrev pub is_final_type : ClosedTree → Bool
is_final_type t = option_map_or (λ ty. ty.is_final) (member_at t) false

-- whether a type's shape matches that of a closed tree's type
abbrev pub matches_shape : (EngineOrModuleTypeIndex → ClosedTree) → WasmSubType → ClosedTree → Bool
matches_shape read ty s = option_map_or (λ other. shape_fits read (tree_at s.tree) ty.composite_type other.composite_type) (member_at s) false

-- the first of these that a type breaks below a supertype
abbrev pub broken_below : (EngineOrModuleTypeIndex → ClosedTree) → WasmSubType → ClosedTree → Option Rule
broken_below read ty s =
    if is_final_type s then Some rule.SuperFinal
    else if is_other (member_kind ty) (kind_of_tree s) then Some rule.SuperKind
    else if matches_shape read ty s then None
    else Some rule.SuperMismatch

abbrev pub broken_supertype : (EngineOrModuleTypeIndex → ClosedTree) → WasmSubType → Option Rule
broken_supertype read ty = option_and_then (λ i. broken_below read ty (read i)) ty.supertype

-- ---- an exception is final and has no supertype, its function has no results, and its fields are the parameters

abbrev pub function_of : WasmCompositeInnerType → Option WasmFuncType
function_of (shape.Func f) = Some f
function_of _ = None

abbrev pub exception_of : WasmCompositeInnerType → Option WasmExnType
exception_of (shape.Exn e) = Some e
exception_of _ = None

-- the function type of a closed tree, if it is one
abbrev pub function_at : ClosedTree → Option WasmFuncType
function_at t = option_and_then (λ ty. function_of ty.composite_type) (member_at t)

-- whether a type may have subtypes, or has a supertype
abbrev pub is_open : WasmSubType → Bool
is_open ty = not ty.is_final || is_some ty.supertype

-- whether the function of a closed tree has results
abbrev pub gives_results : ClosedTree → Bool
gives_results t = option_map_or (λ f. nat_lt 0 (length f.results)) (function_at t) false

-- the field that holds a value of this type and never changes
abbrev pub constant_field : WasmValType → WasmFieldType
constant_field v = record { element_type = storage.Val v; mutable = false }

-- whether these fields are those that hold the parameters of a closed tree's function
abbrev pub are_params : (EngineOrModuleTypeIndex → ClosedTree) → List WasmFieldType → ClosedTree → Bool
are_params read fields t = option_map_or (λ f. fields_equal read (tree_at t.tree) fields (map constant_field f.params)) (function_at t) false

-- the first of these that the fields of an exception break, where this is its function
abbrev pub broken_by_function : (EngineOrModuleTypeIndex → ClosedTree) → List WasmFieldType → ClosedTree → Option Rule
broken_by_function read fields t =
    if gives_results t then Some rule.ExnResults
    else if are_params read fields t then None
    else Some rule.ExnFields

abbrev pub broken_exception : (EngineOrModuleTypeIndex → ClosedTree) → (open_type : Bool) → WasmExnType → Option Rule
broken_exception read open_type e =
    if open_type then Some rule.ExnOpen
    else broken_by_function read e.fields (read e.func_ty)

abbrev pub broken_as_exception : (EngineOrModuleTypeIndex → ClosedTree) → WasmSubType → Option Rule
broken_as_exception read ty = option_and_then (broken_exception read (is_open ty)) (exception_of ty.composite_type)

-- ---- all of them

-- the first rule that a type breaks
abbrev pub broken_by : (EngineOrModuleTypeIndex → ClosedTree) → WasmSubType → Option Rule
broken_by read ty =
    if breaks_kind read ty then Some rule.Kind
    else option_or (broken_supertype read ty) (broken_as_exception read ty)

-- The first rule that the type of a closed tree breaks: that its references are of their kinds, then those on its
-- supertype, then those on exceptions.
abbrev pub broken_type : ClosedTree → Option Rule
broken_type t = option_and_then (broken_by (tree_at t.tree)) (member_at t)
