-- Types of a host, whose type indices are engine indices that have closed trees: which may be registered, and why one of
-- them is refused (WebAssembly 3.0, "Recursive Types" and "Matching"; exceptions and the limit on fields after wasmtime).
use Rattle.std.specs.Prelude.{ℕ, length, nat_lt, Bool, true, false, ◌&&◌, ◌||◌, not, if◌then◌else◌, Option, Some, None, is_some}
use Rattle.std.specs.List.{list_any}
use Rattle.std.specs.Option.{option_or, option_map_or, option_and_then}
use Rattle.wt_env.specs.declared.types.VMSharedTypeIndex.{VMSharedTypeIndex}
use Rattle.wt_env.specs.declared.types.EngineOrModuleTypeIndex.{EngineOrModuleTypeIndex}
use Rattle.wt_env.specs.declared.types.EngineOrModuleTypeIndex.TheVariants as index
use Rattle.wt_env.specs.declared.types.WasmCompositeInnerType.{WasmCompositeInnerType}
use Rattle.wt_env.specs.declared.types.WasmCompositeInnerType.TheVariants as shape
use Rattle.wt_env.specs.declared.types.WasmSubType.{WasmSubType}
use Rattle.wt_tree.specs.Kinds.{member_kind, type_indices}
use Rattle.wt_tree.specs.Tree.{ClosedTree}
use Rattle.wt_tree.specs.Subtyping.{engine_index}
use Rattle.wt_tree.specs.Fit.{named_by}
use Rattle.wt_rules.specs.TypeRules.{kind_of_tree, is_other, breaks_kind, is_final_type, matches_shape, exception_of, function_at, is_open, are_params}
use Rattle.wt_rules.specs.declared.host_types.HostBreach.{HostBreach}
use Rattle.wt_rules.specs.declared.host_types.HostBreach.TheVariants as breach

-- ---- which types a host may register

-- an engine index that has a closed tree
abbrev pub is_known : (VMSharedTypeIndex → Option ClosedTree) → EngineOrModuleTypeIndex → Bool
is_known types (index.Engine i) = is_some (types i)
is_known types (index.Module n) = false
is_known types (index.RecGroup k) = false

-- whether a type index stands in a type that is none, or has no closed tree
abbrev pub has_unknown : (VMSharedTypeIndex → Option ClosedTree) → WasmSubType → Bool
has_unknown types ty = list_any (λ i. not (is_known types i)) (type_indices ty)

-- whether a type declares a supertype of another kind
abbrev pub has_other_supertype : (EngineOrModuleTypeIndex → ClosedTree) → WasmSubType → Bool
has_other_supertype read ty = option_map_or (λ i. is_other (member_kind ty) (kind_of_tree (read i))) ty.supertype false

-- whether an exception may have subtypes or has a supertype, or doesn't hold its function's parameters
abbrev pub is_bad_exception : (EngineOrModuleTypeIndex → ClosedTree) → WasmSubType → Bool
is_bad_exception read ty = option_map_or (λ e. is_open ty || not (are_params read e.fields (read e.func_ty))) (exception_of ty.composite_type) false

abbrev pub is_continuation : WasmCompositeInnerType → Bool
is_continuation (shape.Cont c) = true
is_continuation _ = false

-- A type that a host may register: all that it names has a closed tree, each of the kind that its place needs, an
-- exception is final with no supertype and holds its function's parameters, and it is no continuation.
abbrev pub is_host_type : (VMSharedTypeIndex → Option ClosedTree) → WasmSubType → Bool
is_host_type types ty =
    not (has_unknown types ty) && (not (breaks_kind (named_by types) ty) && (not (has_other_supertype (named_by types) ty)
    && (not (is_bad_exception (named_by types) ty) && not (is_continuation ty.composite_type))))

-- ---- why one is refused

-- the first cause below a supertype: it is final, or the type's shape doesn't match its shape
abbrev pub breach_below : (VMSharedTypeIndex → Option ClosedTree) → WasmSubType → VMSharedTypeIndex → Option HostBreach
breach_below types ty i =
    if is_final_type (named_by types (index.Engine i)) then Some (breach.FinalSupertype i)
    else if matches_shape (named_by types) ty (named_by types (index.Engine i)) then None
    else Some (breach.SupertypeMismatch (member_kind ty))

abbrev pub supertype_breach : (VMSharedTypeIndex → Option ClosedTree) → WasmSubType → Option HostBreach
supertype_breach types ty = option_and_then (breach_below types ty) (option_and_then engine_index ty.supertype)

-- a struct has at most 10,000 fields
abbrev pub fields_breach : WasmCompositeInnerType → Option HostBreach
fields_breach (shape.Struct s) = if nat_lt 10000 (length s.fields) then Some (breach.TooManyFields (length s.fields)) else None
fields_breach _ = None

-- how many results the function of a closed tree has
abbrev pub result_count : ClosedTree → ℕ
result_count t = option_map_or (λ f. length f.results) (function_at t) 0

-- the function of an exception has no results
abbrev pub results_breach : (EngineOrModuleTypeIndex → ClosedTree) → WasmCompositeInnerType → Option HostBreach
results_breach read (shape.Exn e) = if nat_lt 0 (result_count (read e.func_ty)) then Some (breach.TagHasResults (result_count (read e.func_ty))) else None
results_breach read _ = None

-- the first cause for which a type of a host is refused, if there is one
abbrev pub host_breach : (VMSharedTypeIndex → Option ClosedTree) → WasmSubType → Option HostBreach
host_breach types ty =
    option_or (supertype_breach types ty)
    (option_or (fields_breach ty.composite_type) (results_breach (named_by types) ty.composite_type))
