-- What is told of an import that isn't fit (the texts of wasmtime; that of a page whose bytes 64 bits don't hold is this
-- crate's).
use Rattle.std.specs.Prelude.{◌≡◌, ◌↔◌, ℕ, ◌^◌, Bool, true, false, not, ◌||◌, nat_lt, List, ◌++◌, codes, Option, None, Some, IsSome, IfSome, if◌then◌else◌}
use Rattle.std.specs.Fmt.{decimal}
use Rattle.wt_env.specs.declared.types.VMSharedTypeIndex.{VMSharedTypeIndex}
use Rattle.wt_env.specs.declared.types.EngineOrModuleTypeIndex.{EngineOrModuleTypeIndex}
use Rattle.wt_env.specs.declared.types.EngineOrModuleTypeIndex.TheVariants as index
use Rattle.wt_env.specs.declared.types.WasmRefType.{WasmRefType}
use Rattle.wt_env.specs.declared.types.WasmValType.{WasmValType}
use Rattle.wt_env.specs.declared.types.WasmValType.TheVariants as val
use Rattle.wt_env.specs.declared.types.WasmSubType.{WasmSubType}
use Rattle.wt_env.specs.Texts.{index_text, heap_text, ref_text, val_text, sub_type_text}
use Rattle.wt_tree.specs.Tree.{ClosedTree}
use Rattle.wt_tree.specs.Fit.{ShowsAt}
use Rattle.wt_extern.specs.declared.entity.IndexType.{IndexType}
use Rattle.wt_extern.specs.declared.entity.Limits.{Limits}
use Rattle.wt_extern.specs.Entities.{has_64_bits}
use Rattle.wt_matching.specs.declared.definition.EntityKind.{EntityKind}
use Rattle.wt_matching.specs.declared.definition.EntityKind.TheVariants as kind
use Rattle.wt_matching.specs.declared.definition.SizedKind.{SizedKind}
use Rattle.wt_matching.specs.declared.definition.SizedKind.TheVariants as sized
use Rattle.wt_matching.specs.declared.unfit.Unfit.{Unfit}
use Rattle.wt_matching.specs.declared.unfit.Unfit.TheVariants as unfit

-- ---- words

abbrev pub kind_text : EntityKind → List ℕ
kind_text kind.Func = codes "func"
kind_text kind.Global = codes "global"
kind_text kind.Table = codes "table"
kind_text kind.Memory = codes "memory"
kind_text kind.Tag = codes "tag"

-- the word for a definition
abbrev pub found_text : EntityKind → List ℕ
found_text kind.Func = codes "function"
found_text kind.Global = codes "global"
found_text kind.Table = codes "table"
found_text kind.Memory = codes "memory"
found_text kind.Tag = codes "tag"

abbrev pub sized_text : SizedKind → List ℕ
sized_text sized.Table = codes "table"
sized_text sized.Memory = codes "memory"

abbrev pub mutability_text : (can_change : Bool) → List ℕ
mutability_text true = codes "mutable"
mutability_text false = codes "immutable"

abbrev pub sharing_text : (is_shared : Bool) → List ℕ
sharing_text true = codes "shared"
sharing_text false = codes "non-shared"

abbrev pub bits_text : (is_64 : Bool) → List ℕ
bits_text true = codes "64-bit"
bits_text false = codes "32-bit"

abbrev pub maximum_text : Option ℕ → List ℕ
maximum_text None = codes "none"
maximum_text (Some most) = decimal most

abbrev pub limits_text : Limits → List ℕ
limits_text l = codes "(min: " ++ decimal l.min ++ codes ", max: " ++ maximum_text l.max ++ codes ")"

-- the bytes of a page of this logarithm; as a power where 64 bits don't hold them
abbrev pub page_text : (log2 : ℕ) → List ℕ
page_text log2 = if nat_lt log2 64 then decimal (2 ^ log2) else codes "2**" ++ decimal log2

-- ---- types

-- the type that an index names, or the index where none is told
abbrev pub named_text : EngineOrModuleTypeIndex → Option WasmSubType → List ℕ
named_text i (Some ty) = sub_type_text ty
named_text i None = index_text i

abbrev pub content_text : (expected actual : List ℕ) → List ℕ
content_text expected actual = codes "global types incompatible: expected global of type `" ++ expected ++ codes "`, found global of type `" ++ actual ++ codes "`"

-- two reference types, of which the second doesn't match the first: the heap types alone, where only these don't
abbrev pub references_text : (expected actual : WasmRefType) → List ℕ
references_text expected actual =
    if not actual.nullable || expected.nullable then content_text (heap_text expected.heap_type) (heap_text actual.heap_type)
    else content_text (ref_text expected) (ref_text actual)

abbrev pub constant_text : (expected actual : WasmValType) → List ℕ
constant_text (val.Ref expected) (val.Ref actual) = references_text expected actual
constant_text expected actual = content_text (val_text expected) (val_text actual)

-- ---- causes

abbrev pub functions_text : (expected actual : List ℕ) → List ℕ
functions_text expected actual = codes "types incompatible: expected type `" ++ expected ++ codes "`, found type `" ++ actual ++ codes "`"

abbrev pub index_types_text : SizedKind → (expected actual : IndexType) → List ℕ
index_types_text of expected actual =
    sized_text of ++ codes " types incompatible: expected " ++ bits_text (has_64_bits expected) ++ codes " " ++ sized_text of
    ++ codes ", found " ++ bits_text (has_64_bits actual) ++ codes " " ++ sized_text of

abbrev pub limits_of_text : SizedKind → Limits → List ℕ
limits_of_text of limits = sized_text of ++ codes " limits " ++ limits_text limits

abbrev pub both_limits_text : SizedKind → (expected actual : Limits) → List ℕ
both_limits_text of expected actual =
    sized_text of ++ codes " types incompatible: expected " ++ limits_of_text of expected
    ++ codes " doesn't match provided " ++ limits_of_text of actual

abbrev pub pages_text : (expected actual : ℕ) → List ℕ
pages_text expected actual =
    codes "memory types incompatible: expected a memory with a page size of " ++ page_text expected
    ++ codes ", but received a memory with a page size of " ++ page_text actual

abbrev pub definition_kind_text : (expected actual : EntityKind) → List ℕ
definition_kind_text expected actual = codes "expected " ++ kind_text expected ++ codes ", but found " ++ found_text actual

abbrev pub both_mutability_text : (expected actual : Bool) → List ℕ
both_mutability_text expected actual = codes "global types incompatible: expected " ++ mutability_text expected ++ codes " global, found " ++ mutability_text actual ++ codes " global"

abbrev pub elements_text : (expected actual : WasmRefType) → List ℕ
elements_text expected actual = codes "table types incompatible: expected table of type `" ++ ref_text expected ++ codes "`, found table of type `" ++ ref_text actual ++ codes "`"

abbrev pub both_sharing_text : (expected actual : Bool) → List ℕ
both_sharing_text expected actual = codes "memory types incompatible: expected " ++ sharing_text expected ++ codes " memory, found " ++ sharing_text actual ++ codes " memory"

-- where these are the sub types of two function types
abbrev pub unfit_text : Unfit → (expected actual : Option WasmSubType) → List ℕ
unfit_text (unfit.DefinitionKind e a) s t = definition_kind_text e a
unfit_text (unfit.EntityKind e a) s t = codes "expected " ++ kind_text e ++ codes " found " ++ kind_text a
unfit_text (unfit.Function e a) s t = functions_text (named_text e s) (named_text a t)
unfit_text (unfit.VariableContent e a) s t = content_text (val_text e) (val_text a)
unfit_text (unfit.ConstantContent e a) s t = constant_text e a
unfit_text (unfit.Mutability e a) s t = both_mutability_text e a
unfit_text (unfit.Element e a) s t = elements_text e a
unfit_text (unfit.IndexType k e a) s t = index_types_text k e a
unfit_text (unfit.Limits k e a) s t = both_limits_text k e a
unfit_text (unfit.Sharing e a) s t = both_sharing_text e a
unfit_text (unfit.PageSize e a) s t = pages_text e a
unfit_text (unfit.Tag e a) s t = codes "incompatible tag types"

-- ---- by what an engine knows

-- the function types that a cause tells of
abbrev pub expected_function : Unfit → Option EngineOrModuleTypeIndex
expected_function (unfit.Function e a) = Some e
expected_function _ = None

abbrev pub actual_function : Unfit → Option EngineOrModuleTypeIndex
actual_function (unfit.Function e a) = Some a
actual_function _ = None

-- the sub type that an engine index has, if it has one
pub record HasSubType (types : VMSharedTypeIndex → Option ClosedTree) (i : VMSharedTypeIndex) (found : Option WasmSubType) : Type 0 where
  pub stands : IsSome found ↔ IsSome (types i)
  pub shown : IfSome found (λ ty. ShowsAt types i ty)

-- the same of an index that may be of another kind, or may be missing
abbrev pub IsSubType : (VMSharedTypeIndex → Option ClosedTree) → Option EngineOrModuleTypeIndex → Option WasmSubType → Type 0
IsSubType types (Some (index.Engine i)) found = HasSubType types i found
IsSubType types (Some (index.Module n)) found = found ≡ None
IsSubType types (Some (index.RecGroup k)) found = found ≡ None
IsSubType types None found = found ≡ None

-- the text of a cause, with each function type as these types have it
pub record ShowsUnfit (types : VMSharedTypeIndex → Option ClosedTree) (cause : Unfit) (text : List ℕ) : Type 0 where
  pub expected : Option WasmSubType
  pub actual : Option WasmSubType
  pub expected_is : IsSubType types (expected_function cause) expected
  pub actual_is : IsSubType types (actual_function cause) actual
  pub text_is : text ≡ unfit_text cause expected actual
