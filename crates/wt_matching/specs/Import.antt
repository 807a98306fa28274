-- When what is given for an import fits it, and else the first cause why not (WebAssembly 3.0, "Matching", "External
-- Types"; sharing, page sizes and the order of the causes after wasmtime).
use Rattle.std.specs.Prelude.{ℕ, Bool, true, false, ◌&&◌, ◌||◌, ◌==◌, nat_le, List, [], ◌∷◌, Option, None, Some, Result, Ok, Err}
use Rattle.std.specs.Bool.{beq}
use Rattle.wt_env.specs.declared.types.VMSharedTypeIndex.{VMSharedTypeIndex}
use Rattle.wt_env.specs.declared.types.EngineOrModuleTypeIndex.{EngineOrModuleTypeIndex}
use Rattle.wt_env.specs.declared.types.EngineOrModuleTypeIndex.TheVariants as index
use Rattle.wt_env.specs.declared.types.WasmHeapType.{WasmHeapType}
use Rattle.wt_env.specs.declared.types.WasmValType.{WasmValType}
use Rattle.wt_env.specs.declared.types.WasmValType.TheVariants as val
use Rattle.wt_env.specs.Equality.{type_index_eq, ref_type_eq, val_type_eq}
use Rattle.wt_tree.specs.Tree.{ClosedTree}
use Rattle.wt_tree.specs.Subtyping.{is_sub}
use Rattle.wt_tree.specs.Fit.{val_fits, named_by}
use Rattle.wt_extern.specs.declared.entity.IndexType.{IndexType}
use Rattle.wt_extern.specs.declared.entity.Limits.{Limits}
use Rattle.wt_extern.specs.declared.entity.Global.{Global}
use Rattle.wt_extern.specs.declared.entity.Table.{Table}
use Rattle.wt_extern.specs.declared.entity.Memory.{Memory}
use Rattle.wt_extern.specs.declared.entity.Tag.{Tag}
use Rattle.wt_extern.specs.declared.entity.EntityType.{EntityType}
use Rattle.wt_extern.specs.declared.entity.EntityType.TheVariants as entity
use Rattle.wt_extern.specs.Entities.{has_64_bits}
use Rattle.wt_extern.specs.EntityRules.{global_indices, table_indices}
use Rattle.wt_matching.specs.declared.definition.DefinitionType.{DefinitionType}
use Rattle.wt_matching.specs.declared.definition.DefinitionType.TheVariants as definition
use Rattle.wt_matching.specs.declared.definition.EntityKind.{EntityKind}
use Rattle.wt_matching.specs.declared.definition.EntityKind.TheVariants as kind
use Rattle.wt_matching.specs.declared.definition.SizedKind.{SizedKind}
use Rattle.wt_matching.specs.declared.definition.SizedKind.TheVariants as sized
use Rattle.wt_matching.specs.declared.unfit.Unfit.{Unfit}
use Rattle.wt_matching.specs.declared.unfit.Unfit.TheVariants as unfit

-- ---- kinds and type indices

abbrev pub entity_kind : EntityType → EntityKind
entity_kind (entity.Function i) = kind.Func
entity_kind (entity.Global g) = kind.Global
entity_kind (entity.Table t) = kind.Table
entity_kind (entity.Memory m) = kind.Memory
entity_kind (entity.Tag t) = kind.Tag

abbrev pub definition_kind : DefinitionType → EntityKind
definition_kind (definition.Func i) = kind.Func
definition_kind (definition.Global g) = kind.Global
definition_kind (definition.Table t size) = kind.Table
definition_kind (definition.Memory m size) = kind.Memory
definition_kind (definition.Tag t) = kind.Tag

-- every type index that stands in a definition
abbrev pub definition_indices : DefinitionType → List EngineOrModuleTypeIndex
definition_indices (definition.Func i) = index.Engine i ∷ []
definition_indices (definition.Global g) = global_indices g
definition_indices (definition.Table t size) = table_indices t
definition_indices (definition.Memory m size) = []
definition_indices (definition.Tag t) = t.signature ∷ []

-- a constant global of references to this heap type, null among them
abbrev pub constant_global : WasmHeapType → EntityType
constant_global h = entity.Global (record { wasm_ty = val.Ref (record { nullable = true; heap_type = h }); mutability = false })

-- ---- causes in order

-- no cause where the test holds
abbrev pub unless : Bool → Unfit → Option Unfit
unless true cause = None
unless false cause = Some cause

-- the first cause, or else the second
abbrev pub first_of : Option Unfit → Option Unfit → Option Unfit
first_of (Some cause) rest = Some cause
first_of None rest = rest

-- what is answered: Ok exactly where there is no cause
abbrev pub answer : Option Unfit → Result (Unit {0}) Unfit
answer None = Ok tt
answer (Some cause) = Err cause

-- ---- functions and tags

-- declared steps lead from the given type to the expected one
abbrev pub func_unfit : (VMSharedTypeIndex → Option ClosedTree) → (expected actual : EngineOrModuleTypeIndex) → Option Unfit
func_unfit types expected actual = unless (is_sub (named_by types actual) (named_by types expected)) (unfit.Function expected actual)

abbrev pub tag_unfit : (expected actual : Tag) → Option Unfit
tag_unfit expected actual = unless (type_index_eq expected.signature actual.signature) (unfit.Tag expected.signature actual.signature)

-- ---- globals

-- where one can change, the value types are equal; else the given one matches the expected one
abbrev pub content_unfit : (VMSharedTypeIndex → Option ClosedTree) → (is_variable : Bool) → (expected actual : WasmValType) → Option Unfit
content_unfit types true expected actual = unless (val_type_eq expected actual) (unfit.VariableContent expected actual)
content_unfit types false expected actual = unless (val_fits (named_by types) (named_by types) actual expected) (unfit.ConstantContent expected actual)

abbrev pub global_unfit : (VMSharedTypeIndex → Option ClosedTree) → (expected actual : Global) → Option Unfit
global_unfit types expected actual =
    first_of (content_unfit types (expected.mutability || actual.mutability) expected.wasm_ty actual.wasm_ty)
    (unless (beq expected.mutability actual.mutability) (unfit.Mutability expected.mutability actual.mutability))

-- ---- tables and memories

-- where a maximum is expected, one is given, and isn't above it
abbrev pub maximum_fits : (expected actual : Option ℕ) → Bool
maximum_fits None actual = true
maximum_fits (Some expected) None = false
maximum_fits (Some expected) (Some actual) = nat_le actual expected

-- the given minimum isn't below the expected one, and the maximum fits
abbrev pub limits_fit : (expected actual : Limits) → Bool
limits_fit expected actual = nat_le expected.min actual.min && maximum_fits expected.max actual.max

-- limits whose minimum is the size
abbrev pub limits_at : Limits → (size : ℕ) → Limits
limits_at limits size = record { min = size; max = limits.max }

abbrev pub index_unfit : SizedKind → (expected actual : IndexType) → Option Unfit
index_unfit of expected actual = unless (beq (has_64_bits expected) (has_64_bits actual)) (unfit.IndexType of expected actual)

abbrev pub limits_unfit : SizedKind → (expected actual : Limits) → Option Unfit
limits_unfit of expected actual = unless (limits_fit expected actual) (unfit.Limits of expected actual)

abbrev pub table_unfit : (expected actual : Table) → (size : ℕ) → Option Unfit
table_unfit expected actual size =
    first_of (unless (ref_type_eq expected.ref_type actual.ref_type) (unfit.Element expected.ref_type actual.ref_type))
    (first_of (index_unfit sized.Table expected.idx_type actual.idx_type)
    (limits_unfit sized.Table expected.limits (limits_at actual.limits size)))

-- the limits in pages, and then the sizes of a page
abbrev pub pages_unfit : (expected actual : Memory) → (size : ℕ) → Option Unfit
pages_unfit expected actual size =
    first_of (limits_unfit sized.Memory expected.limits (limits_at actual.limits size))
    (unless (expected.page_size_log2 == actual.page_size_log2) (unfit.PageSize expected.page_size_log2 actual.page_size_log2))

abbrev pub memory_unfit : (expected actual : Memory) → (size : ℕ) → Option Unfit
memory_unfit expected actual size =
    first_of (unless (beq expected.shared actual.shared) (unfit.Sharing expected.shared actual.shared))
    (first_of (index_unfit sized.Memory expected.idx_type actual.idx_type)
    (pages_unfit expected actual size))

-- ---- whole

-- The first cause why a definition doesn't fit what is expected; none where it fits. A table or a memory counts by the
-- size that it has.
abbrev pub definition_unfit : (VMSharedTypeIndex → Option ClosedTree) → (expected : EntityType) → (actual : DefinitionType) → Option Unfit
definition_unfit types (entity.Function i) (definition.Func j) = func_unfit types i (index.Engine j)
definition_unfit types (entity.Global g) (definition.Global h) = global_unfit types g h
definition_unfit types (entity.Table t) (definition.Table u size) = table_unfit t u size
definition_unfit types (entity.Memory m) (definition.Memory n size) = memory_unfit m n size
definition_unfit types (entity.Tag t) (definition.Tag u) = tag_unfit t u
definition_unfit types expected actual = Some (unfit.DefinitionKind (entity_kind expected) (definition_kind actual))

-- The first cause why what is declared doesn't fit what is expected; none where it fits. A table or a memory counts by
-- its declared minimum.
abbrev pub entity_unfit : (VMSharedTypeIndex → Option ClosedTree) → (expected actual : EntityType) → Option Unfit
entity_unfit types (entity.Function i) (entity.Function j) = func_unfit types i j
entity_unfit types (entity.Global g) (entity.Global h) = global_unfit types g h
entity_unfit types (entity.Table t) (entity.Table u) = table_unfit t u u.limits.min
entity_unfit types (entity.Memory m) (entity.Memory n) = memory_unfit m n n.limits.min
entity_unfit types (entity.Tag t) (entity.Tag u) = tag_unfit t u
entity_unfit types expected actual = Some (unfit.EntityKind (entity_kind expected) (entity_kind actual))
