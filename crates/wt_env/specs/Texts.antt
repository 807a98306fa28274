-- The texts of types (those of wasmtime). An index stands for what it names: nothing here reads a registry. So an
-- exception's text has the index of its function type where wasmtime, which has a registry, prints the function.
-- wasmtime prints engine indices alone; the texts of the other indices, and those of continuations, are this crate's.
use Rattle.std.specs.Prelude.{ℕ, List, [], ◌∷◌, ◌++◌, codes, if◌then◌else◌}
use Rattle.std.specs.List.{flat_map}
use Rattle.std.specs.Fmt.{decimal}
use Rattle.wt_env.specs.declared.types.VMSharedTypeIndex.{VMSharedTypeIndex}
use Rattle.wt_env.specs.declared.types.ModuleInternedTypeIndex.{ModuleInternedTypeIndex}
use Rattle.wt_env.specs.declared.types.EngineOrModuleTypeIndex.{EngineOrModuleTypeIndex}
use Rattle.wt_env.specs.declared.types.EngineOrModuleTypeIndex.TheVariants as index
use Rattle.wt_env.specs.declared.types.WasmHeapType.{WasmHeapType}
use Rattle.wt_env.specs.declared.types.WasmHeapType.TheVariants as heap
use Rattle.wt_env.specs.declared.types.WasmRefType.{WasmRefType}
use Rattle.wt_env.specs.declared.types.WasmValType.{WasmValType}
use Rattle.wt_env.specs.declared.types.WasmValType.TheVariants as val
use Rattle.wt_env.specs.declared.types.WasmStorageType.{WasmStorageType}
use Rattle.wt_env.specs.declared.types.WasmStorageType.TheVariants as storage
use Rattle.wt_env.specs.declared.types.WasmFieldType.{WasmFieldType}
use Rattle.wt_env.specs.declared.types.WasmFuncType.{WasmFuncType}
use Rattle.wt_env.specs.declared.types.WasmStructType.{WasmStructType}
use Rattle.wt_env.specs.declared.types.WasmArrayType.{WasmArrayType}
use Rattle.wt_env.specs.declared.types.WasmExnType.{WasmExnType}
use Rattle.wt_env.specs.declared.types.WasmContType.{WasmContType}
use Rattle.wt_env.specs.declared.types.WasmCompositeInnerType.{WasmCompositeInnerType}
use Rattle.wt_env.specs.declared.types.WasmCompositeInnerType.TheVariants as composite
use Rattle.wt_env.specs.declared.types.WasmSubType.{WasmSubType}

-- an index: what counts it, and its number
abbrev pub engine_index_text : VMSharedTypeIndex → List ℕ
engine_index_text i = codes "VMSharedTypeIndex(" ++ decimal i.0 ++ codes ")"

abbrev pub module_index_text : ModuleInternedTypeIndex → List ℕ
module_index_text i = codes "ModuleInternedTypeIndex(" ++ decimal i.0 ++ codes ")"

abbrev pub index_text : EngineOrModuleTypeIndex → List ℕ
index_text (index.Engine i) = engine_index_text i
index_text (index.Module i) = module_index_text i
index_text (index.RecGroup place) = codes "RecGroup(" ++ decimal place ++ codes ")"

-- a heap type: its word, or the kind of what an index names
abbrev pub heap_text : WasmHeapType → List ℕ
heap_text heap.Extern = codes "extern"
heap_text heap.NoExtern = codes "noextern"
heap_text heap.Func = codes "func"
heap_text (heap.ConcreteFunc i) = codes "(concrete func " ++ index_text i ++ codes ")"
heap_text heap.NoFunc = codes "nofunc"
heap_text heap.Any = codes "any"
heap_text heap.Eq = codes "eq"
heap_text heap.I31 = codes "i31"
heap_text heap.Array = codes "array"
heap_text (heap.ConcreteArray i) = codes "(concrete array " ++ index_text i ++ codes ")"
heap_text heap.Struct = codes "struct"
heap_text (heap.ConcreteStruct i) = codes "(concrete struct " ++ index_text i ++ codes ")"
heap_text heap.Exn = codes "exn"
heap_text (heap.ConcreteExn i) = codes "(concrete exn " ++ index_text i ++ codes ")"
heap_text (heap.ConcreteCont i) = codes "(concrete cont " ++ index_text i ++ codes ")"
heap_text heap.Cont = codes "cont"
heap_text heap.NoCont = codes "nocont"
heap_text heap.None = codes "none"
heap_text heap.NoExn = codes "noexn"

abbrev pub ref_text : WasmRefType → List ℕ
ref_text r = (if r.nullable then codes "(ref null " else codes "(ref ") ++ heap_text r.heap_type ++ codes ")"

abbrev pub val_text : WasmValType → List ℕ
val_text val.I32 = codes "i32"
val_text val.I64 = codes "i64"
val_text val.F32 = codes "f32"
val_text val.F64 = codes "f64"
val_text val.V128 = codes "v128"
val_text (val.Ref r) = ref_text r

abbrev pub storage_text : WasmStorageType → List ℕ
storage_text storage.I8 = codes "i8"
storage_text storage.I16 = codes "i16"
storage_text (storage.Val v) = val_text v

-- a field: what it stores, in `(mut ..)` where that can change
abbrev pub field_text : WasmFieldType → List ℕ
field_text f = if f.mutable then codes "(mut " ++ storage_text f.element_type ++ codes ")" else storage_text f.element_type

-- value types, each after a blank
abbrev pub vals_text : List WasmValType → List ℕ
vals_text types = flat_map (λ ty. codes " " ++ val_text ty) types

-- fields, each in `(field ..)` after a blank
abbrev pub fields_text : List WasmFieldType → List ℕ
fields_text fields = flat_map (λ field. codes " (field " ++ field_text field ++ codes ")") fields

-- the parameters or the results of a function, after a blank; nothing where there are none
abbrev pub clause_text : List ℕ → List WasmValType → List ℕ
clause_text word [] = []
clause_text word (ty ∷ types) = codes " (" ++ word ++ vals_text (ty ∷ types) ++ codes ")"

abbrev pub func_text : WasmFuncType → List ℕ
func_text f = codes "(type (func" ++ clause_text (codes "param") f.params ++ clause_text (codes "result") f.results ++ codes "))"

abbrev pub struct_text : WasmStructType → List ℕ
struct_text s = codes "(struct" ++ fields_text s.fields ++ codes ")"

abbrev pub array_text : WasmArrayType → List ℕ
array_text a = codes "(array (field " ++ field_text a.0 ++ codes "))"

abbrev pub exn_text : WasmExnType → List ℕ
exn_text e = codes "(exn " ++ index_text e.func_ty ++ fields_text e.fields ++ codes ")"

abbrev pub cont_text : WasmContType → List ℕ
cont_text c = codes "(cont " ++ index_text c.0 ++ codes ")"

abbrev pub composite_text : WasmCompositeInnerType → List ℕ
composite_text (composite.Func f) = func_text f
composite_text (composite.Struct s) = struct_text s
composite_text (composite.Array a) = array_text a
composite_text (composite.Exn e) = exn_text e
composite_text (composite.Cont c) = cont_text c

-- a sub type: its shape, without what it is a subtype of and whether it is final
abbrev pub sub_type_text : WasmSubType → List ℕ
sub_type_text t = composite_text t.composite_type
