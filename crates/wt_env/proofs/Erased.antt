-- What is erased is left as it is, and erasing leaves nothing to erase.
use Rattle.std.proofs.Common.{◌≡◌, ◌↔◌, Bool, true, false, ◌&&◌, List, [], ◌∷◌, map, refl, sym, subst}
use Rattle.std.specs.List.{list_all}
use Rattle.std.proofs.lemmas.Bool.{false≢true, and_parts}
use Rattle.wt_env.specs.declared.types.WasmHeapType.{WasmHeapType}
use Rattle.wt_env.specs.declared.types.WasmHeapType.TheVariants as heap
use Rattle.wt_env.specs.declared.types.WasmValType.{WasmValType}
use Rattle.wt_env.specs.declared.types.WasmValType.TheVariants as val
use Rattle.wt_env.specs.declared.types.WasmFuncType.{WasmFuncType}
use Rattle.wt_env.specs.Erasure.{top_of, is_top, erase_val, erase, is_erased_val, is_erased}

both : (a b : Bool) → a ≡ true → b ≡ true → (a && b) ≡ true
both true b is second = second
both false b is second = absurd (false≢true is)

-- ---- one value type

top-same : (h : WasmHeapType) → is_top h ≡ true → top_of h ≡ h
top-same heap.Extern is = refl
top-same heap.Func is = refl
top-same heap.Any is = refl
top-same heap.Exn is = refl
top-same heap.Cont is = refl
top-same _ is = absurd (false≢true is)

top-again : (h : WasmHeapType) → is_top (top_of h) ≡ true
top-again heap.Extern = refl
top-again heap.NoExtern = refl
top-again heap.Func = refl
top-again (heap.ConcreteFunc i) = refl
top-again heap.NoFunc = refl
top-again heap.Any = refl
top-again heap.Eq = refl
top-again heap.I31 = refl
top-again heap.Array = refl
top-again (heap.ConcreteArray i) = refl
top-again heap.Struct = refl
top-again (heap.ConcreteStruct i) = refl
top-again heap.Exn = refl
top-again (heap.ConcreteExn i) = refl
top-again (heap.ConcreteCont i) = refl
top-again heap.Cont = refl
top-again heap.NoCont = refl
top-again heap.None = refl
top-again heap.NoExn = refl

val-same : (v : WasmValType) → is_erased_val v ≡ true → erase_val v ≡ v
val-same val.I32 is = refl
val-same val.I64 is = refl
val-same val.F32 is = refl
val-same val.F64 is = refl
val-same val.V128 is = refl
val-same (val.Ref r) is =
    let parts = and_parts r.nullable (is_top r.heap_type) is in
    let nullable : true ≡ r.nullable = sym parts.0 in
    let top = top-same r.heap_type parts.1 in
    λ i. val.Ref (record { nullable = nullable i; heap_type = top i })

val-again : (v : WasmValType) → is_erased_val (erase_val v) ≡ true
val-again val.I32 = refl
val-again val.I64 = refl
val-again val.F32 = refl
val-again val.F64 = refl
val-again val.V128 = refl
val-again (val.Ref r) = top-again r.heap_type

-- ---- lists of them

vals-same : (vs : List WasmValType) → list_all is_erased_val vs ≡ true → map erase_val vs ≡ vs
vals-same [] is = refl
vals-same (v ∷ vs) is =
    let parts = and_parts (is_erased_val v) (list_all is_erased_val vs) is in
    let here = val-same v parts.0 in
    let rest = vals-same vs parts.1 in
    λ i. here i ∷ rest i

vals-again : (vs : List WasmValType) → list_all is_erased_val (map erase_val vs) ≡ true
vals-again [] = refl
vals-again (v ∷ vs) = both (is_erased_val (erase_val v)) (list_all is_erased_val (map erase_val vs)) (val-again v) (vals-again vs)

-- ---- function types

-- what is erased is left as it is
pub erased-same : (f : WasmFuncType) → is_erased f ≡ true → erase f ≡ f
erased-same f is =
    let parts = and_parts (list_all is_erased_val f.params) (list_all is_erased_val f.results) is in
    let params = vals-same f.params parts.0 in
    let results = vals-same f.results parts.1 in
    λ i. record { params = params i; results = results i }

-- erasing leaves nothing to erase
pub erased-again : (f : WasmFuncType) → is_erased (erase f) ≡ true
erased-again f = both (list_all is_erased_val (map erase_val f.params)) (list_all is_erased_val (map erase_val f.results)) (vals-again f.params) (vals-again f.results)

-- erasing twice is erasing once
pub erased_once : (f : WasmFuncType) → erase (erase f) ≡ erase f
erased_once f = erased-same (erase f) (erased-again f)

-- the test tells what is left as it is
pub erased-tells : (f : WasmFuncType) → (is_erased f ≡ true) ↔ (erase f ≡ f)
erased-tells f = (erased-same f, λ same. subst (λ (g : WasmFuncType). is_erased g ≡ true) same (erased-again f))
