-- A type that is its own trampoline, as a function over numbers is, refers to nothing. So it stays as it is when its
-- references are numbered or changed.
use Rattle.std.proofs.Common.{◌≡◌, ℕ, ◌+◌, Bool, true, ◌&&◌, List, [], ◌∷◌, ◌++◌, length, Option, Some, None, is_none, option_map, refl, ap, ◌∙◌}
use Rattle.std.specs.List.{list_all}
use Rattle.std.proofs.lemmas.Bool.{false≢true, and_parts}
use Rattle.wt_env.specs.declared.types.EngineOrModuleTypeIndex.{EngineOrModuleTypeIndex}
use Rattle.wt_env.specs.declared.types.WasmHeapType.{WasmHeapType}
use Rattle.wt_env.specs.declared.types.WasmHeapType.TheVariants as heap
use Rattle.wt_env.specs.declared.types.WasmValType.{WasmValType}
use Rattle.wt_env.specs.declared.types.WasmValType.TheVariants as val
use Rattle.wt_env.specs.declared.types.WasmCompositeInnerType.{WasmCompositeInnerType}
use Rattle.wt_env.specs.declared.types.WasmCompositeInnerType.TheVariants as shape
use Rattle.wt_env.specs.declared.types.WasmSubType.{WasmSubType}
use Rattle.wt_env.specs.Erasure.{is_top, is_erased_val}
use Rattle.wt_tree.specs.NumberFunction.{is_number, is_over_numbers, is_number_function}
use Rattle.wt_tree.specs.References.{heap_refs, val_refs, vals_refs, shape_refs, super_refs, sub_refs, group_refs, number_index, number_val, number_vals, number_shape, number_sub, number_group}
use Rattle.wt_tree.specs.MapRefs.{map_heap_refs, map_val_refs, map_vals_refs, map_shape_refs, map_sub_refs}
use Rattle.wt_tree.specs.Trampoline.{is_erased_shape, is_own_trampoline}
use Rattle.wt_tree.proofs.Numbering.{number_val-mapped}

-- ---- an erased value type

heap_refs-top : (h : WasmHeapType) → is_top h ≡ true → heap_refs h ≡ []
heap_refs-top (heap.ConcreteFunc i) is = absurd (false≢true is)
heap_refs-top (heap.ConcreteArray i) is = absurd (false≢true is)
heap_refs-top (heap.ConcreteStruct i) is = absurd (false≢true is)
heap_refs-top (heap.ConcreteExn i) is = absurd (false≢true is)
heap_refs-top (heap.ConcreteCont i) is = absurd (false≢true is)
heap_refs-top _ is = refl

map_heap_refs-top : (f : EngineOrModuleTypeIndex → EngineOrModuleTypeIndex) (h : WasmHeapType) → is_top h ≡ true → map_heap_refs f h ≡ h
map_heap_refs-top f (heap.ConcreteFunc i) is = absurd (false≢true is)
map_heap_refs-top f (heap.ConcreteArray i) is = absurd (false≢true is)
map_heap_refs-top f (heap.ConcreteStruct i) is = absurd (false≢true is)
map_heap_refs-top f (heap.ConcreteExn i) is = absurd (false≢true is)
map_heap_refs-top f (heap.ConcreteCont i) is = absurd (false≢true is)
map_heap_refs-top f _ is = refl

-- the heap type of an erased reference is a top
at_top : (nullable : Bool) (h : WasmHeapType) → (nullable && is_top h) ≡ true → is_top h ≡ true
at_top nullable h is = (and_parts nullable (is_top h) is).1

val_refs-erased : (v : WasmValType) → is_erased_val v ≡ true → val_refs v ≡ []
val_refs-erased (val.Ref r) is = heap_refs-top r.heap_type (at_top r.nullable r.heap_type is)
val_refs-erased _ is = refl

map_val_refs-erased : (f : EngineOrModuleTypeIndex → EngineOrModuleTypeIndex) (v : WasmValType) → is_erased_val v ≡ true → map_val_refs f v ≡ v
map_val_refs-erased f (val.Ref r) is = let kept = map_heap_refs-top f r.heap_type (at_top r.nullable r.heap_type is) in λ i. val.Ref (record r { heap_type = kept i })
map_val_refs-erased f _ is = refl

number_val-erased : (n : ℕ) (v : WasmValType) → is_erased_val v ≡ true → number_val n v ≡ v
number_val-erased n v is = number_val-mapped n v ∙ map_val_refs-erased (number_index n) v is

-- ---- a list of them, and a function over them

vals_refs-erased : (vs : List WasmValType) → list_all is_erased_val vs ≡ true → vals_refs vs ≡ []
vals_refs-erased [] is = refl
vals_refs-erased (v ∷ vs) is =
    let parts = and_parts (is_erased_val v) (list_all is_erased_val vs) is in
    let first = val_refs-erased v parts.0 in
    let rest = vals_refs-erased vs parts.1 in
    λ i. first i ++ rest i

number_vals-erased : (n : ℕ) (vs : List WasmValType) → list_all is_erased_val vs ≡ true → number_vals n vs ≡ vs
number_vals-erased n [] is = refl
number_vals-erased n (v ∷ vs) is =
    let parts = and_parts (is_erased_val v) (list_all is_erased_val vs) is in
    let first = number_val-erased n v parts.0 in
    let rest = number_vals-erased (n + length (val_refs v)) vs parts.1 in
    λ i. first i ∷ rest i

map_vals_refs-erased : (f : EngineOrModuleTypeIndex → EngineOrModuleTypeIndex) (vs : List WasmValType) → list_all is_erased_val vs ≡ true → map_vals_refs f vs ≡ vs
map_vals_refs-erased f [] is = refl
map_vals_refs-erased f (v ∷ vs) is =
    let parts = and_parts (is_erased_val v) (list_all is_erased_val vs) is in
    let first = map_val_refs-erased f v parts.0 in
    let rest = map_vals_refs-erased f vs parts.1 in
    λ i. first i ∷ rest i

shape_refs-erased : (s : WasmCompositeInnerType) → is_erased_shape s ≡ true → shape_refs s ≡ []
shape_refs-erased (shape.Func t) is =
    let parts = and_parts (list_all is_erased_val t.params) (list_all is_erased_val t.results) is in
    let params = vals_refs-erased t.params parts.0 in
    let results = vals_refs-erased t.results parts.1 in
    λ i. params i ++ results i
shape_refs-erased (shape.Struct s) is = absurd (false≢true is)
shape_refs-erased (shape.Array a) is = absurd (false≢true is)
shape_refs-erased (shape.Exn e) is = absurd (false≢true is)
shape_refs-erased (shape.Cont c) is = absurd (false≢true is)

number_shape-erased : (n : ℕ) (s : WasmCompositeInnerType) → is_erased_shape s ≡ true → number_shape n s ≡ s
number_shape-erased n (shape.Func t) is =
    let parts = and_parts (list_all is_erased_val t.params) (list_all is_erased_val t.results) is in
    let params = number_vals-erased n t.params parts.0 in
    let results = number_vals-erased (n + length (vals_refs t.params)) t.results parts.1 in
    λ i. shape.Func (record { params = params i; results = results i })
number_shape-erased n (shape.Struct s) is = absurd (false≢true is)
number_shape-erased n (shape.Array a) is = absurd (false≢true is)
number_shape-erased n (shape.Exn e) is = absurd (false≢true is)
number_shape-erased n (shape.Cont c) is = absurd (false≢true is)

map_shape_refs-erased : (f : EngineOrModuleTypeIndex → EngineOrModuleTypeIndex) (s : WasmCompositeInnerType) → is_erased_shape s ≡ true → map_shape_refs f s ≡ s
map_shape_refs-erased f (shape.Func t) is =
    let parts = and_parts (list_all is_erased_val t.params) (list_all is_erased_val t.results) is in
    let params = map_vals_refs-erased f t.params parts.0 in
    let results = map_vals_refs-erased f t.results parts.1 in
    λ i. shape.Func (record { params = params i; results = results i })
map_shape_refs-erased f (shape.Struct s) is = absurd (false≢true is)
map_shape_refs-erased f (shape.Array a) is = absurd (false≢true is)
map_shape_refs-erased f (shape.Exn e) is = absurd (false≢true is)
map_shape_refs-erased f (shape.Cont c) is = absurd (false≢true is)

-- ---- a type that is its own trampoline

super_refs-none : (s : Option EngineOrModuleTypeIndex) → is_none s ≡ true → super_refs s ≡ []
super_refs-none None is = refl
super_refs-none (Some i) is = absurd (false≢true is)

super-none : (f : EngineOrModuleTypeIndex → EngineOrModuleTypeIndex) (s : Option EngineOrModuleTypeIndex) → is_none s ≡ true → option_map f s ≡ s
super-none f None is = refl
super-none f (Some i) is = absurd (false≢true is)

pub no_super : (t : WasmSubType) → is_own_trampoline t ≡ true → is_none t.supertype ≡ true
no_super t own = (and_parts t.is_final (is_none t.supertype) (and_parts (t.is_final && is_none t.supertype) (is_erased_shape t.composite_type) own).0).1

pub own_erased : (t : WasmSubType) → is_own_trampoline t ≡ true → is_erased_shape t.composite_type ≡ true
own_erased t own = (and_parts (t.is_final && is_none t.supertype) (is_erased_shape t.composite_type) own).1

sub_refs-own : (t : WasmSubType) → is_own_trampoline t ≡ true → sub_refs t ≡ []
sub_refs-own t own =
    let super = super_refs-none t.supertype (no_super t own) in
    let rest = shape_refs-erased t.composite_type (own_erased t own) in
    λ i. super i ++ rest i

number_sub-own : (n : ℕ) (t : WasmSubType) → is_own_trampoline t ≡ true → number_sub n t ≡ t
number_sub-own n t own =
    let super = super-none (number_index n) t.supertype (no_super t own) in
    let rest = number_shape-erased (n + length (super_refs t.supertype)) t.composite_type (own_erased t own) in
    λ i. record t { supertype = super i; composite_type = rest i }

-- no change of references changes it
pub map_sub_refs-own : (f : EngineOrModuleTypeIndex → EngineOrModuleTypeIndex) (t : WasmSubType) → is_own_trampoline t ≡ true → map_sub_refs f t ≡ t
map_sub_refs-own f t own =
    let super = super-none f t.supertype (no_super t own) in
    let rest = map_shape_refs-erased f t.composite_type (own_erased t own) in
    λ i. record t { supertype = super i; composite_type = rest i }

-- the group of one such type refers to nothing
pub group_refs-own : (t : WasmSubType) → is_own_trampoline t ≡ true → group_refs (t ∷ []) ≡ []
group_refs-own t own = ap (λ refs. refs ++ []) (sub_refs-own t own)

-- and its description has the type itself
pub number_group-own : (t : WasmSubType) → is_own_trampoline t ≡ true → number_group (t ∷ []) ≡ t ∷ []
number_group-own t own = ap (λ u. u ∷ []) (number_sub-own 0 t own)

-- ---- a function over numbers

erased-number : (v : WasmValType) → is_number v ≡ true → is_erased_val v ≡ true
erased-number (val.Ref r) is = absurd (false≢true is)
erased-number _ is = refl

erased-numbers : (vs : List WasmValType) → list_all is_number vs ≡ true → list_all is_erased_val vs ≡ true
erased-numbers [] is = refl
erased-numbers (v ∷ vs) is =
    let parts = and_parts (is_number v) (list_all is_number vs) is in
    let first = erased-number v parts.0 in
    let rest = erased-numbers vs parts.1 in
    λ i. first i && rest i

erased-over_numbers : (s : WasmCompositeInnerType) → is_over_numbers s ≡ true → is_erased_shape s ≡ true
erased-over_numbers (shape.Func t) is =
    let parts = and_parts (list_all is_number t.params) (list_all is_number t.results) is in
    let params = erased-numbers t.params parts.0 in
    let results = erased-numbers t.results parts.1 in
    λ i. params i && results i
erased-over_numbers (shape.Struct s) is = absurd (false≢true is)
erased-over_numbers (shape.Array a) is = absurd (false≢true is)
erased-over_numbers (shape.Exn e) is = absurd (false≢true is)
erased-over_numbers (shape.Cont c) is = absurd (false≢true is)

-- it is its own trampoline
pub number_function-own : (t : WasmSubType) → is_number_function t ≡ true → is_own_trampoline t ≡ true
number_function-own t is =
    let parts = and_parts (t.is_final && is_none t.supertype) (is_over_numbers t.composite_type) is in
    let alone = parts.0 in
    let erased = erased-over_numbers t.composite_type parts.1 in
    λ i. alone i && erased i
