-- Trampolines: that of a trampoline is itself, and since erasure drops what references name, neither a change of
-- references nor their numbering changes it.
use Rattle.std.proofs.Common.{◌≡◌, ℕ, ◌+◌, Bool, true, false, ◌&&◌, if◌then◌else◌, List, [], ◌∷◌, length, map, slice_get, Option, Some, None, is_none, option_map, option_and_then, refl, ap, subst, ◌∙◌}
use Rattle.std.specs.List.{list_all}
use Rattle.wt_env.specs.declared.types.EngineOrModuleTypeIndex.{EngineOrModuleTypeIndex}
use Rattle.wt_env.specs.declared.types.WasmHeapType.{WasmHeapType}
use Rattle.wt_env.specs.declared.types.WasmHeapType.TheVariants as heap
use Rattle.wt_env.specs.declared.types.WasmValType.{WasmValType}
use Rattle.wt_env.specs.declared.types.WasmValType.TheVariants as val
use Rattle.wt_env.specs.declared.types.WasmFuncType.{WasmFuncType}
use Rattle.wt_env.specs.declared.types.WasmCompositeInnerType.{WasmCompositeInnerType}
use Rattle.wt_env.specs.declared.types.WasmCompositeInnerType.TheVariants as shape
use Rattle.wt_env.specs.declared.types.WasmSubType.{WasmSubType}
use Rattle.wt_env.specs.Erasure.{top_of, is_top, erase_val, erase, is_erased_val}
use Rattle.wt_env.proofs.Erased.{erased-again}
use Rattle.wt_tree.specs.References.{val_refs, vals_refs, super_refs, number_index, number_val, number_vals, number_shape, number_sub}
use Rattle.wt_tree.specs.MapRefs.{map_heap_refs, map_val_refs, map_vals_refs, map_shape_refs, map_sub_refs}
use Rattle.wt_tree.specs.Tree.{ClosedTree, members_of}
use Rattle.wt_tree.proofs.Numbering.{number_val-mapped}
use Rattle.wt_tree.specs.Trampoline.{trampoline_member, trampoline_tree, trampoline_of_shape, is_erased_shape, is_own_trampoline, other_trampoline, trampoline_at, trampoline}

-- ---- the trampoline of a trampoline

-- a trampoline's member is its own trampoline
pub member-own : (f : WasmFuncType) → is_own_trampoline (trampoline_member f) ≡ true
member-own f = erased-again f

None≢Some : {A B : Type 0} {x : A} → None ≡ Some x → B
None≢Some is = absurd (cc)

Some-injective : {A : Type 0} {x y : A} → Some x ≡ Some y → x ≡ y
Some-injective same = cc

-- of the member of another's group, the closed tree is its own trampoline
alone-once : (f : WasmFuncType) → trampoline (record { tree = trampoline_tree (trampoline_member f); place = 0 }) ≡ Some (record { tree = trampoline_tree (trampoline_member f); place = 0 })
alone-once f =
    let alone : ClosedTree = record { tree = trampoline_tree (trampoline_member f); place = 0 } in
    ap (λ own. if own then Some alone else option_map (λ member. record { tree = trampoline_tree member; place = 0 }) (Some (trampoline_member (erase f)))) (member-own f)

shape-once : (s : WasmCompositeInnerType) (u : ClosedTree) → option_map (λ member. record { tree = trampoline_tree member; place = 0 }) (trampoline_of_shape s) ≡ Some u → trampoline u ≡ Some u
shape-once (shape.Func f) u is = subst (λ (t : ClosedTree). trampoline t ≡ Some t) (Some-injective is) (alone-once f)
shape-once (shape.Struct s) u is = None≢Some is
shape-once (shape.Array a) u is = None≢Some is
shape-once (shape.Exn e) u is = None≢Some is
shape-once (shape.Cont c) u is = None≢Some is

pub trampoline-once : (t u : ClosedTree) → trampoline t ≡ Some u → trampoline u ≡ Some u
trampoline-once t u is = by (slice_get (members_of t.tree) t.place) is
  where
    chosen : (m : WasmSubType) (own : Bool) → (if own then Some t else option_map (λ member. record { tree = trampoline_tree member; place = 0 }) (trampoline_of_shape m.composite_type)) ≡ Some u → trampoline u ≡ Some u
    chosen m true same = subst (λ (v : ClosedTree). trampoline v ≡ Some u) (Some-injective same) is
    chosen m false other = shape-once m.composite_type u other

    by : (found : Option WasmSubType) → option_and_then (trampoline_at t) found ≡ Some u → trampoline u ≡ Some u
    by None nothing = None≢Some nothing
    by (Some m) it = chosen m (is_own_trampoline m) it

-- ---- the member of another's trampoline

-- what another's trampoline is, is a function's
other-shape : (own : Bool) (s : WasmCompositeInnerType) (m : WasmSubType) → (if own then None else trampoline_of_shape s) ≡ Some m → is_own_trampoline m ≡ true
other-shape true s m is = None≢Some is
other-shape false (shape.Func f) m is = subst (λ (u : WasmSubType). is_own_trampoline u ≡ true) (Some-injective is) (member-own f)
other-shape false (shape.Struct s) m is = None≢Some is
other-shape false (shape.Array a) m is = None≢Some is
other-shape false (shape.Exn e) m is = None≢Some is
other-shape false (shape.Cont c) m is = None≢Some is

-- it is its own trampoline
pub other-own : (t m : WasmSubType) → other_trampoline t ≡ Some m → is_own_trampoline m ≡ true
other-own t m is = other-shape (is_own_trampoline t) t.composite_type m is

-- what is its own has no other
pub own-no_other : (t : WasmSubType) → is_own_trampoline t ≡ true → other_trampoline t ≡ None
own-no_other t own = ap (λ b. if b then None else trampoline_of_shape t.composite_type) own

-- so it has no other
pub other-no_other : (t m : WasmSubType) → other_trampoline t ≡ Some m → other_trampoline m ≡ None
other-no_other t m is = own-no_other m (other-own t m is)

-- ---- a change of references

both-same : {a b c d : Bool} → a ≡ b → c ≡ d → (a && c) ≡ (b && d)
both-same first second = λ i. first i && second i

-- whether a type is its own trampoline, and which the other is, by parts
own-parts : (t u : WasmSubType) → t.is_final ≡ u.is_final → is_none t.supertype ≡ is_none u.supertype → is_erased_shape t.composite_type ≡ is_erased_shape u.composite_type → is_own_trampoline t ≡ is_own_trampoline u
own-parts t u final super erased = λ i. final i && super i && erased i

other-parts : (t u : WasmSubType) → is_own_trampoline t ≡ is_own_trampoline u → trampoline_of_shape t.composite_type ≡ trampoline_of_shape u.composite_type → other_trampoline t ≡ other_trampoline u
other-parts t u own shapes = λ i. if own i then None else shapes i

module _ (f : EngineOrModuleTypeIndex → EngineOrModuleTypeIndex) where
  top-mapped : (h : WasmHeapType) → top_of (map_heap_refs f h) ≡ top_of h
  top-mapped (heap.ConcreteFunc i) = refl
  top-mapped (heap.ConcreteArray i) = refl
  top-mapped (heap.ConcreteStruct i) = refl
  top-mapped (heap.ConcreteExn i) = refl
  top-mapped (heap.ConcreteCont i) = refl
  top-mapped _ = refl

  is_top-mapped : (h : WasmHeapType) → is_top (map_heap_refs f h) ≡ is_top h
  is_top-mapped (heap.ConcreteFunc i) = refl
  is_top-mapped (heap.ConcreteArray i) = refl
  is_top-mapped (heap.ConcreteStruct i) = refl
  is_top-mapped (heap.ConcreteExn i) = refl
  is_top-mapped (heap.ConcreteCont i) = refl
  is_top-mapped _ = refl

  erase_val-mapped : (v : WasmValType) → erase_val (map_val_refs f v) ≡ erase_val v
  erase_val-mapped (val.Ref r) = let top = top-mapped r.heap_type in λ i. val.Ref (record { nullable = true; heap_type = top i })
  erase_val-mapped _ = refl

  is_erased_val-mapped : (v : WasmValType) → is_erased_val (map_val_refs f v) ≡ is_erased_val v
  is_erased_val-mapped (val.Ref r) = ap (λ top. r.nullable && top) (is_top-mapped r.heap_type)
  is_erased_val-mapped _ = refl

  erase_vals-mapped : (vs : List WasmValType) → map erase_val (map_vals_refs f vs) ≡ map erase_val vs
  erase_vals-mapped [] = refl
  erase_vals-mapped (v ∷ vs) = let first = erase_val-mapped v in let rest = erase_vals-mapped vs in λ i. first i ∷ rest i

  are_erased-mapped : (vs : List WasmValType) → list_all is_erased_val (map_vals_refs f vs) ≡ list_all is_erased_val vs
  are_erased-mapped [] = refl
  are_erased-mapped (v ∷ vs) = both-same (is_erased_val-mapped v) (are_erased-mapped vs)

  is_erased_shape-mapped : (s : WasmCompositeInnerType) → is_erased_shape (map_shape_refs f s) ≡ is_erased_shape s
  is_erased_shape-mapped (shape.Func t) = both-same (are_erased-mapped t.params) (are_erased-mapped t.results)
  is_erased_shape-mapped (shape.Struct s) = refl
  is_erased_shape-mapped (shape.Array a) = refl
  is_erased_shape-mapped (shape.Exn e) = refl
  is_erased_shape-mapped (shape.Cont c) = refl

  of_shape-mapped : (s : WasmCompositeInnerType) → trampoline_of_shape (map_shape_refs f s) ≡ trampoline_of_shape s
  of_shape-mapped (shape.Func t) =
      let params = erase_vals-mapped t.params in
      let results = erase_vals-mapped t.results in
      λ i. Some (record { is_final = true; supertype = None; composite_type = shape.Func (record { params = params i; results = results i }) })
  of_shape-mapped (shape.Struct s) = refl
  of_shape-mapped (shape.Array a) = refl
  of_shape-mapped (shape.Exn e) = refl
  of_shape-mapped (shape.Cont c) = refl

  super-mapped : (s : Option EngineOrModuleTypeIndex) → is_none (option_map f s) ≡ is_none s
  super-mapped None = refl
  super-mapped (Some i) = refl

  pub is_own_trampoline-mapped : (t : WasmSubType) → is_own_trampoline (map_sub_refs f t) ≡ is_own_trampoline t
  is_own_trampoline-mapped t = own-parts (map_sub_refs f t) t refl (super-mapped t.supertype) (is_erased_shape-mapped t.composite_type)

  pub other_trampoline-mapped : (t : WasmSubType) → other_trampoline (map_sub_refs f t) ≡ other_trampoline t
  other_trampoline-mapped t = other-parts (map_sub_refs f t) t (is_own_trampoline-mapped t) (of_shape-mapped t.composite_type)

-- ---- the numbering of references

erase_val-numbered : (n : ℕ) (v : WasmValType) → erase_val (number_val n v) ≡ erase_val v
erase_val-numbered n v = ap erase_val (number_val-mapped n v) ∙ erase_val-mapped (number_index n) v

is_erased_val-numbered : (n : ℕ) (v : WasmValType) → is_erased_val (number_val n v) ≡ is_erased_val v
is_erased_val-numbered n v = ap is_erased_val (number_val-mapped n v) ∙ is_erased_val-mapped (number_index n) v

erase_vals-numbered : (n : ℕ) (vs : List WasmValType) → map erase_val (number_vals n vs) ≡ map erase_val vs
erase_vals-numbered n [] = refl
erase_vals-numbered n (v ∷ vs) =
    let first = erase_val-numbered n v in
    let rest = erase_vals-numbered (n + length (val_refs v)) vs in
    λ i. first i ∷ rest i

are_erased-numbered : (n : ℕ) (vs : List WasmValType) → list_all is_erased_val (number_vals n vs) ≡ list_all is_erased_val vs
are_erased-numbered n [] = refl
are_erased-numbered n (v ∷ vs) = both-same (is_erased_val-numbered n v) (are_erased-numbered (n + length (val_refs v)) vs)

is_erased_shape-numbered : (n : ℕ) (s : WasmCompositeInnerType) → is_erased_shape (number_shape n s) ≡ is_erased_shape s
is_erased_shape-numbered n (shape.Func t) = both-same (are_erased-numbered n t.params) (are_erased-numbered (n + length (vals_refs t.params)) t.results)
is_erased_shape-numbered n (shape.Struct s) = refl
is_erased_shape-numbered n (shape.Array a) = refl
is_erased_shape-numbered n (shape.Exn e) = refl
is_erased_shape-numbered n (shape.Cont c) = refl

of_shape-numbered : (n : ℕ) (s : WasmCompositeInnerType) → trampoline_of_shape (number_shape n s) ≡ trampoline_of_shape s
of_shape-numbered n (shape.Func t) =
    let params = erase_vals-numbered n t.params in
    let results = erase_vals-numbered (n + length (vals_refs t.params)) t.results in
    λ i. Some (record { is_final = true; supertype = None; composite_type = shape.Func (record { params = params i; results = results i }) })
of_shape-numbered n (shape.Struct s) = refl
of_shape-numbered n (shape.Array a) = refl
of_shape-numbered n (shape.Exn e) = refl
of_shape-numbered n (shape.Cont c) = refl

pub is_own_trampoline-numbered : (n : ℕ) (t : WasmSubType) → is_own_trampoline (number_sub n t) ≡ is_own_trampoline t
is_own_trampoline-numbered n t =
    own-parts (number_sub n t) t refl (super-mapped (number_index n) t.supertype) (is_erased_shape-numbered (n + length (super_refs t.supertype)) t.composite_type)

pub other_trampoline-numbered : (n : ℕ) (t : WasmSubType) → other_trampoline (number_sub n t) ≡ other_trampoline t
other_trampoline-numbered n t =
    other-parts (number_sub n t) t (is_own_trampoline-numbered n t) (of_shape-numbered (n + length (super_refs t.supertype)) t.composite_type)
