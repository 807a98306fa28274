-- What a host describes is a type that may be registered, where no name in it is missing.
use Rattle.std.proofs.Common.{◌≡◌, Bool, true, false, not, ◌&&◌, ◌||◌, inl, inr, List, [], ◌∷◌, ◌++◌, map, Option, Some, None, option_map, option_and_then, unwrap_or, refl, sym, ap, subst, ◌∙◌}
use Rattle.std.specs.Prelude.{is_some, option_to_list}
use Rattle.std.specs.List.{list_any}
use Rattle.std.specs.Option.{option_or}
use Rattle.std.proofs.lemmas.Bool.{false≢true}
use Rattle.wt_env.specs.Among.{Among}
use Rattle.wt_env.specs.declared.types.Kind.{Kind}
use Rattle.wt_env.specs.declared.types.Kind.TheVariants as kind
use Rattle.wt_env.specs.declared.types.VMSharedTypeIndex.{VMSharedTypeIndex}
use Rattle.wt_env.specs.declared.types.EngineOrModuleTypeIndex.{EngineOrModuleTypeIndex}
use Rattle.wt_env.specs.declared.types.EngineOrModuleTypeIndex.TheVariants as index
use Rattle.wt_env.specs.declared.types.WasmSubType.{WasmSubType}
use Rattle.wt_env.proofs.lists.Members.{some_same, among_either}
use Rattle.wt_env.proofs.lists.Mapped.{among_map}
use Rattle.wt_tree.specs.Kinds.{kind_of, member_kind, kind_eq, kinded_heap, kinded_val, kinded_vals, kinded_storage, kinded_field, kinded_fields, kinded_shape, kinded_refs, indices_of, type_indices}
use Rattle.wt_tree.specs.Tree.{ClosedTree, no_tree}
use Rattle.wt_tree.specs.Fit.{named_by, IsKnown, AreKnown, Shows}
use Rattle.wt_rules.specs.TypeRules.{kind_of_tree, is_other, names_other, breaks_kind}
use Rattle.wt_rules.specs.HostTypes.{is_known, has_unknown, has_other_supertype, is_bad_exception, is_continuation, is_host_type}
use Rattle.wt_rules.proofs.ShownRules.{kind-shown}
use Rattle.wt_model.specs.Registered.{Registry}
use Rattle.wt_model.specs.Indices.{closed_tree}
use Rattle.wt_model.specs.Shown.{sub_type_at}
use Rattle.wt_model.specs.HostExceptions.{exception_function}
use Rattle.wt_model.specs.Sound.{IsSound}
use Rattle.wt_model.proofs.subtyping.ShownTypes.{sound-shows}
use Rattle.wt_commands.specs.declared.command.NamedType.{NamedType}
use Rattle.wt_commands.specs.declared.host_type.HostHeap.{HostHeap}
use Rattle.wt_commands.specs.declared.host_type.HostHeap.TheVariants as host_heap
use Rattle.wt_commands.specs.declared.host_type.HostVal.{HostVal}
use Rattle.wt_commands.specs.declared.host_type.HostVal.TheVariants as host_val
use Rattle.wt_commands.specs.declared.host_type.HostStorage.{HostStorage}
use Rattle.wt_commands.specs.declared.host_type.HostStorage.TheVariants as host_storage
use Rattle.wt_commands.specs.declared.host_type.HostField.{HostField}
use Rattle.wt_commands.specs.declared.host_type.HostShape.{HostShape}
use Rattle.wt_commands.specs.declared.host_type.HostShape.TheVariants as host_shape
use Rattle.wt_commands.specs.declared.host_type.HostSub.TheVariants as host_sub
use Rattle.wt_session.specs.declared.handle.Handle.{Handle}
use Rattle.wt_session.specs.World.{index_named}
use Rattle.wt_session.specs.HostTypes.{type_with, type_named, concrete_heap, heap_named, heap_of, val_of, storage_of, field_of, shape_of, index_of_named, sub_type_of, names_in_heap, names_in_val, names_in_vals, names_in_storage, names_in_field, names_in_fields, names_in_shape, names_in_super, kind_of_shape, names_in, is_missing, first_missing}
use Rattle.wt_session.proofs.MissingNames.{first_missing-append, none-missing, first-there}

-- ---- kinds

pub same_kind : (a b : Kind) → kind_eq a b ≡ true → a ≡ b
same_kind kind.Func kind.Func is = refl
same_kind kind.Struct kind.Struct is = refl
same_kind kind.Array kind.Array is = refl
same_kind kind.Exn kind.Exn is = refl
same_kind kind.Cont kind.Cont is = refl
same_kind kind.Func kind.Struct is = absurd (false≢true is)
same_kind kind.Func kind.Array is = absurd (false≢true is)
same_kind kind.Func kind.Exn is = absurd (false≢true is)
same_kind kind.Func kind.Cont is = absurd (false≢true is)
same_kind kind.Struct kind.Func is = absurd (false≢true is)
same_kind kind.Struct kind.Array is = absurd (false≢true is)
same_kind kind.Struct kind.Exn is = absurd (false≢true is)
same_kind kind.Struct kind.Cont is = absurd (false≢true is)
same_kind kind.Array kind.Func is = absurd (false≢true is)
same_kind kind.Array kind.Struct is = absurd (false≢true is)
same_kind kind.Array kind.Exn is = absurd (false≢true is)
same_kind kind.Array kind.Cont is = absurd (false≢true is)
same_kind kind.Exn kind.Func is = absurd (false≢true is)
same_kind kind.Exn kind.Struct is = absurd (false≢true is)
same_kind kind.Exn kind.Array is = absurd (false≢true is)
same_kind kind.Exn kind.Cont is = absurd (false≢true is)
same_kind kind.Cont kind.Func is = absurd (false≢true is)
same_kind kind.Cont kind.Struct is = absurd (false≢true is)
same_kind kind.Cont kind.Array is = absurd (false≢true is)
same_kind kind.Cont kind.Exn is = absurd (false≢true is)

kind_eq-own : (k : Kind) → kind_eq k k ≡ true
kind_eq-own kind.Func = refl
kind_eq-own kind.Struct = refl
kind_eq-own kind.Array = refl
kind_eq-own kind.Exn = refl
kind_eq-own kind.Cont = refl

shape-kind : (read : NamedType → Option (Kind × VMSharedTypeIndex)) (s : HostShape) → kind_of (shape_of read s) ≡ kind_of_shape s
shape-kind read (host_shape.Func params results) = refl
shape-kind read (host_shape.Struct fields) = refl
shape-kind read (host_shape.Array field) = refl

-- ---- each reference in what is read is what a name names

module _ (read : NamedType → Option (Kind × VMSharedTypeIndex)) (P : Kind × EngineOrModuleTypeIndex → Type 0)
    (tells : (name : NamedType) (found : Kind × VMSharedTypeIndex) → read name ≡ Some found → P (found.0, index.Engine found.1)) where
  abbrev Each : List (Kind × EngineOrModuleTypeIndex) → Type 0
  Each references = (r : Kind × EngineOrModuleTypeIndex) → Among r references → P r

  each-concrete : (k : Kind) (i : VMSharedTypeIndex) → P (k, index.Engine i) → Each (kinded_heap (concrete_heap k i))
  each-concrete kind.Func i own r (inl same) = subst P (sym same) own
  each-concrete kind.Func i own r (inr none) = absurd none
  each-concrete kind.Struct i own r (inl same) = subst P (sym same) own
  each-concrete kind.Struct i own r (inr none) = absurd none
  each-concrete kind.Array i own r (inl same) = subst P (sym same) own
  each-concrete kind.Array i own r (inr none) = absurd none
  each-concrete kind.Exn i own r (inl same) = subst P (sym same) own
  each-concrete kind.Exn i own r (inr none) = absurd none
  each-concrete kind.Cont i own r (inl same) = subst P (sym same) own
  each-concrete kind.Cont i own r (inr none) = absurd none

  each-named : (name : NamedType) → first_missing read ((None, name) ∷ []) ≡ None → Each (kinded_heap (heap_named (read name)))
  each-named name none = by (read name) refl (first-there read None name [] none).0
    where
      by : (found : Option (Kind × VMSharedTypeIndex)) → read name ≡ found → is_missing None found ≡ false → Each (kinded_heap (heap_named found))
      by None is there = absurd (false≢true (sym there))
      by (Some found) is there = each-concrete found.0 found.1 (tells name found is)

  each-heap : (h : HostHeap) → first_missing read (names_in_heap h) ≡ None → Each (kinded_heap (heap_of read h))
  each-heap (host_heap.Named name) none r at = each-named name none r at
  each-heap host_heap.Extern none r at = absurd at
  each-heap host_heap.NoExtern none r at = absurd at
  each-heap host_heap.Func none r at = absurd at
  each-heap host_heap.NoFunc none r at = absurd at
  each-heap host_heap.Any none r at = absurd at
  each-heap host_heap.Eq none r at = absurd at
  each-heap host_heap.I31 none r at = absurd at
  each-heap host_heap.Array none r at = absurd at
  each-heap host_heap.Struct none r at = absurd at
  each-heap host_heap.None none r at = absurd at
  each-heap host_heap.Cont none r at = absurd at
  each-heap host_heap.NoCont none r at = absurd at
  each-heap host_heap.Exn none r at = absurd at
  each-heap host_heap.NoExn none r at = absurd at

  pub each-val : (v : HostVal) → first_missing read (names_in_val v) ≡ None → Each (kinded_val (val_of read v))
  each-val (host_val.Ref reference) none r at = each-heap reference.heap none r at
  each-val host_val.I32 none r at = absurd at
  each-val host_val.I64 none r at = absurd at
  each-val host_val.F32 none r at = absurd at
  each-val host_val.F64 none r at = absurd at
  each-val host_val.V128 none r at = absurd at

  each-joined : (xs ys : List (Kind × EngineOrModuleTypeIndex)) → Each xs → Each ys → Each (xs ++ ys)
  each-joined xs ys first second r at = elim (among_either xs ys r at) [ inl here ↦ first r here | inr there ↦ second r there ]

  pub each-vals : (vs : List HostVal) → first_missing read (names_in_vals vs) ≡ None → Each (kinded_vals (map (val_of read) vs))
  each-vals [] none r at = absurd at
  each-vals (v ∷ vs) none r at =
      let parts = none-missing read (names_in_val v) (names_in_vals vs) none in
      each-joined (kinded_val (val_of read v)) (kinded_vals (map (val_of read) vs)) (each-val v parts.0) (each-vals vs parts.1) r at

  each-storage : (s : HostStorage) → first_missing read (names_in_storage s) ≡ None → Each (kinded_storage (storage_of read s))
  each-storage (host_storage.Val v) none r at = each-val v none r at
  each-storage host_storage.I8 none r at = absurd at
  each-storage host_storage.I16 none r at = absurd at

  each-fields : (fs : List HostField) → first_missing read (names_in_fields fs) ≡ None → Each (kinded_fields (map (field_of read) fs))
  each-fields [] none r at = absurd at
  each-fields (f ∷ fs) none r at =
      let parts = none-missing read (names_in_field f) (names_in_fields fs) none in
      each-joined (kinded_field (field_of read f)) (kinded_fields (map (field_of read) fs)) (each-storage f.element parts.0) (each-fields fs parts.1) r at

  pub each-shape : (s : HostShape) → first_missing read (names_in_shape s) ≡ None → Each (kinded_shape (shape_of read s))
  each-shape (host_shape.Func params results) none =
      let parts = none-missing read (names_in_vals params) (names_in_vals results) none in
      each-joined (kinded_vals (map (val_of read) params)) (kinded_vals (map (val_of read) results)) (each-vals params parts.0) (each-vals results parts.1)
  each-shape (host_shape.Struct fields) none = each-fields fields none
  each-shape (host_shape.Array field) none = each-storage field.element none

-- ---- what a name names is registered, and of the kind that is told

-- a reference names what has a closed tree, of the kind that it says
pub record IsFit (types : VMSharedTypeIndex → Option ClosedTree) (r : Kind × EngineOrModuleTypeIndex) : Type 0 where
  pub known : IsKnown types r.1
  pub kind : kind_of_tree (named_by types r.1) ≡ Some r.0

shown-fit : (types : VMSharedTypeIndex → Option ClosedTree) (i : VMSharedTypeIndex) (t : ClosedTree) (ty : WasmSubType) → types i ≡ Some t → Shows types t ty → IsFit types (member_kind ty, index.Engine i)
shown-fit types i t ty is shows = record {
  known = ap is_some is;
  kind = ap (λ (found : Option ClosedTree). kind_of_tree (unwrap_or found no_tree)) is ∙ kind-shown types t ty shows;
}

named-with : (registry : Registry) → IsSound registry → (i : VMSharedTypeIndex) (found : Kind × VMSharedTypeIndex) → type_with registry.made i ≡ Some found → IsFit (closed_tree registry.made) (found.0, index.Engine found.1)
named-with registry sound i found is = by (sub_type_at registry.made i) refl is
  where
    by : (ty : Option WasmSubType) → sub_type_at registry.made i ≡ ty → option_map (λ (ty : WasmSubType). (member_kind ty, i)) ty ≡ Some found → IsFit (closed_tree registry.made) (found.0, index.Engine found.1)
    by None at none = absurd (cc)
    by (Some ty) at same =
        let shows = sound-shows registry sound i ty at in
        subst (λ (f : Kind × VMSharedTypeIndex). IsFit (closed_tree registry.made) (f.0, index.Engine f.1)) (some_same same) (shown-fit (closed_tree registry.made) i shows.0 ty shows.1 shows.2)

pub named-fit : (registry : Registry) (row : List Handle) → IsSound registry → (name : NamedType) (found : Kind × VMSharedTypeIndex) → type_named registry.made row name ≡ Some found
    → IsFit (closed_tree registry.made) (found.0, index.Engine found.1)
named-fit registry row sound name found is = by (index_named row name) is
  where
    by : (i : Option VMSharedTypeIndex) → option_and_then (type_with registry.made) i ≡ Some found → IsFit (closed_tree registry.made) (found.0, index.Engine found.1)
    by None none = absurd (cc)
    by (Some i) same = named-with registry sound i found same

-- a value type names what has closed trees
pub val-known : (registry : Registry) (row : List Handle) → IsSound registry → (v : HostVal) → first_missing (type_named registry.made row) (names_in_val v) ≡ None
    → AreKnown (closed_tree registry.made) (indices_of (kinded_val (val_of (type_named registry.made row) v)))
val-known registry row sound v none = record {
  each = λ i at.
      let own = among_map (λ (r : Kind × EngineOrModuleTypeIndex). r.1) (kinded_val (val_of (type_named registry.made row) v)) i at in
      subst (IsKnown (closed_tree registry.made)) (sym own.2)
      (each-val (type_named registry.made row) (IsFit (closed_tree registry.made)) (named-fit registry row sound) v none own.0 own.1).known;
}

-- ---- what a host may register

any-none : {A : Type 0} (test : A → Bool) (xs : List A) → ((x : A) → Among x xs → test x ≡ false) → list_any test xs ≡ false
any-none test [] none = refl
any-none test (x ∷ xs) none =
    let first = none x (inl refl) in
    let rest = any-none test xs (λ y at. none y (inr at)) in
    λ k. first k || rest k

module _ (types : VMSharedTypeIndex → Option ClosedTree) where
  fit-known : (i : EngineOrModuleTypeIndex) → IsKnown types i → not (is_known types i) ≡ false
  fit-known (index.Engine i) known = ap not known
  fit-known (index.Module n) known = absurd known
  fit-known (index.RecGroup k) known = absurd known

  fit-kind : (wanted found : Kind) (t : ClosedTree) → kind_eq wanted found ≡ true → kind_of_tree t ≡ Some found → is_other wanted (kind_of_tree t) ≡ false
  fit-kind wanted found t same is = ap (is_other wanted) is ∙ ap not same

  pub each-kind : (ty : WasmSubType) → ((r : Kind × EngineOrModuleTypeIndex) → Among r (kinded_refs ty) → IsFit types r) → breaks_kind (named_by types) ty ≡ false
  each-kind ty each =
      any-none (λ (r : Kind × EngineOrModuleTypeIndex). names_other (named_by types) r.0 r.1) (kinded_refs ty)
      (λ r at. fit-kind r.0 r.0 (named_by types r.1) (kind_eq-own r.0) (each r at).kind)

  -- of its supertype and its references, each is known
  pub each-known : (ty : WasmSubType) → ((i : EngineOrModuleTypeIndex) → Among i (option_to_list ty.supertype) → IsKnown types i)
      → ((r : Kind × EngineOrModuleTypeIndex) → Among r (kinded_refs ty) → IsFit types r) → has_unknown types ty ≡ false
  each-known ty super each = any-none (λ (i : EngineOrModuleTypeIndex). not (is_known types i)) (type_indices ty) (λ i at. fit-known i (own i at))
    where
      own : (i : EngineOrModuleTypeIndex) → Among i (type_indices ty) → IsKnown types i
      own i at = elim (among_either (option_to_list ty.supertype) (indices_of (kinded_refs ty)) i at) [
        | inl here ↦ super i here
        | inr there ↦ of_shape i there
      ]
        where
          of_shape : (i : EngineOrModuleTypeIndex) → Among i (indices_of (kinded_refs ty)) → IsKnown types i
          of_shape i there =
              let found = among_map (λ (r : Kind × EngineOrModuleTypeIndex). r.1) (kinded_refs ty) i there in
              subst (IsKnown types) (sym found.2) (each found.0 found.1).known

  pub all-parts : (ty : WasmSubType) → has_unknown types ty ≡ false → breaks_kind (named_by types) ty ≡ false → has_other_supertype (named_by types) ty ≡ false
      → is_bad_exception (named_by types) ty ≡ false → is_continuation ty.composite_type ≡ false → is_host_type types ty ≡ true
  all-parts ty unknown kinds super exception continuation =
      λ k. not (unknown k) && (not (kinds k) && (not (super k) && (not (exception k) && not (continuation k))))

module _ (read : NamedType → Option (Kind × VMSharedTypeIndex)) where
  -- what is found under a name that names something of the kind that is wanted
  pub record IsThere (wanted : Kind) (name : NamedType) : Type 0 where
    pub index : VMSharedTypeIndex
    pub found : read name ≡ Some (wanted, index)

  pub kind-there : (wanted : Kind) (name : NamedType) → is_missing (Some wanted) (read name) ≡ false → IsThere wanted name
  kind-there wanted name there = by (read name) refl there
    where
      of_kind : (b : Bool) → not b ≡ false → b ≡ true
      of_kind true is = refl
      of_kind false is = absurd (false≢true (sym is))

      by : (found : Option (Kind × VMSharedTypeIndex)) → read name ≡ found → is_missing (Some wanted) found ≡ false → IsThere wanted name
      by None is missing = absurd (false≢true (sym missing))
      by (Some found) is missing = record {
        index = found.1;
        found = is ∙ (λ k. Some (sym (same_kind wanted found.0 (of_kind (kind_eq wanted found.0) missing)) k, found.1));
      }

-- ---- a declared function, struct or array

module _ (types : VMSharedTypeIndex → Option ClosedTree) (read : NamedType → Option (Kind × VMSharedTypeIndex))
    (tells : (name : NamedType) (found : Kind × VMSharedTypeIndex) → read name ≡ Some found → IsFit types (found.0, index.Engine found.1)) where
  declared-exception : (is_final : Bool) (supertype : Option NamedType) (body : HostShape) → is_bad_exception (named_by types) (sub_type_of read is_final supertype body) ≡ false
  declared-exception is_final supertype (host_shape.Func params results) = refl
  declared-exception is_final supertype (host_shape.Struct fields) = refl
  declared-exception is_final supertype (host_shape.Array field) = refl

  declared-continuation : (body : HostShape) → is_continuation (shape_of read body) ≡ false
  declared-continuation (host_shape.Func params results) = refl
  declared-continuation (host_shape.Struct fields) = refl
  declared-continuation (host_shape.Array field) = refl

  -- the supertype of what is declared is known, and of the same kind
  pub record SuperFits (ty : WasmSubType) : Type 0 where
    pub known : (i : EngineOrModuleTypeIndex) → Among i (option_to_list ty.supertype) → IsKnown types i
    pub kind : has_other_supertype (named_by types) ty ≡ false

  one_known : (i j : EngineOrModuleTypeIndex) → IsKnown types j → Among i (j ∷ []) → IsKnown types i
  one_known i j known (inl same) = subst (IsKnown types) (sym same) known
  one_known i j known (inr none) = absurd none

  declared-super : (is_final : Bool) (supertype : Option NamedType) (body : HostShape) → first_missing read (names_in_super (kind_of_shape body) supertype) ≡ None
      → SuperFits (sub_type_of read is_final supertype body)
  declared-super is_final None body none = record { known = λ i at. absurd at; kind = refl }
  declared-super is_final (Some name) body none =
      let there = kind-there read (kind_of_shape body) name (first-there read (Some (kind_of_shape body)) name [] none).0 in
      let fit = tells name (kind_of_shape body, there.index) there.found in
      let named : index_of_named (read name) ≡ there.index = ap index_of_named there.found in
      let at_index : IsFit types (kind_of_shape body, index.Engine (index_of_named (read name))) = subst (λ (i : VMSharedTypeIndex). IsFit types (kind_of_shape body, index.Engine i)) (sym named) fit in
      record {
        known = λ i at. one_known i (index.Engine (index_of_named (read name))) at_index.known at;
        kind = fit-kind types (kind_of (shape_of read body)) (kind_of_shape body) (named_by types (index.Engine (index_of_named (read name))))
            (ap (λ (k : Kind). kind_eq k (kind_of_shape body)) (shape-kind read body) ∙ kind_eq-own (kind_of_shape body)) at_index.kind;
      }

  pub declared-host : (is_final : Bool) (supertype : Option NamedType) (body : HostShape) → first_missing read (names_in (host_sub.Declared is_final supertype body)) ≡ None
      → is_host_type types (sub_type_of read is_final supertype body) ≡ true
  declared-host is_final supertype body none =
      let parts = none-missing read (names_in_super (kind_of_shape body) supertype) (names_in_shape body) none in
      let super = declared-super is_final supertype body parts.0 in
      let ty = sub_type_of read is_final supertype body in
      let each = each-shape read (IsFit types) tells body parts.1 in
      all-parts types ty (each-known types ty super.known each) (each-kind types ty each) super.kind (declared-exception is_final supertype body) (declared-continuation body)

pub declared-named : (registry : Registry) (row : List Handle) → IsSound registry → (is_final : Bool) (supertype : Option NamedType) (body : HostShape)
    → first_missing (type_named registry.made row) (names_in (host_sub.Declared is_final supertype body)) ≡ None
    → is_host_type (closed_tree registry.made) (sub_type_of (type_named registry.made row) is_final supertype body) ≡ true
declared-named registry row sound is_final supertype body none =
    declared-host (closed_tree registry.made) (type_named registry.made row) (named-fit registry row sound) is_final supertype body none

-- ---- an exception that holds values, whose function type is declared with it

pub exception-named : (registry : Registry) (row : List Handle) → IsSound registry → (fields : List HostVal) → first_missing (type_named registry.made row) (names_in_vals fields) ≡ None
    → is_host_type (closed_tree registry.made) (exception_function (map (val_of (type_named registry.made row)) fields)) ≡ true
exception-named registry row sound fields none =
    let read = type_named registry.made row in
    let all : first_missing read (names_in_vals fields ++ []) ≡ None =
    first_missing-append read (names_in_vals fields) [] ∙ ap (λ (o : Option NamedType). option_or o None) none in
    declared-named registry row sound true None (host_shape.Func fields []) all
