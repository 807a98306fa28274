-- The references of a type, with the kinds that they say and without: a test of the index alone answers the
-- same of both.
use Rattle.std.proofs.Common.{◌≡◌, ℕ, ◌||◌, Bool, false, List, [], ◌∷◌, ◌++◌, refl, ap, sym, ◌∙◌}
use Rattle.std.specs.List.{flat_map, list_any}
use Rattle.std.proofs.lemmas.List.Folds.{list_any-append}
use Rattle.wt_env.specs.declared.types.EngineOrModuleTypeIndex.{EngineOrModuleTypeIndex}
use Rattle.wt_env.specs.declared.types.EngineOrModuleTypeIndex.TheVariants as index
use Rattle.wt_env.specs.declared.types.Kind.{Kind}
use Rattle.wt_env.specs.declared.types.Kind.TheVariants as kind
use Rattle.wt_env.specs.declared.types.WasmHeapType.{WasmHeapType}
use Rattle.wt_env.specs.declared.types.WasmHeapType.TheVariants as heap
use Rattle.wt_env.specs.declared.types.WasmValType.{WasmValType}
use Rattle.wt_env.specs.declared.types.WasmValType.TheVariants as val
use Rattle.wt_env.specs.declared.types.WasmStorageType.{WasmStorageType}
use Rattle.wt_env.specs.declared.types.WasmStorageType.TheVariants as storage
use Rattle.wt_env.specs.declared.types.WasmFieldType.{WasmFieldType}
use Rattle.wt_env.specs.declared.types.WasmCompositeInnerType.{WasmCompositeInnerType}
use Rattle.wt_env.specs.declared.types.WasmCompositeInnerType.TheVariants as shape
use Rattle.wt_env.specs.declared.types.WasmSubType.{WasmSubType}
use Rattle.wt_tree.specs.References.{index_refs, heap_refs, val_refs, vals_refs, storage_refs, fields_refs, shape_refs, super_refs, sub_refs}
use Rattle.wt_tree.specs.Kinds.{kinded_heap, kinded_val, kinded_vals, kinded_storage, kinded_fields, kinded_shape}
use Rattle.wt_rules.specs.Rules.{is_forward, breaks_forward}

-- an element of some of the lists passes a test, in one list or list by list
pub any_flat_map : {X A : Type 0} (test : A → Bool) (f : X → List A) (xs : List X) → list_any test (flat_map f xs) ≡ list_any (λ x. list_any test (f x)) xs
any_flat_map test f [] = refl
any_flat_map test f (x ∷ xs) = list_any-append test (f x) (flat_map f xs) ∙ ap (λ b. list_any test (f x) || b) (any_flat_map test f xs)

-- a test of indices that none of a group's own places passes
module _ (test : EngineOrModuleTypeIndex → Bool) (own : (k : ℕ) → test (index.RecGroup k) ≡ false) where
  abbrev any_of : List EngineOrModuleTypeIndex → Bool
  any_of refs = list_any test refs

  abbrev any_kinded : List (Kind × EngineOrModuleTypeIndex) → Bool
  any_kinded refs = list_any (λ reference. test reference.1) refs

  joined : (xs ys : List EngineOrModuleTypeIndex) (us vs : List (Kind × EngineOrModuleTypeIndex)) → any_of xs ≡ any_kinded us → any_of ys ≡ any_kinded vs
      → any_of (xs ++ ys) ≡ any_kinded (us ++ vs)
  joined xs ys us vs first second =
      list_any-append (test) xs ys
      ∙ (λ i. first i || second i)
      ∙ sym (list_any-append (λ reference. test reference.1) us vs)

  same_index : (k : Kind) (i : EngineOrModuleTypeIndex) → any_of (index_refs i) ≡ any_kinded ((k, i) ∷ [])
  same_index k (index.Engine i) = refl
  same_index k (index.Module i) = refl
  same_index k (index.RecGroup n) = ap (λ b. b || false) (sym (own n))

  same_heap : (h : WasmHeapType) → any_of (heap_refs h) ≡ any_kinded (kinded_heap h)
  same_heap (heap.ConcreteFunc i) = same_index kind.Func i
  same_heap (heap.ConcreteArray i) = same_index kind.Array i
  same_heap (heap.ConcreteStruct i) = same_index kind.Struct i
  same_heap (heap.ConcreteExn i) = same_index kind.Exn i
  same_heap (heap.ConcreteCont i) = same_index kind.Cont i
  same_heap _ = refl

  same_val : (v : WasmValType) → any_of (val_refs v) ≡ any_kinded (kinded_val v)
  same_val (val.Ref r) = same_heap r.heap_type
  same_val _ = refl

  same_vals : (vs : List WasmValType) → any_of (vals_refs vs) ≡ any_kinded (kinded_vals vs)
  same_vals [] = refl
  same_vals (v ∷ vs) = joined (val_refs v) (vals_refs vs) (kinded_val v) (kinded_vals vs) (same_val v) (same_vals vs)

  same_storage : (s : WasmStorageType) → any_of (storage_refs s) ≡ any_kinded (kinded_storage s)
  same_storage (storage.Val v) = same_val v
  same_storage _ = refl

  same_fields : (fs : List WasmFieldType) → any_of (fields_refs fs) ≡ any_kinded (kinded_fields fs)
  same_fields [] = refl
  same_fields (f ∷ fs) =
      joined (storage_refs f.element_type) (fields_refs fs) (kinded_storage f.element_type) (kinded_fields fs) (same_storage f.element_type) (same_fields fs)

  same_shape : (s : WasmCompositeInnerType) → any_of (shape_refs s) ≡ any_kinded (kinded_shape s)
  same_shape (shape.Func f) = joined (vals_refs f.params) (vals_refs f.results) (kinded_vals f.params) (kinded_vals f.results) (same_vals f.params) (same_vals f.results)
  same_shape (shape.Struct s) = same_fields s.fields
  same_shape (shape.Array a) = same_storage a.0.element_type
  same_shape (shape.Exn e) =
      joined (index_refs e.func_ty) (fields_refs e.fields) ((kind.Func, e.func_ty) ∷ []) (kinded_fields e.fields) (same_index kind.Func e.func_ty) (same_fields e.fields)
  same_shape (shape.Cont c) = same_index kind.Func c.0

  -- an index of a type passes it as the supertype, or in a reference that says a kind
  pub any_by_parts : (t : WasmSubType) → list_any test (sub_refs t) ≡ (list_any test (super_refs t.supertype) || list_any (λ reference. test reference.1) (kinded_shape t.composite_type))
  any_by_parts t =
      list_any-append test (super_refs t.supertype) (shape_refs t.composite_type)
      ∙ ap (λ b. list_any test (super_refs t.supertype) || b) (same_shape t.composite_type)

pub forward_by_parts : (end : ℕ) (t : WasmSubType) → breaks_forward end t ≡ (list_any (is_forward end) (super_refs t.supertype) || list_any (λ reference. is_forward end reference.1) (kinded_shape t.composite_type))
forward_by_parts end t = any_by_parts (is_forward end) (λ k. refl) t
