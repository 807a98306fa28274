-- A type that no change of references changes has no type index in it. A function over numbers is one, so a host may register
-- it, and nothing is broken by it.
use Rattle.std.proofs.Common.{◌≡◌, ◌&&◌, ◌||◌, true, false, not, List, [], ◌∷◌, Option, Some, None, inl, refl, sym, ap, subst, ◌∙◌}
use Rattle.std.specs.Prelude.{is_none}
use Rattle.std.specs.List.{list_any}
use Rattle.std.specs.Option.{option_map_or}
use Rattle.std.proofs.lemmas.Bool.{false≢true}
use Rattle.wt_env.specs.Among.{Among}
use Rattle.wt_env.specs.declared.types.Kind.{Kind}
use Rattle.wt_env.specs.declared.types.VMSharedTypeIndex.{VMSharedTypeIndex}
use Rattle.wt_env.specs.declared.types.EngineOrModuleTypeIndex.{EngineOrModuleTypeIndex}
use Rattle.wt_env.specs.declared.types.EngineOrModuleTypeIndex.TheVariants as index
use Rattle.wt_env.specs.declared.types.WasmCompositeInnerType.{WasmCompositeInnerType}
use Rattle.wt_env.specs.declared.types.WasmCompositeInnerType.TheVariants as shape
use Rattle.wt_env.specs.declared.types.WasmExnType.{WasmExnType}
use Rattle.wt_env.specs.declared.types.WasmSubType.{WasmSubType}
use Rattle.wt_env.proofs.lists.Mapped.{among_map}
use Rattle.wt_tree.specs.Kinds.{member_kind, kinded_refs, type_indices}
use Rattle.wt_tree.specs.MapRefs.{map_sub_refs}
use Rattle.wt_tree.specs.NumberFunction.{is_number_function}
use Rattle.wt_tree.specs.Trampoline.{is_own_trampoline, is_erased_shape}
use Rattle.wt_tree.specs.Tree.{ClosedTree}
use Rattle.wt_tree.specs.Fit.{named_by}
use Rattle.wt_tree.proofs.ChangedKinds.{type_indices-changed}
use Rattle.wt_tree.proofs.Plain.{no_super, own_erased, map_sub_refs-own, number_function-own}
use Rattle.wt_rules.specs.TypeRules.{kind_of_tree, is_other, names_other, breaks_kind, exception_of, is_open, are_params}
use Rattle.wt_rules.specs.HostTypes.{is_known, has_unknown, is_continuation, is_host_type}
use Rattle.wt_rules.proofs.ModuleReferences.{kinded_index}

-- no change of references changes it
abbrev pub IsUnchanging : WasmSubType → Type 0
IsUnchanging ty = (f : EngineOrModuleTypeIndex → EngineOrModuleTypeIndex) → map_sub_refs f ty ≡ ty

-- an index in it would be what any change makes of it
changed_index : (ty : WasmSubType) → IsUnchanging ty → (to i : EngineOrModuleTypeIndex) → Among i (type_indices ty) → i ≡ to
changed_index ty same to i at =
    let indices = ap type_indices (sym (same (λ _. to))) ∙ type_indices-changed (λ _. to) ty in
    (among_map (λ _. to) (type_indices ty) i (subst (Among i) indices at)).2

pub no_index : (ty : WasmSubType) → IsUnchanging ty → (i : EngineOrModuleTypeIndex) → Among i (type_indices ty) → ⊥
no_index ty same i at =
    let own = changed_index ty same (index.RecGroup 0) i at in
    let other = changed_index ty same (index.RecGroup 1) i at in
    apart (sym own ∙ other)
  where
    apart : index.RecGroup 0 ≡ index.RecGroup 1 → ⊥
    apart same = absurd (cc)

nothing : {A : Type 0} (xs : List A) → ((x : A) → Among x xs → ⊥) → xs ≡ []
nothing [] none = refl
nothing (x ∷ xs) none = absurd (none x (inl refl))

-- a function over numbers is a type that a host may register, whatever is registered
pub number-host : (types : VMSharedTypeIndex → Option ClosedTree) (ty : WasmSubType) → is_number_function ty ≡ true → is_host_type types ty ≡ true
number-host types ty plain =
    λ k. not (unknown k) && (not (kinds k) && (not (super ty.supertype (no_super ty own) k) && (not (exception ty.composite_type (own_erased ty own) k) && not (continuation ty.composite_type (own_erased ty own) k))))
  where
    own : is_own_trampoline ty ≡ true
    own = number_function-own ty plain

    same : IsUnchanging ty
    same f = map_sub_refs-own f ty own

    unknown : has_unknown types ty ≡ false
    unknown = ap (list_any (λ (i : EngineOrModuleTypeIndex). not (is_known types i))) (nothing (type_indices ty) (no_index ty same))

    kinds : breaks_kind (named_by types) ty ≡ false
    kinds = ap (list_any (λ (r : Kind × EngineOrModuleTypeIndex). names_other (named_by types) r.0 r.1)) (nothing (kinded_refs ty) (λ r at. no_index ty same r.1 (kinded_index ty r at)))

    super : (s : Option EngineOrModuleTypeIndex) → is_none s ≡ true → option_map_or (λ (i : EngineOrModuleTypeIndex). is_other (member_kind ty) (kind_of_tree (named_by types i))) s false ≡ false
    super None is = refl
    super (Some i) is = absurd (false≢true is)

    exception : (s : WasmCompositeInnerType) → is_erased_shape s ≡ true → option_map_or (λ (e : WasmExnType). is_open ty || not (are_params (named_by types) e.fields (named_by types e.func_ty))) (exception_of s) false ≡ false
    exception (shape.Func f) is = refl
    exception (shape.Struct s) is = refl
    exception (shape.Array a) is = refl
    exception (shape.Exn e) is = absurd (false≢true is)
    exception (shape.Cont c) is = refl

    continuation : (s : WasmCompositeInnerType) → is_erased_shape s ≡ true → is_continuation s ≡ false
    continuation (shape.Func f) is = refl
    continuation (shape.Struct s) is = refl
    continuation (shape.Array a) is = refl
    continuation (shape.Exn e) is = refl
    continuation (shape.Cont c) is = absurd (false≢true is)
