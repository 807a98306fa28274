-- The exception over a registered function type, which holds its parameters, is a type that a host may register.
use Rattle.std.proofs.Common.{◌≡◌, ◌&&◌, ◌||◌, Bool, true, false, not, nat_lt, ℕ, if◌then◌else◌, List, [], ◌∷◌, ◌++◌, length, map, Option, Some, None, option_map, unwrap_or, inl, inr, refl, sym, ap, subst, ◌∙◌}
use Rattle.std.specs.Prelude.{is_some, option_to_list}
use Rattle.std.specs.List.{list_any}
use Rattle.std.specs.Option.{option_or, option_and_then}
use Rattle.wt_env.specs.Among.{Among}
use Rattle.wt_env.specs.declared.types.Kind.{Kind}
use Rattle.wt_env.specs.declared.types.Kind.TheVariants as kind
use Rattle.wt_env.specs.declared.types.VMSharedTypeIndex.{VMSharedTypeIndex}
use Rattle.wt_env.specs.declared.types.EngineOrModuleTypeIndex.{EngineOrModuleTypeIndex}
use Rattle.wt_env.specs.declared.types.EngineOrModuleTypeIndex.TheVariants as index
use Rattle.wt_env.specs.declared.types.WasmValType.{WasmValType}
use Rattle.wt_env.specs.declared.types.WasmFieldType.{WasmFieldType}
use Rattle.wt_env.specs.declared.types.WasmFuncType.{WasmFuncType}
use Rattle.wt_env.specs.declared.types.WasmCompositeInnerType.{WasmCompositeInnerType}
use Rattle.wt_env.specs.declared.types.WasmCompositeInnerType.TheVariants as shape
use Rattle.wt_env.specs.declared.types.WasmSubType.{WasmSubType}
use Rattle.wt_env.proofs.lists.Members.{among_before, among_behind, some_same}
use Rattle.wt_tree.specs.Tree.{ClosedTree, no_tree}
use Rattle.wt_tree.specs.Kinds.{kind_of, kind_eq, kinded_val, kinded_vals, kinded_fields, kinded_shape, kinded_refs, indices_of, type_indices}
use Rattle.wt_tree.specs.Fit.{fields_equal, named_by, IsKnown, ShowsAt}
use Rattle.wt_tree.proofs.FitOrder.{field_fits-refl}
use Rattle.wt_tree.proofs.KnownParts.{among_first}
use Rattle.wt_rules.specs.declared.host_types.HostBreach.TheVariants as breach
use Rattle.wt_rules.specs.declared.place.Rule.{Rule}
use Rattle.wt_rules.specs.declared.place.Rule.TheVariants as rule
use Rattle.wt_rules.specs.TypeRules.{kind_of_tree, is_other, names_other, breaks_kind, constant_field, are_params, broken_supertype, broken_as_exception, broken_type}
use Rattle.wt_rules.specs.HostTypes.{is_known, is_host_type, host_breach, result_count}
use Rattle.wt_rules.proofs.ModuleReferences.{none_of}
use Rattle.wt_rules.proofs.ShownRules.{kind-shown, function-told, broken-shown}
use Rattle.wt_model.specs.Registered.{Registry}
use Rattle.wt_model.specs.Indices.{closed_tree}
use Rattle.wt_model.specs.Shown.{sub_type_at}
use Rattle.wt_model.specs.HostExceptions.{exception_over, params_of, tag_exception}
use Rattle.wt_model.specs.Sound.{IsSound}
use Rattle.wt_model.proofs.subtyping.ShownTypes.{sound-shows}

-- ---- lists

none_any : {A : Type 0} (test : A → Bool) (xs : List A) → ((x : A) → Among x xs → test x ≡ false) → list_any test xs ≡ false
none_any test [] none = refl
none_any test (x ∷ xs) none =
    let here = none x (inl refl) in
    let rest = none_any test xs (λ y at. none y (inr at)) in
    λ t. here t || rest t

-- constant fields have the references of what they hold
pub kinded-held : (vs : List WasmValType) → kinded_fields (map constant_field vs) ≡ kinded_vals vs
kinded-held [] = refl
kinded-held (v ∷ vs) = let rest = kinded-held vs in λ i. kinded_val v ++ rest i

both : {a b : Bool} → a ≡ true → b ≡ true → (a && b) ≡ true
both x y = λ i. x i && y i

-- fields are equal to themselves
fields-own : (read : EngineOrModuleTypeIndex → ClosedTree) (fs : List WasmFieldType) → fields_equal read read fs fs ≡ true
fields-own read [] = refl
fields-own read (f ∷ fs) = both (both (field_fits-refl read f) (field_fits-refl read f)) (fields-own read fs)

-- ---- the exception

module _ (types : VMSharedTypeIndex → Option ClosedTree) (i : VMSharedTypeIndex) (ty : WasmSubType) (func : WasmFuncType)
    (here : ShowsAt types i ty) (is : ty.composite_type ≡ shape.Func func) where
  abbrev exception : WasmSubType
  exception = exception_over (index.Engine i) func.params

  named-here : named_by types (index.Engine i) ≡ here.0
  named-here = ap (λ (found : Option ClosedTree). unwrap_or found no_tree) here.1

  -- what its parameters name is known
  held : (r : Kind × EngineOrModuleTypeIndex) → Among r (kinded_fields (map constant_field func.params)) → Among r (kinded_refs ty)
  held r at =
      subst (λ (s : WasmCompositeInnerType). Among r (kinded_shape s)) (sym is)
      (among_before (kinded_vals func.params) (kinded_vals func.results) r (subst (Among r) (kinded-held func.params) at))

  held_index : (j : EngineOrModuleTypeIndex) → Among j (indices_of (kinded_fields (map constant_field func.params))) → Among j (type_indices ty)
  held_index j at =
      among_behind (option_to_list ty.supertype) (indices_of (kinded_refs ty)) j
      (subst (λ (s : WasmCompositeInnerType). Among j (indices_of (kinded_shape s))) (sym is)
      (among_first (kinded_vals func.params) (kinded_vals func.results) j (subst (λ (refs : List (Kind × EngineOrModuleTypeIndex)). Among j (indices_of refs)) (kinded-held func.params) at)))

  known_test : (j : EngineOrModuleTypeIndex) → IsKnown types j → not (is_known types j) ≡ false
  known_test (index.Engine j) known = ap not known
  known_test (index.Module n) known = absurd known
  known_test (index.RecGroup k) known = absurd known

  known : (j : EngineOrModuleTypeIndex) → Among j (type_indices exception) → not (is_known types j) ≡ false
  known j (inl same) = ap (λ (x : EngineOrModuleTypeIndex). not (is_known types x)) same ∙ known_test (index.Engine i) (ap is_some here.1)
  known j (inr at) = known_test j (here.2.known.each j (held_index j at))

  -- its function is one, and the types of its parameters are of their kinds
  function_kind : names_other (named_by types) kind.Func (index.Engine i) ≡ false
  function_kind =
      (λ k. is_other kind.Func (kind_of_tree (named-here k)))
      ∙ ap (is_other kind.Func) (kind-shown types here.0 ty here.2)
      ∙ ap (λ (s : WasmCompositeInnerType). not (kind_eq kind.Func (kind_of s))) is

  kinds : breaks_kind (named_by types) ty ≡ false → breaks_kind (named_by types) exception ≡ false
  kinds good =
      none_any (λ (r : Kind × EngineOrModuleTypeIndex). names_other (named_by types) r.0 r.1) (kinded_refs exception) each
    where
      each : (r : Kind × EngineOrModuleTypeIndex) → Among r (kinded_refs exception) → names_other (named_by types) r.0 r.1 ≡ false
      each r (inl same) = ap (λ (x : Kind × EngineOrModuleTypeIndex). names_other (named_by types) x.0 x.1) same ∙ function_kind
      each r (inr at) = none_of (λ (x : Kind × EngineOrModuleTypeIndex). names_other (named_by types) x.0 x.1) (kinded_refs ty) good r (held r at)

  -- its fields are the parameters
  params : are_params (named_by types) (map constant_field func.params) (named_by types (index.Engine i)) ≡ true
  params =
      ap (are_params (named_by types) (map constant_field func.params)) named-here
      ∙ (function-told types (map constant_field func.params) here.0 ty func here.2 is).params
      ∙ fields-own (named_by types) (map constant_field func.params)

  pub exception-is_host : breaks_kind (named_by types) ty ≡ false → is_host_type types (exception_over (index.Engine i) func.params) ≡ true
  exception-is_host good =
      let unknown = none_any (λ (j : EngineOrModuleTypeIndex). not (is_known types j)) (type_indices exception) known in
      let of_kind = kinds good in
      λ k. not (unknown k) && (not (of_kind k) && (true && (not (false || not (params k)) && true)))

  -- and nothing refuses it where the function gives no results
  pub exception-breaks_nothing : func.results ≡ [] → host_breach types (exception_over (index.Engine i) func.params) ≡ None
  exception-breaks_nothing none =
      let count : result_count (named_by types (index.Engine i)) ≡ 0 =
      ap result_count named-here ∙ (function-told types (map constant_field func.params) here.0 ty func here.2 is).count ∙ ap length none in
      by (result_count (named_by types (index.Engine i))) count
    where
      by : (n : ℕ) → n ≡ 0 → (if nat_lt 0 n then Some (breach.TagHasResults n) else None) ≡ None
      by n zero = ap (λ (m : ℕ). if nat_lt 0 m then Some (breach.TagHasResults m) else None) zero

-- ---- over a registry

first_kind : (test : Bool) (rest : Option Rule) → (if test then Some rule.Kind else rest) ≡ None → test ≡ false
first_kind true rest is = absurd (cc)
first_kind false rest is = refl

-- The exception over a registered function type is one that a host may register.
pub tag-host : (registry : Registry) → IsSound registry → (i : VMSharedTypeIndex) (ty : WasmSubType) → tag_exception registry.made i ≡ Some ty → is_host_type (closed_tree registry.made) ty ≡ true
tag-host registry sound i ty told = by (sub_type_at registry.made i) refl told
  where
    types : VMSharedTypeIndex → Option ClosedTree
    types = closed_tree registry.made

    over : (found : WasmSubType) → sub_type_at registry.made i ≡ Some found → (s : WasmCompositeInnerType) → found.composite_type ≡ s
        → option_map (λ (params : List WasmValType). exception_over (index.Engine i) params) (params_of s) ≡ Some ty → is_host_type types ty ≡ true
    over found stands (shape.Func f) is told =
        let here = sound-shows registry sound i found stands in
        let kinds =
        first_kind (breaks_kind (named_by types) found) (option_or (broken_supertype (named_by types) found) (broken_as_exception (named_by types) found))
        (broken-shown types i found here
        ∙ ap (λ (o : Option ClosedTree). broken_type (unwrap_or o no_tree)) here.1
        ∙ sound.rules i here.0 here.1) in
        subst (λ (x : WasmSubType). is_host_type types x ≡ true) (some_same told) (exception-is_host types i found f here is kinds)
    over found stands (shape.Struct s) is told = absurd (cc)
    over found stands (shape.Array a) is told = absurd (cc)
    over found stands (shape.Exn e) is told = absurd (cc)
    over found stands (shape.Cont c) is told = absurd (cc)

    by : (o : Option WasmSubType) → sub_type_at registry.made i ≡ o
        → option_map (λ (params : List WasmValType). exception_over (index.Engine i) params) (option_and_then (λ (x : WasmSubType). params_of x.composite_type) o) ≡ Some ty → is_host_type types ty ≡ true
    by None stands told = absurd (cc)
    by (Some found) stands told = over found stands found.composite_type refl told
