-- A type of a host names what has a closed tree.
use Rattle.std.proofs.Common.{◌≡◌, ◌&&◌, ◌||◌, Bool, true, false, not, nat_lt, if◌then◌else◌, length, Option, Some, None, refl, sym, ◌∙◌}
use Rattle.std.specs.Prelude.{is_some, option_to_list}
use Rattle.std.specs.Option.{option_or, option_map_or, option_and_then}
use Rattle.std.proofs.lemmas.Bool.{false≢true}
use Rattle.wt_env.specs.declared.types.VMSharedTypeIndex.{VMSharedTypeIndex}
use Rattle.wt_env.specs.declared.types.EngineOrModuleTypeIndex.{EngineOrModuleTypeIndex}
use Rattle.wt_env.specs.declared.types.EngineOrModuleTypeIndex.TheVariants as index
use Rattle.wt_env.specs.declared.types.WasmFuncType.{WasmFuncType}
use Rattle.wt_env.specs.declared.types.WasmExnType.{WasmExnType}
use Rattle.wt_env.specs.declared.types.WasmCompositeInnerType.{WasmCompositeInnerType}
use Rattle.wt_env.specs.declared.types.WasmCompositeInnerType.TheVariants as shape
use Rattle.wt_env.specs.declared.types.WasmSubType.{WasmSubType}
use Rattle.wt_env.proofs.lists.Members.{among_behind}
use Rattle.wt_tree.specs.Kinds.{member_kind, kinded_shape, kinded_refs, indices_of, type_indices}
use Rattle.wt_tree.specs.Tree.{ClosedTree}
use Rattle.wt_tree.specs.Fit.{named_by, IsKnown, AreKnown}
use Rattle.wt_tree.specs.Subtyping.{engine_index}
use Rattle.wt_tree.proofs.ShownSupertypes.{supertype-among}
use Rattle.wt_rules.specs.declared.host_types.HostBreach.{HostBreach}
use Rattle.wt_rules.specs.declared.host_types.HostBreach.TheVariants as breach
use Rattle.wt_rules.specs.declared.place.Rule.TheVariants as rule
use Rattle.wt_rules.specs.TypeRules.{kind_of_tree, is_other, breaks_kind, is_final_type, matches_shape, broken_below, exception_of, function_at, is_open, are_params, broken_exception, broken_by}
use Rattle.wt_rules.specs.HostTypes.{is_known, has_unknown, has_other_supertype, is_bad_exception, is_continuation, is_host_type, breach_below, supertype_breach, fields_breach, result_count, results_breach, host_breach}
use Rattle.wt_rules.proofs.ModuleReferences.{none_of}

module _ (types : VMSharedTypeIndex → Option ClosedTree) where
  known_one : (i : EngineOrModuleTypeIndex) → not (is_known types i) ≡ false → IsKnown types i
  known_one (index.Engine i) is = by (is_some (types i)) refl is
    where
      by : (b : Bool) → is_some (types i) ≡ b → not b ≡ false → is_some (types i) ≡ true
      by true e h = e
      by false e h = absurd (false≢true (sym h))
  known_one (index.Module n) is = absurd (false≢true (sym is))
  known_one (index.RecGroup k) is = absurd (false≢true (sym is))

  pub known-types : (ty : WasmSubType) → has_unknown types ty ≡ false → AreKnown types (type_indices ty)
  known-types ty none = record { each = λ i at. known_one i (none_of (λ (j : EngineOrModuleTypeIndex). not (is_known types j)) (type_indices ty) none i at) }

  -- those of a type's shape
  pub known-shape : (ty : WasmSubType) → AreKnown types (type_indices ty) → AreKnown types (indices_of (kinded_shape ty.composite_type))
  known-shape ty known = record { each = λ i at. known.each i (among_behind (option_to_list ty.supertype) (indices_of (kinded_refs ty)) i at) }

  -- ---- what is true of a type that a host may register

  pub record IsHostType (ty : WasmSubType) : Type 0 where
    pub known : AreKnown types (type_indices ty)
    pub kinds : breaks_kind (named_by types) ty ≡ false
    pub supertype : has_other_supertype (named_by types) ty ≡ false
    pub exception : is_bad_exception (named_by types) ty ≡ false
    pub continuation : is_continuation ty.composite_type ≡ false

  both : (a b : Bool) → (not a && b) ≡ true → (a ≡ false) × (b ≡ true)
  both true b is = absurd (false≢true is)
  both false b is = (refl, is)

  last : (a : Bool) → not a ≡ true → a ≡ false
  last true is = absurd (false≢true is)
  last false is = refl

  pub host-parts : (ty : WasmSubType) → is_host_type types ty ≡ true → IsHostType ty
  host-parts ty is =
      let unknown = both (has_unknown types ty) _ is in
      let kinds = both (breaks_kind (named_by types) ty) _ unknown.1 in
      let supertype = both (has_other_supertype (named_by types) ty) _ kinds.1 in
      let exception = both (is_bad_exception (named_by types) ty) _ supertype.1 in
      record {
        known = known-types ty unknown.0;
        kinds = kinds.0;
        supertype = supertype.0;
        exception = exception.0;
        continuation = last (is_continuation ty.composite_type) exception.1;
      }

  -- ---- one that isn't refused breaks no rule

  neither : {A : Type 0} (a b : Option A) → option_or a b ≡ None → (a ≡ None) × (b ≡ None)
  neither None b is = (refl, is)
  neither (Some x) b is = absurd (cc)

  not_told : {A : Type 0} (test : Bool) (x : A) (rest : Option A) → (if test then Some x else rest) ≡ None → (test ≡ false) × (rest ≡ None)
  not_told true x rest is = absurd (cc)
  not_told false x rest is = (refl, is)

  fitting : (test : Bool) (x : HostBreach) → (if test then None else Some x) ≡ None → test ≡ true
  fitting true x is = refl
  fitting false x is = absurd (cc)

  below-keeps : (ty : WasmSubType) (i : VMSharedTypeIndex) → is_other (member_kind ty) (kind_of_tree (named_by types (index.Engine i))) ≡ false → breach_below types ty i ≡ None
      → broken_below (named_by types) ty (named_by types (index.Engine i)) ≡ None
  below-keeps ty i kind none =
      let final = not_told (is_final_type (named_by types (index.Engine i))) (breach.FinalSupertype i) _ none in
      let fits = fitting (matches_shape (named_by types) ty (named_by types (index.Engine i))) (breach.SupertypeMismatch (member_kind ty)) final.1 in
      λ k. if final.0 k then Some rule.SuperFinal else if kind k then Some rule.SuperKind else if fits k then None else Some rule.SuperMismatch

  supertype-keeps : (ty : WasmSubType) → (super : Option EngineOrModuleTypeIndex) → ((i : EngineOrModuleTypeIndex) → super ≡ Some i → IsKnown types i)
      → option_map_or (λ (i : EngineOrModuleTypeIndex). is_other (member_kind ty) (kind_of_tree (named_by types i))) super false ≡ false
      → option_and_then (breach_below types ty) (option_and_then engine_index super) ≡ None
      → option_and_then (λ (i : EngineOrModuleTypeIndex). broken_below (named_by types) ty (named_by types i)) super ≡ None
  supertype-keeps ty None known kind none = refl
  supertype-keeps ty (Some (index.Engine i)) known kind none = below-keeps ty i kind none
  supertype-keeps ty (Some (index.Module n)) known kind none = absurd (known (index.Module n) refl)
  supertype-keeps ty (Some (index.RecGroup k)) known kind none = absurd (known (index.RecGroup k) refl)

  gives-count : (found : Option WasmFuncType) → option_map_or (λ (f : WasmFuncType). nat_lt 0 (length f.results)) found false ≡ nat_lt 0 (option_map_or (λ (f : WasmFuncType). length f.results) found 0)
  gives-count None = refl
  gives-count (Some f) = refl

  well_formed : (open_type held : Bool) → (open_type || not held) ≡ false → (open_type ≡ false) × (held ≡ true)
  well_formed true held is = absurd (false≢true (sym is))
  well_formed false true is = (refl, refl)
  well_formed false false is = absurd (false≢true (sym is))

  exception-keeps : (open_type : Bool) (s : WasmCompositeInnerType)
      → option_map_or (λ (e : WasmExnType). open_type || not (are_params (named_by types) e.fields (named_by types e.func_ty))) (exception_of s) false ≡ false
      → results_breach (named_by types) s ≡ None → option_and_then (broken_exception (named_by types) open_type) (exception_of s) ≡ None
  exception-keeps open_type (shape.Exn e) good none =
      let t = named_by types e.func_ty in
      let formed = well_formed open_type (are_params (named_by types) e.fields t) good in
      let results = gives-count (function_at t) ∙ (not_told (nat_lt 0 (result_count t)) (breach.TagHasResults (result_count t)) None none).0 in
      λ k. if formed.0 k then Some rule.ExnOpen else if results k then Some rule.ExnResults else if formed.1 k then None else Some rule.ExnFields
  exception-keeps open_type (shape.Func f) good none = refl
  exception-keeps open_type (shape.Struct s) good none = refl
  exception-keeps open_type (shape.Array a) good none = refl
  exception-keeps open_type (shape.Cont c) good none = refl

  pub host-keeps : (ty : WasmSubType) → is_host_type types ty ≡ true → host_breach types ty ≡ None → broken_by (named_by types) ty ≡ None
  host-keeps ty is none =
      let parts = host-parts ty is in
      let first = neither (supertype_breach types ty) (option_or (fields_breach ty.composite_type) (results_breach (named_by types) ty.composite_type)) none in
      let second = neither (fields_breach ty.composite_type) (results_breach (named_by types) ty.composite_type) first.1 in
      let kinds = parts.kinds in
      let super = supertype-keeps ty ty.supertype (λ i at. parts.known.each i (supertype-among ty i at)) parts.supertype first.0 in
      let exception = exception-keeps (is_open ty) ty.composite_type parts.exception second.1 in
      λ k. if kinds k then Some rule.Kind else option_or (super k) (exception k)
