-- What a type breaks is the same where it is shown by engine indices as in its closed tree.
use Rattle.std.proofs.Common.{◌≡◌, ◌||◌, Bool, true, false, not, nat_lt, if◌then◌else◌, List, [], ◌∷◌, ◌++◌, length, map, Option, Some, None, option_map, unwrap_or, refl, sym, ap, subst, ◌∙◌, inl, inr}
use Rattle.std.specs.Prelude.{option_to_list, is_some}
use Rattle.std.specs.List.{list_any}
use Rattle.std.specs.Option.{option_or, option_map_or, option_and_then}
use Rattle.std.proofs.lemmas.Bool.{false≢true}
use Rattle.std.proofs.lemmas.List.{length-map}
use Rattle.wt_env.specs.Among.{Among}
use Rattle.wt_env.specs.declared.types.Kind.{Kind}
use Rattle.wt_env.specs.declared.types.VMSharedTypeIndex.{VMSharedTypeIndex}
use Rattle.wt_env.specs.declared.types.EngineOrModuleTypeIndex.{EngineOrModuleTypeIndex}
use Rattle.wt_env.specs.declared.types.WasmValType.{WasmValType}
use Rattle.wt_env.specs.declared.types.WasmFieldType.{WasmFieldType}
use Rattle.wt_env.specs.declared.types.WasmFuncType.{WasmFuncType}
use Rattle.wt_env.specs.declared.types.WasmCompositeInnerType.{WasmCompositeInnerType}
use Rattle.wt_env.specs.declared.types.WasmCompositeInnerType.TheVariants as shape
use Rattle.wt_env.specs.declared.types.WasmSubType.{WasmSubType}
use Rattle.wt_env.proofs.lists.Members.{some_same, among_behind}
use Rattle.wt_tree.specs.Tree.{ClosedTree, no_tree}
use Rattle.wt_tree.specs.Kinds.{member_kind, kind_eq, kinded_val, kinded_vals, kinded_fields, kinded_shape, kinded_refs, indices_of, type_indices}
use Rattle.wt_tree.specs.MapRefs.{map_val_refs, map_vals_refs, map_fields_refs, map_shape_refs, map_sub_refs}
use Rattle.wt_tree.specs.Subtyping.{tree_at, member_at}
use Rattle.wt_tree.specs.Fit.{shape_fits, fields_equal, named_by, Shows, ShowsAt}
use Rattle.wt_tree.proofs.Changing.{map_sub_refs-none}
use Rattle.wt_tree.proofs.ChangedKinds.{member_kind-changed, kinded_refs-changed}
use Rattle.wt_tree.proofs.FitReading.{Side, Agree, equal-changed, shape-changed}
use Rattle.wt_tree.proofs.KnownParts.{among_first}
use Rattle.wt_tree.proofs.ShownSupertypes.{supertype-among}
use Rattle.wt_rules.specs.declared.place.Rule.TheVariants as rule
use Rattle.wt_rules.specs.TypeRules.{kind_of_tree, is_other, names_other, breaks_kind, is_final_type, matches_shape, broken_below, broken_supertype, function_of, exception_of, function_at, is_open, gives_results, constant_field, broken_by_function, broken_exception, broken_by, broken_type, are_params}

none_some : {A : Type 0} {x : A} → None ≡ Some x → ⊥
none_some is = false≢true (ap is_some is)

-- ---- the other side is as it was

-- a side that is as it was
abbrev same_side : (EngineOrModuleTypeIndex → ClosedTree) → Side
same_side read = record { change = λ i. i; read = read; read_before = read }

shape-none : (ty : WasmSubType) → map_shape_refs (λ i. i) ty.composite_type ≡ ty.composite_type
shape-none ty = ap (λ (t : WasmSubType). t.composite_type) (map_sub_refs-none ty)

abbrev fields_in : WasmCompositeInnerType → List WasmFieldType
fields_in (shape.Struct s) = s.fields
fields_in _ = []

fields-none : (fields : List WasmFieldType) → map_fields_refs (λ i. i) fields ≡ fields
fields-none fields = ap fields_in (shape-none (record { is_final = true; supertype = None; composite_type = shape.Struct (record { fields = fields }) }))

-- the fields that hold values have the references of those
kinded-constant : (vs : List WasmValType) → kinded_fields (map constant_field vs) ≡ kinded_vals vs
kinded-constant [] = refl
kinded-constant (v ∷ vs) = let rest = kinded-constant vs in λ i. kinded_val v ++ rest i

constant-changed : (f : EngineOrModuleTypeIndex → EngineOrModuleTypeIndex) (vs : List WasmValType) → map_fields_refs f (map constant_field vs) ≡ map constant_field (map_vals_refs f vs)
constant-changed f [] = refl
constant-changed f (v ∷ vs) = let rest = constant-changed f vs in λ i. constant_field (map_val_refs f v) ∷ rest i

-- ---- what a type breaks, where its indices are changed and name the same closed trees by another reading

module _ (side : Side) where
  abbrev changed_ref : Kind × EngineOrModuleTypeIndex → Kind × EngineOrModuleTypeIndex
  changed_ref r = (r.0, side.change r.1)

  kinds-changed : (refs : List (Kind × EngineOrModuleTypeIndex)) → Agree side (indices_of refs)
      → list_any (λ (r : Kind × EngineOrModuleTypeIndex). names_other side.read r.0 r.1) (map changed_ref refs)
      ≡ list_any (λ (r : Kind × EngineOrModuleTypeIndex). names_other side.read_before r.0 r.1) refs
  kinds-changed [] agree = refl
  kinds-changed (r ∷ refs) agree =
      let here = agree r.1 (inl refl) in
      let rest = kinds-changed refs (λ i at. agree i (inr at)) in
      λ t. is_other r.0 (kind_of_tree (here t)) || rest t

  kind-changed : (ty : WasmSubType) → Agree side (indices_of (kinded_refs ty)) → breaks_kind side.read (map_sub_refs side.change ty) ≡ breaks_kind side.read_before ty
  kind-changed ty agree =
      ap (list_any (λ (r : Kind × EngineOrModuleTypeIndex). names_other side.read r.0 r.1)) (kinded_refs-changed side.change ty)
      ∙ kinds-changed (kinded_refs ty) agree

  -- below a supertype
  shape-changed-by : (a : WasmSubType) (s : ClosedTree) (other : WasmSubType) → Agree side (indices_of (kinded_refs a))
      → shape_fits side.read (tree_at s.tree) (map_sub_refs side.change a).composite_type other.composite_type
      ≡ shape_fits side.read_before (tree_at s.tree) a.composite_type other.composite_type
  shape-changed-by a s other agree =
      (λ t. shape_fits side.read (tree_at s.tree) (map_shape_refs side.change a.composite_type) (sym (shape-none other) t))
      ∙ shape-changed side (same_side (tree_at s.tree)) a.composite_type other.composite_type agree (λ i at. refl)

  matches-changed : (ty : WasmSubType) (s : ClosedTree) → Agree side (indices_of (kinded_refs ty)) → (found : Option WasmSubType)
      → option_map_or (λ (other : WasmSubType). shape_fits side.read (tree_at s.tree) (map_sub_refs side.change ty).composite_type other.composite_type) found false
      ≡ option_map_or (λ (other : WasmSubType). shape_fits side.read_before (tree_at s.tree) ty.composite_type other.composite_type) found false
  matches-changed ty s agree None = refl
  matches-changed ty s agree (Some other) = shape-changed-by ty s other agree

  below-changed : (ty : WasmSubType) (s : ClosedTree) → Agree side (indices_of (kinded_refs ty)) → broken_below side.read (map_sub_refs side.change ty) s ≡ broken_below side.read_before ty s
  below-changed ty s agree =
      let kind = member_kind-changed side.change ty in
      let fit = matches-changed ty s agree (member_at s) in
      λ t. if is_final_type s then Some rule.SuperFinal
      else if is_other (kind t) (kind_of_tree s) then Some rule.SuperKind
      else if fit t then None
      else Some rule.SuperMismatch

  supertype-changed : (ty : WasmSubType) → Agree side (type_indices ty) → broken_supertype side.read (map_sub_refs side.change ty) ≡ broken_supertype side.read_before ty
  supertype-changed ty agree = by ty.supertype refl
    where
      of_shape : Agree side (indices_of (kinded_refs ty))
      of_shape i at = agree i (among_behind (option_to_list ty.supertype) (indices_of (kinded_refs ty)) i at)

      by : (super : Option EngineOrModuleTypeIndex) → ty.supertype ≡ super
          → option_and_then (λ (i : EngineOrModuleTypeIndex). broken_below side.read (map_sub_refs side.change ty) (side.read i)) (option_map side.change super)
          ≡ option_and_then (λ (i : EngineOrModuleTypeIndex). broken_below side.read_before ty (side.read_before i)) super
      by None is = refl
      by (Some i) is =
          ap (broken_below side.read (map_sub_refs side.change ty)) (agree i (supertype-among ty i is))
          ∙ below-changed ty (side.read_before i) of_shape

  -- an exception
  params-changed : (fields : List WasmFieldType) (t : ClosedTree) → Agree side (indices_of (kinded_fields fields)) → (found : Option WasmFuncType)
      → option_map_or (λ (f : WasmFuncType). fields_equal side.read (tree_at t.tree) (map_fields_refs side.change fields) (map constant_field f.params)) found false
      ≡ option_map_or (λ (f : WasmFuncType). fields_equal side.read_before (tree_at t.tree) fields (map constant_field f.params)) found false
  params-changed fields t agree None = refl
  params-changed fields t agree (Some f) =
      (λ k. fields_equal side.read (tree_at t.tree) (map_fields_refs side.change fields) (sym (fields-none (map constant_field f.params)) k))
      ∙ equal-changed side (same_side (tree_at t.tree)) fields (map constant_field f.params) agree (λ i at. refl)

  function-changed : (fields : List WasmFieldType) (t : ClosedTree) → Agree side (indices_of (kinded_fields fields))
      → broken_by_function side.read (map_fields_refs side.change fields) t ≡ broken_by_function side.read_before fields t
  function-changed fields t agree =
      let params = params-changed fields t agree (function_at t) in
      λ k. if gives_results t then Some rule.ExnResults else if params k then None else Some rule.ExnFields

  exception-changed : (s : WasmCompositeInnerType) (open_type : Bool) → Agree side (indices_of (kinded_shape s))
      → option_and_then (broken_exception side.read open_type) (exception_of (map_shape_refs side.change s)) ≡ option_and_then (broken_exception side.read_before open_type) (exception_of s)
  exception-changed (shape.Exn e) open_type agree =
      let function = ap (broken_by_function side.read (map_fields_refs side.change e.fields)) (agree e.func_ty (inl refl)) ∙ function-changed e.fields (side.read_before e.func_ty) (λ i at. agree i (inr at)) in
      λ k. if open_type then Some rule.ExnOpen else function k
  exception-changed (shape.Func f) open_type agree = refl
  exception-changed (shape.Struct s) open_type agree = refl
  exception-changed (shape.Array a) open_type agree = refl
  exception-changed (shape.Cont c) open_type agree = refl

  super-some : (super : Option EngineOrModuleTypeIndex) → is_some (option_map side.change super) ≡ is_some super
  super-some None = refl
  super-some (Some i) = refl

  open-changed : (ty : WasmSubType) → is_open (map_sub_refs side.change ty) ≡ is_open ty
  open-changed ty = let super = super-some ty.supertype in λ t. not ty.is_final || super t

  -- the first rule
  pub broken-changed : (ty : WasmSubType) → Agree side (type_indices ty) → broken_by side.read (map_sub_refs side.change ty) ≡ broken_by side.read_before ty
  broken-changed ty agree =
      let of_shape : Agree side (indices_of (kinded_refs ty)) = λ i at. agree i (among_behind (option_to_list ty.supertype) (indices_of (kinded_refs ty)) i at) in
      let kind = kind-changed ty of_shape in
      let super = supertype-changed ty agree in
      let exception =
      ap (λ (open_type : Bool). option_and_then (broken_exception side.read open_type) (exception_of (map_shape_refs side.change ty.composite_type))) (open-changed ty)
      ∙ exception-changed ty.composite_type (is_open ty) of_shape in
      λ t. if kind t then Some rule.Kind else option_or (super t) (exception t)

-- ---- what is shown

module _ (types : VMSharedTypeIndex → Option ClosedTree) where
  abbrev shown_side : (t : ClosedTree) (ty : WasmSubType) → Shows types t ty → Side
  shown_side t ty shows = record { change = shows.shown; read = named_by types; read_before = tree_at t.tree }

  pub final-shown : (s : ClosedTree) (other : WasmSubType) → Shows types s other → is_final_type s ≡ other.is_final
  final-shown s other shows =
      ap (λ (found : Option WasmSubType). option_map_or (λ (ty : WasmSubType). ty.is_final) found false) shows.stands
      ∙ sym (ap (λ (ty : WasmSubType). ty.is_final) shows.is_shown)

  pub kind-shown : (s : ClosedTree) (other : WasmSubType) → Shows types s other → kind_of_tree s ≡ Some (member_kind other)
  kind-shown s other shows =
      ap (option_map member_kind) shows.stands
      ∙ ap Some (sym (ap member_kind shows.is_shown ∙ member_kind-changed shows.shown shows.member))

  pub match-shown : (ty : WasmSubType) (s : ClosedTree) (other : WasmSubType) → Shows types s other
      → matches_shape (named_by types) ty s ≡ shape_fits (named_by types) (named_by types) ty.composite_type other.composite_type
  match-shown ty s other shows =
      ap (λ (found : Option WasmSubType). option_map_or (λ (o : WasmSubType). shape_fits (named_by types) (tree_at s.tree) ty.composite_type o.composite_type) found false) shows.stands
      ∙ sym (
      (λ k. shape_fits (named_by types) (named_by types) (sym (shape-none ty) k) (shows.is_shown k).composite_type)
      ∙ shape-changed (same_side (named_by types)) (shown_side s other shows) ty.composite_type shows.member.composite_type
      (λ i at. refl) (λ i at. shows.names i (among_behind (option_to_list shows.member.supertype) (indices_of (kinded_refs shows.member)) i at)))

  -- below a type that is shown
  pub below-shown : (ty : WasmSubType) (s : ClosedTree) (other : WasmSubType) → Shows types s other
      → broken_below (named_by types) ty s
      ≡ (if other.is_final then Some rule.SuperFinal
      else if not (kind_eq (member_kind ty) (member_kind other)) then Some rule.SuperKind
      else if shape_fits (named_by types) (named_by types) ty.composite_type other.composite_type then None
      else Some rule.SuperMismatch)
  below-shown ty s other shows =
      let final = final-shown s other shows in
      let kind = kind-shown s other shows in
      let fit = match-shown ty s other shows in
      λ t. if final t then Some rule.SuperFinal
      else if is_other (member_kind ty) (kind t) then Some rule.SuperKind
      else if fit t then None
      else Some rule.SuperMismatch

  -- what a function that is shown says of its closed tree: how many results it has, and whether these fields hold its
  -- parameters
  pub record FunctionShown (fields : List WasmFieldType) (t : ClosedTree) (func : WasmFuncType) : Type 0 where
    pub count : option_map_or (λ (f : WasmFuncType). length f.results) (function_at t) 0 ≡ length func.results
    pub gives : gives_results t ≡ nat_lt 0 (length func.results)
    pub params : are_params (named_by types) fields t ≡ fields_equal (named_by types) (named_by types) fields (map constant_field func.params)

  pub function-told : (fields : List WasmFieldType) (t : ClosedTree) (ty : WasmSubType) (func : WasmFuncType) → Shows types t ty → ty.composite_type ≡ shape.Func func → FunctionShown fields t func
  function-told fields t ty func shows is = by shows.member.composite_type refl (sym (ap (λ (s : WasmSubType). s.composite_type) shows.is_shown) ∙ is)
    where
      at : (s : WasmCompositeInnerType) → shows.member.composite_type ≡ s → function_at t ≡ function_of s
      at s e = ap (option_and_then (λ (m : WasmSubType). function_of m.composite_type)) shows.stands ∙ ap function_of e

      named : (f : WasmFuncType) → shows.member.composite_type ≡ shape.Func f → Agree (shown_side t ty shows) (indices_of (kinded_fields (map constant_field f.params)))
      named f e i there =
          let param = subst (λ (refs : List (Kind × EngineOrModuleTypeIndex)). Among i (indices_of refs)) (kinded-constant f.params) there in
          let own = among_first (kinded_vals f.params) (kinded_vals f.results) i param in
          let shaped = subst (λ (s : WasmCompositeInnerType). Among i (indices_of (kinded_shape s))) (sym e) own in
          shows.names i (among_behind (option_to_list shows.member.supertype) (indices_of (kinded_refs shows.member)) i shaped)

      by : (s : WasmCompositeInnerType) → shows.member.composite_type ≡ s → map_shape_refs shows.shown s ≡ shape.Func func → FunctionShown fields t func
      by (shape.Func f) e same =
          let mapped = some_same (ap function_of same) in
          let found = at (shape.Func f) e in
          let results : length f.results ≡ length func.results = sym (length-map f.results (map_val_refs shows.shown)) ∙ ap (λ (g : WasmFuncType). length g.results) mapped in
          record {
            count = ap (λ (o : Option WasmFuncType). option_map_or (λ (g : WasmFuncType). length g.results) o 0) found ∙ results;
            gives = ap (λ (o : Option WasmFuncType). option_map_or (λ (g : WasmFuncType). nat_lt 0 (length g.results)) o false) found ∙ ap (nat_lt 0) results;
            params =
                ap (λ (o : Option WasmFuncType). option_map_or (λ (g : WasmFuncType). fields_equal (named_by types) (tree_at t.tree) fields (map constant_field g.params)) o false) found
                ∙ sym (
                (λ k. fields_equal (named_by types) (named_by types) (sym (fields-none fields) k) (map constant_field (sym mapped k).params))
                ∙ (λ k. fields_equal (named_by types) (named_by types) (map_fields_refs (λ i. i) fields) (sym (constant-changed shows.shown f.params) k))
                ∙ equal-changed (same_side (named_by types)) (shown_side t ty shows) fields (map constant_field f.params) (λ i at. refl) (named f e));
          }
      by (shape.Struct s) e same = absurd (none_some (ap function_of same))
      by (shape.Array a) e same = absurd (none_some (ap function_of same))
      by (shape.Exn x) e same = absurd (none_some (ap function_of same))
      by (shape.Cont c) e same = absurd (none_some (ap function_of same))

  -- the first rule that fields break, by a function that is shown
  pub function-shown : (fields : List WasmFieldType) (t : ClosedTree) (ty : WasmSubType) (func : WasmFuncType) → Shows types t ty → ty.composite_type ≡ shape.Func func
      → broken_by_function (named_by types) fields t
      ≡ (if nat_lt 0 (length func.results) then Some rule.ExnResults
      else if fields_equal (named_by types) (named_by types) fields (map constant_field func.params) then None
      else Some rule.ExnFields)
  function-shown fields t ty func shows is =
      let told = function-told fields t ty func shows is in
      let gives = told.gives in
      let params = told.params in
      λ k. if gives k then Some rule.ExnResults else if params k then None else Some rule.ExnFields

  -- a closed tree that is shown breaks what is shown
  pub broken-of : (t : ClosedTree) (ty : WasmSubType) → Shows types t ty → broken_by (named_by types) ty ≡ broken_type t
  broken-of t ty shows =
      ap (broken_by (named_by types)) shows.is_shown
      ∙ broken-changed (shown_side t ty shows) shows.member shows.names
      ∙ sym (ap (option_and_then (broken_by (tree_at t.tree))) shows.stands)

  -- the type of an index
  pub broken-shown : (i : VMSharedTypeIndex) (ty : WasmSubType) → ShowsAt types i ty → broken_by (named_by types) ty ≡ broken_type (unwrap_or (types i) no_tree)
  broken-shown i ty here = broken-of here.0 ty here.2 ∙ ap broken_type (sym (ap (λ (found : Option ClosedTree). unwrap_or found no_tree) here.1))
