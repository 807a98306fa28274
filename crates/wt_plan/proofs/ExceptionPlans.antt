-- The exception over a function type that was planned: a host may register it, its tree, and what edges lead to.
use Rattle.std.proofs.Common.{◌≡◌, ℕ, inl, inr, true, false, Bool, if◌then◌else◌, List, [], ◌∷◌, ◌++◌, map, is_some, Option, Some, None, option_map, unwrap_or, refl, sym, ap, subst, ◌∙◌, append_assoc}
use Rattle.std.specs.List.{filter_map}
use Rattle.std.specs.Option.{option_or}
use Rattle.std.proofs.lemmas.List.{append-nil, map-append}
use Rattle.wt_env.specs.Among.{Among}
use Rattle.wt_env.specs.declared.types.VMSharedTypeIndex.{VMSharedTypeIndex}
use Rattle.wt_env.specs.declared.types.EngineOrModuleTypeIndex.{EngineOrModuleTypeIndex}
use Rattle.wt_env.specs.declared.types.EngineOrModuleTypeIndex.TheVariants as index
use Rattle.wt_env.specs.declared.types.WasmValType.{WasmValType}
use Rattle.wt_env.specs.declared.types.WasmSubType.{WasmSubType}
use Rattle.wt_env.proofs.lists.Mapped.{among_map, among_mapped}
use Rattle.wt_env.proofs.lists.Members.{among_before, first_same, some_same}
use Rattle.wt_tree.specs.Kinds.{type_indices}
use Rattle.wt_tree.specs.References.{val_refs, vals_refs, fields_refs, group_refs, number_group}
use Rattle.wt_tree.specs.Tree.{Tree, Outer, group, outer, ClosedTree, no_tree, close_outer}
use Rattle.wt_tree.specs.Fit.{named_by, IsKnown, AreKnown, ShowsAt}
use Rattle.wt_rules.specs.declared.place.Rule.{Rule}
use Rattle.wt_rules.specs.declared.place.Rule.TheVariants as rule
use Rattle.wt_rules.specs.TypeRules.{constant_field, breaks_kind, broken_supertype, broken_as_exception, broken_type}
use Rattle.wt_rules.specs.HostTypes.{is_host_type, host_breach}
use Rattle.wt_rules.proofs.KnownHosts.{host-parts}
use Rattle.wt_rules.proofs.ShownRules.{broken-shown}
use Rattle.wt_model.specs.Registered.{RegisteredGroup}
use Rattle.wt_model.specs.Trees.{trees}
use Rattle.wt_model.specs.Indices.{locate, closed_tree}
use Rattle.wt_model.specs.Describe.{located, tree_of}
use Rattle.wt_model.specs.HostExceptions.{exception_function, exception_over, exception_tree}
use Rattle.wt_model.specs.Reach.{edges, Reach}
use Rattle.wt_model.proofs.HostExceptionTypes.{exception-is_host, exception-breaks_nothing}
use Rattle.wt_model.proofs.holds.Leads.{reach_wider, reach_joined, reach-led}
use Rattle.wt_model.proofs.indices.Places.{locate-before}
use Rattle.wt_model.proofs.trees.KnownTrees.{closed_tree-located}
use Rattle.wt_keys.specs.declared.entry.RecGroupEntry.{RecGroupEntry}
use Rattle.wt_keys.specs.Entries.{made_of, made_by}
use Rattle.wt_keys.specs.Keys.{named_at, AreKeys}
use Rattle.wt_plan.specs.declared.plan.Plan.{Plan as PlanFields}
use Rattle.wt_plan.specs.Planned.{AreResolved, PlansOne, PlansType}
use Rattle.wt_plan.proofs.GrownKeys.{closed_tree-grown, tree_of-grown}
use Rattle.wt_plan.proofs.HostReferences.{known-resolved, host-shows}

-- ---- an exception over a function type that was planned

fields-held : (vs : List WasmValType) → fields_refs (map constant_field vs) ≡ vals_refs vs
fields-held [] = refl
fields-held (v ∷ vs) = let rest = fields-held vs in λ k. val_refs v ++ rest k

abbrev outer_in : Tree → Outer
outer_in (group members leaving) = leaving

no_kind : (test : Bool) (rest : Option Rule) → (if test then Some rule.Kind else rest) ≡ None → test ≡ false
no_kind true rest is = absurd (cc)
no_kind false rest is = refl

module _ (entries : List RecGroupEntry) (top : ℕ) (plan : PlanFields) (number : ℕ) (i : VMSharedTypeIndex) (fields : List WasmValType) (keys : AreKeys entries top) (plans : PlansType entries top plan number i)
    (is : is_host_type (closed_tree (made_by entries)) (exception_function fields) ≡ true)
    (named : closed_tree (made_by (entries ++ plan.added)) i ≡ Some (record { tree = tree_of (made_by entries) (exception_function fields ∷ []); place = 0 })) where
  abbrev made : List RegisteredGroup
  made = made_by (entries ++ plan.added)

  abbrev function : WasmSubType
  function = exception_function fields

  known : AreKnown (closed_tree (made_by entries)) (type_indices function)
  known = (host-parts (closed_tree (made_by entries)) function is).known

  -- what it names is still there
  still : (j : EngineOrModuleTypeIndex) → IsKnown (closed_tree (made_by entries)) j → IsKnown (closed_tree made) j
  still (index.Engine j) here = by (closed_tree (made_by entries) j) refl here
    where
      by : (found : Option ClosedTree) → closed_tree (made_by entries) j ≡ found → is_some found ≡ true → is_some (closed_tree made j) ≡ true
      by None e missing = absurd (cc)
      by (Some t) e some =
          let at = closed_tree-located (made_by entries) j t e in
          ap is_some (closed_tree-grown entries top plan.added keys plans.new j at.0 at.1 ∙ e)
  still (index.Module n) here = absurd here
  still (index.RecGroup k) here = absurd here

  resolved : AreResolved (made_by entries) (function ∷ [])
  resolved = known-resolved (made_by entries) function known

  same_tree : tree_of made (function ∷ []) ≡ tree_of (made_by entries) (function ∷ [])
  same_tree = tree_of-grown entries top plan.added keys plans.new (function ∷ []) resolved.0 resolved.1

  -- the function type is shown
  here : ShowsAt (closed_tree made) i function
  here = (
    record { tree = tree_of made (function ∷ []); place = 0 },
    named ∙ ap (λ (tree : Tree). Some (record { tree = tree; place = 0 })) (sym same_tree),
    host-shows made function (record { each = λ j at. still j (known.each j at) }),
  )

  kinds : breaks_kind (named_by (closed_tree made)) function ≡ false
  kinds =
      no_kind (breaks_kind (named_by (closed_tree made)) function) (option_or (broken_supertype (named_by (closed_tree made)) function) (broken_as_exception (named_by (closed_tree made)) function))
      (broken-shown (closed_tree made) i function here
      ∙ ap (λ (found : Option ClosedTree). broken_type (unwrap_or found no_tree)) named
      ∙ plans.rules i (record { tree = tree_of (made_by entries) (function ∷ []); place = 0 }) named)

  -- so a host may register the exception, and nothing refuses it
  pub exception-host : is_host_type (closed_tree made) (exception_over (index.Engine i) fields) ≡ true
  exception-host = exception-is_host (closed_tree made) i function (record { params = fields; results = [] }) here refl kinds

  pub exception-kept : host_breach (closed_tree made) (exception_over (index.Engine i) fields) ≡ None
  exception-kept = exception-breaks_nothing (closed_tree made) i function (record { params = fields; results = [] }) here refl refl

  -- its tree is that of the definition
  function_at : located made (index.Engine i) ≡ (number, 0)
  function_at = ap (λ (found : Option (ℕ × ℕ)). unwrap_or found (0, 0)) plans.located

  function_tree : trees made number ≡ tree_of (made_by entries) (function ∷ [])
  function_tree =
      ap (λ (t : ClosedTree). t.tree)
      (some_same (sym (ap (option_map (λ (at : ℕ × ℕ). record { tree = trees made at.0; place = at.1 })) plans.located) ∙ named))

  refs : group_refs (exception_over (index.Engine i) fields ∷ []) ≡ index.Engine i ∷ vals_refs fields
  refs = ap (λ (rest : List EngineOrModuleTypeIndex). index.Engine i ∷ rest) (append-nil (fields_refs (map constant_field fields)) ∙ fields-held fields)

  function_refs : group_refs (function ∷ []) ≡ vals_refs fields
  function_refs = append-nil (vals_refs fields ++ []) ∙ append-nil (vals_refs fields)

  leaving : close_outer (trees made) (map (located made) (vals_refs fields)) ≡ close_outer (trees (made_by entries)) (map (located (made_by entries)) (vals_refs fields))
  leaving =
      ap (λ (rs : List EngineOrModuleTypeIndex). close_outer (trees made) (map (located made) rs)) (sym function_refs)
      ∙ ap outer_in same_tree
      ∙ ap (λ (rs : List EngineOrModuleTypeIndex). close_outer (trees (made_by entries)) (map (located (made_by entries)) rs)) function_refs

  pub exception-tree : tree_of made (exception_over (index.Engine i) fields ∷ []) ≡ exception_tree (made_by entries) fields
  exception-tree =
      ap (λ (rs : List EngineOrModuleTypeIndex). group (number_group (exception_over (index.Engine i) fields ∷ [])) (close_outer (trees made) (map (located made) rs))) refs
      ∙ (λ k. group (number_group (exception_over (index.Engine i) fields ∷ [])) (outer (trees made (function_at k).0) (function_at k).1 (leaving k)))
      ∙ (λ k. group (number_group (exception_over (index.Engine i) fields ∷ [])) (outer (function_tree k) 0 (close_outer (trees (made_by entries)) (map (located (made_by entries)) (vals_refs fields)))))

  -- edges lead from it to its function type and on
  module _ (before after : PlanFields) (same : before.added ≡ plan.added) (all_keys : AreKeys (entries ++ after.added) after.given.numbers) (one : PlansOne entries before after (exception_over (index.Engine i) fields ∷ [])) where
    abbrev all : List RegisteredGroup
    all = made_by (entries ++ after.added)

    joined : (entries ++ plan.added) ++ one.more ≡ entries ++ after.added
    joined =
        append_assoc entries plan.added one.more
        ∙ ap (λ (added : List RecGroupEntry). entries ++ added) (sym (one.plans.added ∙ ap (λ (es : List RecGroupEntry). es ++ one.more) same))

    wider : (g : RegisteredGroup) → Among g made → Among g all
    wider g at =
        let e = among_map made_of (entries ++ plan.added) g at in
        subst (λ (m : RegisteredGroup). Among m all) (sym e.2)
        (among_mapped made_of (entries ++ after.added) e.0 (subst (Among e.0) joined (among_before (entries ++ plan.added) one.more e.0 e.1)))

    still_at : locate all i ≡ Some (number, 0)
    still_at =
        ap (λ (es : List RecGroupEntry). locate (made_by es) i) (sym joined)
        ∙ ap (λ (made_then : List RegisteredGroup). locate made_then i) (map-append made_of (entries ++ plan.added) one.more)
        ∙ locate-before made (made_by one.more) i (number, 0) plans.located

    names_function : (outer_refs : List (ℕ × ℕ)) → map (named_at all) (index.Engine i ∷ vals_refs fields) ≡ map Some outer_refs → Among number (map (λ (r : ℕ × ℕ). r.0) outer_refs)
    names_function [] told = absurd (cc)
    names_function (r ∷ rest) told = inl (ap (λ (at : ℕ × ℕ). at.0) (some_same (sym still_at ∙ first_same told)))

    edge : Among number (edges (made_of one.entry))
    edge =
        among_before (map (λ (r : ℕ × ℕ). r.0) one.entry.outer) (filter_map (λ (told : Option ℕ). told) one.entry.trampolines) number
        (names_function one.entry.outer
        (ap (map (named_at all)) (sym (ap group_refs one.group ∙ refs)) ∙ (all_keys.keys one.entry one.stands).names))

    pub exception-leads : (e : RecGroupEntry) → Among e before.added → Reach all one.entry.number e.number
    exception-leads e at =
        reach_joined all one.entry.number number e.number
        (reach-led all (made_of one.entry) number (among_mapped made_of (entries ++ after.added) one.entry one.stands) (inr edge))
        (reach_wider made all wider number e.number (plans.led e (subst (Among e) same at)))
