-- One more group of a module was planned: what its types break is told by the closed trees, whether the group was there or
-- is new.
use Rattle.std.proofs.Common.{◌≡◌, ℕ, ◌+◌, inl, true, List, [], ◌∷◌, ◌++◌, length, map, drop, slice_get, Option, Some, None, refl, sym, ap, subst, ◌∙◌, arith, append_assoc}
use Rattle.std.proofs.lemmas.List.{append-nil, length-append}
use Rattle.wt_env.specs.Among.{Among}
use Rattle.wt_env.specs.declared.types.VMSharedTypeIndex.{VMSharedTypeIndex}
use Rattle.wt_env.specs.declared.types.EngineOrModuleTypeIndex.{EngineOrModuleTypeIndex}
use Rattle.wt_env.specs.declared.types.EngineOrModuleTypeIndex.TheVariants as index
use Rattle.wt_env.specs.declared.types.WasmSubType.{WasmSubType}
use Rattle.wt_env.specs.declared.types.WasmRecGroup.{WasmRecGroup}
use Rattle.wt_env.proofs.lists.Members.{get_among}
use Rattle.wt_tree.specs.Tree.{Tree, ClosedTree}
use Rattle.wt_tree.specs.Fit.{named_by}
use Rattle.wt_tree.specs.ModuleTree.{group_tree}
use Rattle.wt_tree.specs.References.{group_refs}
use Rattle.wt_rules.specs.declared.place.Rule.{Rule}
use Rattle.wt_rules.specs.TypeRules.{broken_type}
use Rattle.wt_rules.specs.Rules.{is_module_index, AreModuleTypes, first_disorder, first_misnamed, group_trees}
use Rattle.wt_rules.proofs.ModuleReferences.{leaving-module}
use Rattle.wt_rules.proofs.KeptRules.{order-kept, misnamed-kept, misnamed-none}
use Rattle.wt_model.specs.Registered.{RegisteredGroup}
use Rattle.wt_model.specs.Indices.{closed_tree}
use Rattle.wt_model.specs.Sound.{KeepRules}
use Rattle.wt_model.proofs.trees.KnownTrees.{trees-at, trees-located}
use Rattle.wt_keys.specs.declared.entry.RecGroupEntry.{RecGroupEntry}
use Rattle.wt_keys.specs.Entries.{made_by}
use Rattle.wt_keys.specs.Keys.{KeyNamesTypes, AreKeys, AreShown}
use Rattle.wt_plan.specs.declared.plan.Plan.{Plan as PlanFields}
use Rattle.wt_plan.specs.Planned.{AreResolved, PlansOne, key_of, AreNamed}
use Rattle.wt_plan.proofs.GrownKeys.{shown-joined}
use Rattle.wt_plan.proofs.ModuleKeys.{canonical-named}
use Rattle.wt_plan.proofs.ModuleSlots.{canonical-slots}
use Rattle.wt_plan.proofs.PlannedTrees.{as_many_types, own_tree, own_trees, group-named, behind-named, known-index}
use Rattle.wt_plan.proofs.RulesKept.{rules-one}

-- ---- before it is planned

pub group-resolved : (entries : List RecGroupEntry) (plan : PlanFields) (group : WasmRecGroup) (known : List ClosedTree) → AreModuleTypes (group ∷ []) → AreNamed entries plan known
    → AreResolved (made_by (entries ++ plan.added)) (key_of plan group)
group-resolved entries plan group known only named =
    let made = made_by (entries ++ plan.added) in
    canonical-named made plan.map.items group.types (λ i at. leaving-module (group ∷ []) only group i (inl refl) at) (trees-located made plan.map.items known named)

pub group-slots : (plan : PlanFields) (group : WasmRecGroup) → AreModuleTypes (group ∷ []) → first_disorder (length plan.map.items) group.types ≡ None → KeyNamesTypes (key_of plan group)
group-slots plan group only ordered = canonical-slots plan.map.items group only (order-kept (length plan.map.items) group.types ordered)

-- ---- after it was planned

no_more : {A : Type 0} (before more : List A) → length (before ++ more) ≡ length before → more ≡ []
no_more before [] same = refl
no_more before (x ∷ more) same = let long = length-append before (x ∷ more) in absurd (omega (arith, same, long))

-- what stands then is shown
pub shown-then : (entries : List RecGroupEntry) (plan after : PlanFields) (types : List WasmSubType) → PlansOne entries plan after types → AreShown (entries ++ plan.added) → AreShown (entries ++ after.added)
shown-then entries plan after types one are =
    subst AreShown (append_assoc entries plan.added one.more ∙ ap (λ (added : List RecGroupEntry). entries ++ added) (sym one.plans.added))
    (shown-joined (entries ++ plan.added) one.more are one.plans.shown)

module _ (entries : List RecGroupEntry) (plan after : PlanFields) (group : WasmRecGroup) (only : AreModuleTypes (group ∷ [])) (before : AreKeys (entries ++ plan.added) plan.given.numbers) (one : PlansOne entries plan after (key_of plan group)) (keys : AreKeys (entries ++ after.added) after.given.numbers) (first_known : List ClosedTree) (first_named : AreNamed entries plan first_known) where
  abbrev made : List RegisteredGroup
  made = made_by (entries ++ after.added)

  resolved : AreResolved (made_by (entries ++ plan.added)) (key_of plan group)
  resolved = group-resolved entries plan group first_known only first_named

  leaving : (i : EngineOrModuleTypeIndex) → Among i (group_refs group.types) → is_module_index i ≡ true
  leaving i at = leaving-module (group ∷ []) only group i (inl refl) at

  -- as many types as were counted
  pub planned-count : length after.map.items ≡ length plan.map.items + length group.types
  planned-count =
      ap length one.map
      ∙ length-append plan.map.items one.entry.shared_type_indices
      ∙ ap (λ (n : ℕ). length plan.map.items + n) (as_many_types entries plan after group leaving resolved before one keys first_known first_named)

  -- a group that was there has types that break no rule
  pub found-rules : KeepRules (made_by (entries ++ plan.added)) → length after.added ≡ length plan.added → KeepRules made
  found-rules rules same =
      let none = no_more plan.added one.more (ap length (sym one.plans.added) ∙ same) in
      let added : after.added ≡ plan.added = one.plans.added ∙ ap (λ (more : List RecGroupEntry). plan.added ++ more) none ∙ append-nil plan.added in
      subst (λ (es : List RecGroupEntry). KeepRules (made_by (entries ++ es))) (sym added) rules

  pub found-told : KeepRules (made_by (entries ++ plan.added)) → length after.added ≡ length plan.added
      → (known : List ClosedTree) → AreNamed entries plan known → None ≡ first_misnamed (group_trees known group)
  found-told rules same known named =
      sym (misnamed-none (group_trees known group) (λ t at.
      let own = known-index made one.entry.shared_type_indices (group_trees known group) (group-named entries plan after group leaving resolved before one keys known named) t at in
      found-rules rules same own.0 t own.2))

  -- of a new one it is told
  pub new-told : (start : ℕ) (told : Option (ℕ × Rule)) → start ≡ length plan.map.items
      → told ≡ first_misnamed (map (λ (i : VMSharedTypeIndex). named_by (closed_tree made) (index.Engine i)) (drop start after.map.items))
      → (known : List ClosedTree) → AreNamed entries plan known → told ≡ first_misnamed (group_trees known group)
  new-told start told same is known named =
      is
      ∙ ap (λ (n : ℕ). first_misnamed (map (λ (i : VMSharedTypeIndex). named_by (closed_tree made) (index.Engine i)) (drop n after.map.items))) same
      ∙ ap first_misnamed (behind-named entries plan after group leaving resolved before one keys known named)

  pub new-rules : KeepRules (made_by (entries ++ plan.added)) → first_misnamed (group_trees first_known group) ≡ None → KeepRules made
  new-rules rules none =
      rules-one entries plan after (key_of plan group) before keys one rules
      (λ place i is.
      ap (λ (t : Tree). broken_type (record { tree = t; place = place })) (own_tree entries plan after group leaving resolved before one keys first_known first_named) ∙ own place i is)
    where
      own : (place : ℕ) (i : VMSharedTypeIndex) → slice_get one.entry.shared_type_indices place ≡ Some i → broken_type (record { tree = group_tree first_known group.types; place = place }) ≡ None
      own place i is =
          let named = group-named entries plan after group leaving resolved before one keys first_known first_named in
          let tree = trees-at made one.entry.shared_type_indices (group_trees first_known group) place i named is
          ∙ own_trees entries plan after group leaving resolved before one keys first_known first_named place i is in
          misnamed-kept (group_trees first_known group) none (record { tree = group_tree first_known group.types; place = place }) (get_among (group_trees first_known group) place (record { tree = group_tree first_known group.types; place = place }) tree)
