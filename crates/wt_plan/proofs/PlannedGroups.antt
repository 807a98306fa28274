-- The groups of a module that were planned so far, and one more.
use Rattle.std.proofs.Common.{◌≡◌, ℕ, zero, suc, ◌+◌, ◌-◌, ◌<◌, ◌≤◌, ◌⊎◌, inl, inr, true, List, [], ◌∷◌, ◌++◌, length, map, take, get_or, Option, Some, None, option_map, refl, sym, ap, subst, ◌∙◌, arith, append_assoc}
use Rattle.std.specs.List.{filter_map}
use Rattle.std.specs.Option.{option_or}
use Rattle.std.proofs.lemmas.List.{append-nil}
use Rattle.wt_env.specs.Among.{Among}
use Rattle.wt_env.specs.declared.types.EngineOrModuleTypeIndex.{EngineOrModuleTypeIndex}
use Rattle.wt_env.specs.declared.types.WasmSubType.{WasmSubType}
use Rattle.wt_env.specs.declared.types.WasmRecGroup.{WasmRecGroup}
use Rattle.wt_env.proofs.lists.Mapped.{among_map, among_mapped, among_last}
use Rattle.wt_env.proofs.lists.Members.{among_before, among_behind, among_either, among_pushed}
use Rattle.wt_tree.specs.Kinds.{type_indices}
use Rattle.wt_tree.specs.ModuleTree.{module_trees}
use Rattle.wt_tree.specs.Tree.{ClosedTree}
use Rattle.wt_tree.proofs.ModuleTrees.{module_trees-more}
use Rattle.wt_rules.specs.declared.place.Rule.{Rule}
use Rattle.wt_rules.specs.Rules.{total_members, is_module_index, AreModuleTypes, group_trees, broken_in, placed_in, first_broken_from}
use Rattle.wt_rules.proofs.KeptRules.{total_members-more}
use Rattle.wt_rules.proofs.ModuleReferences.{leaving-module}
use Rattle.wt_model.specs.Registered.{RegisteredGroup}
use Rattle.wt_model.specs.Indices.{closed_tree}
use Rattle.wt_model.specs.Reach.{edges, Reach}
use Rattle.wt_model.specs.Sound.{KeepRules}
use Rattle.wt_model.specs.Plan.{Plan, Occurs, plan_group, plan_groups}
use Rattle.wt_model.proofs.Trampolines.{told-among}
use Rattle.wt_model.proofs.holds.Leads.{reach_wider, reach-led}
use Rattle.wt_keys.specs.declared.entry.RecGroupEntry.{RecGroupEntry}
use Rattle.wt_keys.specs.Entries.{made_of, made_by}
use Rattle.wt_keys.specs.Keys.{AreKeys, AreShown}
use Rattle.wt_plan.specs.declared.plan.Plan.{Plan as PlanFields}
use Rattle.wt_plan.specs.Planned.{AreNewBelow, PlansOne, key_of, plan_of, PlansGroup, AreNamed, PlansModule}
use Rattle.wt_plan.proofs.CheckedGroups.{group-resolved, planned-count}
use Rattle.wt_plan.proofs.GrownKeys.{new_below-all, shown-joined}
use Rattle.wt_plan.proofs.NewIndices.{new_below-none}
use Rattle.wt_plan.proofs.PlannedTrees.{all-named}
use Rattle.wt_plan.proofs.Planning.{groups_of-joined}

-- edges lead to each new entry from one that occurs; and what occurs stands or is new
pub record EntriesOccur (all added : List RecGroupEntry) (numbers : List ℕ) : Type 0 where
  pub every : (entry : RecGroupEntry) → Among entry added → (n : ℕ) × Among n numbers × Reach (made_by all) n entry.number
  pub only : (number : ℕ) → Among number numbers → (entry : RecGroupEntry) × Among entry all × (entry.number ≡ number)

-- what is true of a plan of the groups so far
pub record Plans (entries : List RecGroupEntry) (groups : List WasmRecGroup) (first plan : PlanFields) : Type 0 where
  pub keys : AreKeys (entries ++ plan.added) plan.given.numbers
  pub planned : plan_groups (plan_of entries first) groups ≡ plan_of entries plan
  pub shown : AreShown plan.added
  pub below : AreNewBelow entries plan.added
  pub occurs : EntriesOccur (entries ++ plan.added) plan.added plan.numbers.items
  pub named : AreNamed entries plan (module_trees [] groups)
  pub count : length plan.map.items ≡ total_members groups
  pub rules : KeepRules (made_by (entries ++ plan.added))

plan_groups-more : (plan : Plan) (groups : List WasmRecGroup) (group : WasmRecGroup) → plan_groups plan (groups ++ group ∷ []) ≡ plan_group (plan_groups plan groups) group
plan_groups-more plan [] group = refl
plan_groups-more plan (g ∷ groups) group = plan_groups-more (plan_group plan g) groups group

-- ---- what stands where one more was planned

-- an entry that stands among more
among-grown : (entries before more after : List RecGroupEntry) (e : RecGroupEntry) → after ≡ before ++ more → Among e (entries ++ before) → Among e (entries ++ after)
among-grown entries before more after e same at =
    subst (Among e) (append_assoc entries before more ∙ ap (λ (added : List RecGroupEntry). entries ++ added) (sym same)) (among_before (entries ++ before) more e at)

-- an entry leads to itself, and to what it tells as a trampoline
pub reach-entry : (all : List RecGroupEntry) (by : RecGroupEntry) (n : ℕ) → Among by all → (n ≡ by.number) ⊎ Among (Some n) by.trampolines → Reach (made_by all) by.number n
reach-entry all by n at leads = reach-led (made_by all) (made_of by) n (among_mapped made_of all by at) (edge leads)
  where
    edge : (n ≡ by.number) ⊎ Among (Some n) by.trampolines → (n ≡ by.number) ⊎ Among n (edges (made_of by))
    edge (inl same) = inl same
    edge (inr told) = inr (among_behind (map (λ (r : ℕ × ℕ). r.0) by.outer) (filter_map (λ (number : Option ℕ). number) by.trampolines) n (told-among n by.trampolines told))

-- what occurs where one more was planned
pub occurs-more : (entries : List RecGroupEntry) (before after : PlanFields) (types : List WasmSubType) → EntriesOccur (entries ++ before.added) before.added before.numbers.items → PlansOne entries before after types
    → EntriesOccur (entries ++ after.added) after.added after.numbers.items
occurs-more entries before after types occurs one = record {
  every = λ e at. every e (among_either before.added one.more e (subst (Among e) one.plans.added at));
  only = λ n at. only n (among_pushed before.numbers.items one.entry.number n (subst (Among n) one.numbers at));
}
  where
    wider : (e : RecGroupEntry) → Among e (entries ++ before.added) → Among e (entries ++ after.added)
    wider e at = among-grown entries before.added one.more after.added e one.plans.added at

    counted : (n : ℕ) → Among n before.numbers.items → Among n after.numbers.items
    counted n at = subst (Among n) (sym one.numbers) (among_before before.numbers.items (one.entry.number ∷ []) n at)

    own : Among one.entry.number after.numbers.items
    own = subst (Among one.entry.number) (sym one.numbers) (among_last before.numbers.items one.entry.number)

    made_wider : (g : RegisteredGroup) → Among g (made_by (entries ++ before.added)) → Among g (made_by (entries ++ after.added))
    made_wider g at =
        let e = among_map made_of (entries ++ before.added) g at in
        subst (λ (m : RegisteredGroup). Among m (made_by (entries ++ after.added))) (sym e.2) (among_mapped made_of (entries ++ after.added) e.0 (wider e.0 e.1))

    every : (e : RecGroupEntry) → Among e before.added ⊎ Among e one.more → (n : ℕ) × Among n after.numbers.items × Reach (made_by (entries ++ after.added)) n e.number
    every e (inl old) =
        let was = occurs.every e old in
        (was.0, counted was.0 was.1, reach_wider (made_by (entries ++ before.added)) (made_by (entries ++ after.added)) made_wider was.0 e.number was.2)
    every e (inr new) = (one.entry.number, own, reach-entry (entries ++ after.added) one.entry e.number one.stands (one.led e new))

    only : (n : ℕ) → Among n before.numbers.items ⊎ (n ≡ one.entry.number) → (entry : RecGroupEntry) × Among entry (entries ++ after.added) × (entry.number ≡ n)
    only n (inl old) = let was = occurs.only n old in (was.0, wider was.0 was.1, was.2)
    only n (inr same) = (one.entry, one.stands, sym same)

-- the same of the groups
pub occurs-groups : (entries : List RecGroupEntry) (plan : PlanFields) → EntriesOccur (entries ++ plan.added) plan.added plan.numbers.items → Occurs (plan_of entries plan)
occurs-groups entries plan occurs = record {
  every = λ group at.
      let named = among_map made_of plan.added group at in
      let was = occurs.every named.0 named.1 in (
        was.0,
        was.1,
        subst (λ (made : List RegisteredGroup). Reach made was.0 group.number) (sym (groups_of-joined entries plan))
            (subst (λ (m : RegisteredGroup). Reach (made_by (entries ++ plan.added)) was.0 m.number) (sym named.2) was.2),
      );
  only = λ number at.
      let found = occurs.only number at in
      (made_of found.0, subst (Among (made_of found.0)) (sym (groups_of-joined entries plan)) (among_mapped made_of (entries ++ plan.added) found.0 found.1), found.2);
}

-- ---- one more group

pub plans-more : (entries : List RecGroupEntry) (groups : List WasmRecGroup) (first plan after : PlanFields) (group : WasmRecGroup) → AreModuleTypes (group ∷ []) → Plans entries groups first plan → PlansGroup entries plan after group
    → Plans entries (groups ++ group ∷ []) first after
plans-more entries groups first plan after group only plans more = record {
  keys = more.keys;
  planned =
      plan_groups-more (plan_of entries first) groups group
      ∙ ap (λ (p : Plan). plan_group p group) plans.planned
      ∙ more.planned;
  shown = subst AreShown (sym one.plans.added) (shown-joined plan.added one.more plans.shown one.plans.shown);
  below = subst (AreNewBelow entries) (sym one.plans.added) (new_below-all entries plan.added plan.given.numbers one.more plans.below one.plans.new);
  occurs = occurs-more entries plan after (key_of plan group) plans.occurs one;
  named =
      all-named entries plan after group (λ i at. leaving-module (group ∷ []) only group i (inl refl) at) (group-resolved entries plan group known only plans.named) plans.keys one more.keys known plans.named
      ∙ ap (map Some) (sym (module_trees-more [] groups group));
  count =
      planned-count entries plan after group only plans.keys one more.keys known plans.named
      ∙ ap (λ (n : ℕ). n + length group.types) plans.count
      ∙ sym (total_members-more groups group);
  rules = more.rules;
}
  where
    one : PlansOne entries plan after (key_of plan group)
    one = more.one

    known : List ClosedTree
    known = module_trees [] groups

-- none is planned yet
pub plans-first : (entries : List RecGroupEntry) (first : PlanFields) → (first.added ≡ []) × (first.numbers.items ≡ []) × (first.map.items ≡ []) → AreKeys entries first.given.numbers → KeepRules (made_by entries)
    → Plans entries [] first first
plans-first entries first empty keys rules = record {
  keys = subst (λ (es : List RecGroupEntry). AreKeys es first.given.numbers) (sym nothing) keys;
  planned = refl;
  shown = subst AreShown (sym empty.0) (λ e at. absurd at);
  below = subst (AreNewBelow entries) (sym empty.0) (new_below-none entries);
  occurs = record {
    every = λ e at. absurd (subst (Among e) empty.0 at);
    only = λ n at. absurd (subst (Among n) empty.1 at);
  };
  named = ap (map (closed_tree (made_by (entries ++ first.added)))) empty.2;
  count = ap length empty.2;
  rules = subst (λ (es : List RecGroupEntry). KeepRules (made_by es)) (sym nothing) rules;
}
  where
    nothing : entries ++ first.added ≡ entries
    nothing = ap (λ (added : List RecGroupEntry). entries ++ added) empty.0 ∙ append-nil entries

-- all of them are planned
pub plans-module : (entries : List RecGroupEntry) (groups : List WasmRecGroup) (first plan : PlanFields) → Plans entries groups first plan → PlansModule entries first plan groups
plans-module entries groups first plan plans = record {
  planned = plans.planned;
  keys = plans.keys;
  shown = plans.shown;
  below = plans.below;
  occurs = occurs-groups entries plan plans.occurs;
  named = plans.named;
  rules = plans.rules;
}

-- ---- the rules of the groups that are left

-- a group that breaks one is told with its place
pub broken-here : (number : ℕ) (known : List ClosedTree) (group : WasmRecGroup) (rest : List WasmRecGroup) (broken : ℕ × Rule) → Some broken ≡ broken_in known group
    → Some (placed_in number broken) ≡ first_broken_from number known (group ∷ rest)
broken-here number known group rest broken is = ap (λ (found : Option (ℕ × Rule)). option_or (option_map (placed_in number) found) (first_broken_from (number + 1) (known ++ group_trees known group) rest)) is

-- past one that breaks none the others decide
pub broken-later : (number : ℕ) (known : List ClosedTree) (group : WasmRecGroup) (rest : List WasmRecGroup) → None ≡ broken_in known group
    → first_broken_from (number + 1) (known ++ group_trees known group) rest ≡ first_broken_from number known (group ∷ rest)
broken-later number known group rest is = ap (λ (found : Option (ℕ × Rule)). option_or (option_map (placed_in number) found) (first_broken_from (number + 1) (known ++ group_trees known group) rest)) is

-- a group among those of a module
pub only-one : (groups : List WasmRecGroup) (group : WasmRecGroup) → AreModuleTypes groups → Among group groups → AreModuleTypes (group ∷ [])
only-one groups group only at = record {
  by_index = λ g ty i among in_group in_type. by g ty i among in_group in_type;
}
  where
    by : (g : WasmRecGroup) (ty : WasmSubType) (i : EngineOrModuleTypeIndex) → Among g (group ∷ []) → Among ty g.types → Among i (type_indices ty) → is_module_index i ≡ true
    by g ty i (inl same) in_group in_type = only.by_index g ty i (subst (λ (x : WasmRecGroup). Among x groups) (sym same) at) in_group in_type
    by g ty i (inr none) in_group in_type = absurd none

-- the types of a group are within those of the module
pub count-within : (groups : List WasmRecGroup) (n : ℕ) (group : WasmRecGroup) (count bound : ℕ) → n < length groups → group ≡ get_or groups n group → count ≡ total_members (take n groups) → total_members groups < bound
    → count + length group.types < bound
count-within [] n group count bound within is so_far few = absurd (omega (arith, within))
count-within (g ∷ groups) zero group count bound within is so_far few =
    let here = ap (λ (x : WasmRecGroup). length x.types) is in
    omega (arith, here, so_far, few)
count-within (g ∷ groups) (suc n) group count bound within is so_far few =
    let past : length g.types ≤ count = omega (arith, so_far) in
    let rest = count-within groups n group (count - length g.types) (bound - length g.types) (omega (arith, within)) is (omega (arith, so_far, past)) (omega (arith, few)) in
    omega (arith, rest, past)
