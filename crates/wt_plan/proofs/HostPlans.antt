-- One type of a host that was planned, and an exception behind its function type.
use Rattle.std.proofs.Common.{◌≡◌, ℕ, ◌+◌, inl, inr, true, List, [], ◌∷◌, ◌++◌, length, map, slice_get, Option, Some, None, refl, sym, ap, subst, ◌∙◌, arith, append_assoc}
use Rattle.std.proofs.lemmas.List.{append-nil, length-append}
use Rattle.wt_env.specs.Among.{Among}
use Rattle.wt_env.specs.declared.types.VMSharedTypeIndex.{VMSharedTypeIndex}
use Rattle.wt_env.specs.declared.types.WasmSubType.{WasmSubType}
use Rattle.wt_env.proofs.lists.Mapped.{among_mapped}
use Rattle.wt_env.proofs.lists.Members.{among_either}
use Rattle.wt_tree.specs.Tree.{Tree, ClosedTree}
use Rattle.wt_rules.specs.HostTypes.{is_host_type, host_breach}
use Rattle.wt_rules.proofs.KnownHosts.{host-parts}
use Rattle.wt_model.specs.declared.ever.EverRegistered.{EverRegistered}
use Rattle.wt_model.specs.Indices.{locate, closed_tree}
use Rattle.wt_model.specs.Describe.{tree_of}
use Rattle.wt_model.specs.Reach.{Reach}
use Rattle.wt_model.specs.Plan.{Occurs}
use Rattle.wt_model.specs.Sound.{KeepRules}
use Rattle.wt_keys.specs.declared.entry.RecGroupEntry.{RecGroupEntry}
use Rattle.wt_keys.specs.Entries.{made_of, made_by}
use Rattle.wt_keys.specs.Keys.{AreKeys, AreShown}
use Rattle.wt_keys.proofs.AddedKeys.{closed_tree-registered}
use Rattle.wt_keys.proofs.KeyTrees.{tree-of_key}
use Rattle.wt_plan.specs.declared.plan.Plan.{Plan as PlanFields}
use Rattle.wt_plan.specs.Planned.{AreResolved, AreNewKeys, AreNewBelow, PlansOne, AreNamed, plan_of, PlansType, PlansHost}
use Rattle.wt_plan.proofs.GrownKeys.{new_keys-append, new_below-all, tree_of-grown, shown-joined}
use Rattle.wt_plan.proofs.HostReferences.{known-resolved}
use Rattle.wt_plan.proofs.NewIndices.{new_below-none}
use Rattle.wt_plan.proofs.PlannedGroups.{reach-entry, occurs-groups}
use Rattle.wt_plan.proofs.RulesKept.{rules-host}

sole : {A : Type 0} (xs : List A) → length xs ≡ 1 → (x : A) × (xs ≡ x ∷ [])
sole [] one = absurd (omega (arith, one))
sole (x ∷ []) one = (x, refl)
sole (x ∷ (y ∷ rest)) one = absurd (omega (arith, one))

-- ---- one type more, where nothing occurs yet

-- what was planned before it, where nothing occurs
pub record PlansNothing (entries : List RecGroupEntry) (top : ℕ) (plan : PlanFields) : Type 0 where
  pub keys : AreKeys (entries ++ plan.added) plan.given.numbers
  pub new : AreNewKeys entries top plan.added
  pub given : plan.given.numbers ≡ top + length plan.added
  pub shown : AreShown plan.added
  pub below : AreNewBelow entries plan.added
  pub rules : KeepRules (made_by (entries ++ plan.added))
  pub numbers : plan.numbers.items ≡ []
  pub map : plan.map.items ≡ []

module _ (entries : List RecGroupEntry) (top : ℕ) (before after : PlanFields) (ty : WasmSubType) (nothing : PlansNothing entries top before) (keys : AreKeys (entries ++ after.added) after.given.numbers) (one : PlansOne entries before after (ty ∷ []))
    (is : is_host_type (closed_tree (made_by (entries ++ before.added))) ty ≡ true) (kept : host_breach (closed_tree (made_by (entries ++ before.added))) ty ≡ None) where
  abbrev all : List RecGroupEntry
  all = entries ++ after.added

  count : length one.entry.shared_type_indices ≡ 1
  count = (keys.keys one.entry one.stands).members ∙ ap (λ (ts : List WasmSubType). length ts) one.group

  pub type-index : (i : VMSharedTypeIndex) × (one.entry.shared_type_indices ≡ i ∷ [])
  type-index = sole one.entry.shared_type_indices count

  pub type-numbers : after.numbers.items ≡ one.entry.number ∷ []
  type-numbers = one.numbers ∙ ap (λ (ns : List ℕ). ns ++ one.entry.number ∷ []) nothing.numbers

  pub type-map : after.map.items ≡ type-index.0 ∷ []
  type-map = one.map ∙ ap (λ (is : List VMSharedTypeIndex). is ++ one.entry.shared_type_indices) nothing.map ∙ type-index.1

  first : slice_get one.entry.shared_type_indices 0 ≡ Some type-index.0
  first = ap (λ (is : List VMSharedTypeIndex). slice_get is 0) type-index.1

  resolved : AreResolved (made_by (entries ++ before.added)) (ty ∷ [])
  resolved = known-resolved (made_by (entries ++ before.added)) ty (host-parts (closed_tree (made_by (entries ++ before.added))) ty is).known

  joined : (entries ++ before.added) ++ one.more ≡ all
  joined = append_assoc entries before.added one.more ∙ ap (λ (added : List RecGroupEntry). entries ++ added) (sym one.plans.added)

  -- it has the closed tree of its key, over what stood before
  pub type-named : closed_tree (made_by all) type-index.0 ≡ Some (record { tree = tree_of (made_by (entries ++ before.added)) (ty ∷ []); place = 0 })
  type-named =
      closed_tree-registered all after.given.numbers one.entry 0 type-index.0 keys one.stands first
      ∙ ap (λ (tree : Tree). Some (record { tree = tree; place = 0 }))
      (tree-of_key all after.given.numbers one.entry keys one.stands
      ∙ ap (tree_of (made_by all)) one.group
      ∙ ap (λ (es : List RecGroupEntry). tree_of (made_by es) (ty ∷ [])) (sym joined)
      ∙ tree_of-grown (entries ++ before.added) before.given.numbers one.more nothing.keys one.plans.new (ty ∷ []) resolved.0 resolved.1)

  -- edges lead to what is new with it
  led_more : (e : RecGroupEntry) → Among e one.more → Reach (made_by all) one.entry.number e.number
  led_more e at = reach-entry all one.entry e.number one.stands (one.led e at)

  pub type-planned : ((e : RecGroupEntry) → Among e before.added → Reach (made_by all) one.entry.number e.number) → PlansType entries top after one.entry.number type-index.0
  type-planned led = record {
    keys = keys;
    new = subst (AreNewKeys entries top) (sym one.plans.added) (new_keys-append entries top before.added one.more nothing.new (subst (λ (n : ℕ). AreNewKeys (entries ++ before.added) n one.more) nothing.given one.plans.new));
    given =
        let long = length-append before.added one.more in
        let added = ap (λ (es : List RecGroupEntry). length es) one.plans.added in
        let more = one.plans.given in
        let first = nothing.given in
        omega (arith, long, added, more, first);
    shown = subst AreShown (sym one.plans.added) (shown-joined before.added one.more nothing.shown one.plans.shown);
    below = subst (AreNewBelow entries) (sym one.plans.added) (new_below-all entries before.added before.given.numbers one.more nothing.below one.plans.new);
    stands = (one.entry, one.stands, refl);
    led = λ e at. elim (among_either before.added one.more e (subst (Among e) one.plans.added at)) [ inl old ↦ led e old | inr new ↦ led_more e new ];
    located = keys.located (made_of one.entry) 0 type-index.0 (among_mapped made_of all one.entry one.stands) first;
    rules = rules-host entries before after ty nothing.keys keys one is kept nothing.rules;
  }

  pub host-planned : ((e : RecGroupEntry) → Among e before.added → Reach (made_by all) one.entry.number e.number) → PlansHost entries top after
  host-planned led = record {
    number = one.entry.number;
    index = type-index.0;
    plans = type-planned led;
    numbers = type-numbers;
    map = type-map;
  }

  pub host-named : AreNamed entries after (record { tree = tree_of (made_by (entries ++ before.added)) (ty ∷ []); place = 0 } ∷ [])
  host-named = ap (map (closed_tree (made_by all))) type-map ∙ ap (λ (found : Option ClosedTree). found ∷ []) type-named

-- nothing is planned yet
pub plans-nothing : (entries : List RecGroupEntry) (top : ℕ) (plan : PlanFields) → plan.added ≡ [] → plan.given.numbers ≡ top → plan.numbers.items ≡ [] → plan.map.items ≡ [] → AreKeys entries top → KeepRules (made_by entries)
    → PlansNothing entries top plan
plans-nothing entries top plan added given numbers indices keys rules = record {
  keys = subst (λ (n : ℕ). AreKeys (entries ++ plan.added) n) (sym given) (subst (λ (es : List RecGroupEntry). AreKeys es top) (sym same) keys);
  new = subst (AreNewKeys entries top) (sym added) tt;
  given = let none = ap (λ (es : List RecGroupEntry). length es) added in omega (arith, none, given);
  shown = subst AreShown (sym added) (λ e at. absurd at);
  below = subst (AreNewBelow entries) (sym added) (new_below-none entries);
  rules = subst (λ (es : List RecGroupEntry). KeepRules (made_by es)) (sym same) rules;
  numbers = numbers;
  map = indices;
}
  where
    same : entries ++ plan.added ≡ entries
    same = ap (λ (es : List RecGroupEntry). entries ++ es) added ∙ append-nil entries

-- the type alone occurs
pub host-occurs : (entries : List RecGroupEntry) (top : ℕ) (plan : PlanFields) → PlansHost entries top plan → Occurs (plan_of entries plan)
host-occurs entries top plan host =
    occurs-groups entries plan (record {
      every = λ e at. (host.number, subst (Among host.number) (sym host.numbers) (inl refl), host.plans.led e at);
      only = λ n at. (host.plans.stands.0, host.plans.stands.1, host.plans.stands.2 ∙ sym (by n (subst (Among n) host.numbers at)));
    })
  where
    by : (n : ℕ) → Among n (host.number ∷ []) → n ≡ host.number
    by n (inl same) = same
    by n (inr nothing) = absurd nothing

-- ---- a plan of which nothing occurs any more

module _ (entries : List RecGroupEntry) (top : ℕ) where
  -- the same in another plan that has the same groups
  pub type-regrouped : (plan other : PlanFields) (number : ℕ) (i : VMSharedTypeIndex) → other.added ≡ plan.added → other.given ≡ plan.given → PlansType entries top plan number i → PlansType entries top other number i
  type-regrouped plan other number i added given plans = record {
    keys =
        subst (λ (n : ℕ). AreKeys (entries ++ other.added) n) (sym (ap (λ (g : EverRegistered). g.numbers) given))
        (subst (λ (es : List RecGroupEntry). AreKeys (entries ++ es) plan.given.numbers) (sym added) plans.keys);
    new = subst (AreNewKeys entries top) (sym added) plans.new;
    given = ap (λ (g : EverRegistered). g.numbers) given ∙ plans.given ∙ ap (λ (es : List RecGroupEntry). top + length es) (sym added);
    shown = subst AreShown (sym added) plans.shown;
    below = subst (AreNewBelow entries) (sym added) plans.below;
    stands = (plans.stands.0, subst (λ (es : List RecGroupEntry). Among plans.stands.0 (entries ++ es)) (sym added) plans.stands.1, plans.stands.2);
    led = λ e at. subst (λ (es : List RecGroupEntry). Reach (made_by (entries ++ es)) number e.number) (sym added) (plans.led e (subst (Among e) added at));
    located = ap (λ (es : List RecGroupEntry). locate (made_by (entries ++ es)) i) added ∙ plans.located;
    rules = subst (λ (es : List RecGroupEntry). KeepRules (made_by (entries ++ es))) (sym added) plans.rules;
  }

  pub type-nothing : (plan : PlanFields) (number : ℕ) (i : VMSharedTypeIndex) → PlansType entries top plan number i → plan.numbers.items ≡ [] → plan.map.items ≡ [] → PlansNothing entries top plan
  type-nothing plan number i plans numbers indices = record {
    keys = plans.keys;
    new = plans.new;
    given = plans.given;
    shown = plans.shown;
    below = plans.below;
    rules = plans.rules;
    numbers = numbers;
    map = indices;
  }
