-- the canonical form of a module's group is planned
use Rattle.std.proofs.Common.{◌≡◌, ℕ, ◌++◌, List, length, sym, ap, subst, ◌∙◌}
use Rattle.std.proofs.lemmas.Result.{on_ok_weaker}
use Rattle.wt_env.specs.declared.types.VMSharedTypeIndex.{VMSharedTypeIndex}
use Rattle.wt_env.specs.declared.types.WasmSubType.{WasmSubType}
use Rattle.wt_tree.specs.Canonical.{canonical_index}
use Rattle.wt_tree.specs.MapRefs.{map_group_refs}
use Rattle.wt_keys.specs.Entries.{made_by}
use Rattle.wt_keys.specs.Keys.{KeyNamesTypes}
use Rattle.wt_model.specs.Plan.{plan_key}
use Rattle.wt_plan.specs.Planned.{AreResolved, PlansOne, plan_of}
use Rattle.wt_plan.proofs.module_plan.plan_group.Goals as goal

-- the canonical form by what the calls told is that of the plan's types so far
canonical_same : (start : ℕ) (map slice : List VMSharedTypeIndex) (group types key : List WasmSubType) → start ≡ length map → slice ≡ map → types ≡ group
    → key ≡ map_group_refs (canonical_index start slice) types → key ≡ map_group_refs (canonical_index (length map) map) group
canonical_same start map slice group types key same value given is =
    is ∙ λ k. map_group_refs (canonical_index (same k) (value k)) (given k)

pub plan_key-requires-clause-named : goal.plan_key-requires-clause-named
plan_key-requires-clause-named c =
    let plan = c.args.plan.now in
    let key = canonical_same c.args.start plan.map.items c.as_slice.result.now c.args.group.now.types c.as_slice-2.result.now c.in_ok-types.types c.requires.start c.as_slice.ensures.value c.as_slice-2.ensures c.in_ok-types.ensures in
    subst (AreResolved (made_by (c.args.entries.now ++ plan.added))) (sym key) c.requires.named

pub plan_key-requires-clause-slots : goal.plan_key-requires-clause-slots
plan_key-requires-clause-slots c =
    let plan = c.args.plan.now in
    let key = canonical_same c.args.start plan.map.items c.as_slice.result.now c.args.group.now.types c.as_slice-2.result.now c.in_ok-types.types c.requires.start c.as_slice.ensures.value c.as_slice-2.ensures c.in_ok-types.ensures in
    subst KeyNamesTypes (sym key) c.requires.slots

pub returns-clause-ok : goal.returns-clause-ok
returns-clause-ok c =
    let plan = c.args.plan.now in
    let key = canonical_same c.args.start plan.map.items c.as_slice.result.now c.args.group.now.types c.as_slice-2.result.now c.in_ok-types.types c.requires.start c.as_slice.ensures.value c.as_slice-2.ensures c.in_ok-types.ensures in
    on_ok_weaker c.plan_key.result
    (λ is. ap (plan_key (plan_of c.args.entries.now plan)) (sym key) ∙ is)
    c.plan_key.ensures.ok

pub returns-clause-one : goal.returns-clause-one
returns-clause-one c =
    let plan = c.args.plan.now in
    let key = canonical_same c.args.start plan.map.items c.as_slice.result.now c.args.group.now.types c.as_slice-2.result.now c.in_ok-types.types c.requires.start c.as_slice.ensures.value c.as_slice-2.ensures c.in_ok-types.ensures in
    on_ok_weaker c.plan_key.result (λ one. subst (PlansOne c.args.entries.now plan c.plan_key.new.plan) key one) c.plan_key.ensures.one
