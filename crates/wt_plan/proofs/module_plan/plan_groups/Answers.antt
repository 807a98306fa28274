-- one more group of the module
use Rattle.std.proofs.Common.{◌≡◌, ℕ, ◌+◌, List, [], ◌∷◌, ◌++◌, length, take, drop, sym, ap, subst, ◌∙◌, arith}
use Rattle.std.proofs.Math.Seq.{take-length}
use Rattle.std.proofs.lemmas.List.{take_more, drop_more}
use Rattle.wt_env.specs.declared.types.WasmRecGroup.{WasmRecGroup}
use Rattle.wt_tree.specs.ModuleTree.{module_trees}
use Rattle.wt_tree.specs.Tree.{ClosedTree}
use Rattle.wt_tree.proofs.ModuleTrees.{module_trees-more}
use Rattle.wt_rules.specs.Rules.{first_broken_from}
use Rattle.wt_plan.specs.Planned.{PlansModule}
use Rattle.wt_plan.proofs.GrownKeys.{shown-joined}
use Rattle.wt_plan.proofs.ModuleKeys.{module_group-among}
use Rattle.wt_plan.proofs.PlannedGroups.{Plans, plans-more, plans-module, broken-later, only-one, count-within}
use Rattle.wt_plan.proofs.module_plan.plan_groups.Goals as goal

pub plan_checked-requires-clause-few : goal.plan_checked-requires-clause-few
plan_checked-requires-clause-few c =
    count-within c.args.groups.now c.loop-number.number c.index-groups-number.result (length c.loop-number.plan.map.items) 4294967296 c.loop-number-test.true c.index-groups-number.is c.loop-number.invariant.plans.count c.requires.countable.few_members

pub plan_checked-requires-clause-shown : goal.plan_checked-requires-clause-shown
plan_checked-requires-clause-shown c = shown-joined c.args.entries.now c.loop-number.plan.added c.requires.shown c.loop-number.invariant.plans.shown

pub plan_checked-requires-clause-only : goal.plan_checked-requires-clause-only
plan_checked-requires-clause-only c =
    only-one c.args.groups.now c.index-groups-number.result c.requires.named (module_group-among c.args.groups.now c.loop-number.number c.index-groups-number.result c.loop-number-test.true c.index-groups-number.is)

pub loop-number-preserved : goal.loop-number-preserved
loop-number-preserved c =
    let groups = c.args.groups.now in
    let n = c.loop-number.number in
    let group = c.index-groups-number.result in
    let more : take (n + 1) groups ≡ take n groups ++ group ∷ [] = take_more groups n group c.loop-number-test.true ∙ ap (λ (last : WasmRecGroup). take n groups ++ last ∷ []) (sym c.index-groups-number.is) in
    let left : drop n groups ≡ group ∷ drop (n + 1) groups = drop_more groups n group c.loop-number-test.true ∙ ap (λ (first : WasmRecGroup). first ∷ drop (n + 1) groups) (sym c.index-groups-number.is) in
    let none = c.in_default.is in
    let only = only-one groups group c.requires.named (module_group-among groups n group c.loop-number-test.true c.index-groups-number.is) in
    let known = module_trees [] (take n groups) in
    record {
      plans =
          subst (λ (done : List WasmRecGroup). Plans c.args.entries.now done c.args.plan.now c.plan_checked.new.plan) (sym more)
          (plans-more c.args.entries.now (take n groups) c.args.plan.now c.loop-number.plan c.plan_checked.new.plan group only c.loop-number.invariant.plans (c.in_ok-broken.ensures.planned none));
      search =
          ap (λ (trees : List ClosedTree). first_broken_from (n + 1) trees (drop (n + 1) groups)) (ap (module_trees []) more ∙ module_trees-more [] (take n groups) group)
          ∙ broken-later n known group (drop (n + 1) groups) (sym none ∙ c.in_ok-broken.ensures.broken known c.loop-number.invariant.plans.named)
          ∙ ap (first_broken_from n known) (sym left)
          ∙ c.loop-number.invariant.search;
      free = c.in_ok-broken.ensures.free;
      before = λ k. c.in_ok-broken.ensures.before k ∙ c.loop-number.invariant.before k;
    }

pub returns-clause-planned : goal.returns-clause-planned
returns-clause-planned c none =
    let done : c.loop-number.number ≡ length c.args.groups.now = omega (arith, c.loop-number-test.false, c.loop-number.auto.number-end) in
    let all : take c.loop-number.number c.args.groups.now ≡ c.args.groups.now = ap (λ (n : ℕ). take n c.args.groups.now) done ∙ take-length c.args.groups.now in
    subst (λ (groups : List WasmRecGroup). PlansModule c.args.entries.now c.args.plan.now c.loop-number.plan groups) all
    (plans-module c.args.entries.now (take c.loop-number.number c.args.groups.now) c.args.plan.now c.loop-number.plan c.loop-number.invariant.plans)
