-- a group that was there is tested already, and a new one by the indices that it has
use Rattle.std.proofs.Common.{◌≡◌, length, sym, ◌∙◌}
use Rattle.wt_plan.specs.declared.plan.Plan.{Plan as PlanFields}
use Rattle.wt_plan.specs.Planned.{key_of}
use Rattle.wt_plan.proofs.CheckedGroups.{group-resolved, group-slots, shown-then, found-told, new-told, new-rules}
use Rattle.wt_plan.proofs.module_plan.plan_tested.Goals as goal

pub plan_group-requires-clause-named : goal.plan_group-requires-clause-named
plan_group-requires-clause-named c = group-resolved c.args.entries.now c.args.plan.now c.args.group.now c.requires.named.0 c.requires.only c.requires.named.1

pub plan_group-requires-clause-slots : goal.plan_group-requires-clause-slots
plan_group-requires-clause-slots c = group-slots c.args.plan.now c.args.group.now c.requires.only c.requires.ordered

pub first_misnamed_from-requires-clause-shown : goal.first_misnamed_from-requires-clause-shown
first_misnamed_from-requires-clause-shown c =
    shown-then c.args.entries.now c.args.plan.now c.plan_group.new.plan (key_of c.args.plan.now c.args.group.now) c.in_ok-plan_group.ensures.one c.requires.shown

pub returns-then-len-before-clause-broken : goal.returns-then-len-before-clause-broken
returns-then-len-before-clause-broken c known named =
    let same : length c.plan_group.new.plan.added ≡ length c.args.plan.now.added =
    sym c.len.ensures ∙ c.if-len-before.true ∙ c.len-before.ensures in
    found-told c.args.entries.now c.args.plan.now c.plan_group.new.plan c.args.group.now c.requires.only c.requires.keys c.in_ok-plan_group.ensures.one c.in_ok-plan_group.ensures.keys
    c.requires.named.0 c.requires.named.1 c.requires.rules same known named

pub returns-clause-planned : goal.returns-clause-planned
returns-clause-planned c none =
    let after : PlanFields = c.plan_group.new.plan in
    let told =
    new-told c.args.entries.now c.args.plan.now after c.args.group.now c.requires.only c.requires.keys c.in_ok-plan_group.ensures.one c.in_ok-plan_group.ensures.keys
    c.requires.named.0 c.requires.named.1 c.args.start c.first_misnamed_from.result c.requires.start c.first_misnamed_from.ensures c.requires.named.0 c.requires.named.1 in
    record {
      planned = c.in_ok-plan_group.ensures.ok;
      keys = c.in_ok-plan_group.ensures.keys;
      one = c.in_ok-plan_group.ensures.one;
      rules =
          new-rules c.args.entries.now c.args.plan.now after c.args.group.now c.requires.only c.requires.keys c.in_ok-plan_group.ensures.one c.in_ok-plan_group.ensures.keys
          c.requires.named.0 c.requires.named.1 c.requires.rules (sym told ∙ none);
    }

pub returns-clause-broken : goal.returns-clause-broken
returns-clause-broken c known named =
    new-told c.args.entries.now c.args.plan.now c.plan_group.new.plan c.args.group.now c.requires.only c.requires.keys c.in_ok-plan_group.ensures.one c.in_ok-plan_group.ensures.keys
    c.requires.named.0 c.requires.named.1 c.args.start c.first_misnamed_from.result c.requires.start c.first_misnamed_from.ensures known named
