-- the function type's plan, of which nothing occurs any more
use Rattle.std.proofs.Common.{◌≡◌, sym, subst, ◌∙◌}
use Rattle.wt_env.specs.declared.types.VMSharedTypeIndex.{VMSharedTypeIndex}
use Rattle.wt_env.proofs.lists.Members.{first_same}
use Rattle.wt_plan.specs.Planned.{PlansType}
use Rattle.wt_plan.proofs.HostPlans.{type-regrouped}
use Rattle.wt_plan.proofs.host_plan.plan_function.Goals as goal

pub returns-clause-plans : goal.returns-clause-plans
returns-clause-plans c =
    let host = c.in_ok-plan.ensures.plans in
    let i : host.index ≡ c.without_occurrences.result.1 = first_same (sym host.map ∙ c.without_occurrences.ensures.index) in (
      host.number,
      type-regrouped c.args.entries.now c.args.given.numbers c.in_ok-plan.plan c.without_occurrences.result.0 host.number c.without_occurrences.result.1 c.without_occurrences.ensures.added c.without_occurrences.ensures.given
          (subst (λ (j : VMSharedTypeIndex). PlansType c.args.entries.now c.args.given.numbers c.in_ok-plan.plan host.number j) i host.plans),
    )
