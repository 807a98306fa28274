-- a member's trampoline is its own, or a group of its own is planned
use Rattle.std.proofs.Common.{Option, Some, subst, sym, ◌∙◌}
use Rattle.wt_env.specs.declared.types.WasmSubType.{WasmSubType}
use Rattle.wt_tree.proofs.Trampolines.{other-own}
use Rattle.wt_plan.specs.Planned.{PlansTold}
use Rattle.wt_plan.proofs.PlannedTrampolines.{told-alone}
use Rattle.wt_plan.proofs.plan.plan_trampoline.Goals as goal

pub plan_alone-requires-clause-own : goal.plan_alone-requires-clause-own
plan_alone-requires-clause-own c = other-own c.args.ty.now c.in-Some.member (sym c.in_ok-member.ensures ∙ c.in-Some.is)

pub returns-in_ok-plan_alone-in-Some-clause-told : goal.returns-in_ok-plan_alone-in-Some-clause-told
returns-in_ok-plan_alone-in-Some-clause-told c =
    let number = c.in_ok-plan_alone-in-Some.field-0 in
    subst (λ (other : Option WasmSubType). PlansTold c.args.entries.now c.args.plan.now c.plan_alone.new.plan other (Some number)) (sym c.in-Some.is ∙ c.in_ok-member.ensures)
    (told-alone c.args.entries.now c.args.plan.now c.plan_alone.new.plan c.in-Some.member number c.in_ok-plan_alone-in-Some.ensures.alone)
