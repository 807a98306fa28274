-- the trampoline of one more member
use Rattle.std.proofs.Common.{◌≡◌, ℕ, ◌+◌, List, [], ◌∷◌, ◌++◌, Option, take, ap, subst, sym, ◌∙◌}
use Rattle.std.proofs.lemmas.List.{take_more}
use Rattle.wt_env.specs.declared.types.WasmSubType.{WasmSubType}
use Rattle.wt_plan.specs.Planned.{PlansTrampolines}
use Rattle.wt_plan.proofs.PlannedTrampolines.{trampolines-more}
use Rattle.wt_plan.proofs.plan.plan_trampolines.Goals as goal

pub loop-ty-preserved : goal.loop-ty-preserved
loop-ty-preserved c =
    let entries = c.args.entries.now in
    let before = c.args.plan.now in
    let after = c.plan_trampoline.new.plan in
    let types = c.args.types.now in
    let n = c.loop-ty.ty-index in
    let ty = c.ty-item.result in
    let one = c.in_ok-plan_trampoline.field-0 in
    let members : take (n + 1) types ≡ take n types ++ ty ∷ [] = take_more types n ty c.loop-ty-test.true ∙ ap (λ (last : WasmSubType). take n types ++ last ∷ []) (sym c.ty-item.is) in
    record {
      planned =
          subst (λ (so_far : List WasmSubType). PlansTrampolines entries before after so_far c.push.new.self) (sym members)
          (subst (λ (told : List (Option ℕ)). PlansTrampolines entries before after (take n types ++ ty ∷ []) told) (sym c.in_ok-push.ensures.ok)
          (trampolines-more entries before c.loop-ty.plan after (take n types) c.loop-ty.told ty one c.loop-ty.invariant.planned
          c.in_ok-plan_trampoline.ensures.told c.in_ok-plan_trampoline.ensures.ok c.in_ok-plan_trampoline.ensures.keys));
      free = c.in_ok-plan_trampoline.ensures.free;
      before = λ k. c.in_ok-plan_trampoline.ensures.before k ∙ c.loop-ty.invariant.before k;
    }
