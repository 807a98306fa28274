-- the exception behind its function type
use Rattle.std.proofs.Common.{◌≡◌, true, ◌++◌, ◌∷◌, [], refl, sym, ap, subst, ◌∙◌}
use Rattle.wt_env.specs.declared.types.EngineOrModuleTypeIndex.TheVariants as index
use Rattle.wt_env.specs.declared.types.WasmSubType.{WasmSubType}
use Rattle.wt_tree.specs.Tree.{Tree}
use Rattle.wt_rules.specs.HostTypes.{is_host_type}
use Rattle.wt_model.specs.HostExceptions.{exception_function, exception_over}
use Rattle.wt_model.specs.Indices.{closed_tree}
use Rattle.wt_model.specs.Plan.{Plan, plan_key, without_occurrences}
use Rattle.wt_keys.specs.Entries.{made_by}
use Rattle.wt_plan.specs.Planned.{plan_of, PlansOne, AreNamed, nothing_planned}
use Rattle.wt_plan.proofs.HostPlans.{type-nothing, host-planned, host-named}
use Rattle.wt_plan.proofs.ExceptionPlans.{exception-host, exception-kept, exception-tree, exception-leads}
use Rattle.wt_plan.proofs.host_plan.plan_exception.Goals as goal

pub plan_type-requires-clause-host : goal.plan_type-requires-clause-host
plan_type-requires-clause-host c =
    let told = c.in_ok-plan.ensures in
    subst (λ (ty : WasmSubType). is_host_type (closed_tree (made_by (c.args.entries.now ++ c.in_ok-plan.plan.added))) ty ≡ true) (sym c.in_ok-exception.ensures)
    (exception-host c.args.entries.now c.args.given.numbers c.in_ok-plan.plan told.plans.0 c.in_ok-plan.index c.args.fields.now c.requires.keys told.plans.1 c.requires.host told.named)

pub returns-clause-planned : goal.returns-clause-planned
returns-clause-planned c =
    let told = c.in_ok-plan.ensures in
    let function = plan_key (nothing_planned c.args.entries.now c.args.given) (exception_function c.args.fields.now ∷ []) in
    (λ k. plan_key (without_occurrences function) (exception_over (index.Engine (told.first k)) c.args.fields.now ∷ []))
    ∙ ap (λ (p : Plan). plan_key p (exception_over (index.Engine c.in_ok-plan.index) c.args.fields.now ∷ [])) told.planned
    ∙ ap (λ (ty : WasmSubType). plan_key (plan_of c.args.entries.now c.in_ok-plan.plan) (ty ∷ [])) (sym c.in_ok-exception.ensures)
    ∙ c.in_ok-plan_type.ensures.planned

pub returns-clause-plans : goal.returns-clause-plans
returns-clause-plans c =
    let told = c.in_ok-plan.ensures in
    let entries = c.args.entries.now in
    let before = c.in_ok-plan.plan in
    let after = c.plan_type.new.plan in
    let one = subst (λ (ty : WasmSubType). PlansOne entries before after (ty ∷ [])) c.in_ok-exception.ensures c.in_ok-plan_type.ensures.one in
    let nothing = type-nothing entries c.args.given.numbers before told.plans.0 c.in_ok-plan.index told.plans.1 (sym (ap (λ (p : Plan). p.numbers) told.planned)) (sym (ap (λ (p : Plan). p.map) told.planned)) in
    host-planned entries c.args.given.numbers before after (exception_over (index.Engine c.in_ok-plan.index) c.args.fields.now) nothing c.in_ok-plan_type.ensures.keys one
    (exception-host entries c.args.given.numbers before told.plans.0 c.in_ok-plan.index c.args.fields.now c.requires.keys told.plans.1 c.requires.host told.named)
    (exception-kept entries c.args.given.numbers before told.plans.0 c.in_ok-plan.index c.args.fields.now c.requires.keys told.plans.1 c.requires.host told.named)
    (exception-leads entries c.args.given.numbers before told.plans.0 c.in_ok-plan.index c.args.fields.now c.requires.keys told.plans.1 c.requires.host told.named before after refl c.in_ok-plan_type.ensures.keys one)

pub returns-clause-named : goal.returns-clause-named
returns-clause-named c =
    let told = c.in_ok-plan.ensures in
    let entries = c.args.entries.now in
    let before = c.in_ok-plan.plan in
    let after = c.plan_type.new.plan in
    let one = subst (λ (ty : WasmSubType). PlansOne entries before after (ty ∷ [])) c.in_ok-exception.ensures c.in_ok-plan_type.ensures.one in
    let nothing = type-nothing entries c.args.given.numbers before told.plans.0 c.in_ok-plan.index told.plans.1 (sym (ap (λ (p : Plan). p.numbers) told.planned)) (sym (ap (λ (p : Plan). p.map) told.planned)) in
    subst (λ (tree : Tree). AreNamed entries after (record { tree = tree; place = 0 } ∷ []))
    (exception-tree entries c.args.given.numbers before told.plans.0 c.in_ok-plan.index c.args.fields.now c.requires.keys told.plans.1 c.requires.host told.named)
    (host-named entries c.args.given.numbers before after (exception_over (index.Engine c.in_ok-plan.index) c.args.fields.now) nothing c.in_ok-plan_type.ensures.keys one
    (exception-host entries c.args.given.numbers before told.plans.0 c.in_ok-plan.index c.args.fields.now c.requires.keys told.plans.1 c.requires.host told.named)
    (exception-kept entries c.args.given.numbers before told.plans.0 c.in_ok-plan.index c.args.fields.now c.requires.keys told.plans.1 c.requires.host told.named))
