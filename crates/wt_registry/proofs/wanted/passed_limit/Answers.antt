-- the limits on what is registered first, then those on holds
use Rattle.std.proofs.Common.{◌≡◌, ◌++◌, List, None, sym, ap, ◌∙◌}
use Rattle.std.proofs.lemmas.Result.{IfOk-weaker}
use Rattle.wt_model.specs.Registered.{RegisteredGroup}
use Rattle.wt_model.specs.Limits.{first_full, holds_wanted, wanted_of}
use Rattle.wt_model.specs.Plan.{groups_of}
use Rattle.wt_keys.specs.Entries.{made_by}
use Rattle.wt_plan.specs.Planned.{plan_of}
use Rattle.wt_plan.proofs.Planning.{groups_of-joined}
use Rattle.wt_holds.specs.Counts.{standings_of}
use Rattle.wt_model.proofs.plan.HoldsWanted.{first_full-first, first_full-second}
use Rattle.wt_registry.proofs.wanted.passed_limit.Goals as goal

pub returns-in-Some : goal.returns-in-Some
returns-in-Some c =
    let limits = c.args.engine.now.limits in
    let plan = plan_of c.args.entries.now c.args.plan.now in
    let standings = standings_of c.args.counts.now in
    let told =
    c.in_ok-full.ensures
    ∙ (λ i. first_full (wanted_of ((c.limits-limits.ensures.value) i) (made_by (c.args.entries.now ++ (c.as_slice-added.ensures) i)) c.args.plan.now.given.numbers))
    ∙ ap (λ (made : List RegisteredGroup). first_full (wanted_of limits made c.args.plan.now.given.numbers)) (sym (groups_of-joined c.args.entries.now c.args.plan.now)) in
    sym (first_full-first (wanted_of limits (groups_of plan) plan.given.numbers) (holds_wanted limits standings c.args.party plan.numbers plan.numbers) c.in-Some.full (sym told ∙ c.in-Some.is))

pub returns-in-None : goal.returns-in-None
returns-in-None c =
    let limits = c.args.engine.now.limits in
    let plan = plan_of c.args.entries.now c.args.plan.now in
    let standings = standings_of c.args.counts.now in
    let told =
    c.in_ok-full.ensures
    ∙ (λ i. first_full (wanted_of ((c.limits-limits.ensures.value) i) (made_by (c.args.entries.now ++ (c.as_slice-added.ensures) i)) c.args.plan.now.given.numbers))
    ∙ ap (λ (made : List RegisteredGroup). first_full (wanted_of limits made c.args.plan.now.given.numbers)) (sym (groups_of-joined c.args.entries.now c.args.plan.now)) in
    let none : first_full (wanted_of limits (groups_of plan) plan.given.numbers) ≡ None = sym told ∙ c.in-None.is in
    IfOk-weaker c.passed_hold.result _ _
    (λ full of_holds. of_holds
    ∙ (λ i. first_full (holds_wanted ((c.limits-limits.ensures.value) i) standings c.args.party ((c.as_slice.ensures.value) i) ((c.as_slice.ensures.value) i)))
    ∙ sym (first_full-second (wanted_of limits (groups_of plan) plan.given.numbers) (holds_wanted limits standings c.args.party plan.numbers plan.numbers) none))
    c.passed_hold.ensures
