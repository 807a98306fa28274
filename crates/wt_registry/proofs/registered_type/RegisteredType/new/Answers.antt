-- a plan of one type of a host, carried out
use Rattle.std.proofs.Common.{◌≡◌, List, ◌∷◌, [], true, refl, sym, ap, subst, ◌∙◌}
use Rattle.std.proofs.lemmas.Result.{on_ok_weaker}
use Rattle.wt_rules.specs.HostTypes.{is_host_type}
use Rattle.wt_model.specs.Registered.{RegisteredGroup, Registry}
use Rattle.wt_model.specs.Indices.{closed_tree}
use Rattle.wt_model.specs.Plan.{Plan, plan_key}
use Rattle.wt_model.specs.Registration.{host_type, registration_plan, IsRefusal}
use Rattle.wt_model.specs.Sound.{IsSound}
use Rattle.wt_plan.specs.Planned.{plan_of}
use Rattle.wt_holds.specs.Kept.{registry_at}
use Rattle.wt_registry.proofs.HostRegistrations.{refused-before, planned-at, if_ok, both_ok, if_err, refusal-is, accepts, registers, names}
use Rattle.wt_registry.proofs.Soundness.{sound}
use Rattle.wt_registry.proofs.registered_type.RegisteredType.new.Goals as goal

pub returns-in-Some-clause-refused : goal.returns-in-Some-clause-refused
returns-in-Some-clause-refused c = refused-before c.args.registry.now c.args.party.now (host_type c.args.ty) c.in-Some.why (sym c.in-Some.is ∙ c.host_refusal.ensures)

pub returns-in-Some-clause-sound : goal.returns-in-Some-clause-sound
returns-in-Some-clause-sound c = subst IsSound c.registry.view_is (sound c.registry.inside.engine c.registry.inside.groups c.registry.invariant.0)

pub returns-in_err-plan-clause-sound : goal.returns-in_err-plan-clause-sound
returns-in_err-plan-clause-sound c = sound c.registry.inside.engine c.registry.inside.groups c.registry.invariant.0

pub plan_host_type-requires-clause-host : goal.plan_host_type-requires-clause-host
plan_host_type-requires-clause-host c =
    subst (λ (made : List RegisteredGroup). is_host_type (closed_tree made) c.args.ty ≡ true)
    (ap (λ (r : Registry). r.made) (sym c.registry.view_is)) c.requires.host

planned : (c : goal.After-commit_host) → registration_plan c.args.registry.now (host_type c.args.ty) ≡ plan_of c.registry.inside.groups.entries c.in_ok-plan.plan
planned c =
    planned-at (λ (p : Plan). plan_key p (c.args.ty ∷ [])) c.registry.inside.engine c.registry.inside.groups c.registry.inside.groups.entries c.in_ok-plan.plan c.args.registry.now
    refl c.registry.view_is c.in_ok-plan.ensures.planned

pub returns-clause-ok : goal.returns-clause-ok
returns-clause-ok c =
    if_ok c.commit_host.result (both_ok _ _ c.commit_host.result c.commit_host.ensures.accepted c.commit_host.ensures.ok) c.commit_host.ensures.hold
    (λ hold done is.
    registers c.registry.inside.engine c.registry.inside.groups c.in_ok-plan.plan c.args.registry.now (host_type c.args.ty) c.registry.view_is (planned c) (sym c.host_refusal.ensures ∙ c.in_default.is) c.args.party.now c.number.result c.number.ensures
    (registry_at c.registry.inside.engine c.commit_host.new.groups) hold done.0 done.1 is)

pub returns-clause-accepted : goal.returns-clause-accepted
returns-clause-accepted c =
    on_ok_weaker c.commit_host.result
    (accepts c.registry.inside.engine c.registry.inside.groups c.in_ok-plan.plan c.args.registry.now (host_type c.args.ty) c.registry.view_is (planned c) (sym c.host_refusal.ensures ∙ c.in_default.is) c.args.party.now c.number.result c.number.ensures)
    c.commit_host.ensures.accepted

pub returns-clause-refused : goal.returns-clause-refused
returns-clause-refused c =
    if_err c.commit_host.result c.commit_host.ensures.refused
    (λ why is. subst (λ cause. IsRefusal cause why)
    (sym (refusal-is c.registry.inside.engine c.registry.inside.groups c.in_ok-plan.plan c.args.registry.now (host_type c.args.ty) c.registry.view_is (planned c) (sym c.host_refusal.ensures ∙ c.in_default.is) c.args.party.now c.number.result c.number.ensures)) is)

pub returns-clause-named : goal.returns-clause-named
returns-clause-named c =
    if_ok c.commit_host.result c.commit_host.ensures.ok c.commit_host.ensures.only
    (λ hold carried only.
    names c.registry.inside.engine c.registry.inside.groups c.commit_host.new.groups c.registry.inside.groups.entries c.in_ok-plan.plan c.args.registry.now (host_type c.args.ty) c.number.result hold.index
    refl c.registry.view_is c.in_ok-plan.ensures.named only carried)

pub returns-clause-sound : goal.returns-clause-sound
returns-clause-sound c = sound c.registry.inside.engine c.commit_host.new.groups c.commit_host.ensures.kept
