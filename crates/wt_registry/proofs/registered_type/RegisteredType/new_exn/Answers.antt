-- a plan of an exception of a host, carried out
use Rattle.std.proofs.Common.{◌≡◌, None, inl, refl, sym, ap, subst, ◌∙◌}
use Rattle.std.specs.Option.{option_or}
use Rattle.std.proofs.lemmas.Result.{on_ok_weaker, on_err_weaker}
use Rattle.wt_model.specs.Registered.{Registry}
use Rattle.wt_model.specs.Plan.{Plan, plan_exception}
use Rattle.wt_model.specs.Registration.{host_exception, registration_plan, rule_refusal, gc_refusal, IsRefusal}
use Rattle.wt_model.specs.Sound.{IsSound}
use Rattle.wt_model.proofs.plan.Refusals.{gc-allowed}
use Rattle.wt_plan.specs.Planned.{plan_of}
use Rattle.wt_holds.specs.Kept.{registry_at}
use Rattle.wt_registry.proofs.HostRegistrations.{planned-at, if_ok, both_ok, if_err, refusal-is, accepts, registers, names}
use Rattle.wt_registry.proofs.FreeKept.{either-free}
use Rattle.wt_keys.specs.Entries.{made_by}
use Rattle.wt_registry.proofs.Soundness.{sound}
use Rattle.wt_registry.proofs.registered_type.RegisteredType.new_exn.Goals as goal

pub returns-then-not-gc-clause-sound : goal.returns-then-not-gc-clause-sound
returns-then-not-gc-clause-sound c = subst IsSound c.registry.view_is (sound c.registry.inside.engine c.registry.inside.groups c.registry.invariant.0)

pub returns-in_err-plan-clause-sound : goal.returns-in_err-plan-clause-sound
returns-in_err-plan-clause-sound c = sound c.registry.inside.engine c.registry.inside.groups c.registry.invariant.0

planned : (c : goal.After-commit_host) → registration_plan c.args.registry.now (host_exception c.args.fields.now) ≡ plan_of c.registry.inside.groups.entries c.in_ok-plan.plan
planned c =
    planned-at (λ (p : Plan). plan_exception p c.args.fields.now) c.registry.inside.engine c.registry.inside.groups c.registry.inside.groups.entries c.in_ok-plan.plan c.args.registry.now
    refl c.registry.view_is c.in_ok-plan.ensures.planned

-- the engine has garbage collection
clear : (c : goal.After-commit_host) → option_or (rule_refusal c.args.registry.now (host_exception c.args.fields.now)) (gc_refusal c.args.registry.now (host_exception c.args.fields.now)) ≡ None
clear c =
    gc-allowed c.args.registry.now (host_exception c.args.fields.now)
    (inl (ap (λ (r : Registry). r.engine.gc) (sym c.registry.view_is) ∙ sym c.gc.ensures ∙ c.if-not-gc.false))

pub returns-clause-ok : goal.returns-clause-ok
returns-clause-ok c =
    if_ok c.commit_host.result (both_ok _ _ c.commit_host.result c.commit_host.ensures.accepted c.commit_host.ensures.ok) c.commit_host.ensures.hold
    (λ hold done is.
    registers c.registry.inside.engine c.registry.inside.groups c.in_ok-plan.plan c.args.registry.now (host_exception c.args.fields.now) c.registry.view_is (planned c) (clear c) c.args.party.now c.number.result c.number.ensures
    (registry_at c.registry.inside.engine c.commit_host.new.groups) hold done.0 done.1 is)

pub returns-clause-accepted : goal.returns-clause-accepted
returns-clause-accepted c =
    on_ok_weaker c.commit_host.result
    (accepts c.registry.inside.engine c.registry.inside.groups c.in_ok-plan.plan c.args.registry.now (host_exception c.args.fields.now) c.registry.view_is (planned c) (clear c) c.args.party.now c.number.result c.number.ensures)
    c.commit_host.ensures.accepted

pub returns-clause-refused : goal.returns-clause-refused
returns-clause-refused c =
    if_err c.commit_host.result c.commit_host.ensures.refused
    (λ why is. subst (λ cause. IsRefusal cause why)
    (sym (refusal-is c.registry.inside.engine c.registry.inside.groups c.in_ok-plan.plan c.args.registry.now (host_exception c.args.fields.now) c.registry.view_is (planned c) (clear c) c.args.party.now c.number.result c.number.ensures)) is)

pub returns-clause-named : goal.returns-clause-named
returns-clause-named c =
    if_ok c.commit_host.result c.commit_host.ensures.ok c.commit_host.ensures.only
    (λ hold carried only.
    names c.registry.inside.engine c.registry.inside.groups c.commit_host.new.groups c.registry.inside.groups.entries c.in_ok-plan.plan c.args.registry.now (host_exception c.args.fields.now) c.number.result hold.index
    refl c.registry.view_is c.in_ok-plan.ensures.named only carried)

pub returns-clause-sound : goal.returns-clause-sound
returns-clause-sound c = sound c.registry.inside.engine c.commit_host.new.groups c.commit_host.ensures.kept

pub invariant_of-registry-2 : goal.invariant_of-registry-2
invariant_of-registry-2 c = (
  c.commit_host.ensures.kept,
  either-free c.commit_host.result c.registry.inside.groups.entries c.in_ok-plan.plan.added (made_by c.commit_host.new.groups.entries) (made_by c.registry.inside.groups.entries)
      c.registry.inside.free c.return_taken.new.self c.plan_exception.new.free c.commit_host.new.free c.registry.invariant.1 c.return_taken.ensures.free c.return_taken.ensures.taken
      c.in_ok-plan.ensures.before c.in_ok-plan.ensures.free c.commit_host.ensures.made c.commit_host.ensures.settled c.commit_host.ensures.unsettled
      (on_err_weaker c.commit_host.result (λ is. ap (λ (r : Registry). r.made) is) c.commit_host.ensures.err),
)
