-- one type of a host, over a plan of nothing
use Rattle.std.proofs.Common.{◌≡◌, true, None, List, ◌++◌, ◌∷◌, [], sym, ap, subst, ◌∙◌}
use Rattle.std.proofs.lemmas.List.{append-nil}
use Rattle.wt_env.specs.Among.{Among}
use Rattle.wt_rules.specs.HostTypes.{is_host_type, host_breach}
use Rattle.wt_model.specs.declared.ever.EverRegistered.{EverRegistered}
use Rattle.wt_model.specs.Describe.{tree_of}
use Rattle.wt_model.specs.Indices.{closed_tree}
use Rattle.wt_model.specs.Plan.{Plan, plan_key}
use Rattle.wt_keys.specs.declared.entry.RecGroupEntry.{RecGroupEntry}
use Rattle.wt_keys.specs.Entries.{made_by}
use Rattle.wt_plan.specs.Planned.{plan_of, AreNamed, nothing_planned}
use Rattle.wt_plan.proofs.HostPlans.{plans-nothing, host-planned, host-named}
use Rattle.wt_plan.proofs.host_plan.plan_host_type.Goals as goal

pub plan_type-requires-clause-host : goal.plan_type-requires-clause-host
plan_type-requires-clause-host c =
    let none = ap (λ (added : List RecGroupEntry). c.args.entries.now ++ added) c.new-plan.ensures.added ∙ append-nil c.args.entries.now in
    subst (λ (es : List RecGroupEntry). is_host_type (closed_tree (made_by es)) c.args.ty ≡ true) (sym none) c.requires.host

pub returns-clause-planned : goal.returns-clause-planned
returns-clause-planned c =
    let empty : nothing_planned c.args.entries.now c.args.given ≡ plan_of c.args.entries.now c.new-plan.result =
    λ k. record {
      registered = made_by c.args.entries.now;
      added = made_by (sym c.new-plan.ensures.added k);
      given = sym c.new-plan.ensures.given k;
      numbers = sym c.new-plan.ensures.numbers k;
      map = sym c.new-plan.ensures.map k;
    } in
    ap (λ (p : Plan). plan_key p (c.args.ty ∷ [])) empty ∙ c.in_ok-plan_type.ensures.planned

pub returns-clause-plans : goal.returns-clause-plans
returns-clause-plans c =
    let none = ap (λ (added : List RecGroupEntry). c.args.entries.now ++ added) c.new-plan.ensures.added ∙ append-nil c.args.entries.now in
    host-planned c.args.entries.now c.args.given.numbers c.new-plan.result c.plan_type.new.plan c.args.ty
    (plans-nothing c.args.entries.now c.args.given.numbers c.new-plan.result c.new-plan.ensures.added (ap (λ (g : EverRegistered). g.numbers) c.new-plan.ensures.given) c.new-plan.ensures.numbers c.new-plan.ensures.map c.requires.keys c.requires.rules)
    c.in_ok-plan_type.ensures.keys c.in_ok-plan_type.ensures.one
    (subst (λ (es : List RecGroupEntry). is_host_type (closed_tree (made_by es)) c.args.ty ≡ true) (sym none) c.requires.host)
    (subst (λ (es : List RecGroupEntry). host_breach (closed_tree (made_by es)) c.args.ty ≡ None) (sym none) c.requires.kept)
    (λ e at. absurd (subst (Among e) c.new-plan.ensures.added at))

pub returns-clause-named : goal.returns-clause-named
returns-clause-named c =
    let none = ap (λ (added : List RecGroupEntry). c.args.entries.now ++ added) c.new-plan.ensures.added ∙ append-nil c.args.entries.now in
    subst (λ (es : List RecGroupEntry). AreNamed c.args.entries.now c.plan_type.new.plan (record { tree = tree_of (made_by es) (c.args.ty ∷ []); place = 0 } ∷ [])) none
    (host-named c.args.entries.now c.args.given.numbers c.new-plan.result c.plan_type.new.plan c.args.ty
    (plans-nothing c.args.entries.now c.args.given.numbers c.new-plan.result c.new-plan.ensures.added (ap (λ (g : EverRegistered). g.numbers) c.new-plan.ensures.given) c.new-plan.ensures.numbers c.new-plan.ensures.map c.requires.keys c.requires.rules)
    c.in_ok-plan_type.ensures.keys c.in_ok-plan_type.ensures.one
    (subst (λ (es : List RecGroupEntry). is_host_type (closed_tree (made_by es)) c.args.ty ≡ true) (sym none) c.requires.host)
    (subst (λ (es : List RecGroupEntry). host_breach (closed_tree (made_by es)) c.args.ty ≡ None) (sym none) c.requires.kept))
