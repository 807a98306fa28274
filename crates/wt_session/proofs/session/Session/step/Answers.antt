-- what is kept true of the fields, said of the session
use Rattle.std.proofs.Common.{◌≡◌, ℕ, ◌<◌, List, IfOk, refl, sym, ap, subst, ◌∙◌, arith}
use Rattle.std.proofs.lemmas.Bool.{lt-ltb}
use Rattle.wt_env.specs.Limits.{EngineParts}
use Rattle.wt_env.specs.declared.limits.EngineLimits.{EngineLimits}
use Rattle.wt_model.specs.Subtyping.{is_subtype_index}
use Rattle.wt_model.proofs.subtyping.TypeMaps.{sound-steps}
use Rattle.wt_registry.specs.Sound.{OneIndexPerTree}
use Rattle.wt_session.specs.Session.{rows_of, world_of}
use Rattle.wt_session.specs.declared.handle.Handle.{Handle}
use Rattle.wt_session.specs.World.{World, row_of, HasExactlyReached, HoldsNamedTypes}
use Rattle.wt_commands.specs.Commands.{party_of}
use Rattle.wt_session.specs.Answered.{own_row, trees_asked, NamesTrees, IsAnswered}
use Rattle.wt_session.proofs.Answering.{refused-answered, done-answered}
use Rattle.wt_session.proofs.NamedTypes.{named-held}
use Rattle.wt_session.proofs.Padding.{row_of-padded}
use Rattle.wt_session.proofs.Reached.{reached}
use Rattle.wt_session.proofs.session.Session.step.Goals as goal

pub returns-then-party-bound-clause-reached : goal.returns-then-party-bound-clause-reached
returns-then-party-bound-clause-reached c =
    subst HasExactlyReached c.self.view_is (reached c.self.inside.registry c.self.inside.counts (rows_of c.self.inside.rows.items) c.self.invariant)

pub returns-then-party-bound-clause-answered : goal.returns-then-party-bound-clause-answered
returns-then-party-bound-clause-answered c =
    let bound = ap (λ (limits : EngineLimits). limits.parties) c.limits-bound.ensures.value ∙ ap (λ (engine : EngineParts). engine.limits.parties) c.engine.ensures ∙ ap (λ (world : World). world.registry.engine.limits.parties) c.self.view_is in
    refused-answered c.args.self.now c.args.command.now c.by-party.result c.limits-bound.result.parties c.by-party.ensures bound c.if-party-bound.true
    (subst (λ (world : World). OneIndexPerTree world.registry.made) c.self.view_is c.self.invariant.sound.one_index)
    (subst HasExactlyReached c.self.view_is (reached c.self.inside.registry c.self.inside.counts (rows_of c.self.inside.rows.items) c.self.invariant))

pub returns-clause-answered : goal.returns-clause-answered
returns-clause-answered c =
    let before = world_of c.self.inside.registry c.self.inside.counts (rows_of c.self.inside.rows.items) in
    let after = world_of c.run_command_of_party.new.registry c.run_command_of_party.new.counts (rows_of c.run_command_of_party.new.rows.items) in
    let result = c.run_command_of_party.result in
    let bound = ap (λ (limits : EngineLimits). limits.parties) c.limits-bound.ensures.value ∙ ap (λ (engine : EngineParts). engine.limits.parties) c.engine.ensures in
    let below : party_of c.args.command.now < before.registry.engine.limits.parties = omega (arith, bound, c.by-party.ensures, c.if-party-bound.false) in
    let own : row_of c.by-party.result (rows_of c.self.inside.rows.items) ≡ own_row before c.args.command.now =
    sym (row_of-padded before.registry.engine.limits.parties c.by-party.result (rows_of c.self.inside.rows.items)) ∙ ap (λ (p : ℕ). row_of p before.handles) c.by-party.ensures in
    let named = subst (λ (row : List Handle). IfOk result (λ told. NamesTrees after.registry.made told (trees_asked before.registry row c.args.command.now))) own c.run_command_of_party.ensures.named in
    subst (λ (world : World). IfOk result (λ told. IsAnswered world c.args.command.now told after)) c.self.view_is
    (done-answered before after c.args.command.now result (lt-ltb (party_of c.args.command.now) before.registry.engine.limits.parties below) named c.run_command_of_party.ensures.ok c.self.invariant.sound
    (λ i j. sound-steps c.self.inside.registry c.self.invariant.sound i j (is_subtype_index c.self.inside.registry.made i j) refl)
    (named-held c.self.inside.registry c.self.inside.counts (rows_of c.self.inside.rows.items) c.self.invariant) c.run_command_of_party.ensures.kept.sound.one_index
    (reached c.run_command_of_party.new.registry c.run_command_of_party.new.counts (rows_of c.run_command_of_party.new.rows.items) c.run_command_of_party.ensures.kept))

pub returns-clause-reached : goal.returns-clause-reached
returns-clause-reached c = reached c.run_command_of_party.new.registry c.run_command_of_party.new.counts (rows_of c.run_command_of_party.new.rows.items) c.run_command_of_party.ensures.kept

pub returns-then-party-bound-clause-named_types : goal.returns-then-party-bound-clause-named_types
returns-then-party-bound-clause-named_types c =
    subst HoldsNamedTypes c.self.view_is (named-held c.self.inside.registry c.self.inside.counts (rows_of c.self.inside.rows.items) c.self.invariant)

pub returns-clause-named_types : goal.returns-clause-named_types
returns-clause-named_types c = named-held c.run_command_of_party.new.registry c.run_command_of_party.new.counts (rows_of c.run_command_of_party.new.rows.items) c.run_command_of_party.ensures.kept
