-- a sweep keeps what is kept, and changes no hold
use Rattle.std.proofs.Common.{sym, subst, ◌∙◌}
use Rattle.wt_model.specs.Sound.{IsSound}
use Rattle.wt_model.specs.Removal.{sweep_debt}
use Rattle.wt_holds.specs.Kept.{registry_at}
use Rattle.wt_holds.proofs.GivenBack.{keys-separate}
use Rattle.wt_holds.proofs.Ready.{ready}
use Rattle.wt_model.proofs.removal.RemovalChanges.{sweep_debt-changes}
use Rattle.wt_registry.proofs.Soundness.{sound}
use Rattle.wt_registry.proofs.registry.TypeRegistry.sweep.Goals as goal

pub sweep_group-requires-clause-ready : goal.sweep_group-requires-clause-ready
sweep_group-requires-clause-ready c = ready c.self.inside.engine c.self.inside.groups c.self.invariant.0

pub invariant_of-self : goal.invariant_of-self
invariant_of-self c = (c.sweep_group.ensures.kept c.self.inside.engine c.self.invariant.0, c.sweep_group.ensures.free)

pub sweep_group-requires-clause-separate : goal.sweep_group-requires-clause-separate
sweep_group-requires-clause-separate c = keys-separate c.self.inside.groups.entries c.self.inside.groups.given.numbers c.self.invariant.0.keys

pub returns-clause-swept : goal.returns-clause-swept
returns-clause-swept c = sym (λ i. sweep_debt (c.self.view_is i) (c.number-number.ensures i)) ∙ c.sweep_group.ensures.swept c.self.inside.engine

pub returns-clause-changes : goal.returns-clause-changes
returns-clause-changes c =
    let before : IsSound c.args.self.now = subst IsSound c.self.view_is (sound c.self.inside.engine c.self.inside.groups c.self.invariant.0) in
    sweep_debt-changes c.args.self.now (registry_at c.self.inside.engine c.sweep_group.new.groups) c.args.debt c.sweep_group.result before.rising before.names_older before.holds (returns-clause-swept c)

pub returns-clause-sound : goal.returns-clause-sound
returns-clause-sound c =
    sound c.self.inside.engine c.sweep_group.new.groups (c.sweep_group.ensures.kept c.self.inside.engine c.self.invariant.0)
