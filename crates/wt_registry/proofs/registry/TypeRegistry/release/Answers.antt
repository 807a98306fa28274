-- the registry before and after is that of the fields
use Rattle.std.proofs.Common.{ℕ, ◌<◌, ◌≤◌, sym, subst, ◌∙◌, arith}
use Rattle.wt_model.specs.Registered.{Registry}
use Rattle.wt_model.specs.Holds.{held_at, times}
use Rattle.wt_model.specs.Removal.{release_holds}
use Rattle.wt_model.specs.Sound.{IsSound}
use Rattle.wt_model.specs.Changes.{ReleaseChanges}
use Rattle.wt_model.proofs.removal.Releasing.{release_holds-changes}
use Rattle.wt_registry.proofs.Soundness.{sound}
use Rattle.wt_registry.proofs.registry.TypeRegistry.release.Goals as goal

pub returns-clause-released : goal.returns-clause-released
returns-clause-released c =
    sym (λ i. release_holds (c.self.view_is i) (c.number.ensures i) (c.numbers.ensures i)) ∙ c.release_groups.ensures.released

pub returns-clause-changes : goal.returns-clause-changes
returns-clause-changes c =
    let old = c.args.self.now in
    let party = c.args.party.now in
    let before : IsSound old = subst IsSound c.self.view_is (sound c.self.inside.engine c.self.inside.groups c.self.invariant.0) in
    let numbers = c.args.collection.numbers in
    let owner = c.requires.owner in
    let within : party < old.engine.limits.parties = omega (arith, owner, c.requires.held.party) in
    subst (λ (new : Registry). ReleaseChanges old new party c.args.collection.numbers) (returns-clause-released c)
    (release_holds-changes old party numbers before.rising before.names_older before.holds within
    (λ n. subst (λ (p : ℕ). times n numbers ≤ held_at old.standings p n) (sym owner) (c.requires.held.held n)))

pub returns-clause-sound : goal.returns-clause-sound
returns-clause-sound c = sound c.self.inside.engine c.release_groups.new.groups c.release_groups.ensures.kept
