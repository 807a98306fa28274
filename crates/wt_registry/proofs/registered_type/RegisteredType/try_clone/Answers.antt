-- what is held can be held once more
use Rattle.std.proofs.Common.{◌<◌, arith, ◌≡◌, ℕ, ap, sym, subst, ◌∙◌}
use Rattle.wt_model.specs.Holds.{Hold, IsHeld, hold}
use Rattle.wt_model.proofs.holds.HoldChanges.{hold-changes}
use Rattle.wt_model.proofs.holds.HeldMore.{standing_held, held-more}
use Rattle.wt_registry.proofs.registered_type.RegisteredType.try_clone.Goals as goal

pub returns-in-Ok-clause-held : goal.returns-in-Ok-clause-held
returns-in-Ok-clause-held c =
    let registry = c.args.registry.now in
    let copy : Hold = record { engine = c.self.inside.engine; index = c.self.inside.index; number = c.self.inside.number; party = c.self.inside.party } in
    let held : IsHeld registry copy = subst (IsHeld registry) (sym c.self.view_is) c.requires.held in
    let owner : c.number.result ≡ copy.party = c.number.ensures ∙ c.requires.owner ∙ ap (λ (h : Hold). h.party) (sym c.self.view_is) in
    held-more registry c.hold.new.self copy c.tell_invariant.ensures.sound held.party held.engine (standing_held registry.standings copy.party copy.number held.held) held.located
    (ap (λ (party : ℕ). hold registry party copy.number) (sym owner) ∙ c.in-Ok.ensures.ok)

pub returns-in-Ok-clause-changes : goal.returns-in-Ok-clause-changes
returns-in-Ok-clause-changes c =
    let registry = c.args.registry.now in
    let copy : Hold = record { engine = c.self.inside.engine; index = c.self.inside.index; number = c.self.inside.number; party = c.self.inside.party } in
    let held : IsHeld registry copy = subst (IsHeld registry) (sym c.self.view_is) c.requires.held in
    let owner : c.args.party.now ≡ copy.party = c.requires.owner ∙ ap (λ (h : Hold). h.party) (sym c.self.view_is) in
    let within : c.args.party.now < registry.engine.limits.parties = omega (arith, owner, held.party) in
    hold-changes registry c.hold.new.self c.args.party.now copy.number c.tell_invariant.ensures.sound within (standing_held registry.standings copy.party copy.number held.held)
    (ap (λ (party : ℕ). hold registry party copy.number) (sym c.number.ensures) ∙ c.in-Ok.ensures.ok)
