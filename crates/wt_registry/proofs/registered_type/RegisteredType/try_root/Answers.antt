-- the new hold is one of a registered group
use Rattle.std.proofs.Common.{◌≡◌, ℕ, [], ◌∷◌, ap, sym, subst, ◌∙◌, arith}
use Rattle.wt_env.specs.Limits.{EngineParts}
use Rattle.wt_model.specs.Holds.{Hold, IsHeld, hold}
use Rattle.wt_model.specs.Changes.{HoldChanges}
use Rattle.wt_model.proofs.holds.HoldChanges.{hold-changes}
use Rattle.wt_model.proofs.holds.HeldMore.{standing_numbered, held-more}
use Rattle.wt_registry.proofs.registered_type.RegisteredType.try_root.Goals as goal

pub returns-in-Ok-clause-held : goal.returns-in-Ok-clause-held
returns-in-Ok-clause-held c = λ found is.
    let registry = c.args.registry.now in
    let made : Hold = record { engine = c.number-engine.result; index = c.args.index; number = c.in-Some.number; party = c.number-in-Ok.result } in
    let same : made ≡ found = cc in
    let owner : c.number.result ≡ made.party = c.number.ensures ∙ sym c.number-in-Ok.ensures in
    let engine : registry.engine.number ≡ made.engine = ap (λ (e : EngineParts). e.number) (sym c.engine.ensures) ∙ sym c.number-engine.ensures in
    subst (IsHeld c.hold.new.self) same
    (held-more registry c.hold.new.self made c.tell_invariant.ensures.sound (omega (arith, c.number-in-Ok.ensures, c.requires)) engine
    (standing_numbered registry c.args.index c.in-Some.number c.tell_invariant.ensures.sound (sym c.in-Some.ensures)) (sym c.in-Some.ensures)
    (ap (λ (party : ℕ). hold registry party made.number) (sym owner) ∙ c.in-Ok.ensures.ok))

pub returns-in-Ok-clause-changes : goal.returns-in-Ok-clause-changes
returns-in-Ok-clause-changes c = λ found is.
    let registry = c.args.registry.now in
    let made : Hold = record { engine = c.number-engine.result; index = c.args.index; number = c.in-Some.number; party = c.number-in-Ok.result } in
    let same : made ≡ found = cc in
    subst (λ (number : ℕ). HoldChanges registry c.hold.new.self c.args.party.now (number ∷ [])) (ap (λ (held : Hold). held.number) same)
    (hold-changes registry c.hold.new.self c.args.party.now c.in-Some.number c.tell_invariant.ensures.sound c.requires
    (standing_numbered registry c.args.index c.in-Some.number c.tell_invariant.ensures.sound (sym c.in-Some.ensures))
    (ap (λ (party : ℕ). hold registry party c.in-Some.number) (sym c.number.ensures) ∙ c.in-Ok.ensures.ok))
