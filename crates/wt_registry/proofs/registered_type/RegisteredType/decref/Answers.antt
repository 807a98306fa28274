-- the end of a hold takes that hold, and no other
use Rattle.std.proofs.Common.{◌≡◌, ◌≤◌, ℕ, Option, Some, None, OnSome, IfNone, ap, sym, subst, ◌∙◌, arith}
use Rattle.wt_model.specs.Registered.{Registry}
use Rattle.wt_model.specs.Holds.{Hold, held_at}
use Rattle.wt_model.specs.Removal.{drop_hold}
use Rattle.wt_model.specs.Sound.{IsSound}
use Rattle.wt_model.specs.Changes.{IsStillReached}
use Rattle.wt_model.proofs.removal.RemovalChanges.{drop_hold-changes, drop_hold-owed, drop_hold-settled}
use Rattle.wt_registry.proofs.registered_type.RegisteredType.decref.Goals as goal

-- the drop by the number and the party of the hold
dropped : (registry new : Registry) (party told number inside : ℕ) (debt : Option ℕ) → told ≡ party → inside ≡ number → drop_hold registry told inside ≡ (debt, new) → drop_hold registry party number ≡ (debt, new)
dropped registry new party told number inside debt owner same is = sym (λ i. drop_hold registry (owner i) (same i)) ∙ is

owes : (old new : Registry) (party number : ℕ) (debt : Option ℕ) → IsSound old → 1 ≤ held_at old.standings party number → drop_hold old party number ≡ (debt, new) → OnSome debt (IsStillReached old new number → ⊥)
owes old new party number (Some n) sound held is = drop_hold-owed old new party number n sound.rising sound.names_older sound.holds held is
owes old new party number None sound held is = tt

settles : (old new : Registry) (party number : ℕ) (debt : Option ℕ) → drop_hold old party number ≡ (debt, new) → IfNone debt (IsStillReached old new number)
settles old new party number (Some n) is = tt
settles old new party number None is = drop_hold-settled old new party number is

pub returns-clause-owed : goal.returns-clause-owed
returns-clause-owed c =
    let registry = c.args.registry.now in
    let number : c.self.inside.number ≡ c.args.self.number = ap (λ (h : Hold). h.number) c.self.view_is in
    owes registry c.end_hold.new.self c.args.party.now c.args.self.number c.end_hold.result c.tell_invariant.ensures.sound
    (subst (λ (party : ℕ). 1 ≤ held_at registry.standings party c.args.self.number) (sym c.requires.owner) c.requires.held.held)
    (dropped registry c.end_hold.new.self c.args.party.now c.number.result c.args.self.number c.self.inside.number c.end_hold.result c.number.ensures number c.end_hold.ensures.dropped)

pub returns-clause-settled : goal.returns-clause-settled
returns-clause-settled c =
    let registry = c.args.registry.now in
    let number : c.self.inside.number ≡ c.args.self.number = ap (λ (h : Hold). h.number) c.self.view_is in
    settles registry c.end_hold.new.self c.args.party.now c.args.self.number c.end_hold.result
    (dropped registry c.end_hold.new.self c.args.party.now c.number.result c.args.self.number c.self.inside.number c.end_hold.result c.number.ensures number c.end_hold.ensures.dropped)

pub returns-clause-changes : goal.returns-clause-changes
returns-clause-changes c =
    let registry = c.args.registry.now in
    let number : c.self.inside.number ≡ c.args.self.number = ap (λ (h : Hold). h.number) c.self.view_is in
    drop_hold-changes registry c.end_hold.new.self c.args.party.now c.args.self.number c.end_hold.result c.tell_invariant.ensures.sound.holds (omega (arith, c.requires.owner, c.requires.held.party))
    (subst (λ (party : ℕ). 1 ≤ held_at registry.standings party c.args.self.number) (sym c.requires.owner) c.requires.held.held)
    (dropped registry c.end_hold.new.self c.args.party.now c.number.result c.args.self.number c.self.inside.number c.end_hold.result c.number.ensures number c.end_hold.ensures.dropped)
