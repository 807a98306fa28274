-- an index that names a type is below the limit on types
use Rattle.std.proofs.Common.{◌≡◌, ◌≤◌, ◌^◌, true, is_some, sym, ap, subst, ◌∙◌, arith}
use Rattle.std.proofs.lemmas.Bool.{false_from_ne_true}
use Rattle.wt_model.specs.Indices.{locate}
use Rattle.wt_model.specs.Registered.{Registry}
use Rattle.wt_model.specs.Sound.{AreBelow}
use Rattle.wt_model.proofs.indices.Below.{located-below}
use Rattle.wt_registry.proofs.registry.TypeRegistry.contains.Goals as goal

pub returns-clause-reserved : goal.returns-clause-reserved
returns-clause-reserved c = λ reserved. false_from_ne_true c.is_some.result (λ found.
    let registry = c.args.self.now in
    let some : is_some (locate registry.made c.args.index) ≡ true = (c.borrow.ensures.found).0 (sym c.is_some.ensures ∙ found) in
    let below : AreBelow c.self.inside.engine.limits.types registry.made = subst (λ (r : Registry). AreBelow c.self.inside.engine.limits.types r.made) c.self.view_is c.self.invariant.0.below in
    let within = located-below c.self.inside.engine.limits.types registry.made c.args.index below some in
    let bound : c.limits-bounded.result.types ≡ c.self.inside.engine.limits.types = ap (λ l. l.types) c.limits-bounded.ensures.value in
    let greatest : c.limits-bounded.result.types ≤ 2 ^ 28 = (c.limits-bounded.ensures.valid).types in
    omega (arith, within, bound, greatest, reserved))
