-- where the index is that of a type of this kind, there is a hold
use Rattle.std.proofs.Common.{◌≡◌, ◌↔◌, Result, Ok, Err, Option, IfOk, IsSome, sym, ◌∙◌}
use Rattle.wt_model.specs.declared.refusal.Full.{Full}
use Rattle.wt_model.specs.Holds.{Hold, root}
use Rattle.wt_core.specs.CoreTypes.{IsOfKind}
use Rattle.wt_core.proofs.RootedKinds.{rooted-some}
use Rattle.wt_core.proofs.core_type.root_of_kind.Goals as goal

pub returns-then-is_of_kind-clause-found : goal.returns-then-is_of_kind-clause-found
returns-then-is_of_kind-clause-found c = by c.try_root.result c.try_root.ensures.ok
  where
    is : IsOfKind c.args.registry.now.made c.args.kind c.args.index
    is = sym c.is_of_kind.ensures ∙ c.if-is_of_kind.true

    by : (result : Result (Option Hold) Full) → IfOk result (λ found. root c.args.registry.now c.args.party.now c.args.index ≡ Ok (found, c.try_root.new.registry))
        → IfOk result (λ found. IsSome found ↔ IsOfKind c.args.registry.now.made c.args.kind c.args.index)
    by (Ok found) same = (λ some. is, λ kind. rooted-some c.args.registry.now c.try_root.new.registry c.args.party.now c.args.kind c.args.index found c.tell_invariant.ensures.sound kind same)
    by (Err full) same = tt
