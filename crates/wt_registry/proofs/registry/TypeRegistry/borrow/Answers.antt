-- an index has a sub type exactly where it is located
use Rattle.std.proofs.Common.{◌≡◌, is_some, sym, ap, ◌∙◌}
use Rattle.wt_model.specs.Registered.{Registry}
use Rattle.wt_model.specs.Indices.{locate}
use Rattle.wt_model.proofs.trees.KnownTrees.{is_some-map}
use Rattle.wt_keys.proofs.Borrowed.{borrowed-located}
use Rattle.wt_registry.proofs.registry.TypeRegistry.borrow.Goals as goal

pub borrow_from-requires-clause-shown : goal.borrow_from-requires-clause-shown
borrow_from-requires-clause-shown c = c.self.invariant.0.shown

pub returns-clause-found : goal.returns-clause-found
returns-clause-found c =
    let groups = c.self.inside.groups in
    let i = c.args.index in
    let same : is_some c.borrow_from.result ≡ is_some (locate c.args.self.now.made i) =
    sym (is_some-map (λ x. x.now) c.borrow_from.result)
    ∙ ap is_some c.borrow_from.ensures
    ∙ borrowed-located groups.entries groups.given.numbers i c.self.invariant.0.keys
    ∙ ap (λ (r : Registry). is_some (locate r.made i)) c.self.view_is in
    ((λ found. sym same ∙ found), (λ found. same ∙ found))
