-- the new hold is a handle's, and the indices that are told are those of the trees that were asked
use Rattle.std.proofs.Common.{◌≡◌, List, [], ◌∷◌, map, ◌++◌, length, Some, sym, ap, subst, ◌∙◌}
use Rattle.wt_tree.specs.Tree.{ClosedTree}
use Rattle.wt_registry.specs.Registration.{trees_of}
use Rattle.wt_session.specs.declared.handle.Handle.{Handle}
use Rattle.wt_session.specs.declared.handle.Handle.TheVariants as handle
use Rattle.wt_session.specs.declared.reply.Reply.{Reply}
use Rattle.wt_session.specs.HostTypes.{described}
use Rattle.wt_session.specs.Answered.{NamesTrees}
use Rattle.wt_session.specs.Session.{Keeps}
use Rattle.wt_session.proofs.Answering.{type-names}
use Rattle.wt_session.proofs.HandlesKept.{keeps-more}
use Rattle.wt_session.proofs.type_handles.register_type.Goals as goal

pub returns-in-Ok-clause-named : goal.returns-in-Ok-clause-named
returns-in-Ok-clause-named c =
    let made = c.register_described.new.registry.made in
    let trees : List Handle → List ClosedTree = λ row. trees_of c.args.registry.now.made (described c.args.registry.now.made row c.args.sub.now) in
    let rows : c.as_slice-2.result.now ≡ c.args.row.now.items = c.as_slice-2.ensures.value ∙ c.in_ok-reserve.ensures.items in
    subst (λ (told : Reply). NamesTrees made told (Some (trees c.args.row.now.items))) (sym c.push_type.ensures.reply)
    (type-names made (length c.reserve.new.self.items) c.in-Ok.hold.index (trees c.args.row.now.items)
    (c.in-Ok.ensures.named ∙ ap (λ (row : List Handle). map Some (trees row)) rows))

pub returns-in-Ok-clause-keeps : goal.returns-in-Ok-clause-keeps
returns-in-Ok-clause-keeps c =
    let hold = c.in-Ok.hold in
    let pushed = c.push_type.ensures.row ∙ ap (λ (row : List Handle). row ++ handle.Type hold ∷ []) c.in_ok-reserve.ensures.items in
    subst (Keeps c.args.registry.now c.register_described.new.registry c.args.party.now) (sym pushed)
    (keeps-more c.args.registry.now c.register_described.new.registry c.args.party.now c.args.row.now.items hold c.requires.handles c.in-Ok.ensures.changes c.in-Ok.ensures.held c.in-Ok.ensures.owner c.in-Ok.ensures.sound)
