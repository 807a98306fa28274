-- the module's holds are a handle's, and what was told is the definition's answer
use Rattle.std.proofs.Common.{List, [], ◌∷◌, ◌++◌, sym, ap, subst, ◌∙◌, arith, length, Some}
use Rattle.wt_tree.specs.ModuleTree.{module_trees}
use Rattle.wt_registry.specs.Rules.{total_members}
use Rattle.wt_session.specs.declared.handle.Handle.{Handle}
use Rattle.wt_session.specs.declared.handle.Handle.TheVariants as handle
use Rattle.wt_session.specs.declared.reply.Reply.{Reply}
use Rattle.wt_session.specs.Answered.{NamesTrees}
use Rattle.wt_session.specs.Session.{Keeps}
use Rattle.wt_session.proofs.Answering.{module-names}
use Rattle.wt_session.proofs.HandlesKept.{keeps-module}
use Rattle.wt_session.proofs.MappedTypes.{module-located}
use Rattle.wt_session.proofs.ModuleReplies.{as_many}
use Rattle.wt_session.proofs.module_handles.register_module.Goals as goal

pub push_module-requires-clause-room : goal.push_module-requires-clause-room
push_module-requires-clause-room c =
    let many = as_many c.register_module.new.self.made c.in-Ok.types.map c.args.groups.now.groups c.in-Ok.ensures.named in
    let count = c.type_count.ensures ∙ ap total_members c.as_slice.ensures in
    omega (arith, many, count, c.in_ok-reserve-2.ensures.ok)

pub returns-in-Ok-clause-named : goal.returns-in-Ok-clause-named
returns-in-Ok-clause-named c =
    let made = c.register_module.new.self.made in
    let trees = module_trees [] c.args.groups.now.groups in
    subst (λ (told : Reply). NamesTrees made told (Some trees)) (sym c.push_module.ensures.reply)
    (module-names made (length c.reserve.new.self.items) c.in-Ok.types.map trees c.in-Ok.ensures.named)

pub returns-in-Ok-clause-keeps : goal.returns-in-Ok-clause-keeps
returns-in-Ok-clause-keeps c =
    let types = c.in-Ok.types in
    let pushed = c.push_module.ensures.row ∙ ap (λ (row : List Handle). row ++ handle.Module types ∷ []) c.in_ok-reserve.ensures.items in
    subst (Keeps c.args.registry.now c.register_module.new.self c.args.party.now) (sym pushed)
    (keeps-module c.args.registry.now c.register_module.new.self c.args.party.now c.args.row.now.items types c.requires.handles c.in-Ok.ensures.changes c.in-Ok.ensures.holding c.in-Ok.ensures.owner
    (module-located c.args.registry.now c.register_module.new.self c.args.party.now c.args.groups.now.groups types c.in-Ok.ensures.ok c.in-Ok.ensures.sound.is_located) c.in-Ok.ensures.sound)
