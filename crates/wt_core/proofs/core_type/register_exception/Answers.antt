-- the registered type is an exception
use Rattle.wt_core.proofs.BuiltKinds.{kind-exception}
use Rattle.wt_core.proofs.core_type.register_exception.Goals as goal

pub returns-in-Ok-clause-kind : goal.returns-in-Ok-clause-kind
returns-in-Ok-clause-kind c =
    kind-exception c.new_exn.new.registry c.new_exn.ensures.sound c.args.registry.now.made c.args.fields.now c.ty-shown.result.now c.in-Ok.registered.index c.ty-shown.ensures c.in-Ok.ensures.named
