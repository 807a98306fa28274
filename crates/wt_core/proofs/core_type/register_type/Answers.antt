-- the registered type is of the kind of the type data
use Rattle.wt_core.proofs.BuiltKinds.{kind-built}
use Rattle.wt_core.proofs.core_type.register_type.Goals as goal

pub returns-in-Ok-clause-kind : goal.returns-in-Ok-clause-kind
returns-in-Ok-clause-kind c =
    kind-built c.new.new.registry c.new.ensures.sound c.args.registry.now.made c.args.ty c.ty-shown.result.now c.in-Ok.registered.index c.ty-shown.ensures c.in-Ok.ensures.named
