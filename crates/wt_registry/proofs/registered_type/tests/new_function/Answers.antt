-- a function over numbers is a type of a host
use Rattle.wt_rules.proofs.Unchanging.{number-host}
use Rattle.wt_model.specs.Indices.{closed_tree}
use Rattle.wt_registry.proofs.registered_type.tests.new_function.Goals as goal

pub new-requires-clause-host : goal.new-requires-clause-host
new-requires-clause-host c = number-host (closed_tree c.args.registry.now.made) c.args.ty c.requires.plain
