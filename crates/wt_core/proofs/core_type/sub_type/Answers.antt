-- a registered type is shown by engine indices
use Rattle.wt_tree.specs.Kinds.{type_indices}
use Rattle.wt_model.specs.Indices.{closed_tree}
use Rattle.wt_model.proofs.subtyping.ShownTypes.{sound-shows}
use Rattle.wt_core.proofs.EngineParts.{known-engines}
use Rattle.wt_core.proofs.core_type.sub_type.Goals as goal

pub returns-clause-shows : goal.returns-clause-shows
returns-clause-shows c = sound-shows c.args.registry.now c.tell_invariant.ensures.sound c.args.registered.now.index c.ty.result.now c.ty.ensures

pub returns-clause-engine : goal.returns-clause-engine
returns-clause-engine c = known-engines (closed_tree c.args.registry.now.made) (type_indices c.ty.result.now) (returns-clause-shows c).2.known
