-- what is shown has engine indices alone
use Rattle.wt_core.proofs.EngineParts.{engine-function}
use Rattle.wt_types.proofs.exn_type.ExnType.tag_type.Goals as goal

pub shared-requires : goal.shared-requires
shared-requires c = engine-function c.sub_type.result.now c.in-Exn.exn c.sub_type.ensures.engine c.in-Exn.is
