-- what is shown has engine indices alone
use Rattle.wt_core.proofs.EngineParts.{engines-element}
use Rattle.wt_types.proofs.array_type.ArrayType.field_type.Goals as goal

pub field_of-requires : goal.field_of-requires
field_of-requires c = engines-element c.sub_type.result.now c.in-Array.array c.sub_type.ensures.engine c.in-Array.is
