-- what is shown has engine indices alone
use Rattle.std.proofs.Common.{List, subst, sym}
use Rattle.wt_env.specs.declared.types.WasmFieldType.{WasmFieldType}
use Rattle.wt_tree.specs.Kinds.{kinded_fields, indices_of}
use Rattle.wt_heap.specs.Engines.{AreEngineIndices}
use Rattle.wt_core.proofs.EngineParts.{engines-fields}
use Rattle.wt_types.proofs.struct_type.StructType.fields.Goals as goal

pub new-requires : goal.new-requires
new-requires c =
    subst (λ (types : List WasmFieldType). AreEngineIndices (indices_of (kinded_fields types))) (sym c.as_slice.ensures)
    (engines-fields c.sub_type.result.now c.in-Struct.shape c.sub_type.ensures.engine c.in-Struct.is)
