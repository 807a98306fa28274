-- what is shown has engine indices alone
use Rattle.std.proofs.Common.{List, subst, sym}
use Rattle.wt_env.specs.declared.types.WasmValType.{WasmValType}
use Rattle.wt_tree.specs.Kinds.{kinded_vals, indices_of}
use Rattle.wt_heap.specs.Engines.{AreEngineIndices}
use Rattle.wt_core.proofs.EngineParts.{engines-results}
use Rattle.wt_types.proofs.func_type.FuncType.results.Goals as goal

pub new-requires : goal.new-requires
new-requires c =
    subst (λ (types : List WasmValType). AreEngineIndices (indices_of (kinded_vals types))) (sym c.as_slice.ensures)
    (engines-results c.sub_type.result.now c.in-Func.func c.sub_type.ensures.engine c.in-Func.is)
