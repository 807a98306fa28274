-- The fit of heap types is reflexive.
use Rattle.std.proofs.Common.{◌∙◌}
use Rattle.wt_tree.specs.Fit.{named_by}
use Rattle.wt_tree.proofs.FitOrder.{heap_fits-refl}
use Rattle.wt_heap.specs.ToWasm.{heap_to_wasm}
use Rattle.wt_heap_laws.proofs.laws.heap_reflexive.Goals as goal

pub returns-clause-law : goal.returns-clause-law
returns-clause-law g c = c.matches.ensures ∙ heap_fits-refl (named_by (g.S.Supers.types c.args.supers.now)) (heap_to_wasm c.args.heap.now)
