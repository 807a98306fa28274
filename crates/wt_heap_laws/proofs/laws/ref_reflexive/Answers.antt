-- The fit of reference types is reflexive.
use Rattle.std.proofs.Common.{◌∙◌}
use Rattle.wt_tree.specs.Fit.{named_by}
use Rattle.wt_tree.proofs.FitOrder.{ref_fits-refl}
use Rattle.wt_heap.specs.ToWasm.{ref_to_wasm}
use Rattle.wt_heap_laws.proofs.laws.ref_reflexive.Goals as goal

pub returns-clause-law : goal.returns-clause-law
returns-clause-law g c = c.matches.ensures ∙ ref_fits-refl (named_by (g.S.Supers.types c.args.supers.now)) (ref_to_wasm c.args.reference.now)
