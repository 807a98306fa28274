-- The shapes that the two indices show fit where their closed trees do.
use Rattle.wt_env.specs.declared.types.WasmSubType.{WasmSubType}
use Rattle.wt_tree.proofs.SubtypeFits.{shown-told, shown-member}
use Rattle.wt_tree.proofs.laws.shapes_fit.Goals as goal

pub returns-clause-fits : goal.returns-clause-fits
returns-clause-fits g c =
    let sub : WasmSubType = c.in-Some-Some.sub.now in
    let sup : WasmSubType = c.in-Some-Some.sup.now in
    shown-told (g.T.Supers.types c.args.types.now) c.args.sub c.args.sup sub sup c.in-Some-Some.ensures.shows c.in-Some-Some.ensures'.shows c.fit_shape.result c.fit_shape.ensures

pub returns-clause-member : goal.returns-clause-member
returns-clause-member g c =
    let sub : WasmSubType = c.in-Some-Some.sub.now in
    shown-member (g.T.Supers.types c.args.types.now) c.args.sub sub c.in-Some-Some.ensures.shows
