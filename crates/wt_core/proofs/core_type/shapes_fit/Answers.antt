-- the shapes that are shown fit where the closed trees do
use Rattle.std.proofs.Common.{◌≡◌, rules}
use Rattle.wt_model.specs.Indices.{closed_tree}
use Rattle.wt_tree.proofs.SubtypeFits.{shown-told}
use Rattle.wt_core.proofs.OwnFits.{own-told}
use Rattle.wt_core.proofs.core_type.shapes_fit.Goals as goal

pub returns-then-eq : goal.returns-then-eq
returns-then-eq c =
    let same : c.args.registered.now.index ≡ c.args.other.now.index = search rules in
    own-told (closed_tree c.args.registry.now.made) c.args.registered.now.index c.args.other.now.index c.sub_type-ty.result.now c.sub_type-ty.ensures.shows same

pub returns : goal.returns
returns c =
    shown-told (closed_tree c.args.registry.now.made) c.args.registered.now.index c.args.other.now.index c.sub_type-ty.result.now c.sub_type-other_ty.result.now
    c.sub_type-ty.ensures.shows c.sub_type-other_ty.ensures.shows c.fit_shape.result c.fit_shape.ensures
