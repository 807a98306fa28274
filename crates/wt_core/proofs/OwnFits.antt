-- The shape of a registered type fits itself.
use Rattle.std.proofs.Common.{◌≡◌, true, Option, ap, sym, ◌∙◌}
use Rattle.wt_env.specs.declared.types.VMSharedTypeIndex.{VMSharedTypeIndex}
use Rattle.wt_env.specs.declared.types.WasmSubType.{WasmSubType}
use Rattle.wt_tree.specs.Tree.{ClosedTree}
use Rattle.wt_tree.specs.Fit.{named_by, ShowsAt, TellsFit}
use Rattle.wt_tree.proofs.FitOrder.{shape_fits-refl}
use Rattle.wt_tree.proofs.SubtypeFits.{shown-told}

pub own-told : (types : VMSharedTypeIndex → Option ClosedTree) (i j : VMSharedTypeIndex) (ty : WasmSubType) → ShowsAt types i ty → i ≡ j → TellsFit types i j true
own-told types i j ty here same s t s-is t-is =
    shown-told types i i ty ty here here true (sym (shape_fits-refl (named_by types) ty.composite_type)) s t s-is (ap types same ∙ t-is)
