-- Declared steps, where both indices have closed trees.
use Rattle.std.proofs.Common.{sym, subst, ◌∙◌}
use Rattle.wt_tree.specs.Subtyping.{is_sub}
use Rattle.wt_tree.specs.Fit.{named_by, IsKnown}
use Rattle.wt_tree.proofs.FitReading.{steps-told}
use Rattle.wt_matching.proofs.matching.steps_lead.Goals as goal

pub returns : goal.returns
returns g c =
    let types = g.S.Supers.types c.args.supers.now in
    let here = c.in-Engine-Engine in
    let sub = subst (IsKnown types) here.is-0 c.requires.sub in
    let sup = subst (IsKnown types) here.is-1 c.requires.sup in
    steps-told types c.is_subtype.ensures.map here.sub here.sup sub sup c.is_subtype.result c.is_subtype.ensures.steps
    ∙ λ t. is_sub (named_by types (sym here.is-0 t)) (named_by types (sym here.is-1 t))
