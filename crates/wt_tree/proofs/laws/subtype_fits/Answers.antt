-- Each step on the way fits, and fits follow on each other.
use Rattle.wt_tree.proofs.SubtypeFits.{told-fits}
use Rattle.wt_tree.proofs.laws.subtype_fits.Goals as goal

pub returns-clause-law : goal.returns-clause-law
returns-clause-law g c =
    told-fits (g.T.Supers.types c.args.types.now) c.is_subtype.ensures.map c.requires.each_step c.args.sub c.args.sup c.requires.sub c.requires.sup
    c.shapes_fit.ensures.member c.is_subtype.result c.shapes_fit.result c.is_subtype.ensures.steps c.shapes_fit.ensures.fits
