-- Steps on steps are steps.
use Rattle.wt_tree.proofs.ToldSteps.{told-transitive}
use Rattle.wt_tree.proofs.laws.transitive.Goals as goal

pub returns-clause-law : goal.returns-clause-law
returns-clause-law g c =
    told-transitive (g.S.Supers.types c.args.supers.now) c.args.first c.args.second c.args.third c.requires.first c.requires.second c.requires.third
    c.is_subtype.result c.is_subtype-2.result c.is_subtype-3.result c.is_subtype.ensures.steps c.is_subtype-2.ensures.steps c.is_subtype-3.ensures.steps
