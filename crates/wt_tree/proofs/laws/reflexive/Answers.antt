-- no step leads from a type to itself
use Rattle.wt_tree.proofs.ToldSteps.{told-reflexive}
use Rattle.wt_tree.proofs.laws.reflexive.Goals as goal

pub returns-clause-law : goal.returns-clause-law
returns-clause-law g c = told-reflexive (g.S.Supers.types c.args.supers.now) c.args.index c.requires c.is_subtype.result c.is_subtype.ensures.steps
