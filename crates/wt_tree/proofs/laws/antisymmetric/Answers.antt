-- Steps fall in rank, so none lead there and back.
use Rattle.wt_tree.proofs.ToldSteps.{told-antisymmetric}
use Rattle.wt_tree.proofs.laws.antisymmetric.Goals as goal

pub returns-clause-law : goal.returns-clause-law
returns-clause-law g c =
    told-antisymmetric (g.S.Supers.types c.args.supers.now) c.is_subtype.ensures.map c.args.first c.args.second c.requires.first c.requires.second
    c.is_subtype.result c.is_subtype-2.result c.is_subtype.ensures.steps c.is_subtype-2.ensures.steps
