-- The test is true exactly where declared steps lead.
use Rattle.wt_tree.specs.PlainTypes.{plain_types}
use Rattle.wt_tree.proofs.ToldSteps.{told-by-test}
use Rattle.wt_tree.proofs.plain_supers.PlainSupersSupers.is_subtype.Goals as goal

pub returns-clause-steps : goal.returns-clause-steps
returns-clause-steps c = told-by-test (plain_types c.args.self.now) c.tell_invariant.ensures.map c.args.sub c.args.sup c.leads.result c.leads.ensures
