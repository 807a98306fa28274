use Rattle.wt_indices.proofs.Smallest.{popped-once, popped-least}
use Rattle.wt_indices.proofs.free_indices.pop_smallest.Goals as goal

pub returns-in-Some-clause-items : goal.returns-in-Some-clause-items
returns-in-Some-clause-items c = popped-once c.args.given_back.now.data.items c.pop.new.self.data.items c.in-Some.field-0 c.in-Some.ensures.permutation

pub returns-in-Some-clause-least : goal.returns-in-Some-clause-least
returns-in-Some-clause-least c = popped-least c.args.given_back.now.data.items c.pop.new.self.data.items c.in-Some.field-0 c.in-Some.ensures.permutation (c.in-Some.ensures.below_top c.requires)
