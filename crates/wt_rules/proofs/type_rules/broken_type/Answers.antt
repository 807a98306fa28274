-- the type is shown
use Rattle.std.proofs.Common.{◌∙◌}
use Rattle.wt_rules.proofs.ShownRules.{broken-shown}
use Rattle.wt_rules.proofs.type_rules.broken_type.Goals as goal

pub returns-in-Some : goal.returns-in-Some
returns-in-Some g c = c.broken_by.ensures ∙ broken-shown (g.T.Supers.types c.args.types.now) c.args.index c.in-Some.ty.now c.in-Some.ensures.shows
