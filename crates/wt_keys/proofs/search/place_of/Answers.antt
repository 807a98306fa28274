-- the two ways to say the first place are one
use Rattle.std.proofs.Common.{◌∙◌, ◌==◌}
use Rattle.std.proofs.lemmas.Iterator.Adapters.{position_from-zero}
use Rattle.wt_keys.proofs.search.place_of.Goals as goal

pub returns : goal.returns
returns c = c.position_of.ensures ∙ position_from-zero (λ at. at.0 == c.args.index.0) c.args.indices.now
