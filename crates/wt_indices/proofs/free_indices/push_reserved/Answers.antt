use Rattle.std.proofs.Common.{◌∷◌}
use Rattle.wt_indices.proofs.Occurrences.{occurrences-permutation}
use Rattle.wt_indices.proofs.free_indices.push_reserved.Goals as goal

pub returns-clause-items : goal.returns-clause-items
returns-clause-items c k = occurrences-permutation (λ item. item.0) k (record { 0 = c.args.index } ∷ c.args.given_back.now.data.items) c.push.new.self.data.items c.in-Ok.ensures.permutation
