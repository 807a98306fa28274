-- what is told of others that agree stays
use Rattle.std.proofs.Common.{subst}
use Rattle.std.specs.HashMap.{get}
use Rattle.wt_env.specs.Among.{Among}
use Rattle.wt_env.specs.Equality.{rec_group_eq, rec_group_eq-exact}
use Rattle.wt_keys.proofs.Filing.{out-kept, agree-key, agree-index}
use Rattle.wt_keys.proofs.files.unfile.Goals as goal

pub returns : goal.returns
returns c = λ e agree other filed. record {
  key = out-kept rec_group_eq rec_group_eq-exact (get rec_group_eq c.args.files.now.by_key) (get rec_group_eq c.remove.new.self) c.args.entry.now.hash_consing_key c.remove.ensures.updates.0
      e.hash_consing_key e.number (agree-key e c.args.entry.now agree other) filed.key;
  indices = λ i at. c.unfile_indices.ensures i e.number (λ there. agree-index e c.args.entry.now agree other i at (subst (Among i) c.as_slice.ensures there)) (filed.indices i at);
}
