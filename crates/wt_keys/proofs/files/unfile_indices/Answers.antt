-- what is told elsewhere stays
use Rattle.std.proofs.Common.{nat_eq, sym, ap, subst, ◌∙◌}
use Rattle.std.proofs.lemmas.Bool.{eqb-true}
use Rattle.std.specs.HashMap.{get}
use Rattle.wt_env.specs.Among.{Among}
use Rattle.wt_env.specs.declared.types.VMSharedTypeIndex.{VMSharedTypeIndex}
use Rattle.wt_keys.proofs.Filing.{at_among, out-kept}
use Rattle.wt_keys.proofs.files.unfile_indices.Goals as goal

pub loop-index-preserved : goal.loop-index-preserved
loop-index-preserved c = λ i n other was.
    let here = at_among c.args.indices.now c.loop-index.index-index (record { 0 = 0 }) c.loop-index-test.true in
    out-kept nat_eq eqb-true (get nat_eq c.loop-index.by_index) (get nat_eq c.remove.new.self) c.bits.result c.remove.ensures.updates.0 i.0 n
    (λ is. other (subst (λ (j : VMSharedTypeIndex). Among j c.args.indices.now) (ap (λ bits. record { 0 = bits }) (sym (is ∙ c.bits.ensures))) here))
    (c.loop-index.invariant i n other was)
