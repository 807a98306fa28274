-- one more index has the number, and what is told elsewhere stays
use Rattle.std.proofs.Common.{◌≡◌, ◌⊎◌, get_or, nat_eq, take, Some, refl, sym, subst}
use Rattle.std.specs.HashMap.{get}
use Rattle.wt_env.specs.Among.{Among}
use Rattle.wt_env.specs.declared.types.VMSharedTypeIndex.{VMSharedTypeIndex}
use Rattle.wt_keys.proofs.Filing.{at_among, taken_or, either}
use Rattle.wt_keys.proofs.files.file_indices.Goals as goal

pub returns-in_err-file_index-clause-kept : goal.returns-in_err-file_index-clause-kept
returns-in_err-file_index-clause-kept c = λ i n same was.
    let here = at_among c.args.indices.now c.loop-index.index-index (record { 0 = 0 }) c.loop-index-test.true in
    c.file_index.ensures.kept i n (λ is. same (subst (λ (j : VMSharedTypeIndex). Among j c.args.indices.now) (sym is) here)) (c.loop-index.invariant.kept i n same was)

pub loop-index-preserved : goal.loop-index-preserved
loop-index-preserved c = record {
  kept = λ i n same was.
      let here = at_among c.args.indices.now c.loop-index.index-index (record { 0 = 0 }) c.loop-index-test.true in
      c.file_index.ensures.kept i n (λ is. same (subst (λ (j : VMSharedTypeIndex). Among j c.args.indices.now) (sym is) here)) (c.loop-index.invariant.kept i n same was);
  told = λ i at.
      let by : Among i (take c.loop-index.index-index c.args.indices.now) ⊎ (i ≡ get_or c.args.indices.now c.loop-index.index-index (record { 0 = 0 })) → get nat_eq c.file_index.new.by_index i.0 ≡ Some c.args.number =
      either
      (λ before. c.file_index.ensures.kept i c.args.number (λ is. refl) (c.loop-index.invariant.told i before))
      (λ is. subst (λ (j : VMSharedTypeIndex). get nat_eq c.file_index.new.by_index j.0 ≡ Some c.args.number) (sym is) c.in_ok-file_index.ensures.told) in
      by (taken_or c.args.indices.now c.loop-index.index-index (record { 0 = 0 }) i c.loop-index-test.true at);
}
