use Rattle.std.proofs.Common.{◌<◌, ◌++◌, List, map, not, sym, ap, subst, ◌∙◌}
use Rattle.wt_env.specs.declared.types.VMSharedTypeIndex.{VMSharedTypeIndex}
use Rattle.wt_model.specs.Indices.{is_used}
use Rattle.wt_indices.proofs.Assigning.{IsAssigning, assigning-more, assigned-left}
use Rattle.wt_indices.proofs.free_indices.FreeIndices.assign_shared_type_indices.Goals as goal

pub loop-indices-preserved : goal.loop-indices-preserved
loop-indices-preserved c = record {
  assigning = λ numbers beside.
      subst (λ (xs : List VMSharedTypeIndex). IsAssigning c.args.count numbers xs c.take.new.self) (sym c.in_ok-push.ensures.items)
      (assigning-more c.args.count numbers c.loop-indices.indices.items c.loop-indices.self c.take.new.self c.in_ok-take.field-0 (c.loop-indices.invariant.assigning numbers beside)
      (subst (λ n. n < c.args.count) (c.len.ensures ∙ c.loop-indices.indices.ok.0) c.loop-indices-test.true)
      c.in_ok-take.ensures.free c.in_ok-take.ensures.least c.in_ok-take.ensures.left);
  before = λ k. c.in_ok-take.ensures.before k ∙ c.loop-indices.invariant.before k;
}

pub returns-clause-left : goal.returns-clause-left
returns-clause-left c numbers beside k =
    assigned-left c.args.count numbers c.loop-indices.indices.items c.loop-indices.self (c.loop-indices.invariant.assigning numbers beside) k
    ∙ ap (λ (xs : List VMSharedTypeIndex). not (is_used (map (λ index. index.0) xs ++ numbers) k)) (sym c.from_vec.ensures)
