-- one more at the end
use Rattle.std.proofs.Common.{◌≡◌, ◌+◌, List, [], ◌∷◌, ◌++◌, take, sym, ap, ◌∙◌}
use Rattle.std.proofs.lemmas.List.{take_more}
use Rattle.wt_env.specs.declared.types.EngineOrModuleTypeIndex.{EngineOrModuleTypeIndex}
use Rattle.wt_tree.specs.References.{group_refs, sub_refs}
use Rattle.wt_tree.proofs.References.{group_refs-more}
use Rattle.wt_tree.proofs.refs.leaving_refs.Goals as goal

pub loop-ty-preserved : goal.loop-ty-preserved
loop-ty-preserved c =
    let types = c.args.types.now in
    let n = c.loop-ty.ty-index in
    let it = c.ty-item.result in
    let more : take (n + 1) types ≡ take n types ++ it ∷ [] = take_more types n it c.loop-ty-test.true ∙ ap (λ last. take n types ++ last ∷ []) (sym c.ty-item.is) in
    c.in_ok-push_sub.ensures
    ∙ ap (λ (refs : List EngineOrModuleTypeIndex). refs ++ sub_refs it) c.loop-ty.invariant
    ∙ sym (group_refs-more (take n types) it)
    ∙ ap group_refs (sym more)
