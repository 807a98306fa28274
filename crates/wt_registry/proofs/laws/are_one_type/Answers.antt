-- equal holds have one index, and one index has one closed tree
use Rattle.std.proofs.Common.{ap}
use Rattle.wt_model.specs.Indices.{closed_tree}
use Rattle.wt_model.proofs.trees.OneTree.{one_type, index_equal, holds_equal}
use Rattle.wt_registry.proofs.laws.are_one_type.Goals as goal

pub returns-clause-trees : goal.returns-clause-trees
returns-clause-trees c =
    let made = c.args.registry.now.made in
    let left = c.args.left.now in
    let right = c.args.right.now in (
      λ told. ap (closed_tree made) (index_equal left right c.eq.result c.eq.ensures told),
      λ same. holds_equal left right c.eq.result c.eq.ensures c.requires.engine (one_type made left.index right.index c.tell_invariant.ensures.sound.one_index c.requires.left c.requires.right same),
    )
