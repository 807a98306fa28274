-- one more at the end
use Rattle.wt_tree.proofs.References.{vals_refs-turn}
use Rattle.wt_tree.proofs.refs.push_vals.Goals as goal

pub loop-ty-preserved : goal.loop-ty-preserved
loop-ty-preserved c =
    vals_refs-turn c.args.refs.now c.loop-ty.refs c.push_val.new.refs c.args.types.now c.loop-ty.ty-index _ c.loop-ty-test.true c.loop-ty.invariant c.in_ok-push_val.ensures
