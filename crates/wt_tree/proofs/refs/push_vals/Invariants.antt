-- the references so far are those of what comes before
use Rattle.std.proofs.Common.{◌≡◌, ◌++◌, take}
use Rattle.wt_tree.specs.References.{vals_refs}
use Rattle.wt_tree.proofs.refs.push_vals.Given as goal

abbrev pub invariant-loop-ty : goal.invariant-loop-ty
invariant-loop-ty l = l.refs ≡ l.fn.refs ++ vals_refs (take l.ty-index l.types)
