-- the references so far are those of what comes before
use Rattle.std.proofs.Common.{◌≡◌, take}
use Rattle.wt_tree.specs.References.{group_refs}
use Rattle.wt_tree.proofs.refs.leaving_refs.Given as goal

abbrev pub invariant-loop-ty : goal.invariant-loop-ty
invariant-loop-ty l = l.refs ≡ group_refs (take l.ty-index l.types)
