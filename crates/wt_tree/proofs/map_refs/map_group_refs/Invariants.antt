-- The types before this one are changed.
use Rattle.std.proofs.Common.{◌≡◌, take}
use Rattle.wt_tree.specs.MapRefs.{map_group_refs}
use Rattle.wt_tree.proofs.map_refs.map_group_refs.Given as goal

abbrev pub invariant-loop-ty : goal.invariant-loop-ty
invariant-loop-ty g l = l.changed ≡ map_group_refs (g.C.IndexChange.changed l.change) (take l.ty-index l.types)
