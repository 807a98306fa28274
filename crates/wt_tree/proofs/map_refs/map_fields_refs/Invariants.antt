-- The types before this one are changed.
use Rattle.std.proofs.Common.{◌≡◌, take}
use Rattle.wt_tree.specs.MapRefs.{map_fields_refs}
use Rattle.wt_tree.proofs.map_refs.map_fields_refs.Given as goal

abbrev pub invariant-loop-field : goal.invariant-loop-field
invariant-loop-field g l = l.changed ≡ map_fields_refs (g.C.IndexChange.changed l.change) (take l.field-index l.fields)
