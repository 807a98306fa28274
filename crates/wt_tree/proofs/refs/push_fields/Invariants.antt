-- the references so far are those of what comes before
use Rattle.std.proofs.Common.{◌≡◌, ◌++◌, take}
use Rattle.wt_tree.specs.References.{fields_refs}
use Rattle.wt_tree.proofs.refs.push_fields.Given as goal

abbrev pub invariant-loop-field : goal.invariant-loop-field
invariant-loop-field l = l.refs ≡ l.fn.refs ++ fields_refs (take l.field-index l.fields)
