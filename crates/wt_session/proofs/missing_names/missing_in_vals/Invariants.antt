-- the first missing name stands from here on
use Rattle.std.proofs.Common.{◌≡◌, drop}
use Rattle.wt_session.specs.HostTypes.{type_named, names_in_vals, first_missing}
use Rattle.wt_session.proofs.missing_names.missing_in_vals.Given as goal

abbrev pub invariant-loop-val : goal.invariant-loop-val
invariant-loop-val l = first_missing (type_named l.registry.made l.row) (names_in_vals (drop l.val-index l.vals)) ≡ first_missing (type_named l.registry.made l.row) (names_in_vals l.vals)
