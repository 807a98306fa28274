-- the first missing name stands from here on
use Rattle.std.proofs.Common.{◌≡◌, drop}
use Rattle.wt_session.specs.HostTypes.{type_named, names_in_fields, first_missing}
use Rattle.wt_session.proofs.missing_names.missing_in_fields.Given as goal

abbrev pub invariant-loop-field : goal.invariant-loop-field
invariant-loop-field l = first_missing (type_named l.registry.made l.row) (names_in_fields (drop l.field-index l.fields)) ≡ first_missing (type_named l.registry.made l.row) (names_in_fields l.fields)
