-- what stands here comes first
use Rattle.std.proofs.Common.{sym, ◌∙◌}
use Rattle.wt_session.specs.HostTypes.{type_named, names_in_field}
use Rattle.wt_session.proofs.MissingNames.{step-found, step-none}
use Rattle.wt_session.proofs.missing_names.missing_in_fields.Goals as goal

pub returns-in-Some : goal.returns-in-Some
returns-in-Some c =
    step-found (type_named c.args.registry.now.made c.args.row.now) names_in_field c.args.fields.now c.loop-field.field-index _ c.in-Some.name c.loop-field-test.true
    (sym c.in-Some.is ∙ c.missing_in_field.ensures) c.loop-field.invariant

pub loop-field-preserved : goal.loop-field-preserved
loop-field-preserved c =
    step-none (type_named c.args.registry.now.made c.args.row.now) names_in_field c.args.fields.now c.loop-field.field-index _ c.loop-field-test.true
    (sym c.in_default.is ∙ c.missing_in_field.ensures) c.loop-field.invariant
