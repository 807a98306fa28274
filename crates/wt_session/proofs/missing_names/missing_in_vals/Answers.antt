-- what stands here comes first
use Rattle.std.proofs.Common.{sym, ◌∙◌}
use Rattle.wt_session.specs.HostTypes.{type_named, names_in_val}
use Rattle.wt_session.proofs.MissingNames.{step-found, step-none}
use Rattle.wt_session.proofs.missing_names.missing_in_vals.Goals as goal

pub returns-in-Some : goal.returns-in-Some
returns-in-Some c =
    step-found (type_named c.args.registry.now.made c.args.row.now) names_in_val c.args.vals.now c.loop-val.val-index _ c.in-Some.name c.loop-val-test.true
    (sym c.in-Some.is ∙ c.missing_in_val.ensures) c.loop-val.invariant

pub loop-val-preserved : goal.loop-val-preserved
loop-val-preserved c =
    step-none (type_named c.args.registry.now.made c.args.row.now) names_in_val c.args.vals.now c.loop-val.val-index _ c.loop-val-test.true
    (sym c.in_default.is ∙ c.missing_in_val.ensures) c.loop-val.invariant
