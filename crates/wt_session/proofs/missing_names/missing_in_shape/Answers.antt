-- a function's parameters come before its results
use Rattle.std.proofs.Common.{List, sym, ap, ◌∙◌}
use Rattle.wt_commands.specs.declared.host_type.HostShape.{HostShape}
use Rattle.wt_commands.specs.declared.host_type.HostVal.{HostVal}
use Rattle.wt_session.specs.HostTypes.{type_named, names_in_vals, names_in_shape, first_missing}
use Rattle.wt_session.proofs.MissingNames.{found-before, found-behind}
use Rattle.wt_session.proofs.missing_names.missing_in_shape.Goals as goal

pub returns-in-Some : goal.returns-in-Some
returns-in-Some c =
    let read = type_named c.args.registry.now.made c.args.row.now in
    found-before read (names_in_vals c.in-Func.params) (names_in_vals c.in-Func.results) c.in-Some.name
    (sym c.in-Some.is ∙ c.missing_in_vals.ensures ∙ ap (λ (vals : List HostVal). first_missing read (names_in_vals vals)) c.as_slice.ensures)
    ∙ ap (λ (shape : HostShape). first_missing read (names_in_shape shape)) (sym c.in-Func.is)

pub returns-in-None : goal.returns-in-None
returns-in-None c =
    let read = type_named c.args.registry.now.made c.args.row.now in
    found-behind read (names_in_vals c.in-Func.params) (names_in_vals c.in-Func.results) c.missing_in_vals-in-None.result
    (sym c.in-None.is ∙ c.missing_in_vals.ensures ∙ ap (λ (vals : List HostVal). first_missing read (names_in_vals vals)) c.as_slice.ensures)
    (c.missing_in_vals-in-None.ensures ∙ ap (λ (vals : List HostVal). first_missing read (names_in_vals vals)) c.as_slice-in-None.ensures)
    ∙ ap (λ (shape : HostShape). first_missing read (names_in_shape shape)) (sym c.in-Func.is)
