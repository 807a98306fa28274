-- a function that is shown has the parameters of its closed tree
use Rattle.std.proofs.Common.{map, sym, ◌∙◌}
use Rattle.wt_env.specs.declared.types.WasmFuncType.{WasmFuncType}
use Rattle.wt_env.specs.declared.types.WasmSubType.{WasmSubType}
use Rattle.wt_tree.specs.Fit.{fields_equal, named_by}
use Rattle.wt_tree.proofs.KnownParts.{known-params}
use Rattle.wt_rules.proofs.KnownHosts.{known-shape}
use Rattle.wt_rules.specs.TypeRules.{constant_field}
use Rattle.wt_rules.proofs.ShownRules.{function-told}
use Rattle.wt_rules.proofs.host_types.holds_params.Goals as goal

pub are_params-requires-clause-params : goal.are_params-requires-clause-params
are_params-requires-clause-params g c =
    let types = g.T.Supers.types c.args.types.now in
    let function : WasmSubType = c.in-Some.function.now in
    known-params types function.composite_type c.in-Func.func c.as_slice-in-Func.result.now (known-shape types function c.in-Some.ensures.shows.known) c.in-Func.is c.as_slice-in-Func.ensures

pub returns-in-Func : goal.returns-in-Func
returns-in-Func g c =
    let types = g.T.Supers.types c.args.types.now in
    let read = named_by types in
    let function : WasmSubType = c.in-Some.function.now in
    let func : WasmFuncType = c.in-Func.func in
    let told = function-told types c.args.exn.now.fields (read c.args.exn.now.func_ty) function func c.in-Some.ensures.shows c.in-Func.is in
    c.are_params.ensures
    ∙ (λ k. fields_equal read read (c.as_slice.ensures k) (map constant_field (c.as_slice-in-Func.ensures k)))
    ∙ sym told.params
