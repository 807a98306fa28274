-- What a function takes and gives has type indices with closed trees.
use Rattle.wt_env.specs.declared.types.WasmFuncType.{WasmFuncType}
use Rattle.wt_tree.proofs.KnownParts.{known-params, known-results}
use Rattle.wt_tree.proofs.fit.fit_shape.Goals as goal

pub vals_fit-requires-clause-a : goal.vals_fit-requires-clause-a
vals_fit-requires-clause-a g c =
    let f : WasmFuncType = c.in-Func-Func.b in
    known-params (g.S.Supers.types c.args.supers.now) c.args.b.now f c.as_slice.result.now c.requires.b c.in-Func-Func.is-1 c.as_slice.ensures

pub vals_fit-requires-clause-b : goal.vals_fit-requires-clause-b
vals_fit-requires-clause-b g c =
    let f : WasmFuncType = c.in-Func-Func.a in
    known-params (g.S.Supers.types c.args.supers.now) c.args.a.now f c.as_slice-in-Func-Func.result.now c.requires.a c.in-Func-Func.is-0 c.as_slice-in-Func-Func.ensures

pub vals_fit-requires-then-vals_fit-clause-a : goal.vals_fit-requires-then-vals_fit-clause-a
vals_fit-requires-then-vals_fit-clause-a g c =
    let f : WasmFuncType = c.in-Func-Func.a in
    known-results (g.S.Supers.types c.args.supers.now) c.args.a.now f c.as_slice-then-vals_fit.result.now c.requires.a c.in-Func-Func.is-0 c.as_slice-then-vals_fit.ensures

pub vals_fit-requires-then-vals_fit-clause-b : goal.vals_fit-requires-then-vals_fit-clause-b
vals_fit-requires-then-vals_fit-clause-b g c =
    let f : WasmFuncType = c.in-Func-Func.b in
    known-results (g.S.Supers.types c.args.supers.now) c.args.b.now f c.as_slice-then-vals_fit-2.result.now c.requires.b c.in-Func-Func.is-1 c.as_slice-then-vals_fit-2.ensures
