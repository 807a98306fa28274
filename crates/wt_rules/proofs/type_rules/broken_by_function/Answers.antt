-- a function that is shown has the results and the parameters of its closed tree
use Rattle.std.proofs.Common.{◌≡◌, ℕ, ◌≤◌, nat_lt, List, length, map, false, None, Some, if◌then◌else◌, sym, ap, ◌∙◌, arith}
use Rattle.wt_env.specs.declared.types.WasmValType.{WasmValType}
use Rattle.wt_env.specs.declared.types.WasmFuncType.{WasmFuncType}
use Rattle.wt_tree.specs.Fit.{fields_equal, named_by}
use Rattle.wt_rules.specs.declared.place.Rule.TheVariants as rule
use Rattle.wt_rules.specs.TypeRules.{constant_field}
use Rattle.wt_rules.proofs.ShownRules.{function-shown}
use Rattle.wt_rules.proofs.type_rules.broken_by_function.Goals as goal

-- no results
none : (n m : ℕ) → n ≡ m → n ≤ 0 → nat_lt 0 m ≡ false
none n m same few = grind (arith, same, few)

pub returns-then-are_params : goal.returns-then-are_params
returns-then-are_params g c t shows =
    let read = named_by (g.T.Supers.types c.args.types.now) in
    let func : WasmFuncType = c.in-Func.func in
    let results : nat_lt 0 (length func.results) ≡ false = none c.len.result (length func.results) c.len.ensures c.if-len-gt0.false in
    let params = sym (ap (λ (vs : List WasmValType). fields_equal read read c.args.fields.now (map constant_field vs)) c.as_slice.ensures) ∙ sym c.are_params.ensures ∙ c.if-are_params.true in
    sym (
    function-shown (g.T.Supers.types c.args.types.now) c.args.fields.now t c.args.function.now func shows c.in-Func.is
    ∙ λ k. if results k then Some rule.ExnResults else if params k then None else Some rule.ExnFields)

pub returns-else-are_params : goal.returns-else-are_params
returns-else-are_params g c t shows =
    let read = named_by (g.T.Supers.types c.args.types.now) in
    let func : WasmFuncType = c.in-Func.func in
    let results : nat_lt 0 (length func.results) ≡ false = none c.len.result (length func.results) c.len.ensures c.if-len-gt0.false in
    let params = sym (ap (λ (vs : List WasmValType). fields_equal read read c.args.fields.now (map constant_field vs)) c.as_slice.ensures) ∙ sym c.are_params.ensures ∙ c.if-are_params.false in
    sym (
    function-shown (g.T.Supers.types c.args.types.now) c.args.fields.now t c.args.function.now func shows c.in-Func.is
    ∙ λ k. if results k then Some rule.ExnResults else if params k then None else Some rule.ExnFields)
