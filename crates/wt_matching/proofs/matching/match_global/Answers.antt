-- The value types come first, and then whether the globals can change.
use Rattle.std.proofs.Common.{rules, ◌≡◌, ◌∙◌, sym, ◌||◌}
use Rattle.std.specs.Bool.{beq}
use Rattle.wt_matching.specs.declared.unfit.Unfit.TheVariants as unfit
use Rattle.wt_matching.specs.Import.{answer, unless, content_unfit}
use Rattle.wt_matching.proofs.Causes.{first_told, second_told}
use Rattle.wt_matching.proofs.matching.match_global.Goals as goal

pub returns-in_err-match_content : goal.returns-in_err-match_content
returns-in_err-match_content g c =
    let types = g.S.Supers.types c.args.supers.now in
    let e = c.args.expected.now in
    let a = c.args.actual.now in
    let first = content_unfit types (e.mutability || a.mutability) e.wasm_ty a.wasm_ty in
    let second = unless (beq e.mutability a.mutability) (unfit.Mutability e.mutability a.mutability) in
    let told : answer first ≡ c.match_content.result = (λ k. answer (content_unfit types (sym c.can_change.ensures k) e.wasm_ty a.wasm_ty)) ∙ sym c.match_content.ensures in
    let whole = first_told first second _ (told ∙ c.in_err-match_content.was) in
    search (rules, whole)

pub returns : goal.returns
returns g c =
    let types = g.S.Supers.types c.args.supers.now in
    let e = c.args.expected.now in
    let a = c.args.actual.now in
    let first = content_unfit types (e.mutability || a.mutability) e.wasm_ty a.wasm_ty in
    let second = unless (beq e.mutability a.mutability) (unfit.Mutability e.mutability a.mutability) in
    let told : answer first ≡ c.match_content.result = (λ k. answer (content_unfit types (sym c.can_change.ensures k) e.wasm_ty a.wasm_ty)) ∙ sym c.match_content.ensures in
    c.check.ensures ∙ sym (second_told first second _ (told ∙ c.in_ok-match_content.was))
