-- An entry shows what is in its closed tree.
use Rattle.std.proofs.Common.{◌≡◌, List, Option, sym, ap, subst, ◌∙◌}
use Rattle.std.specs.Prelude.{slice_get}
use Rattle.std.specs.Option.{option_copied}
use Rattle.wt_env.specs.declared.types.WasmSubType.{WasmSubType}
use Rattle.wt_tree.specs.Fit.{ShowsAt}
use Rattle.wt_tree.specs.PlainTypes.{plain_types, ArePlain}
use Rattle.wt_tree.proofs.Borrowed.{if_borrowed, is_borrowed}
use Rattle.wt_tree.proofs.PlainTypes.{plain-there, plain-shows}
use Rattle.wt_tree.proofs.plain_supers.PlainSupersTypes.borrow.Goals as goal

pub returns-clause-found : goal.returns-clause-found
returns-clause-found c =
    let types : List WasmSubType = c.args.self.now in
    let plain : ArePlain types = subst ArePlain c.self.view_is c.self.invariant in
    let held : option_copied c.get.result ≡ slice_get types c.args.index.0 = c.get.ensures.value ∙ λ k. slice_get (c.self.view_is k) (c.bits.ensures k) in
    let same = is_borrowed c.get.result (slice_get types c.args.index.0) held ∙ plain-there types plain c.args.index in
    (λ some. sym same ∙ some, λ some. same ∙ some)

pub returns-clause-shows : goal.returns-clause-shows
returns-clause-shows c =
    let types : List WasmSubType = c.args.self.now in
    let plain : ArePlain types = subst ArePlain c.self.view_is c.self.invariant in
    let held : option_copied c.get.result ≡ slice_get types c.args.index.0 = c.get.ensures.value ∙ λ k. slice_get (c.self.view_is k) (c.bits.ensures k) in
    if_borrowed (ShowsAt (plain_types types) c.args.index) c.get.result (slice_get types c.args.index.0) held (plain-shows types plain c.args.index)
