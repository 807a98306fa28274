-- below a type that is shown, by its finality, its kind and its shape
use Rattle.std.proofs.Common.{◌≡◌, false, not, None, Some, if◌then◌else◌, sym, ap, ◌∙◌}
use Rattle.wt_env.specs.declared.types.WasmSubType.{WasmSubType}
use Rattle.wt_tree.specs.Kinds.{kind_eq, member_kind}
use Rattle.wt_tree.specs.Fit.{named_by}
use Rattle.wt_rules.specs.declared.place.Rule.TheVariants as rule
use Rattle.wt_rules.proofs.ShownRules.{below-shown}
use Rattle.wt_rules.proofs.type_rules.broken_below.Goals as goal

pub returns-then-fit_shape : goal.returns-then-fit_shape
returns-then-fit_shape g c =
    let types = g.T.Supers.types c.args.types.now in
    let other : WasmSubType = c.in-Some.other.now in
    let kinds : not (kind_eq (member_kind c.args.ty.now) (member_kind other)) ≡ false = ap not (sym (λ k. kind_eq (c.kind_of.ensures k) (c.kind_of-else-other.ensures k)) ∙ sym c.is_same_kind.ensures ∙ c.if-not-is_same_kind.false) in
    let fits = sym c.fit_shape.ensures ∙ c.if-fit_shape.true in
    sym (
    below-shown types c.args.ty.now (named_by types c.args.supertype) other c.in-Some.ensures.shows
    ∙ λ k. if c.if-other.false k then Some rule.SuperFinal else if kinds k then Some rule.SuperKind else if fits k then None else Some rule.SuperMismatch)

pub returns-else-fit_shape : goal.returns-else-fit_shape
returns-else-fit_shape g c =
    let types = g.T.Supers.types c.args.types.now in
    let other : WasmSubType = c.in-Some.other.now in
    let kinds : not (kind_eq (member_kind c.args.ty.now) (member_kind other)) ≡ false = ap not (sym (λ k. kind_eq (c.kind_of.ensures k) (c.kind_of-else-other.ensures k)) ∙ sym c.is_same_kind.ensures ∙ c.if-not-is_same_kind.false) in
    let fits = sym c.fit_shape.ensures ∙ c.if-fit_shape.false in
    sym (
    below-shown types c.args.ty.now (named_by types c.args.supertype) other c.in-Some.ensures.shows
    ∙ λ k. if c.if-other.false k then Some rule.SuperFinal else if kinds k then Some rule.SuperKind else if fits k then None else Some rule.SuperMismatch)
