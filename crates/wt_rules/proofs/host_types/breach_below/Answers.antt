-- below a type that is shown, by its finality and its shape
use Rattle.std.proofs.Common.{None, Some, if◌then◌else◌, sym, ap, ◌∙◌}
use Rattle.wt_env.specs.declared.types.EngineOrModuleTypeIndex.TheVariants as index
use Rattle.wt_env.specs.declared.types.WasmSubType.{WasmSubType}
use Rattle.wt_tree.specs.Kinds.{member_kind}
use Rattle.wt_tree.specs.Fit.{named_by}
use Rattle.wt_rules.specs.declared.host_types.HostBreach.TheVariants as breach
use Rattle.wt_rules.proofs.ShownRules.{final-shown, match-shown}
use Rattle.wt_rules.proofs.host_types.breach_below.Goals as goal

pub returns-then-fit_shape : goal.returns-then-fit_shape
returns-then-fit_shape g c =
    let types = g.T.Supers.types c.args.types.now in
    let ty : WasmSubType = c.args.ty.now in
    let other : WasmSubType = c.in-Some.other.now in
    let s = named_by types (index.Engine c.args.supertype) in
    let final = final-shown types s other c.in-Some.ensures.shows ∙ c.if-other.false in
    let fits = match-shown types ty s other c.in-Some.ensures.shows ∙ sym c.fit_shape.ensures ∙ c.if-fit_shape.true in
    sym (λ k. if final k then Some (breach.FinalSupertype c.args.supertype) else if fits k then None else Some (breach.SupertypeMismatch (member_kind ty)))

pub returns-else-fit_shape : goal.returns-else-fit_shape
returns-else-fit_shape g c =
    let types = g.T.Supers.types c.args.types.now in
    let ty : WasmSubType = c.args.ty.now in
    let other : WasmSubType = c.in-Some.other.now in
    let s = named_by types (index.Engine c.args.supertype) in
    let final = final-shown types s other c.in-Some.ensures.shows ∙ c.if-other.false in
    let fits = match-shown types ty s other c.in-Some.ensures.shows ∙ sym c.fit_shape.ensures ∙ c.if-fit_shape.false in
    ap (λ kind. Some (breach.SupertypeMismatch kind)) c.kind_of.ensures
    ∙ sym (λ k. if final k then Some (breach.FinalSupertype c.args.supertype) else if fits k then None else Some (breach.SupertypeMismatch (member_kind ty)))
