-- Two closed trees are one exactly where declared steps lead both ways.
use Rattle.std.proofs.Common.{Bool, ◌&&◌, sym, ap, ◌∙◌}
use Rattle.wt_tree.specs.Subtyping.{is_sub}
use Rattle.wt_tree.specs.Fit.{named_by}
use Rattle.wt_tree.proofs.Subtyping.{same_both_ways}
use Rattle.wt_tree.proofs.fit.is_same.Goals as goal

pub returns-then-steps_lead : goal.returns-then-steps_lead
returns-then-steps_lead g c =
    let types = g.S.Supers.types c.args.supers.now in
    let a = named_by types c.args.a in
    let b = named_by types c.args.b in
    c.steps_lead-then-steps_lead.ensures
    ∙ ap (λ (there : Bool). there && is_sub b a) (sym c.if-steps_lead.true ∙ c.steps_lead.ensures)
    ∙ same_both_ways a b
