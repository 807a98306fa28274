-- what an index names is named by what stands, or else by what was planned
use Rattle.std.proofs.Common.{◌≡◌, ℕ, ◌++◌, Option, sym, ap, ◌∙◌}
use Rattle.std.proofs.lemmas.Result.{IfOk-weaker}
use Rattle.wt_model.specs.Indices.{locate}
use Rattle.wt_keys.specs.Entries.{made_by}
use Rattle.wt_keys.specs.Keys.{named_at}
use Rattle.wt_plan.proofs.Joined.{locate_first, locate_second}
use Rattle.wt_plan.proofs.plan.named_planned.Goals as goal

pub returns-in-Some : goal.returns-in-Some
returns-in-Some c =
    let all = made_by (c.args.entries.now ++ c.args.added.now) in
    locate_first c.args.entries.now c.args.added.now c.in-Engine.index c.in-Some.at (sym c.in-Some.is ∙ c.in_ok-at.ensures)
    ∙ ap (named_at all) (sym c.in-Engine.is)

pub returns-in-None : goal.returns-in-None
returns-in-None c =
    let all = made_by (c.args.entries.now ++ c.args.added.now) in
    let second : locate (made_by c.args.added.now) c.in-Engine.index ≡ named_at all c.args.reference.now =
    locate_second c.args.entries.now c.args.added.now c.in-Engine.index (sym c.in-None.is ∙ c.in_ok-at.ensures) ∙ ap (named_at all) (sym c.in-Engine.is) in
    IfOk-weaker c.locate_in-in-None.result (λ (at : Option (ℕ × ℕ)). at ≡ locate (made_by c.args.added.now) c.in-Engine.index) (λ (at : Option (ℕ × ℕ)). at ≡ named_at all c.args.reference.now)
    (λ at is. is ∙ second) c.locate_in-in-None.ensures
