-- one more reference, which names something since all do
use Rattle.std.proofs.Common.{◌≡◌, ◌++◌, map, Some, sym, ap, ◌∙◌}
use Rattle.wt_env.specs.declared.types.EngineOrModuleTypeIndex.TheVariants as index
use Rattle.wt_keys.specs.Entries.{made_by}
use Rattle.wt_keys.specs.Keys.{named_at}
use Rattle.wt_plan.proofs.Named.{none_missing, some_more}
use Rattle.wt_plan.proofs.plan.outer_of.Goals as goal
use Rattle.wt_plan.proofs.plan.outer_of.Goals.{in-Some+in_ok-push, in_default}

pub loop-reference-preserved : goal.loop-reference-preserved
loop-reference-preserved c =
    let made = made_by (c.args.entries.now ++ c.args.added.now) in
    let refs = c.as_slice-reference-items.result.now in
    let n = c.loop-reference.reference-index in
    let default = index.Engine (record { 0 = 0 }) in
    let all : map (named_at made) refs ≡ map Some c.requires.0 =
    ap (map (named_at made)) (c.as_slice-reference-items.ensures ∙ c.in_ok-refs.ensures) ∙ c.requires.1 in
    elim c.match-branch-3.branch [
      | in-Some+in_ok-push w ↦
          some_more (named_at made) refs c.loop-reference.outer n default w.in-Some.at c.loop-reference-test.true c.loop-reference.invariant (sym c.in_ok-at.ensures ∙ w.in-Some.is)
          ∙ ap (map Some) (sym (w.outer-is ∙ w.in_ok-push.ensures.ok))
      | in_default w ↦
          absurd (none_missing (named_at made) refs c.requires.0 n default c.loop-reference-test.true all (sym c.in_ok-at.ensures ∙ w.in_default.is))
    ]
