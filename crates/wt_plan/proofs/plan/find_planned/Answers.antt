-- what is found is found in the first, or else in the second
use Rattle.std.proofs.Common.{◌∙◌}
use Rattle.wt_env.specs.Equality.{rec_group_eq}
use Rattle.wt_keys.proofs.Joined.{find_first, find_second}
use Rattle.wt_plan.proofs.plan.find_planned.Goals as goal

pub returns-in-Some : goal.returns-in-Some
returns-in-Some c = find_first (λ entry. rec_group_eq entry.hash_consing_key c.args.key.now) c.args.entries.now c.args.added.now c.in-Some.entry.now c.in-Some.ensures

pub returns-in-None : goal.returns-in-None
returns-in-None c = c.find_group-in-None.ensures ∙ find_second (λ entry. rec_group_eq entry.hash_consing_key c.args.key.now) c.args.entries.now c.args.added.now c.in-None.ensures
