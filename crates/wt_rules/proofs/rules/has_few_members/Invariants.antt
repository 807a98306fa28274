-- what room the groups so far leave
use Rattle.std.proofs.Common.{◌≡◌, ◌+◌, drop}
use Rattle.wt_rules.specs.Rules.{total_members}
use Rattle.wt_rules.proofs.rules.has_few_members.Given as goal

abbrev pub invariant-loop-group : goal.invariant-loop-group
invariant-loop-group l = l.room + total_members l.groups ≡ 4294967295 + total_members (drop l.group-index l.groups)
