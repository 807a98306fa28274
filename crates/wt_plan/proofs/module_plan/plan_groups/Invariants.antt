-- the groups before this one are planned, and break no rule
use Rattle.std.proofs.Common.{◌≡◌, [], drop, take}
use Rattle.wt_tree.specs.ModuleTree.{module_trees}
use Rattle.wt_rules.specs.Rules.{first_broken_from, first_broken}
use Rattle.wt_indices.specs.Free.{AreSameBefore}
use Rattle.wt_plan.specs.Planned.{AreFreeFor}
use Rattle.wt_plan.proofs.PlannedGroups.{Plans}
use Rattle.wt_plan.proofs.module_plan.plan_groups.Given as goal

abbrev pub invariant-loop-number : goal.invariant-loop-number
invariant-loop-number l = record {
  plans : Plans l.entries (take l.number l.groups) l.fn.plan l.plan;
  search : first_broken_from l.number (module_trees [] (take l.number l.groups)) (drop l.number l.groups) ≡ first_broken l.groups;
  free : AreFreeFor l.entries l.plan.added l.free;
  before : AreSameBefore l.fn.free l.free;
}
