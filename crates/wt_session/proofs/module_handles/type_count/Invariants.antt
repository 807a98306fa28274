-- the types of the groups before this one are counted
use Rattle.std.proofs.Common.{◌≡◌, take}
use Rattle.wt_registry.specs.Rules.{total_members}
use Rattle.wt_session.proofs.module_handles.type_count.Given as goal

abbrev pub invariant-loop-group : goal.invariant-loop-group
invariant-loop-group l = l.count ≡ total_members (take l.group-index l.groups)
