-- the trampolines of the members before this one are planned, and the free indices are beside what is
use Rattle.std.proofs.Common.{take}
use Rattle.wt_indices.specs.Free.{AreSameBefore}
use Rattle.wt_plan.specs.Planned.{PlansTrampolines, AreFreeFor}
use Rattle.wt_plan.proofs.plan.plan_trampolines.Given as goal

abbrev pub invariant-loop-ty : goal.invariant-loop-ty
invariant-loop-ty l = record {
  planned : PlansTrampolines l.entries l.fn.plan l.plan (take l.ty-index l.types) l.told;
  free : AreFreeFor l.entries l.plan.added l.free;
  before : AreSameBefore l.fn.free l.free;
}
