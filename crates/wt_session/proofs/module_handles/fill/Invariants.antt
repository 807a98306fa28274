-- the indices before this one are added, and there is room for the others
use Rattle.std.proofs.Common.{◌≡◌, ◌+◌, ◌-◌, ◌≤◌, ◌++◌, length, map, take, vec_len, vec_capacity}
use Rattle.wt_session.proofs.module_handles.fill.Given as goal

abbrev pub invariant-loop-index : goal.invariant-loop-index
invariant-loop-index l = record {
  items : l.numbers.items ≡ l.fn.numbers.items ++ map (λ i. i.0) (take l.index-index l.indices);
  room : vec_len l.numbers + (length l.indices - l.index-index) ≤ vec_capacity l.numbers;
}
