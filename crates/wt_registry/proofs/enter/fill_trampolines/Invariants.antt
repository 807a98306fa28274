-- with those from here on it is all, and there is room for them
use Rattle.std.proofs.Common.{◌≡◌, ◌+◌, ◌≤◌, ◌++◌, length, drop, vec_len, vec_capacity}
use Rattle.wt_keys.specs.Entries.{made_by}
use Rattle.wt_model.specs.Trampolines.{trampolines_of}
use Rattle.wt_registry.proofs.enter.fill_trampolines.Given as goal

abbrev pub invariant-loop-index : goal.invariant-loop-index
invariant-loop-index l = record {
  told : l.trampolines.items ++ trampolines_of (made_by l.entries) (drop l.index-index l.indices) ≡ l.fn.trampolines.items ++ trampolines_of (made_by l.entries) l.indices;
  room : vec_len l.trampolines + length l.indices ≤ vec_capacity l.trampolines + l.index-index;
}
