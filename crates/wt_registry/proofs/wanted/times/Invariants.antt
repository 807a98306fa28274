-- the count so far is that among the numbers before, and no more than those
use Rattle.std.proofs.Common.{◌≡◌, ◌≤◌, take}
use Rattle.wt_model.specs.Holds.{times}
use Rattle.wt_registry.proofs.wanted.times.Given as goal

abbrev pub invariant-loop-at : goal.invariant-loop-at
invariant-loop-at l = record {
  counted : l.count ≡ times l.number (take l.at-index l.numbers);
  bounded : l.count ≤ l.at-index;
}
