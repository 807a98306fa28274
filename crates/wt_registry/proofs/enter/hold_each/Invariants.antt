-- those from here on give what all of them do, and there is room for them
use Rattle.std.proofs.Common.{◌≡◌, ℕ, ◌+◌, ◌^◌, ◌<◌, drop}
use Rattle.wt_model.specs.Holds.{held_at}
use Rattle.wt_holds.specs.Counts.{standings_of, references_at, total_at, AreTotals}
use Rattle.wt_model.specs.Holds.{times, hold_each}
use Rattle.wt_holds.proofs.Counted.{HavePlaces}
use Rattle.wt_registry.proofs.enter.hold_each.Given as goal

abbrev pub invariant-loop-number : goal.invariant-loop-number
invariant-loop-number l = record {
  parties : HavePlaces l.party l.counts.items;
  room : (number : ℕ) → held_at (standings_of l.counts.items) l.party number + times number (drop l.number-index l.numbers) < 2 ^ 64;
  total : (number : ℕ) → total_at l.counts.items number + times number (drop l.number-index l.numbers) < 2 ^ 64;
  each : hold_each l.party (drop l.number-index l.numbers) (standings_of l.counts.items) ≡ hold_each l.party l.numbers (standings_of l.fn.counts.items);
  references : (n : ℕ) → references_at l.counts.items n ≡ references_at l.fn.counts.items n;
  totals : AreTotals l.fn.counts.items → AreTotals l.counts.items;
}
