-- what is left of the list ends the holds that are left to end
use Rattle.std.proofs.Common.{◌≡◌, ℕ, ◌<◌, ◌≤◌, [], List, length, drop, vec_capacity}
use Rattle.wt_holds.specs.declared.hold_counts.HoldCounts.{HoldCounts}
use Rattle.wt_holds.specs.Counts.{standings_of}
use Rattle.wt_holds.specs.Kept.{Falling}
use Rattle.wt_model.specs.Registered.{RegisteredGroup}
use Rattle.wt_model.specs.Holds.{times}
use Rattle.wt_env.specs.Among.{Among}
use Rattle.wt_model.specs.Holds.{held_at}
use Rattle.wt_model.specs.Removal.{fewer_of}
use Rattle.wt_holds.proofs.removal.lose_each.Given as goal

abbrev pub invariant-loop-number : goal.invariant-loop-number
invariant-loop-number l = record {
  rest : fewer_of l.party (drop l.number-index l.numbers) (standings_of l.counts.items) ≡ fewer_of l.party l.numbers (standings_of l.initial.counts.items);
  parties : (count : HoldCounts) → Among count l.counts.items → l.party < length count.holds.items;
  held : (n : ℕ) → times n (drop l.number-index l.numbers) ≤ held_at (standings_of l.counts.items) l.party n;
  falls : (made : List RegisteredGroup) → Falling made l.fn.counts.items l.fn.stack.items (vec_capacity l.fn.stack) [] → Falling made l.counts.items l.stack.items (vec_capacity l.stack) [];
  capacity : vec_capacity l.stack ≡ vec_capacity l.fn.stack;
}
