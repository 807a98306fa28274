-- What new groups do to the counts of those that they lead to.
use Rattle.std.specs.Prelude.{◌≡◌, ℕ, ◌+◌, ◌^◌, ◌<◌, List, map, sum}
use Rattle.wt_env.specs.Among.{Among}
use Rattle.wt_model.specs.Holds.{times, stop_waiting}
use Rattle.wt_holds.specs.declared.hold_counts.HoldCounts.{HoldCounts}
use Rattle.wt_holds.specs.Counts.{standings_of, references_at, total_at, AreTotals}

-- the count of a new group
pub record IsFresh (count : HoldCounts) : Type 0 where
  pub references : count.references ≡ 0
  pub total : count.total ≡ 0
  pub none : sum count.holds.items ≡ 0

-- each of these stands, and has room for so many references more
pub record CanLead (counts : List HoldCounts) (numbers : List ℕ) : Type 0 where
  pub stand : (n : ℕ) → Among n numbers → Among n (map (λ s. s.number) (standings_of counts))
  pub room : (n : ℕ) → references_at counts n + times n numbers < 2 ^ 64

-- these have so many references more, and none of them waits
pub record LeadsTo (old new : List HoldCounts) (numbers : List ℕ) : Type 0 where
  pub standings : standings_of new ≡ stop_waiting numbers (standings_of old)
  pub references : (n : ℕ) → references_at new n ≡ references_at old n + times n numbers
  pub more : (n : ℕ) → total_at new n ≡ total_at old n
  pub totals : AreTotals old → AreTotals new
