-- What the counts stand for.
use Rattle.std.specs.Prelude.{◌≡◌, ℕ, ◌==◌, List, [], ◌∷◌, map, sum, if◌then◌else◌}
use Rattle.wt_env.specs.Among.{Among}
use Rattle.wt_holds.specs.declared.hold_counts.HoldCounts.{HoldCounts}
use Rattle.wt_model.specs.Registered.{GroupHolds}

abbrev pub standing_of : HoldCounts → GroupHolds
standing_of count = record { number = count.number; holds = count.holds.items; waits = count.waits }

abbrev pub standings_of : List HoldCounts → List GroupHolds
standings_of counts = map standing_of counts

-- what the first count of this number has
abbrev pub row_has : {A : Type 0} → (HoldCounts → A) → A → List HoldCounts → ℕ → A
row_has f default [] number = default
row_has f default (count ∷ rest) number = if count.number == number then f count else row_has f default rest number

-- how many references lead to a group, as its count tells
abbrev pub references_at : List HoldCounts → ℕ → ℕ
references_at counts number = row_has (λ count. count.references) 0 counts number

-- how many holds a group has, as its count tells
abbrev pub total_at : List HoldCounts → ℕ → ℕ
total_at counts number = row_has (λ count. count.total) 0 counts number

-- each count tells how many holds the parties have together
abbrev pub AreTotals : List HoldCounts → Type 0
AreTotals counts = (count : HoldCounts) → Among count counts → count.total ≡ sum count.holds.items
