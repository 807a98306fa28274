-- Counts of 64 bits that stand still at their greatest number.
use Rattle.std.specs.Prelude.{ℕ, ◌+◌, ◌-◌, ◌^◌, min}

-- one more, where 64 bits can say it
abbrev pub risen : ℕ → ℕ
risen count = min (count + 1) (2 ^ 64 - 1)
