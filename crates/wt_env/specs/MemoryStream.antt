-- A stream in memory as contracts see it, and what one call does.
use Rattle.std.specs.Prelude.{ℕ, ◌==◌, Bool, List, min}
use Rattle.std.specs.List.{list_any}
use Rattle.wt_env.specs.Counts.{risen}

-- the bytes that are left or were taken, the numbers of the calls that fail, the greatest count of
-- bytes that one call moves, and how many calls and faults there were
pub record MemoryParts : Type 0 where
  pub bytes : List ℕ
  pub failing : List ℕ
  pub most : ℕ
  pub calls : ℕ
  pub faults : ℕ

-- the next call is one of those that fail; calls are counted from 1
abbrev pub is_listed : MemoryParts → Bool
is_listed parts = list_any (λ number. number == risen parts.calls) parts.failing

-- how many bytes a call moves where at most so many are there for it
abbrev pub moved : MemoryParts → ℕ → ℕ
moved parts there = min parts.most there

-- after a call that failed
abbrev pub after_fault : MemoryParts → MemoryParts
after_fault parts = record parts { calls = risen parts.calls; faults = risen parts.faults }

-- after a call that left these bytes
abbrev pub after_move : MemoryParts → List ℕ → MemoryParts
after_move parts bytes = record parts { calls = risen parts.calls; bytes = bytes }
