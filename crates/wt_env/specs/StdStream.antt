-- A stream over a reader or a writer of std as contracts see it.
use Rattle.std.specs.Prelude.{ℕ}

-- the reader or the writer, and how many of its calls failed
pub record Counted (X : Type 0) : Type 0 where
  pub inner : X
  pub faults : ℕ
