-- The limits of an engine, and the engine as contracts see it.
use Rattle.std.specs.Prelude.{ℕ, ◌^◌, ◌≤◌, Bool}
use Rattle.wt_env.specs.declared.limits.EngineLimits.{EngineLimits}

-- none passes its greatest value
pub record AreValid (limits : EngineLimits) : Type 0 where
  pub parties : limits.parties ≤ 1024
  pub groups : limits.groups ≤ 2 ^ 24
  pub types : limits.types ≤ 2 ^ 28
  pub references : limits.references ≤ 2 ^ 30
  pub ever : limits.ever ≤ 2 ^ 24
  pub holds : limits.holds ≤ 2 ^ 30

-- an engine: its number, its limits, whether it has garbage collection, and which rules it follows
pub record EngineParts : Type 0 where
  pub number : ℕ
  pub limits : EngineLimits
  pub gc : Bool
  pub profile : ℕ
