-- The session that the fields stand for, and what is kept true of them.
use Rattle.std.specs.Prelude.{◌≡◌, ◌≢◌, ℕ, ◌-◌, ◌≤◌, List, [], ◌++◌, length, map, replicate, Some}
use Rattle.wt_env.specs.Limits.{EngineParts}
use Rattle.wt_env.specs.declared.types.VMSharedTypeIndex.{VMSharedTypeIndex}
use Rattle.wt_registry.specs.Registered.{RegisteredGroup, Registry, empty_registry}
use Rattle.wt_registry.specs.Holds.{Hold, held_at}
use Rattle.wt_env.specs.Among.{Among}
use Rattle.wt_registry.specs.Indices.{number_of}
use Rattle.wt_registry.specs.Holds.{Collection, times}
use Rattle.wt_registry.specs.Sound.{IsSound}
use Rattle.wt_session.specs.declared.counts.ObjectCounts.{ObjectCounts}
use Rattle.wt_session.specs.declared.handle.Handle.{Handle}
use Rattle.wt_session.specs.declared.handle.Handle.TheVariants as handle
use Rattle.wt_session.specs.declared.party_handles.PartyHandles.{PartyHandles}
use Rattle.wt_session.specs.World.{World, no_counts, held_in, row_of}

-- a session of the engine in which nothing was done
abbrev pub new_world : EngineParts → World
new_world engine = record {
  registry = empty_registry engine;
  handles = replicate engine.limits.parties [];
  counts = no_counts;
}

-- the handles of each party that has a row
abbrev pub rows_of : List PartyHandles → List (List Handle)
rows_of rows = map (λ row. row.handles.items) rows

-- the handles of each party below the limit: one without a row has none
abbrev pub padded : ℕ → List (List Handle) → List (List Handle)
padded parties rows = rows ++ replicate (parties - length rows) []

abbrev pub world_of : Registry → ObjectCounts → List (List Handle) → World
world_of registry counts rows = record {
  registry = registry;
  handles = padded registry.engine.limits.parties rows;
  counts = counts;
}

-- a handle on a type: of the engine and the party, with an index of its group
pub record IsTypeHandle (registry : Registry) (party : ℕ) (hold : Hold) : Type 0 where
  pub engine : registry.engine.number ≡ hold.engine
  pub owner : hold.party ≡ party
  pub located : number_of registry.made hold.index ≡ Some hold.number

-- each index of a module's types is that of a registered group which the module holds
abbrev pub AreLocated : List RegisteredGroup → Collection → Type 0
AreLocated made types = (i : VMSharedTypeIndex) → Among i types.map → (n : ℕ) × Among n types.numbers × (number_of made i ≡ Some n)

-- a handle on a module: of the engine and the party, with the indices of groups that it holds
pub record IsModuleHandle (registry : Registry) (party : ℕ) (types : Collection) : Type 0 where
  pub engine : registry.engine.number ≡ types.engine
  pub owner : types.party ≡ party
  pub located : AreLocated registry.made types

-- what is true of each handle of a party
abbrev pub IsHandleOf : Registry → ℕ → Handle → Type 0
IsHandleOf registry party (handle.Type hold) = IsTypeHandle registry party hold
IsHandleOf registry party (handle.Owed number) = Unit {0}
IsHandleOf registry party (handle.Module types) = IsModuleHandle registry party types
IsHandleOf registry party handle.Ended = Unit {0}

-- A party's handles are its holds: it holds each group as often as handles hold it.
pub record AreHandles (registry : Registry) (party : ℕ) (row : List Handle) : Type 0 where
  pub counted : (number : ℕ) → held_at registry.standings party number ≡ times number (held_in row)
  pub each : (own : Handle) → Among own row → IsHandleOf registry party own

-- a registry that is kept true for the parties that have these handles
pub record IsKept (registry : Registry) (rows : List (List Handle)) : Type 0 where
  pub sound : IsSound registry
  pub parties : length rows ≤ registry.engine.limits.parties
  pub handles : (party : ℕ) → AreHandles registry party (row_of party rows)

-- what the command of a party leaves to others: the engine, and their holds with their indices
pub record Spares (old new : Registry) (party : ℕ) : Type 0 where
  pub engine : new.engine ≡ old.engine
  pub holds : (p n : ℕ) → p ≢ party → held_at new.standings p n ≡ held_at old.standings p n
  pub located : (i : VMSharedTypeIndex) (p n : ℕ) → p ≢ party → 1 ≤ held_at old.standings p n
      → number_of old.made i ≡ Some n → number_of new.made i ≡ Some n

-- what a party's command on its handles keeps true
pub record Keeps (old new : Registry) (party : ℕ) (row : List Handle) : Type 0 where
  pub sound : IsSound old → IsSound new
  pub handles : AreHandles new party row
  pub spares : Spares old new party
