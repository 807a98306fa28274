-- What the registry keeps, what that means, and what is kept true of it.
use Rattle.std.specs.Prelude.{◌≡◌, ℕ, ◌≤◌, List, [], length, map, true, vec_capacity}
use Rattle.wt_env.specs.Among.{Among}
use Rattle.wt_env.specs.Limits.{EngineParts}
use Rattle.wt_model.specs.declared.ever.EverRegistered.{EverRegistered}
use Rattle.wt_model.specs.Registered.{RegisteredGroup, GroupHolds, Registry}
use Rattle.wt_model.specs.Removal.{is_root, is_reached}
use Rattle.wt_model.specs.Sound.{KeepRules, IsRising, NamesOlder, AreBelow, HoldsInvariant}
use Rattle.wt_keys.specs.declared.entry.RecGroupEntry.{RecGroupEntry}
use Rattle.wt_keys.specs.Entries.{made_by}
use Rattle.wt_keys.specs.Keys.{AreKeys, AreShown}
use Rattle.wt_holds.specs.declared.inner.TypeRegistryInner.{TypeRegistryInner}
use Rattle.wt_holds.specs.declared.hold_counts.HoldCounts.{HoldCounts}
use Rattle.wt_holds.specs.Counts.{standings_of, references_at, AreTotals}
use Rattle.wt_holds.specs.References.{references, Cascading}

-- the registry that the fields stand for
abbrev pub registry_of : EngineParts → List RecGroupEntry → EverRegistered → List GroupHolds → Registry
registry_of engine entries given standings = record { engine = engine; made = made_by entries; given = given; standings = standings }

-- the registry of an engine that has these groups
abbrev pub registry_at : EngineParts → TypeRegistryInner → Registry
registry_at engine groups = registry_of engine groups.entries groups.given (standings_of groups.counts.items)

-- what is true of the groups while some are removed, where these numbers are on the stack, which has so much room,
-- and these references are not lowered yet
pub record Falling (made : List RegisteredGroup) (counts : List HoldCounts) (stack : List ℕ) (room : ℕ) (pending : List ℕ) : Type 0 where
  pub totals : AreTotals counts
  pub numbers : map (λ s. s.number) (standings_of counts) ≡ map (λ m. m.number) made
  pub within : length made ≤ room
  pub cascading : Cascading made (is_root (standings_of counts)) (references_at counts) stack pending

-- the same of all that is kept: edges lead to older groups alone
pub record AreRemoving (groups : TypeRegistryInner) (stack : List ℕ) : Type 0 where
  pub rising : IsRising 0 (made_by groups.entries) groups.given.numbers
  pub names_older : NamesOlder (made_by groups.entries)
  pub falling : Falling (made_by groups.entries) groups.counts.items stack (vec_capacity groups.stack) []

-- what a removal needs: each group is reached, its counts tell its references and its holds, and there is room for each
-- on the stack
pub record IsReady (groups : TypeRegistryInner) : Type 0 where
  pub rising : IsRising 0 (made_by groups.entries) groups.given.numbers
  pub names_older : NamesOlder (made_by groups.entries)
  pub numbers : map (λ s. s.number) (standings_of groups.counts.items) ≡ map (λ m. m.number) (made_by groups.entries)
  pub reached : (m : RegisteredGroup) → Among m (made_by groups.entries) → is_reached (made_by groups.entries) (is_root (standings_of groups.counts.items)) m.number ≡ true
  pub references : (number : ℕ) → references_at groups.counts.items number ≡ references (made_by groups.entries) number
  pub totals : AreTotals groups.counts.items
  pub stack : groups.stack.items ≡ []
  pub room : length groups.entries ≤ vec_capacity groups.stack

pub record AreKept (engine : EngineParts) (groups : TypeRegistryInner) : Type 0 where
  pub keys : AreKeys groups.entries groups.given.numbers
  pub shown : AreShown groups.entries
  pub rules : KeepRules (made_by groups.entries)
  pub within : length groups.entries ≤ engine.limits.groups
  pub below : AreBelow engine.limits.types (made_by groups.entries)
  pub holds : HoldsInvariant engine (made_by groups.entries) (standings_of groups.counts.items)
  pub references : (number : ℕ) → references_at groups.counts.items number ≡ references (made_by groups.entries) number
  pub totals : AreTotals groups.counts.items
  pub stack : groups.stack.items ≡ []
  pub room : length groups.entries ≤ vec_capacity groups.stack
