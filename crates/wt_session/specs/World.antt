-- A session as contracts see it, and which groups are registered in it.
use Rattle.std.specs.Prelude.{◌≡◌, ℕ, zero, suc, List, [], ◌∷◌, ◌++◌, slice_get, Bool, true, false, Option, Some, None, option_map, option_and_then}
use Rattle.std.specs.List.{flat_map}
use Rattle.wt_env.specs.declared.types.VMSharedTypeIndex.{VMSharedTypeIndex}
use Rattle.wt_registry.specs.Registered.{RegisteredGroup, Registry}
use Rattle.wt_registry.specs.Indices.{number_of}
use Rattle.wt_registry.specs.Holds.{Hold, waiting}
use Rattle.wt_env.specs.Among.{Among}
use Rattle.wt_registry.specs.Holds.{Collection}
use Rattle.wt_registry.specs.Sound.{IsRising}
use Rattle.wt_registry.specs.Reach.{Reach}
use Rattle.wt_commands.specs.declared.command.NamedType.{NamedType}
use Rattle.wt_commands.specs.declared.command.NamedType.TheVariants as named
use Rattle.wt_commands.specs.declared.command.Command.{Command}
use Rattle.wt_commands.specs.declared.command.Command.TheVariants as command
use Rattle.wt_session.specs.declared.counts.ObjectCounts.{ObjectCounts}
use Rattle.wt_session.specs.declared.handle.Handle.{Handle}
use Rattle.wt_session.specs.declared.handle.Handle.TheVariants as handle

-- A session: its registry, the handles of each party below the limit, by their numbers, and how many of each
-- kind of object were made so far, over all parties.
pub record World : Type 0 where
  pub registry : Registry
  pub handles : List (List Handle)
  pub counts : ObjectCounts

-- nothing was made yet
abbrev pub no_counts : ObjectCounts
no_counts = record { stores = 0; modules = 0; components = 0; component_instances = 0 }

-- a drop, a sweep, a release, a trampoline, a subtype test and a match take no memory
abbrev pub takes_memory : Command → Bool
takes_memory (command.HostType by sub) = true
takes_memory (command.Module by types) = true
takes_memory (command.Clone by place) = true
takes_memory (command.Root by index) = true
takes_memory (command.Drop by place) = false
takes_memory (command.Sweep by place) = false
takes_memory (command.Release by place) = false
takes_memory (command.Trampoline by ty) = false
takes_memory (command.Subtype by sub sup) = false
takes_memory (command.Matches by a b) = false
takes_memory (command.Show by ty) = true
takes_memory (command.Live by) = true

-- commands alone that take no memory
abbrev pub TakeNoMemory : List Command → Type 0
TakeNoMemory commands = (command : Command) → Among command commands → takes_memory command ≡ false

-- there is a command at this place, and it takes memory
abbrev pub TakesMemoryAt : ℕ → List Command → Type 0
TakesMemoryAt place commands = (command : Command) × (slice_get commands place ≡ Some command) × (takes_memory command ≡ true)

-- the registration numbers that a handle holds
abbrev pub numbers_held : Handle → List ℕ
numbers_held (handle.Type hold) = hold.number ∷ []
numbers_held (handle.Owed number) = []
numbers_held (handle.Module types) = types.numbers
numbers_held handle.Ended = []

abbrev pub held_in : List Handle → List ℕ
held_in row = flat_map numbers_held row

-- the registration numbers that all parties' handles hold
abbrev pub holds : World → List ℕ
holds world = flat_map held_in world.handles

-- a number that is reached from a held number or from one that waits for a sweep
abbrev pub IsReached : World → ℕ → Type 0
IsReached world number =
    (root : ℕ) × Among root (holds world ++ waiting world.registry.standings) × Reach world.registry.made root number

-- the registered groups, in order of their numbers, are exactly those reached
pub record HasExactlyReached (world : World) : Type 0 where
  pub in_order : IsRising 0 world.registry.made world.registry.given.numbers
  pub every : (group : RegisteredGroup) → Among group world.registry.made → IsReached world group.number
  pub only : (number : ℕ) → IsReached world number → (group : RegisteredGroup) × Among group world.registry.made × (group.number ≡ number)

-- the handles of a party
abbrev pub row_of : ℕ → List (List Handle) → List Handle
row_of party [] = []
row_of zero (row ∷ rows) = row
row_of (suc party) (row ∷ rows) = row_of party rows

abbrev pub type_in : Option Handle → Option Hold
type_in (Some (handle.Type hold)) = Some hold
type_in other = None

-- the hold of a type handle
abbrev pub type_at : List Handle → ℕ → Option Hold
type_at row place = type_in (slice_get row place)

abbrev pub debt_in : Option Handle → Option ℕ
debt_in (Some (handle.Owed number)) = Some number
debt_in other = None

-- the registration number of the group that a debt's party is to sweep
abbrev pub debt_at : List Handle → ℕ → Option ℕ
debt_at row place = debt_in (slice_get row place)

abbrev pub module_in : Option Handle → Option Collection
module_in (Some (handle.Module types)) = Some types
module_in other = None

-- what a party holds by a handle on a module
abbrev pub module_at : List Handle → ℕ → Option Collection
module_at row place = module_in (slice_get row place)

-- the index of the type that is named by a party's handles, if there is one: of a type handle, or in a module's map
abbrev pub index_named : List Handle → NamedType → Option VMSharedTypeIndex
index_named row (named.Handle place) = option_map (λ hold. hold.index) (type_at row place)
index_named row (named.OfModule place ty) = option_and_then (λ types. slice_get types.map ty) (module_at row place)

-- Each index that a party names by a handle is that of a registered group, which the party holds.
abbrev pub HoldsNamedTypes : World → Type 0
HoldsNamedTypes world =
    (party : ℕ) (ty : NamedType) (i : VMSharedTypeIndex) → index_named (row_of party world.handles) ty ≡ Some i
    → (number : ℕ) × Among number (held_in (row_of party world.handles)) × (number_of world.registry.made i ≡ Some number)
