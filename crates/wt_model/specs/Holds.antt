-- What keeps the groups: the holds of parties, and which groups wait for a sweep.
use Rattle.std.specs.Prelude.{◌≡◌, ℕ, ◌+◌, ◌<◌, ◌≤◌, ◌==◌, List, [], ◌∷◌, ◌++◌, slice_index, slice_set, Bool, false, nat_lt, if◌then◌else◌, Option, Some, None, Result, Ok, Err}
use Rattle.std.specs.Hash as fed
use Rattle.std.specs.List.{list_any}
use Rattle.wt_env.specs.declared.limits.Limit.TheVariants.{Holds}
use Rattle.wt_env.specs.declared.types.VMSharedTypeIndex.{VMSharedTypeIndex}
use Rattle.wt_model.specs.declared.refusal.Full.{Full}
use Rattle.wt_model.specs.Registered.{RegisteredGroup, GroupHolds, Registry}
use Rattle.wt_model.specs.Indices.{locate, number_of}

-- what keeps this group is changed
abbrev pub change : ℕ → (GroupHolds → GroupHolds) → List GroupHolds → List GroupHolds
change number f [] = []
change number f (standing ∷ rest) = if standing.number == number then f standing ∷ rest else standing ∷ change number f rest

abbrev pub is_held : List ℕ → Bool
is_held holds = list_any (λ count. nat_lt 0 count) holds

-- how many holds of a group a party has
abbrev pub held_at : List GroupHolds → ℕ → ℕ → ℕ
held_at [] party number = 0
held_at (standing ∷ rest) party number = if standing.number == number then slice_index standing.holds party else held_at rest party number

-- whether a group waits
abbrev pub waits_at : List GroupHolds → ℕ → Bool
waits_at [] number = false
waits_at (standing ∷ rest) number = if standing.number == number then standing.waits else waits_at rest number

-- the groups that wait, by their registration numbers
abbrev pub waiting : List GroupHolds → List ℕ
waiting [] = []
waiting (standing ∷ rest) = if standing.waits then standing.number ∷ waiting rest else waiting rest

abbrev pub no_longer : GroupHolds → GroupHolds
no_longer standing = record standing { waits = false }

-- these groups don't wait
abbrev pub stop_waiting : List ℕ → List GroupHolds → List GroupHolds
stop_waiting [] standings = standings
stop_waiting (number ∷ rest) standings = stop_waiting rest (change number no_longer standings)

-- ---- one hold

-- one more hold of a party; what is held doesn't wait
abbrev pub gained : ℕ → GroupHolds → GroupHolds
gained party standing = record standing {
  holds = slice_set standing.holds party (slice_index standing.holds party + 1);
  waits = false;
}

abbrev pub full_of_holds : Registry → ℕ → ℕ → Full
full_of_holds registry party number = record { limit = Holds; bound = registry.engine.limits.holds; wanted = held_at registry.standings party number + 1 }

-- One more hold of a party on a registered group, or the limit that it would pass.
abbrev pub hold : Registry → ℕ → ℕ → Result Registry Full
hold registry party number =
    if nat_lt registry.engine.limits.holds (held_at registry.standings party number + 1)
    then Err (full_of_holds registry party number)
    else Ok (record registry { standings = change number (gained party) registry.standings })

abbrev pub is_registered : List RegisteredGroup → ℕ → Bool
is_registered made number = list_any (λ m. m.number == number) made

-- a hold of one registered type, by a party
pub record Hold : Type 0 where
  pub engine : ℕ
  pub index : VMSharedTypeIndex
  pub number : ℕ
  pub party : ℕ

-- what is fed to a hasher for a hold: its engine and its index
abbrev pub hold_feed : Hold → List (List ℕ)
hold_feed hold = fed.u64 hold.engine ++ fed.u32 hold.index.0

-- The hold is one of a party on a group of this registry, which has the hold's index: what it takes to use it.
pub record IsHeld (registry : Registry) (hold : Hold) : Type 0 where
  pub engine : registry.engine.number ≡ hold.engine
  pub party : hold.party < registry.engine.limits.parties
  pub held : 1 ≤ held_at registry.standings hold.party hold.number
  pub located : number_of registry.made hold.index ≡ Some hold.number

abbrev pub rooted_after : ℕ → ℕ → VMSharedTypeIndex → ℕ → Result Registry Full → Result (Option Hold × Registry) Full
rooted_after engine party index number (Ok registry) = Ok (Some (record { engine = engine; index = index; number = number; party = party }), registry)
rooted_after engine party index number (Err full) = Err full

abbrev pub rooted : Registry → ℕ → VMSharedTypeIndex → Option (ℕ × ℕ) → Result (Option Hold × Registry) Full
rooted registry party index (Some at) = rooted_after registry.engine.number party index at.0 (hold registry party at.0)
rooted registry party index None = Ok (None, registry)

-- One more hold of the type that has this index; there may be none.
abbrev pub root : Registry → ℕ → VMSharedTypeIndex → Result (Option Hold × Registry) Full
root registry party index = rooted registry party index (locate registry.made index)

-- ---- the holds of a module

-- how often a number stands in a list
abbrev pub times : ℕ → List ℕ → ℕ
times n [] = 0
times n (m ∷ rest) = if m == n then times n rest + 1 else times n rest

-- one more hold of a party for each time that a group occurs
abbrev pub hold_each : ℕ → List ℕ → List GroupHolds → List GroupHolds
hold_each party [] standings = standings
hold_each party (number ∷ rest) standings = hold_each party rest (change number (gained party) standings)

-- what a party holds of a module: one hold of each group for each time that it occurs, the index of each type, and
-- the index of the trampoline of each function type
pub record Collection : Type 0 where
  pub engine : ℕ
  pub party : ℕ
  pub numbers : List ℕ
  pub map : List VMSharedTypeIndex
  pub trampolines : List VMSharedTypeIndex

-- The holds of a module's types are a party's in this registry: what it takes to release them.
pub record IsHolding (registry : Registry) (types : Collection) : Type 0 where
  pub engine : registry.engine.number ≡ types.engine
  pub party : types.party < registry.engine.limits.parties
  pub held : (n : ℕ) → times n types.numbers ≤ held_at registry.standings types.party n
