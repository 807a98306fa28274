-- What is true of every registry.
use Rattle.std.specs.Prelude.{◌≡◌, ◌≢◌, ◌↔◌, ℕ, ◌<◌, ◌≤◌, ◌⊎◌, List, [], ◌∷◌, length, map, slice_get, slice_index, true, false, Some, None}
use Rattle.wt_env.specs.Limits.{EngineParts}
use Rattle.wt_env.specs.Among.{Among}
use Rattle.wt_env.specs.declared.types.VMSharedTypeIndex.{VMSharedTypeIndex}
use Rattle.wt_tree.specs.Tree.{ClosedTree}
use Rattle.wt_rules.specs.TypeRules.{broken_type}
use Rattle.wt_model.specs.Registered.{RegisteredGroup, GroupHolds, Registry}
use Rattle.wt_model.specs.Trees.{trees}
use Rattle.wt_model.specs.NamedTypes.{NameTypes}
use Rattle.wt_model.specs.Trampolines.{HaveTrampolines}
use Rattle.wt_model.specs.Indices.{locate, closed_tree}
use Rattle.wt_model.specs.Reach.{edges, Reach}
use Rattle.wt_model.specs.Holds.{is_held, held_at, waiting}
use Rattle.wt_model.specs.Removal.{is_root, is_reached}

-- ---- groups and indices

-- The numbers rise from above low, and none is above top.
abbrev pub IsRising : ℕ → List RegisteredGroup → ℕ → Type 0
IsRising low [] top = low ≤ top
IsRising low (made ∷ rest) top = (low < made.number) × IsRising made.number rest top

-- two registered types have one index exactly where their closed trees are equal
abbrev pub OneIndexPerTree : List RegisteredGroup → Type 0
OneIndexPerTree made =
    (a b : RegisteredGroup) (j k : ℕ) (i l : VMSharedTypeIndex) → Among a made → Among b made
    → slice_get a.indices j ≡ Some i → slice_get b.indices k ≡ Some l
    → (i ≡ l) ↔ ((trees made a.number ≡ trees made b.number) × (j ≡ k))

-- each edge leads to an older registered group
abbrev pub NamesOlder : List RegisteredGroup → Type 0
NamesOlder made =
    (a : RegisteredGroup) (number : ℕ) → Among a made → Among number (edges a)
    → (number < a.number) × (b : RegisteredGroup) × Among b made × (b.number ≡ number)

-- each index of a registered group is located at its place in that group
abbrev pub IsLocated : List RegisteredGroup → Type 0
IsLocated made =
    (a : RegisteredGroup) (j : ℕ) (i : VMSharedTypeIndex) → Among a made
    → slice_get a.indices j ≡ Some i → locate made i ≡ Some (a.number, j)

-- a group has as many indices as members
abbrev pub AreIndexed : List RegisteredGroup → Type 0
AreIndexed made = (a : RegisteredGroup) → Among a made → length a.indices ≡ length a.description.members

-- every index is below the limit on types
abbrev pub AreBelow : ℕ → List RegisteredGroup → Type 0
AreBelow bound made = (a : RegisteredGroup) (i : VMSharedTypeIndex) → Among a made → Among i a.indices → i.0 < bound

-- No registered type breaks a rule on what it names: its references name types of the kinds that they say, its supertype
-- isn't final, is of its kind and is one that its shape matches, and an exception keeps the rules on exceptions.
abbrev pub KeepRules : List RegisteredGroup → Type 0
KeepRules made = (i : VMSharedTypeIndex) (t : ClosedTree) → closed_tree made i ≡ Some t → broken_type t ≡ None

-- ---- holds

-- the counts have a place for each party, and none passes the limit
pub record AreCounted (engine : EngineParts) (standings : List GroupHolds) : Type 0 where
  pub parties : (s : GroupHolds) → Among s standings → length s.holds ≡ engine.limits.parties
  pub bounded : (s : GroupHolds) (party : ℕ) → Among s standings → slice_index s.holds party ≤ engine.limits.holds

-- What keeps a group is told for each, what waits is held by nobody and reached by nothing else, and each
-- group is reached.
pub record HoldsInvariant (engine : EngineParts) (made : List RegisteredGroup) (standings : List GroupHolds) : Type 0 where
  pub numbers : map (λ s. s.number) standings ≡ map (λ m. m.number) made
  pub counted : AreCounted engine standings
  pub unheld : (s : GroupHolds) → Among s standings → s.waits ≡ true → is_held s.holds ≡ false
  pub alone : (s : GroupHolds) (root : ℕ) → Among s standings → s.waits ≡ true → root ≢ s.number → is_root standings root ≡ true → Reach made root s.number → ⊥
  pub reached : (m : RegisteredGroup) → Among m made → is_reached made (is_root standings) m.number ≡ true

-- a number that a party holds
abbrev pub IsHeldBySome : List GroupHolds → ℕ → Type 0
IsHeldBySome standings number = (party : ℕ) × (1 ≤ held_at standings party number)

-- a number that a party holds, or that waits for a sweep
abbrev pub IsRoot : Registry → ℕ → Type 0
IsRoot registry number = IsHeldBySome registry.standings number ⊎ Among number (waiting registry.standings)

-- The registered groups are exactly those reached from what is held or waits.
pub record AreReached (registry : Registry) : Type 0 where
  pub every : (group : RegisteredGroup) → Among group registry.made → (root : ℕ) × IsRoot registry root × Reach registry.made root group.number
  pub only : (root number : ℕ) → IsRoot registry root → Reach registry.made root number → (group : RegisteredGroup) × Among group registry.made × (group.number ≡ number)

-- ---- all of it

pub record IsSound (registry : Registry) : Type 0 where
  pub rising : IsRising 0 registry.made registry.given.numbers
  pub one_index : OneIndexPerTree registry.made
  pub names_older : NamesOlder registry.made
  pub is_located : IsLocated registry.made
  pub indexed : AreIndexed registry.made
  pub below : AreBelow registry.engine.limits.types registry.made
  pub name_types : NameTypes registry.made
  pub rules : KeepRules registry.made
  pub trampolines : HaveTrampolines registry.made
  pub holds : HoldsInvariant registry.engine registry.made registry.standings
  pub reached : AreReached registry
