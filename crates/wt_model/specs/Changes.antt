-- What one step changes in a registry, and what it leaves.
use Rattle.std.specs.Prelude.{◌≡◌, ◌≢◌, ℕ, ◌+◌, ◌⊎◌, List, ◌++◌, Some}
use Rattle.wt_env.specs.Among.{Among}
use Rattle.wt_env.specs.declared.types.VMSharedTypeIndex.{VMSharedTypeIndex}
use Rattle.wt_model.specs.Registered.{RegisteredGroup, Registry}
use Rattle.wt_model.specs.Indices.{number_of}
use Rattle.wt_model.specs.Reach.{Reach}
use Rattle.wt_model.specs.Holds.{held_at, waiting, times}
use Rattle.wt_model.specs.Sound.{IsHeldBySome, IsRoot}

-- What more holds of a party change, on each group as often as its number stands there: no other hold is
-- changed, the groups are registered now, each group that is new is one of them or one of them leads to it, each
-- index is still that of its group, and no group waits that didn't.
pub record HoldChanges (old new : Registry) (party : ℕ) (numbers : List ℕ) : Type 0 where
  pub engine : new.engine ≡ old.engine
  pub registered : (n : ℕ) → Among n numbers → (group : RegisteredGroup) × Among group new.made × (group.number ≡ n)
  pub made : (added : List RegisteredGroup) × (new.made ≡ old.made ++ added) × ((group : RegisteredGroup) → Among group added → (n : ℕ) × Among n numbers × Reach new.made n group.number)
  pub more : (n : ℕ) → held_at new.standings party n ≡ held_at old.standings party n + times n numbers
  pub others : (p n : ℕ) → p ≢ party → held_at new.standings p n ≡ held_at old.standings p n
  pub located : (i : VMSharedTypeIndex) (n : ℕ) → number_of old.made i ≡ Some n → number_of new.made i ≡ Some n
  pub waiting : (n : ℕ) → Among n (waiting new.standings) → Among n (waiting old.standings)

-- What the end of a hold changes: the party has one hold less of the group, and no other hold is changed. The
-- same groups are registered, and no other group waits that didn't.
pub record DropChanges (old new : Registry) (party number : ℕ) : Type 0 where
  pub engine : new.engine ≡ old.engine
  pub made : new.made ≡ old.made
  pub less : held_at old.standings party number ≡ held_at new.standings party number + 1
  pub others : (p n : ℕ) → (p ≢ party) ⊎ (n ≢ number) → held_at new.standings p n ≡ held_at old.standings p n
  pub waiting : (n : ℕ) → Among n (waiting new.standings) → (n ≡ number) ⊎ Among n (waiting old.standings)

-- A group is still reached by edges, from a group that is held after a step or that waited before it.
abbrev pub IsStillReached : Registry → Registry → ℕ → Type 0
IsStillReached old new number = (root : ℕ) × (IsHeldBySome new.standings root ⊎ Among root (waiting old.standings)) × Reach new.made root number

-- What a removal leaves: no group is added, exactly the groups stay that edges lead to from what is held or
-- waits then, no other group waits that didn't, and what is reached from a held group keeps its indices.
pub record RemovalChanges (old new : Registry) : Type 0 where
  pub made : (group : RegisteredGroup) → Among group new.made → Among group old.made
  pub stays : (group : RegisteredGroup) (root : ℕ) → Among group old.made → IsRoot new root → Reach old.made root group.number → Among group new.made
  pub waiting : (n : ℕ) → Among n (waiting new.standings) → Among n (waiting old.standings)
  pub located : (i : VMSharedTypeIndex) (root n : ℕ) → IsHeldBySome new.standings root → Reach old.made root n
      → number_of old.made i ≡ Some n → number_of new.made i ≡ Some n

-- What a sweep changes: no hold, and it removes what isn't reached any more.
pub record SweepChanges (old new : Registry) : Type 0 where
  pub engine : new.engine ≡ old.engine
  pub holds : (p n : ℕ) → held_at new.standings p n ≡ held_at old.standings p n
  pub removal : RemovalChanges old new

-- What a release changes: the party has one hold less of each group for each time that its number stands there,
-- no other hold is changed, and it removes what isn't reached any more.
pub record ReleaseChanges (old new : Registry) (party : ℕ) (numbers : List ℕ) : Type 0 where
  pub engine : new.engine ≡ old.engine
  pub less : (n : ℕ) → held_at old.standings party n ≡ held_at new.standings party n + times n numbers
  pub others : (p n : ℕ) → p ≢ party → held_at new.standings p n ≡ held_at old.standings p n
  pub removal : RemovalChanges old new
