-- A registry as contracts see it: the registered groups, how much was ever registered, and what keeps each group.
use Rattle.std.specs.Prelude.{ℕ, List, [], Bool, Option}
use Rattle.wt_env.specs.Limits.{EngineParts}
use Rattle.wt_env.specs.declared.types.VMSharedTypeIndex.{VMSharedTypeIndex}
use Rattle.wt_tree.specs.Tree.{Description}
use Rattle.wt_model.specs.declared.ever.EverRegistered.{EverRegistered}

-- a registered group: its registration number, what it is, of each member that is a function and not its own
-- trampoline the registration number of its trampoline's group, and the index of each member
pub record RegisteredGroup : Type 0 where
  pub number : ℕ
  pub description : Description
  pub trampolines : List (Option ℕ)
  pub indices : List VMSharedTypeIndex

-- what keeps a registered group: how many holds each party has of it, by the party's number, and whether
-- it waits for a sweep
pub record GroupHolds : Type 0 where
  pub number : ℕ
  pub holds : List ℕ
  pub waits : Bool

-- a registry: its engine, the registered groups from the oldest on, how much was ever registered, and
-- what keeps each group
pub record Registry : Type 0 where
  pub engine : EngineParts
  pub made : List RegisteredGroup
  pub given : EverRegistered
  pub standings : List GroupHolds

-- a registry in which nothing is registered
abbrev pub empty_registry : EngineParts → Registry
empty_registry engine = record { engine = engine; made = []; given = record { numbers = 0; types = 0; references = 0 }; standings = [] }
