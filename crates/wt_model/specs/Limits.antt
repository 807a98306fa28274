-- What a registration wants of each limit, in the order in which the limits are tested.
use Rattle.std.specs.Prelude.{ℕ, ◌+◌, List, [], ◌∷◌, ◌++◌, length, nat_lt, Option}
use Rattle.std.specs.List.{find}
use Rattle.wt_env.specs.declared.limits.EngineLimits.{EngineLimits}
use Rattle.wt_env.specs.declared.limits.Limit.TheVariants.{Groups, Types, References, Ever, Holds}
use Rattle.wt_model.specs.declared.refusal.Full.{Full}
use Rattle.wt_model.specs.Registered.{RegisteredGroup, GroupHolds, Registry}
use Rattle.wt_model.specs.Indices.{used}
use Rattle.wt_model.specs.Reach.{edges}
use Rattle.wt_model.specs.Holds.{held_at, times}
use Rattle.wt_model.specs.Plan.{Plan, groups_of}

-- the first that is above its bound
abbrev pub first_full : List Full → Option Full
first_full wanted = find (λ full. nat_lt full.bound full.wanted) wanted

-- how many edges the groups have, each occurrence counted
abbrev pub references_of : List RegisteredGroup → ℕ
references_of [] = 0
references_of (group ∷ rest) = length (edges group) + references_of rest

-- what these groups want of the limits, where so many registration numbers were given
abbrev pub wanted_of : EngineLimits → List RegisteredGroup → ℕ → List Full
wanted_of limits groups numbers =
    record { limit = Groups; bound = limits.groups; wanted = length groups }
    ∷ record { limit = Types; bound = limits.types; wanted = length (used groups) }
    ∷ record { limit = References; bound = limits.references; wanted = references_of groups }
    ∷ record { limit = Ever; bound = limits.ever; wanted = numbers }
    ∷ []

-- What a party's holds of each group want of the limit, with one more for each time that it occurs. Of a new
-- group nobody has a hold.
abbrev pub holds_wanted : EngineLimits → List GroupHolds → ℕ → List ℕ → List ℕ → List Full
holds_wanted limits standings party numbers [] = []
holds_wanted limits standings party numbers (number ∷ rest) =
    record { limit = Holds; bound = limits.holds; wanted = held_at standings party number + times number numbers }
    ∷ holds_wanted limits standings party numbers rest

-- The first limit that a registry would pass with a plan of a party: those on groups, types, references and
-- numbers, then those on the party's holds of each group, in the order of the groups.
abbrev pub passed_limit : Registry → ℕ → Plan → Option Full
passed_limit registry party plan =
    first_full (
    wanted_of registry.engine.limits (groups_of plan) plan.given.numbers
    ++ holds_wanted registry.engine.limits registry.standings party plan.numbers plan.numbers)
