-- Which groups lead to which.
use Rattle.std.specs.Prelude.{◌≡◌, ℕ, ◌==◌, List, ◌++◌, map, Bool}
use Rattle.std.specs.List.{list_any, filter_map}
use Rattle.wt_env.specs.Among.{Among}
use Rattle.wt_model.specs.Registered.{RegisteredGroup}

-- The edges of a group: the registration number that each of its references names which leaves it, in order, and
-- then that of the trampoline of each member that is a function and not its own trampoline; each occurrence counted.
abbrev pub edges : RegisteredGroup → List ℕ
edges group = map (λ reference. reference.0) group.description.outer ++ filter_map (λ number. number) group.trampolines

-- whether an edge leads from the group to the one with this number
abbrev pub leads_to : RegisteredGroup → ℕ → Bool
leads_to group number = list_any (λ n. n == number) (edges group)

-- an edge leads from the group with the first number to the one with the second
abbrev pub Edge : List RegisteredGroup → ℕ → ℕ → Type 0
Edge made from to = (group : RegisteredGroup) × Among group made × (group.number ≡ from) × Among to (edges group)

-- zero or more edges lead there
pub data Reach (made : List RegisteredGroup) (from : ℕ) : ℕ → Type 0 where
  here : Reach made from from
  further : (to next : ℕ) → Reach made from to → Edge made to next → Reach made from next
