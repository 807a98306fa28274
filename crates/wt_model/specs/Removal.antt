-- What is reached from what is held or waits, and what a drop, a sweep and a release leave of it.
use Rattle.std.specs.Prelude.{ℕ, ◌-◌, ◌==◌, List, [], ◌∷◌, length, slice_index, slice_set, Bool, true, false, ◌||◌, ◌&&◌, if◌then◌else◌, Option, Some, None}
use Rattle.std.specs.List.{filter}
use Rattle.wt_model.specs.Registered.{RegisteredGroup, GroupHolds, Registry}
use Rattle.wt_model.specs.Holds.{is_held, waits_at, change, no_longer, is_registered}
use Rattle.wt_model.specs.Reach.{leads_to}
use Rattle.wt_model.specs.declared.swept.Swept.{Swept}
use Rattle.wt_model.specs.declared.swept.Swept.TheVariants.{Removed, Kept, Gone}

-- whether somebody holds the group, or it waits
abbrev pub is_rooted : GroupHolds → Bool
is_rooted standing = is_held standing.holds || standing.waits

-- whether somebody holds the group with this number, or it waits
abbrev pub is_root : List GroupHolds → ℕ → Bool
is_root [] number = false
is_root (standing ∷ rest) number = if standing.number == number then is_rooted standing else is_root rest number

-- Whether edges lead from a root to this number. Groups stand from the oldest on, and each edge leads to an
-- older one, so what leads to a group stands behind it.
abbrev pub is_reached : List RegisteredGroup → (ℕ → Bool) → ℕ → Bool
is_reached [] root number = root number
is_reached (made ∷ rest) root number = is_reached rest root number || (leads_to made number && is_reached rest root made.number)

-- the groups whose numbers pass
abbrev pub kept_made : (ℕ → Bool) → List RegisteredGroup → List RegisteredGroup
kept_made keep made = filter (λ m. keep m.number) made

-- what keeps those
abbrev pub kept_standings : (ℕ → Bool) → List GroupHolds → List GroupHolds
kept_standings keep standings = filter (λ s. keep s.number) standings

-- which groups of a registry are reached
abbrev pub reached_in : Registry → ℕ → Bool
reached_in registry = is_reached registry.made (is_root registry.standings)

-- the registry without what isn't reached
abbrev pub reached_part : Registry → Registry
reached_part registry = record registry {
  made = kept_made (reached_in registry) registry.made;
  standings = kept_standings (reached_in registry) registry.standings;
}

-- one hold less, and nothing more yet: what was held didn't wait
abbrev pub fewer : ℕ → GroupHolds → GroupHolds
fewer party standing = record standing {
  holds = slice_set standing.holds party (slice_index standing.holds party - 1);
  waits = false;
}

abbrev pub now_waits : GroupHolds → GroupHolds
now_waits standing = record standing { waits = true }

-- One hold of a party ends: the debt, where the group is reached by no hold and by no group that waits, so
-- that it waits now, and the registry after it.
abbrev pub drop_hold : Registry → ℕ → ℕ → Option ℕ × Registry
drop_hold registry party number =
    let standings = change number (fewer party) registry.standings in
    if is_reached registry.made (is_root standings) number
    then (None, record registry { standings = standings })
    else (Some number, record registry { standings = change number now_waits standings })

-- the registry where this group waits no longer, without what isn't reached any more
abbrev pub swept_part : Registry → ℕ → Registry
swept_part registry number = reached_part (record registry { standings = change number no_longer registry.standings })

-- A sweep of a debt: a group that waits waits no longer, and all that isn't reached any more is removed. A
-- group that doesn't wait is kept; that registration may also be gone.
abbrev pub sweep_debt : Registry → ℕ → Swept × Registry
sweep_debt registry number =
    if waits_at registry.standings number
    then (Removed (length registry.made - length (swept_part registry number).made), swept_part registry number)
    else (if is_registered registry.made number then Kept else Gone, registry)

-- one hold less of each of these groups, in turn
abbrev pub fewer_of : ℕ → List ℕ → List GroupHolds → List GroupHolds
fewer_of party [] standings = standings
fewer_of party (number ∷ rest) standings = fewer_of party rest (change number (fewer party) standings)

-- Several holds of a party end at once: nothing begins to wait, and what isn't reached any more is removed.
abbrev pub release_holds : Registry → ℕ → List ℕ → Registry
release_holds registry party numbers = reached_part (record registry { standings = fewer_of party numbers registry.standings })
