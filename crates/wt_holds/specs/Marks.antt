-- Marks beside the groups.
use Rattle.std.specs.Prelude.{ℕ, List, [], ◌∷◌, map, Bool, false, ◌||◌, ◌&&◌}
use Rattle.std.specs.List.{filter}
use Rattle.wt_model.specs.Registered.{RegisteredGroup}
use Rattle.wt_model.specs.Reach.{leads_to}
use Rattle.wt_keys.specs.declared.entry.RecGroupEntry.{RecGroupEntry}

-- what a test says of each group's number
abbrev pub marked : (ℕ → Bool) → List RegisteredGroup → List Bool
marked test made = map (λ m. test m.number) made

-- whether a group that is marked leads to the one with this number
abbrev pub marked_leads : List RegisteredGroup → List Bool → ℕ → Bool
marked_leads [] marks number = false
marked_leads (made ∷ rest) [] number = false
marked_leads (made ∷ rest) (mark ∷ marks) number = (mark && leads_to made number) || marked_leads rest marks number

-- the entries of the groups whose numbers pass
abbrev pub kept_entries : (ℕ → Bool) → List RecGroupEntry → List RecGroupEntry
kept_entries keep entries = filter (λ entry. keep entry.number) entries
