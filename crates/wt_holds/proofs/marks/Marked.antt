-- What is left where marks tell which groups are kept.
use Rattle.std.proofs.Common.{◌≡◌, ℕ, Bool, cond, List, [], ◌∷◌, map, refl, sym, ap, ◌∙◌}
use Rattle.std.specs.List.{filter}
use Rattle.std.proofs.lemmas.Simd.{map-map}
use Rattle.wt_env.proofs.lists.Filtered.{map_filter}
use Rattle.wt_holds.specs.declared.hold_counts.HoldCounts.{HoldCounts}
use Rattle.wt_keys.specs.declared.entry.RecGroupEntry.{RecGroupEntry}
use Rattle.wt_holds.specs.Counts.{standing_of, standings_of}
use Rattle.wt_keys.specs.Entries.{made_of, made_by}
use Rattle.wt_model.specs.Registered.{RegisteredGroup, GroupHolds}
use Rattle.wt_keys.specs.Marks.{marked_items}
use Rattle.wt_holds.specs.Marks.{marked, kept_entries}
use Rattle.wt_model.specs.Removal.{kept_made, kept_standings}

-- where a test of what f makes of each item is its mark, those that pass are left
items-marked : {A B : Type 0} (f : A → B) (keep : B → Bool) (items : List A) → marked_items (map keep (map f items)) items ≡ filter (λ item. keep (f item)) items
items-marked f keep [] = refl
items-marked f keep (x ∷ items) = ap (λ rest. cond (keep (f x)) (x ∷ rest) rest) (items-marked f keep items)

-- so the entries that are left are those of the groups that are kept
pub entries-marked : (keep : ℕ → Bool) (entries : List RecGroupEntry) → marked_items (marked keep (made_by entries)) entries ≡ kept_entries keep entries
entries-marked keep entries = items-marked made_of (λ m. keep m.number) entries

-- which are those groups
pub made-kept : (keep : ℕ → Bool) (entries : List RecGroupEntry) → made_by (kept_entries keep entries) ≡ kept_made keep (made_by entries)
made-kept keep entries = map_filter made_of (λ m. keep m.number) entries

pub marks-numbers : (keep : ℕ → Bool) (made : List RegisteredGroup) → marked keep made ≡ map keep (map (λ m. m.number) made)
marks-numbers keep made = sym (map-map keep (λ (m : RegisteredGroup). m.number) made)

-- and so for the counts, which stand under the same numbers
pub counts-marked : (keep : ℕ → Bool) (made : List RegisteredGroup) (counts : List HoldCounts) → map (λ s. s.number) (standings_of counts) ≡ map (λ m. m.number) made
    → standings_of (marked_items (marked keep made) counts) ≡ kept_standings keep (standings_of counts)
counts-marked keep made counts same =
    ap (λ marks. standings_of (marked_items marks counts)) (marks-numbers keep made ∙ ap (map keep) (sym same ∙ map-map (λ (s : GroupHolds). s.number) standing_of counts))
    ∙ (ap standings_of (items-marked (λ (c : HoldCounts). (standing_of c).number) keep counts) ∙ map_filter standing_of (λ s. keep s.number) counts)
