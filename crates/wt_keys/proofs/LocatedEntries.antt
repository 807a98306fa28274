-- The entry that is found for an index is where the index is located.
use Rattle.std.proofs.Common.{◌≡◌, ℕ, List, [], ◌∷◌, if◌then◌else◌, Option, Some, None, option_map, is_some, refl, sym, ap, ◌∙◌}
use Rattle.std.specs.List.{find}
use Rattle.std.specs.Option.{option_and_then}
use Rattle.wt_env.specs.declared.types.VMSharedTypeIndex.{VMSharedTypeIndex}
use Rattle.wt_tree.specs.Trampoline.{trampoline}
use Rattle.wt_model.specs.Indices.{place_in, located_here, locate}
use Rattle.wt_model.specs.Trampolines.{index_of, trampoline_index}
use Rattle.wt_model.specs.Trees.{trees}
use Rattle.wt_keys.specs.declared.entry.RecGroupEntry.{RecGroupEntry}
use Rattle.wt_keys.specs.Entries.{made_by}
use Rattle.wt_keys.specs.Keys.{at_entry}

pub found-located : (entries : List RecGroupEntry) (i : VMSharedTypeIndex) → option_and_then (at_entry i) (find (λ entry. is_some (place_in i entry.shared_type_indices)) entries) ≡ locate (made_by entries) i
found-located [] i = refl
found-located (e ∷ es) i = by (place_in i e.shared_type_indices) refl (found-located es i)
  where
    by : (place : Option ℕ) → place_in i e.shared_type_indices ≡ place → option_and_then (at_entry i) (find (λ entry. is_some (place_in i entry.shared_type_indices)) es) ≡ locate (made_by es) i
        → option_and_then (at_entry i) (if is_some place then Some e else find (λ entry. is_some (place_in i entry.shared_type_indices)) es) ≡ located_here e.number place (locate (made_by es) i)
    by (Some place) at later = ap (option_map (λ p. (e.number, p))) at
    by None at later = later

-- an entry that was found has the index at this place
pub located-at : (entries : List RecGroupEntry) (i : VMSharedTypeIndex) (e : RecGroupEntry) (place : ℕ) → find (λ entry. is_some (place_in i entry.shared_type_indices)) entries ≡ Some e → place_in i e.shared_type_indices ≡ Some place
    → locate (made_by entries) i ≡ Some (e.number, place)
located-at entries i e place found at = sym (found-located entries i) ∙ ap (option_and_then (at_entry i)) found ∙ ap (option_map (λ p. (e.number, p))) at

-- where none is found, the index isn't located
pub located-none : (entries : List RecGroupEntry) (i : VMSharedTypeIndex) → find (λ entry. is_some (place_in i entry.shared_type_indices)) entries ≡ None → locate (made_by entries) i ≡ None
located-none entries i none = sym (found-located entries i) ∙ ap (option_and_then (at_entry i)) none

-- and it has no trampoline
pub unlocated-trampoline : (entries : List RecGroupEntry) (i : VMSharedTypeIndex) → find (λ entry. is_some (place_in i entry.shared_type_indices)) entries ≡ None → None ≡ trampoline_index (made_by entries) i
unlocated-trampoline entries i none =
    let made = made_by entries in
    sym (ap (λ (at : Option (ℕ × ℕ)). option_and_then (index_of made) (option_and_then trampoline (option_map (λ at. record { tree = trees made at.0; place = at.1 }) at))) (located-none entries i none))
