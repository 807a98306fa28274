-- Which indices the entries use.
use Rattle.std.proofs.Common.{◌≡◌, ℕ, ◌==◌, ◌||◌, List, [], ◌∷◌, map, is_some, refl, sym, ◌∙◌}
use Rattle.std.specs.List.{list_any, find}
use Rattle.std.proofs.lemmas.List.Folds.{list_any-append}
use Rattle.wt_env.specs.declared.types.VMSharedTypeIndex.{VMSharedTypeIndex}
use Rattle.wt_model.specs.Indices.{place_in, used, is_used}
use Rattle.wt_model.proofs.indices.FreeIndices.{list_any-bits}
use Rattle.wt_keys.specs.declared.entry.RecGroupEntry.{RecGroupEntry}
use Rattle.wt_keys.specs.Entries.{made_by}
use Rattle.wt_keys.proofs.Looking.{place_in-any, found-any}

-- an index is used where one of the entries has it
pub is_used-by : (k : ℕ) (entries : List RecGroupEntry) → list_any (λ entry. list_any (λ i. i.0 == k) entry.shared_type_indices) entries ≡ is_used (used (made_by entries)) k
is_used-by k [] = refl
is_used-by k (entry ∷ entries) =
    let here = list_any-bits k entry.shared_type_indices in
    let later = is_used-by k entries in
    (λ i. here i || later i) ∙ sym (list_any-append (λ j. j == k) (map (λ i. i.0) entry.shared_type_indices) (used (made_by entries)))

-- an index is used where an entry is found that has it
pub found-used : (i : VMSharedTypeIndex) (entries : List RecGroupEntry) → is_some (find (λ entry. is_some (place_in i entry.shared_type_indices)) entries) ≡ is_used (used (made_by entries)) i.0
found-used i entries =
    found-any (λ (entry : RecGroupEntry). is_some (place_in i entry.shared_type_indices)) (λ entry. list_any (λ j. j.0 == i.0) entry.shared_type_indices) entries (λ entry. place_in-any i.0 0 entry.shared_type_indices)
    ∙ is_used-by i.0 entries
