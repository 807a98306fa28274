-- How many edges an entry has: its references that leave, and the trampolines that are told.
use Rattle.std.proofs.Common.{◌≡◌, ℕ, ◌+◌, List, ◌∷◌, length, map, Option, Some, None, cond, is_some, count_by, refl, ◌∙◌, arith}
use Rattle.std.specs.List.{filter_map}
use Rattle.std.proofs.lemmas.List.Recursion.{is_count_by}
use Rattle.std.proofs.lemmas.List.{length-append, length-map}
use Rattle.wt_model.specs.Reach.{edges}
use Rattle.wt_keys.specs.declared.entry.RecGroupEntry.{RecGroupEntry}
use Rattle.wt_keys.specs.Entries.{made_of}

told-counted : (told : List (Option ℕ)) → length (filter_map (λ number. number) told) ≡ count_by (λ one. is_some one) told
told-counted told = is_count_by (λ (ts : List (Option ℕ)). length (filter_map (λ number. number) ts)) (λ one. is_some one) refl step told
  where
    step : (t : Option ℕ) (ts : List (Option ℕ)) → length (filter_map (λ number. number) (t ∷ ts)) ≡ cond (is_some t) (1 + length (filter_map (λ number. number) ts)) (length (filter_map (λ number. number) ts))
    step None ts = refl
    step (Some n) ts = omega arith

pub edges-counted : (entry : RecGroupEntry) → length (edges (made_of entry)) ≡ length entry.outer + count_by (λ one. is_some one) entry.trampolines
edges-counted entry =
    let references = length-map entry.outer (λ (r : ℕ × ℕ). r.0) in
    let told = told-counted entry.trampolines in
    length-append (map (λ (r : ℕ × ℕ). r.0) entry.outer) (filter_map (λ (number : Option ℕ). number) entry.trampolines)
    ∙ (λ i. references i + told i)
