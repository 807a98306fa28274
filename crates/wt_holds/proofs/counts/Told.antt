-- What is still to be lowered, as it is lowered.
use Rattle.std.proofs.Common.{◌≡◌, ℕ, ◌+◌, ◌<◌, List, [], ◌∷◌, ◌++◌, length, map, drop, get_or, Option, Some, None, refl, sym, ap, ◌∙◌}
use Rattle.std.specs.List.{filter_map}
use Rattle.std.specs.Option.{option_to_list}
use Rattle.std.proofs.lemmas.List.{drop_more, append_assoc}
use Rattle.wt_keys.specs.declared.entry.RecGroupEntry.{RecGroupEntry}
use Rattle.wt_keys.specs.Entries.{made_of}
use Rattle.wt_model.specs.Reach.{edges}

abbrev pub told_of : List (Option ℕ) → List ℕ
told_of trampolines = filter_map (λ told. told) trampolines

told-first : (x : Option ℕ) (xs : List (Option ℕ)) → told_of (x ∷ xs) ≡ option_to_list x ++ told_of xs
told-first (Some n) xs = refl
told-first None xs = refl

pub told-step : (trampolines : List (Option ℕ)) (k : ℕ) (rest : List ℕ) → k < length trampolines
    → told_of (drop k trampolines) ++ rest ≡ option_to_list (get_or trampolines k None) ++ (told_of (drop (k + 1) trampolines) ++ rest)
told-step trampolines k rest below =
    ap (λ ts. told_of ts ++ rest) (drop_more trampolines k None below)
    ∙ (ap (λ ns. ns ++ rest) (told-first (get_or trampolines k None) (drop (k + 1) trampolines))
    ∙ append_assoc (option_to_list (get_or trampolines k None)) (told_of (drop (k + 1) trampolines)) rest)

pub edges-split : (entry : RecGroupEntry) → edges (made_of entry) ≡ map (λ reference. reference.0) entry.outer ++ (told_of entry.trampolines ++ [])
edges-split entry = sym (
    ap (λ (ns : List ℕ). map (λ (reference : ℕ × ℕ). reference.0) entry.outer ++ ns) (append-none (told_of entry.trampolines)))
  where
    append-none : (ns : List ℕ) → ns ++ [] ≡ ns
    append-none [] = refl
    append-none (n ∷ ns) = ap (λ rest. n ∷ rest) (append-none ns)
