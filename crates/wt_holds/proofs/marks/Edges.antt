-- An edge to a number, by the references of the entry and by what is told of its trampolines.
use Rattle.std.proofs.Common.{◌≡◌, ℕ, ◌==◌, Bool, true, false, ◌||◌, List, [], ◌∷◌, map, Option, Some, None, refl, ap, ◌∙◌}
use Rattle.std.specs.List.{list_any, filter_map}
use Rattle.std.specs.Option.{option_to_list}
use Rattle.std.proofs.lemmas.List.Folds.{list_any-append}
use Rattle.wt_model.specs.Reach.{leads_to}
use Rattle.wt_keys.specs.declared.entry.RecGroupEntry.{RecGroupEntry}
use Rattle.wt_keys.specs.Entries.{made_of}

any-first : (number : ℕ) (references : List (ℕ × ℕ)) → list_any (λ n. n == number) (map (λ r. r.0) references) ≡ list_any (λ r. r.0 == number) references
any-first number [] = refl
any-first number (r ∷ references) = ap (λ b. (r.0 == number) || b) (any-first number references)

-- whether one of the numbers that are told passes
any-told : (number : ℕ) (told : List (Option ℕ)) → list_any (λ n. n == number) (filter_map (λ t. t) told) ≡ list_any (λ t. list_any (λ n. n == number) (option_to_list t)) told
any-told number [] = refl
any-told number (None ∷ told) = any-told number told
any-told number (Some n ∷ told) = by (n == number) (any-told number told)
  where
    by : (here : Bool) → list_any (λ n. n == number) (filter_map (λ t. t) told) ≡ list_any (λ t. list_any (λ n. n == number) (option_to_list t)) told
        → (here || list_any (λ n. n == number) (filter_map (λ t. t) told)) ≡ ((here || false) || list_any (λ t. list_any (λ n. n == number) (option_to_list t)) told)
    by true rest = refl
    by false rest = rest

pub edge-to : (entry : RecGroupEntry) (number : ℕ)
    → leads_to (made_of entry) number ≡ (list_any (λ r. r.0 == number) entry.outer || list_any (λ t. list_any (λ n. n == number) (option_to_list t)) entry.trampolines)
edge-to entry number =
    let references = any-first number entry.outer in
    let trampolines = any-told number entry.trampolines in
    list_any-append (λ (n : ℕ). n == number) (map (λ (r : ℕ × ℕ). r.0) entry.outer) (filter_map (λ (told : Option ℕ). told) entry.trampolines)
    ∙ (λ i. references i || trampolines i)
