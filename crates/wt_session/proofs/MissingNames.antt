-- The first name of a list that is missing, by the parts of the list.
use Rattle.std.proofs.Common.{◌≡◌, ℕ, zero, suc, ◌+◌, ◌<◌, Bool, true, false, cond, List, [], ◌∷◌, ◌++◌, length, get_or, drop, Option, Some, None, refl, sym, ap, ◌∙◌, arith}
use Rattle.std.specs.List.{flat_map}
use Rattle.std.specs.Option.{option_or}
use Rattle.wt_env.specs.declared.types.Kind.{Kind}
use Rattle.wt_env.specs.declared.types.VMSharedTypeIndex.{VMSharedTypeIndex}
use Rattle.wt_commands.specs.declared.command.NamedType.{NamedType}
use Rattle.wt_session.specs.HostTypes.{is_missing, first_missing}

module _ (read : NamedType → Option (Kind × VMSharedTypeIndex)) where
  pub first_missing-append : (xs ys : List (Option Kind × NamedType)) → first_missing read (xs ++ ys) ≡ option_or (first_missing read xs) (first_missing read ys)
  first_missing-append [] ys = refl
  first_missing-append (x ∷ xs) ys = by (is_missing x.0 (read x.1)) (first_missing-append xs ys)
    where
      by : (b : Bool) → first_missing read (xs ++ ys) ≡ option_or (first_missing read xs) (first_missing read ys) → cond b (Some x.1) (first_missing read (xs ++ ys)) ≡ option_or (cond b (Some x.1) (first_missing read xs)) (first_missing read ys)
      by true rest = refl
      by false rest = rest

  neither : (a b : Option NamedType) → option_or a b ≡ None → (a ≡ None) × (b ≡ None)
  neither None b is = (refl, is)
  neither (Some x) b is = absurd (cc)

  pub none-missing : (xs ys : List (Option Kind × NamedType)) → first_missing read (xs ++ ys) ≡ None → (first_missing read xs ≡ None) × (first_missing read ys ≡ None)
  none-missing xs ys none = neither (first_missing read xs) (first_missing read ys) (sym (first_missing-append xs ys) ∙ none)

  -- the first of two lists has it, or else the second
  pub found-before : (xs ys : List (Option Kind × NamedType)) (name : NamedType) → Some name ≡ first_missing read xs → Some name ≡ first_missing read (xs ++ ys)
  found-before xs ys name found = ap (λ (o : Option NamedType). option_or o (first_missing read ys)) found ∙ sym (first_missing-append xs ys)

  pub found-behind : (xs ys : List (Option Kind × NamedType)) (name : Option NamedType) → None ≡ first_missing read xs → name ≡ first_missing read ys → name ≡ first_missing read (xs ++ ys)
  found-behind xs ys name none found = found ∙ ap (λ (o : Option NamedType). option_or o (first_missing read ys)) none ∙ sym (first_missing-append xs ys)

  -- what is there of the first name of a list, and of the others
  pub first-there : (wanted : Option Kind) (name : NamedType) (names : List (Option Kind × NamedType)) → first_missing read ((wanted, name) ∷ names) ≡ None
      → (is_missing wanted (read name) ≡ false) × (first_missing read names ≡ None)
  first-there wanted name names none = by (is_missing wanted (read name)) none
    where
      by : (b : Bool) → cond b (Some name) (first_missing read names) ≡ None → (b ≡ false) × (first_missing read names ≡ None)
      by true is = absurd (cc)
      by false is = (refl, is)

  -- a loop over what has names: from a place on, those of what stands there come first
  missing-step : {X : Type 0} (f : X → List (Option Kind × NamedType)) (xs : List X) (i : ℕ) (d : X) → i < length xs
      → first_missing read (flat_map f (drop i xs)) ≡ option_or (first_missing read (f (get_or xs i d))) (first_missing read (flat_map f (drop (i + 1) xs)))
  missing-step f [] i d below = absurd (omega (arith, below))
  missing-step f (x ∷ xs) zero d below = first_missing-append (f x) (flat_map f xs)
  missing-step f (x ∷ xs) (suc i) d below =
      let next : suc i + 1 ≡ suc (i + 1) = omega arith in
      let within : i < length xs = omega (arith, below) in
      missing-step f xs i d within
      ∙ ap (λ (m : ℕ). option_or (first_missing read (f (get_or xs i d))) (first_missing read (flat_map f (drop m (x ∷ xs))))) (sym next)

  pub step-found : {X : Type 0} (f : X → List (Option Kind × NamedType)) (xs : List X) (i : ℕ) (d : X) (name : NamedType) → i < length xs
      → Some name ≡ first_missing read (f (get_or xs i d)) → first_missing read (flat_map f (drop i xs)) ≡ first_missing read (flat_map f xs)
      → Some name ≡ first_missing read (flat_map f xs)
  step-found f xs i d name below found so_far =
      ap (λ (o : Option NamedType). option_or o (first_missing read (flat_map f (drop (i + 1) xs)))) found
      ∙ sym (missing-step f xs i d below)
      ∙ so_far

  pub step-none : {X : Type 0} (f : X → List (Option Kind × NamedType)) (xs : List X) (i : ℕ) (d : X) → i < length xs
      → None ≡ first_missing read (f (get_or xs i d)) → first_missing read (flat_map f (drop i xs)) ≡ first_missing read (flat_map f xs)
      → first_missing read (flat_map f (drop (i + 1) xs)) ≡ first_missing read (flat_map f xs)
  step-none f xs i d below none so_far =
      ap (λ (o : Option NamedType). option_or o (first_missing read (flat_map f (drop (i + 1) xs)))) none
      ∙ sym (missing-step f xs i d below)
      ∙ so_far
