-- The first limit on holds that would be passed, number by number, and what planned groups add to it.
use Rattle.std.proofs.Common.{◌≡◌, ℕ, ◌+◌, ◌<◌, ◌≤◌, ◌==◌, Bool, true, false, cond, nat_lt, List, [], ◌∷◌, ◌++◌, length, map, drop, replicate, get_or, slice_index, Some, None, refl, ap, ◌∙◌}
use Rattle.std.specs.Option.{option_or}
use Rattle.std.proofs.lemmas.Bool.{lt-ltb, le-ltb}
use Rattle.std.proofs.lemmas.List.{at_drop_more, at_drop_all}
use Rattle.std.proofs.lemmas.List.Folds.{find-append}
use Rattle.wt_env.specs.Limits.{EngineParts}
use Rattle.wt_env.specs.declared.limits.Limit.TheVariants.{Holds}
use Rattle.wt_env.specs.declared.limits.EngineLimits.{EngineLimits}
use Rattle.wt_model.specs.declared.refusal.Full.{Full}
use Rattle.wt_model.specs.Registered.{RegisteredGroup, GroupHolds}
use Rattle.wt_model.specs.Limits.{first_full}
use Rattle.wt_model.specs.Holds.{held_at}
use Rattle.wt_model.specs.Limits.{holds_wanted}
use Rattle.wt_model.specs.Holds.{times}
use Rattle.wt_model.specs.Registration.{new_holds}
use Rattle.wt_model.proofs.holds.Zeros.{slice_index-zeros}

-- the numbers from the place n on, by the number that stands there
wanted_at : (limits : EngineLimits) (standings : List GroupHolds) (party : ℕ) (numbers : List ℕ) (n d bound wanted : ℕ) → n < length numbers
    → limits.holds ≡ bound → held_at standings party (get_or numbers n d) + times (get_or numbers n d) numbers ≡ wanted
    → first_full (holds_wanted limits standings party numbers (drop n numbers))
    ≡ cond (nat_lt bound wanted) (Some (record { limit = Holds; bound = bound; wanted = wanted })) (first_full (holds_wanted limits standings party numbers (drop (n + 1) numbers)))
wanted_at limits standings party numbers n d bound wanted below bounded wants =
    at_drop_more (λ rest. first_full (holds_wanted limits standings party numbers rest)) numbers n d below
    ∙ (λ i. cond (nat_lt (bounded i) (wants i)) (Some (record { limit = Holds; bound = bounded i; wanted = wants i })) (first_full (holds_wanted limits standings party numbers (drop (n + 1) numbers))))

-- a turn of a loop at which a limit is passed
pub holds_wanted-passed : (limits : EngineLimits) (standings : List GroupHolds) (party : ℕ) (numbers : List ℕ) (n d bound wanted : ℕ) → n < length numbers
    → limits.holds ≡ bound → held_at standings party (get_or numbers n d) + times (get_or numbers n d) numbers ≡ wanted → bound < wanted
    → first_full (holds_wanted limits standings party numbers (drop n numbers)) ≡ Some (record { limit = Holds; bound = bound; wanted = wanted })
holds_wanted-passed limits standings party numbers n d bound wanted below bounded wants above =
    wanted_at limits standings party numbers n d bound wanted below bounded wants
    ∙ ap (λ b. cond b (Some (record { limit = Holds; bound = bound; wanted = wanted })) (first_full (holds_wanted limits standings party numbers (drop (n + 1) numbers)))) (lt-ltb bound wanted above)

-- and at which none is
pub holds_wanted-within : (limits : EngineLimits) (standings : List GroupHolds) (party : ℕ) (numbers : List ℕ) (n d bound wanted : ℕ) → n < length numbers
    → limits.holds ≡ bound → held_at standings party (get_or numbers n d) + times (get_or numbers n d) numbers ≡ wanted → wanted ≤ bound
    → first_full (holds_wanted limits standings party numbers (drop n numbers)) ≡ first_full (holds_wanted limits standings party numbers (drop (n + 1) numbers))
holds_wanted-within limits standings party numbers n d bound wanted below bounded wants within =
    wanted_at limits standings party numbers n d bound wanted below bounded wants
    ∙ ap (λ b. cond b (Some (record { limit = Holds; bound = bound; wanted = wanted })) (first_full (holds_wanted limits standings party numbers (drop (n + 1) numbers)))) (le-ltb bound wanted within)

-- past the last number there is none
pub holds_wanted-end : (limits : EngineLimits) (standings : List GroupHolds) (party : ℕ) (numbers : List ℕ) (n : ℕ) → length numbers ≤ n → first_full (holds_wanted limits standings party numbers (drop n numbers)) ≡ None
holds_wanted-end limits standings party numbers n past = at_drop_all (λ rest. first_full (holds_wanted limits standings party numbers rest)) numbers n past

-- ---- new groups

-- nobody holds a new group, so a party has the holds of what is registered
held_at-new : (engine : EngineParts) (added : List RegisteredGroup) (party number : ℕ) → held_at (map (new_holds engine) added) party number ≡ 0
held_at-new engine [] party number = refl
held_at-new engine (group ∷ added) party number = by (group.number == number) (held_at-new engine added party number)
  where
    by : (b : Bool) → held_at (map (new_holds engine) added) party number ≡ 0
        → cond b (slice_index (replicate engine.limits.parties 0) party) (held_at (map (new_holds engine) added) party number) ≡ 0
    by true later = slice_index-zeros engine.limits.parties party
    by false later = later

pub held_at-with_new : (engine : EngineParts) (standings : List GroupHolds) (added : List RegisteredGroup) (party number : ℕ)
    → held_at (standings ++ map (new_holds engine) added) party number ≡ held_at standings party number
held_at-with_new engine [] added party number = held_at-new engine added party number
held_at-with_new engine (standing ∷ standings) added party number =
    ap (cond (standing.number == number) (slice_index standing.holds party)) (held_at-with_new engine standings added party number)

-- the first that is passed of two lists: the first's, or else the second's
pub first_full-first : (before more : List Full) (full : Full) → first_full before ≡ Some full → first_full (before ++ more) ≡ Some full
first_full-first before more full is =
    find-append (λ (f : Full). nat_lt f.bound f.wanted) before more ∙ ap (λ found. option_or found (first_full more)) is

pub first_full-second : (before more : List Full) → first_full before ≡ None → first_full (before ++ more) ≡ first_full more
first_full-second before more none =
    find-append (λ (f : Full). nat_lt f.bound f.wanted) before more ∙ ap (λ found. option_or found (first_full more)) none
