-- One step of the end of several holds of a party.
use Rattle.std.proofs.Common.{◌≡◌, ℕ, ◌+◌, ◌-◌, ◌<◌, ◌≤◌, ◌==◌, Bool, true, false, cond, List, [], ◌∷◌, length, map, drop, get_or, refl, sym, ap, subst, ◌∙◌, arith}
use Rattle.std.proofs.lemmas.List.{drop_more}
use Rattle.wt_holds.specs.declared.hold_counts.HoldCounts.{HoldCounts}
use Rattle.wt_holds.specs.Counts.{standing_of, standings_of}
use Rattle.wt_model.specs.Holds.{times}
use Rattle.wt_model.specs.Registered.{GroupHolds}
use Rattle.wt_env.specs.Among.{Among}
use Rattle.wt_model.specs.Holds.{held_at, change}
use Rattle.wt_model.specs.Removal.{fewer, fewer_of}
use Rattle.wt_env.proofs.lists.Mapped.{among_map, among_mapped}
use Rattle.wt_holds.proofs.Counted.{HavePlaces}
use Rattle.wt_model.proofs.holds.Looked.{numbers-change}
use Rattle.wt_model.proofs.removal.Released.{within-fewer, held_at-one_less}

-- the first of what is left
first_left : (numbers : List ℕ) (k n : ℕ) → k < length numbers → n ≡ get_or numbers k 0 → drop k numbers ≡ n ∷ drop (k + 1) numbers
first_left numbers k n within own = drop_more numbers k 0 within ∙ ap (λ m. m ∷ drop (k + 1) numbers) (sym own)

pub fewer-step : (party : ℕ) (numbers : List ℕ) (k n : ℕ) (now next : List GroupHolds) → k < length numbers → n ≡ get_or numbers k 0 → next ≡ change n (fewer party) now
    → fewer_of party (drop (k + 1) numbers) next ≡ fewer_of party (drop k numbers) now
fewer-step party numbers k n now next within own is =
    ap (fewer_of party (drop (k + 1) numbers)) is ∙ ap (λ list. fewer_of party list now) (sym (first_left numbers k n within own))

standings-places : (party : ℕ) (counts : List HoldCounts) → HavePlaces party counts → (s : GroupHolds) → Among s (standings_of counts) → party < length s.holds
standings-places party counts places s at =
    let found = among_map standing_of counts s at in
    subst (λ (t : GroupHolds). party < length t.holds) (sym found.2) (places found.0 found.1)

-- each count still has a place for the party
pub places-step : (party n : ℕ) (now next : List HoldCounts) → standings_of next ≡ change n (fewer party) (standings_of now) → HavePlaces party now → HavePlaces party next
places-step party n now next is places count at =
    let there : Among (standing_of count) (change n (fewer party) (standings_of now)) =
    subst (λ (list : List GroupHolds). Among (standing_of count) list) is (among_mapped standing_of next count at) in
    within-fewer (standings_of now) party n (standings-places party now places) (standing_of count) there

-- the holds that are left to end are there
pub held-step : (party : ℕ) (numbers : List ℕ) (k n : ℕ) (now : List HoldCounts) (next : List GroupHolds) → k < length numbers → n ≡ get_or numbers k 0
    → next ≡ change n (fewer party) (standings_of now) → HavePlaces party now
    → ((m : ℕ) → times m (drop k numbers) ≤ held_at (standings_of now) party m) → (m : ℕ) → times m (drop (k + 1) numbers) ≤ held_at next party m
held-step party numbers k n now next within own is places held m =
    let less = ap (λ list. held_at list party m) is ∙ held_at-one_less (standings_of now) party n m (standings-places party now places) in
    let before = subst (λ (list : List ℕ). times m list ≤ held_at (standings_of now) party m) (first_left numbers k n within own) (held m) in
    by (n == m) (times m (drop (k + 1) numbers)) (held_at (standings_of now) party m) (held_at next party m) before less
  where
    by : (b : Bool) (more some left : ℕ) → cond b (more + 1) more ≤ some → left ≡ some - cond b 1 0 → more ≤ left
    by true more some left before less = omega (arith, before, less)
    by false more some left before less = omega (arith, before, less)

-- the counts stand under the numbers that they stood under
pub numbers-fewer_of : (party : ℕ) (numbers : List ℕ) (standings : List GroupHolds) → map (λ s. s.number) (fewer_of party numbers standings) ≡ map (λ s. s.number) standings
numbers-fewer_of party [] standings = refl
numbers-fewer_of party (n ∷ numbers) standings = numbers-fewer_of party numbers (change n (fewer party) standings) ∙ numbers-change n (fewer party) standings (λ s. refl)
