-- One more hold of a party for each of some numbers: the counts keep their sizes, and which groups are roots then.
use Rattle.std.proofs.Common.{◌≡◌, ℕ, ◌+◌, ◌<◌, ◌≤◌, ◌==◌, ◌⊎◌, inl, inr, Bool, true, false, cond, List, [], ◌∷◌, length, map, slice_index, slice_set, refl, sym, ap, ◌∙◌, subst, arith, eq-eqb, length-set}
use Rattle.wt_env.specs.Limits.{EngineParts}
use Rattle.wt_model.specs.Registered.{GroupHolds}
use Rattle.wt_env.specs.Among.{Among}
use Rattle.wt_model.specs.Holds.{held_at, change, gained}
use Rattle.wt_model.specs.Removal.{is_root}
use Rattle.wt_model.specs.Holds.{times, hold_each}
use Rattle.wt_model.proofs.holds.Looked.{among-changed, numbers-change, root-other, gained-root}
use Rattle.wt_model.proofs.holds.Rooted.{RiseAbove, held-at}
use Rattle.wt_model.proofs.holds.Stand.{IsSized, sized-changed, still_there, bounded-set}

-- ---- one more hold

abbrev one_if : Bool → ℕ
one_if true = 1
one_if false = 0

more_at : (standings : List GroupHolds) (party number n : ℕ) → held_at (change number (gained party) standings) party n ≤ held_at standings party n + one_if (number == n)
more_at [] party number n = omega arith
more_at (x ∷ standings) party number n = by (x.number == number) refl (more_at standings party number n)
  where
    here : (b : Bool) → (x.number == n) ≡ b → (x.number == number) ≡ true
        → cond b (slice_index (slice_set x.holds party (slice_index x.holds party + 1)) party) (held_at standings party n) ≤ cond b (slice_index x.holds party) (held_at standings party n) + one_if (number == n)
    here true e f =
        let same : (number == n) ≡ true = grind (arith, e, f) in
        let one : one_if (number == n) ≡ 1 = ap one_if same in
        let most = bounded-set x.holds party (slice_index x.holds party + 1) party (slice_index x.holds party + 1) (omega arith) (omega arith) in
        omega (arith, one, most)
    here false e f = omega arith

    there : (b : Bool) → held_at (change number (gained party) standings) party n ≤ held_at standings party n + one_if (number == n)
        → cond b (slice_index x.holds party) (held_at (change number (gained party) standings) party n) ≤ cond b (slice_index x.holds party) (held_at standings party n) + one_if (number == n)
    there true later = omega arith
    there false later = later

    by : (b : Bool) → (x.number == number) ≡ b → held_at (change number (gained party) standings) party n ≤ held_at standings party n + one_if (number == n)
        → held_at (cond b (gained party x ∷ standings) (x ∷ change number (gained party) standings)) party n ≤ cond (x.number == n) (slice_index x.holds party) (held_at standings party n) + one_if (number == n)
    by true e later = here (x.number == n) refl e
    by false e later = there (x.number == n) later

times_first : (number n : ℕ) (rest : List ℕ) → times n (number ∷ rest) ≡ times n rest + one_if (number == n)
times_first number n rest = by (number == n)
  where
    by : (b : Bool) → cond b (times n rest + 1) (times n rest) ≡ times n rest + one_if b
    by true = refl
    by false = omega arith

-- what is held then, and what is still to come, was to come
pub room-held : (standings : List GroupHolds) (party number n : ℕ) (rest : List ℕ)
    → held_at (change number (gained party) standings) party n + times n rest ≤ held_at standings party n + times n (number ∷ rest)
room-held standings party number n rest =
    let held = more_at standings party number n in
    let first = times_first number n rest in
    omega (arith, held, first)

pub times-own : (number : ℕ) (rest : List ℕ) → times number (number ∷ rest) ≡ times number rest + 1
times-own number rest = ap (λ b. cond b (times number rest + 1) (times number rest)) (eq-eqb number number refl)

pub places-held : (party number p : ℕ) (standings : List GroupHolds) → ((s : GroupHolds) → Among s standings → p < length s.holds)
    → (s : GroupHolds) → Among s (change number (gained party) standings) → p < length s.holds
places-held party number p standings each s at = by (among-changed number (gained party) standings s at)
  where
    by : Among s standings ⊎ ((t : GroupHolds) × Among t standings × (t.number ≡ number) × (s ≡ gained party t)) → p < length s.holds
    by (inl there) = each s there
    by (inr found) =
        let before : p < length (found.0).holds = each found.0 found.1 in
        let same : length (gained party found.0).holds ≡ length (found.0).holds = length-set (found.0).holds party (slice_index (found.0).holds party + 1) in
        subst (λ (x : GroupHolds). p < length x.holds) (sym found.3) (omega (arith, before, same))

-- ---- a hold for each

pub numbers-each : (party : ℕ) (numbers : List ℕ) (standings : List GroupHolds) → map (λ s. s.number) (hold_each party numbers standings) ≡ map (λ s. s.number) standings
numbers-each party [] standings = refl
numbers-each party (number ∷ rest) standings = numbers-each party rest (change number (gained party) standings) ∙ numbers-change number (gained party) standings (λ s. refl)

-- what waits then waited before
pub still-each : (party : ℕ) (numbers : List ℕ) (standings : List GroupHolds) (s : GroupHolds) → Among s (hold_each party numbers standings) → s.waits ≡ true → Among s standings
still-each party [] standings s at waits = at
still-each party (number ∷ rest) standings s at waits =
    still_there number (gained party) standings (λ t. refl) s (still-each party rest (change number (gained party) standings) s at waits) waits

-- what a party needs to hold each: a place in each count, and room within the limit
pub record CanHold (engine : EngineParts) (party : ℕ) (numbers : List ℕ) (standings : List GroupHolds) : Type 0 where
  pub within : party < engine.limits.parties
  pub rise : RiseAbove 0 (map (λ s. s.number) standings)
  pub sizes : (s : GroupHolds) → Among s standings → IsSized engine s
  pub stands : (number : ℕ) → Among number numbers → Among number (map (λ s. s.number) standings)
  pub room : (number : ℕ) → held_at standings party number + times number numbers ≤ engine.limits.holds

then_can : (engine : EngineParts) (party number : ℕ) (rest : List ℕ) (standings : List GroupHolds) → CanHold engine party (number ∷ rest) standings → CanHold engine party rest (change number (gained party) standings)
then_can engine party number rest standings can = record {
  within = can.within;
  rise = subst (RiseAbove 0) (sym (numbers-change number (gained party) standings (λ s. refl))) can.rise;
  sizes = sized-changed engine number (gained party) standings can.sizes one_more;
  stands = λ n at. subst (Among n) (sym (numbers-change number (gained party) standings (λ s. refl))) (can.stands n (inr at));
  room = λ n. let held = room-held standings party number n rest in let before = can.room n in omega (arith, held, before);
}
  where
    one_more : (s : GroupHolds) → Among s standings → s.number ≡ number → IsSized engine s → IsSized engine (gained party s)
    one_more s at own is =
        let same : held_at standings party number ≡ slice_index s.holds party = ap (held_at standings party) (sym own) ∙ held-at 0 standings s party can.rise at in
        let first = times-own number rest in
        let before = can.room number in
        let bound : slice_index s.holds party + 1 ≤ engine.limits.holds = omega (arith, same, first, before) in
        record {
          parties = length-set s.holds party (slice_index s.holds party + 1) ∙ is.parties;
          bounded = λ p. bounded-set s.holds party (slice_index s.holds party + 1) p engine.limits.holds bound (is.bounded p);
        }

pub sized-each : (engine : EngineParts) (party : ℕ) (numbers : List ℕ) (standings : List GroupHolds) → CanHold engine party numbers standings → (s : GroupHolds) → Among s (hold_each party numbers standings) → IsSized engine s
sized-each engine party [] standings can = can.sizes
sized-each engine party (number ∷ rest) standings can = sized-each engine party rest (change number (gained party) standings) (then_can engine party number rest standings can)

one_held : (engine : EngineParts) (party number : ℕ) (rest : List ℕ) (standings : List GroupHolds) → CanHold engine party (number ∷ rest) standings → is_root (change number (gained party) standings) number ≡ true
one_held engine party number rest standings can =
    gained-root party number standings (can.stands number (inl refl)) (λ s at. let long = (can.sizes s at).parties in let within = can.within in omega (arith, long, within))

one_root : (engine : EngineParts) (party number n : ℕ) (rest : List ℕ) (standings : List GroupHolds) → CanHold engine party (number ∷ rest) standings → is_root standings n ≡ true → is_root (change number (gained party) standings) n ≡ true
one_root engine party number n rest standings can is = by (n == number) refl
  where
    by : (b : Bool) → (n == number) ≡ b → is_root (change number (gained party) standings) n ≡ true
    by true e =
        let it : number ≡ n = grind (arith, e) in
        subst (λ k. is_root (change number (gained party) standings) k ≡ true) it (one_held engine party number rest standings can)
    by false e = root-other number (gained party) standings n (λ s. refl) (λ same. grind (arith, e, same)) ∙ is

-- a root stays one
pub root-each : (engine : EngineParts) (party : ℕ) (numbers : List ℕ) (standings : List GroupHolds) (n : ℕ) → CanHold engine party numbers standings → is_root standings n ≡ true → is_root (hold_each party numbers standings) n ≡ true
root-each engine party [] standings n can is = is
root-each engine party (number ∷ rest) standings n can is =
    root-each engine party rest (change number (gained party) standings) n (then_can engine party number rest standings can) (one_root engine party number n rest standings can is)

-- and each of the numbers is one
pub held-each : (engine : EngineParts) (party : ℕ) (numbers : List ℕ) (standings : List GroupHolds) (n : ℕ) → CanHold engine party numbers standings → Among n numbers → is_root (hold_each party numbers standings) n ≡ true
held-each engine party [] standings n can at = absurd at
held-each engine party (number ∷ rest) standings n can (inl same) =
    root-each engine party rest (change number (gained party) standings) n (then_can engine party number rest standings can)
    (subst (λ k. is_root (change number (gained party) standings) k ≡ true) (sym same) (one_held engine party number rest standings can))
held-each engine party (number ∷ rest) standings n can (inr later) =
    held-each engine party rest (change number (gained party) standings) n (then_can engine party number rest standings can) later
