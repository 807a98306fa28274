-- What a release changes: the holds that it ends, and no index of a group that is still held.
use Rattle.std.proofs.Common.{◌≡◌, ℕ, ◌+◌, ◌<◌, ◌≤◌, ◌==◌, Bool, true, false, cond, List, [], ◌∷◌, length, map, count_by, refl, ◌∙◌, arith}
use Rattle.std.proofs.lemmas.List.Sums.{sum_by-cons}
use Rattle.wt_model.specs.Registered.{Registry, GroupHolds}
use Rattle.wt_env.specs.Among.{Among}
use Rattle.wt_model.specs.Holds.{held_at, change}
use Rattle.wt_model.specs.Removal.{fewer, fewer_of, release_holds}
use Rattle.wt_model.specs.Holds.{times}
use Rattle.wt_model.specs.Changes.{ReleaseChanges}
use Rattle.wt_model.specs.Sound.{IsRising, NamesOlder, HoldsInvariant}
use Rattle.wt_model.proofs.removal.Released.{held_at-released}
use Rattle.wt_model.proofs.removal.RemovalChanges.{then-removal, held_at-released_part, held_at-fewer_of-other, waiting-fewer_of}
use Rattle.wt_model.proofs.holds.Looked.{numbers-change}

-- how often a number stands in a list is how many of its items equal it
times-count : (n : ℕ) (numbers : List ℕ) → count_by (λ m. m == n) numbers ≡ times n numbers
times-count n [] = refl
times-count n (m ∷ numbers) =
    sum_by-cons (λ (k : ℕ). cond (k == n) 1 0) m numbers ∙ by (m == n) (count_by (λ k. k == n) numbers) (times n numbers) (times-count n numbers)
  where
    by : (b : Bool) (count some : ℕ) → count ≡ some → cond b 1 0 + count ≡ cond b (some + 1) some
    by true count some same = omega (arith, same)
    by false count some same = omega (arith, same)

-- a party that has at least the holds that end has the others left
pub release_holds-changes : (registry : Registry) (party : ℕ) (numbers : List ℕ) → IsRising 0 registry.made registry.given.numbers → NamesOlder registry.made
    → HoldsInvariant registry.engine registry.made registry.standings → party < registry.engine.limits.parties
    → ((number : ℕ) → times number numbers ≤ held_at registry.standings party number) → ReleaseChanges registry (release_holds registry party numbers) party numbers
release_holds-changes registry party numbers rising older are within held = record {
  engine = refl;
  less = λ n. let some = held n in let left = held_at-released registry party numbers n places in let count = times-count n numbers in omega (arith, some, left, count);
  others = λ p n other. held_at-released_part registry party numbers p n ∙ held_at-fewer_of-other party numbers registry.standings p n other;
  removal = then-removal registry registry.given.numbers (fewer_of party numbers registry.standings) rising older
      (numbers-fewer_of party numbers registry.standings ∙ are.numbers) (λ n at. waiting-fewer_of party numbers registry.standings n at);
}
  where
    places : (s : GroupHolds) → Among s registry.standings → party < length s.holds
    places s there = let long = are.counted.parties s there in omega (arith, long, within)

    numbers-fewer_of : (p : ℕ) (ns : List ℕ) (standings : List GroupHolds) → map (λ s. s.number) (fewer_of p ns standings) ≡ map (λ s. s.number) standings
    numbers-fewer_of p [] standings = refl
    numbers-fewer_of p (n ∷ ns) standings = numbers-fewer_of p ns (change n (fewer p) standings) ∙ numbers-change n (fewer p) standings (λ s. refl)
