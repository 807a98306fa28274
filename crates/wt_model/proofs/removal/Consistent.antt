-- A drop, a sweep, a release and one more hold keep all that is true of a registry.
use Rattle.std.proofs.Common.{◌≡◌, ℕ, ◌+◌, ◌<◌, ◌≤◌, Bool, true, false, cond, List, map, nat_lt, Option, Ok, Err, refl, sym, ap, subst, arith}
use Rattle.wt_model.specs.declared.swept.Swept.{Swept}
use Rattle.wt_model.specs.Registered.{GroupHolds, Registry}
use Rattle.wt_env.specs.Among.{Among}
use Rattle.wt_model.specs.Holds.{held_at, waits_at, change, gained, full_of_holds, hold}
use Rattle.wt_model.specs.NamedTypes.{NameTypes}
use Rattle.wt_model.specs.Trampolines.{HaveTrampolines}
use Rattle.wt_model.specs.Sound.{IsRising, OneIndexPerTree, NamesOlder, IsLocated, AreIndexed, AreBelow, KeepRules, AreReached, IsSound}
use Rattle.wt_model.specs.Removal.{is_root, is_reached, reached_in, reached_part, drop_hold, sweep_debt, fewer, fewer_of, release_holds}
use Rattle.wt_model.specs.Sound.{HoldsInvariant}
use Rattle.wt_model.specs.Holds.{no_longer}
use Rattle.wt_model.proofs.holds.HeldMore.{with_more}
use Rattle.wt_model.proofs.holds.HoldIn.{gained-stand_in}
use Rattle.wt_model.proofs.removal.KeptPart.{led-named, indexed-kept, below-kept, rising-kept, names_older-kept, is_located-kept, one_index-kept, name_types-kept, rules-kept, have_trampolines-kept}
use Rattle.wt_model.proofs.removal.Removing.{part-led, drop_answered, drop-stands, sweep_answered, swept-stands, release-stands}
use Rattle.wt_model.proofs.removal.RemovalChanges.{stands-reached}

pub record IsConsistent (registry : Registry) : Type 0 where
  pub rising : IsRising 0 registry.made registry.given.numbers
  pub one_index : OneIndexPerTree registry.made
  pub names_older : NamesOlder registry.made
  pub is_located : IsLocated registry.made
  pub indexed : AreIndexed registry.made
  pub below : AreBelow registry.engine.limits.types registry.made
  pub name_types : NameTypes registry.made
  pub rules : KeepRules registry.made
  pub trampolines : HaveTrampolines registry.made
  pub holds : HoldsInvariant registry.engine registry.made registry.standings

pub consistent-reached : (registry : Registry) → IsConsistent registry → AreReached registry
consistent-reached registry is = stands-reached registry is.names_older is.holds

pub consistent-sound : (registry : Registry) → IsConsistent registry → IsSound registry
consistent-sound registry is = record {
  rising = is.rising;
  one_index = is.one_index;
  names_older = is.names_older;
  is_located = is.is_located;
  indexed = is.indexed;
  below = is.below;
  name_types = is.name_types;
  rules = is.rules;
  trampolines = is.trampolines;
  holds = is.holds;
  reached = consistent-reached registry is;
}

-- with other counts, of the same groups
abbrev with_counts : Registry → List GroupHolds → Registry
with_counts registry standings = record registry { standings = standings }

counts-consistent : (registry : Registry) (standings : List GroupHolds) → IsConsistent registry → HoldsInvariant registry.engine registry.made standings → IsConsistent (with_counts registry standings)
counts-consistent registry standings is are = record { rising = is.rising; one_index = is.one_index; names_older = is.names_older; is_located = is.is_located; indexed = is.indexed; below = is.below; name_types = is.name_types; rules = is.rules; trampolines = is.trampolines; holds = are }

-- without what isn't reached by these counts
part-consistent : (registry : Registry) (standings : List GroupHolds) → IsConsistent registry
    → HoldsInvariant registry.engine (reached_part (with_counts registry standings)).made (reached_part (with_counts registry standings)).standings
    → IsConsistent (reached_part (with_counts registry standings))
part-consistent registry standings is are =
    let with : Registry = with_counts registry standings in
    let named = part-led with registry.given.numbers is.rising is.names_older in
    record {
      rising = rising-kept (reached_in with) 0 registry.given.numbers registry.made is.rising;
      one_index = one_index-kept (reached_in with) registry.made (led-named (reached_in with) registry.made named) is.one_index;
      names_older = names_older-kept (reached_in with) registry.made named is.names_older;
      is_located = is_located-kept (reached_in with) registry.made is.is_located;
      indexed = indexed-kept (reached_in with) registry.made is.indexed;
      below = below-kept (reached_in with) registry.made registry.engine.limits.types is.below;
      name_types = name_types-kept (reached_in with) registry.made (led-named (reached_in with) registry.made named) is.name_types;
      rules = rules-kept (reached_in with) registry.made (led-named (reached_in with) registry.made named) is.is_located is.rules;
      trampolines = have_trampolines-kept (reached_in with) registry.made named is.trampolines;
      holds = are;
    }

pub drop-consistent : (old new : Registry) (party number : ℕ) (debt : Option ℕ) → IsConsistent old → 1 ≤ held_at old.standings party number → drop_hold old party number ≡ (debt, new) → IsConsistent new
drop-consistent old new party number debt is held h =
    let are = drop-stands old new old.given.numbers party number debt is.rising is.names_older is.holds held h in
    by (is_reached old.made (is_root (change number (fewer party) old.standings)) number) h are
  where
    -- the same groups are registered
    same : (standings : List GroupHolds) → with_counts old standings ≡ new → HoldsInvariant new.engine new.made new.standings → IsConsistent new
    same standings equal are =
        subst IsConsistent equal
        (counts-consistent old standings is (subst (λ (x : Registry). HoldsInvariant x.engine x.made x.standings) (sym equal) are))

    by : (b : Bool) → drop_answered old party number b ≡ (debt, new) → HoldsInvariant new.engine new.made new.standings → IsConsistent new
    by true equal are = same (drop_answered old party number true).1.standings (ap (λ (answer : Option ℕ × Registry). answer.1) equal) are
    by false equal are = same (drop_answered old party number false).1.standings (ap (λ (answer : Option ℕ × Registry). answer.1) equal) are

pub sweep-consistent : (old new : Registry) (number : ℕ) (swept : Swept) → IsConsistent old → sweep_debt old number ≡ (swept, new) → IsConsistent new
sweep-consistent old new number swept is h = by (waits_at old.standings number) h
  where
    by : (b : Bool) → sweep_answered old number b ≡ (swept, new) → IsConsistent new
    by true equal = subst IsConsistent (ap (λ (answer : Swept × Registry). answer.1) equal)
        (part-consistent old (change number no_longer old.standings) is (swept-stands old number is.holds))
    by false equal = subst IsConsistent (ap (λ (answer : Swept × Registry). answer.1) equal) is

pub release-consistent : (registry : Registry) (party : ℕ) (numbers : List ℕ) → IsConsistent registry → IsConsistent (release_holds registry party numbers)
release-consistent registry party numbers is =
    part-consistent registry (fewer_of party numbers registry.standings) is (release-stands registry party numbers is.holds)

-- the limit allowed the hold
had_room : (registry new : Registry) (party number : ℕ) → hold registry party number ≡ Ok new → held_at registry.standings party number + 1 ≤ registry.engine.limits.holds
had_room registry new party number h = by (nat_lt registry.engine.limits.holds (held_at registry.standings party number + 1)) refl h
  where
    by : (b : Bool) → nat_lt registry.engine.limits.holds (held_at registry.standings party number + 1) ≡ b
        → cond b (Err (full_of_holds registry party number)) (Ok (record registry { standings = change number (gained party) registry.standings })) ≡ Ok new
        → held_at registry.standings party number + 1 ≤ registry.engine.limits.holds
    by true e is = absurd (cc)
    by false e is = grind (arith, e)

pub hold-consistent : (old new : Registry) (party number : ℕ) → IsConsistent old → party < old.engine.limits.parties → Among number (map (λ s. s.number) old.standings)
    → hold old party number ≡ Ok new → IsConsistent new
hold-consistent old new party number is within stands h =
    subst IsConsistent (with_more old new party number h)
    (counts-consistent old (change number (gained party) old.standings) is
    (gained-stand_in old.engine old.given.numbers old.made old.standings party number is.rising is.names_older is.holds within (had_room old new party number h) stands))
