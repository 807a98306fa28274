-- What is kept true of all that is registered, where nothing is changed and where a plan is carried out.
use Rattle.std.proofs.Common.{◌≡◌, ℕ, ◌+◌, ◌<◌, ◌≤◌, ◌==◌, ◌⊎◌, inl, inr, Bool, true, false, cond, nat_lt, List, [], ◌∷◌, ◌++◌, length, map, None, vec_capacity, refl, sym, ap, subst, ◌∙◌, ⊎_elim, arith}
use Rattle.std.proofs.lemmas.List.{length-append, length-map, map-append}
use Rattle.wt_env.specs.Among.{Among}
use Rattle.wt_env.specs.Limits.{EngineParts}
use Rattle.wt_env.specs.declared.limits.EngineLimits.{EngineLimits}
use Rattle.wt_env.specs.declared.limits.Limit.TheVariants as limit
use Rattle.wt_env.specs.declared.types.VMSharedTypeIndex.{VMSharedTypeIndex}
use Rattle.wt_env.proofs.lists.Mapped.{among_map}
use Rattle.wt_env.proofs.lists.Members.{among_behind, among_before, among_either, find-none}
use Rattle.wt_model.specs.declared.ever.EverRegistered.{EverRegistered}
use Rattle.wt_model.specs.declared.refusal.Full.{Full}
use Rattle.wt_model.specs.Registered.{RegisteredGroup, Registry}
use Rattle.wt_model.specs.Indices.{used}
use Rattle.wt_model.specs.Holds.{held_at, times, hold_each}
use Rattle.wt_model.specs.Plan.{Plan, Occurs, groups_of}
use Rattle.wt_model.specs.Limits.{references_of, first_full, wanted_of, holds_wanted, passed_limit}
use Rattle.wt_model.specs.Registration.{new_holds, stop_waiting_each, carried_out}
use Rattle.wt_model.specs.Sound.{IsRising, NamesOlder, AreBelow, KeepRules, AreCounted, HoldsInvariant}
use Rattle.wt_model.proofs.plan.CarriedOut.{CanCarryOut, carried-holds}
use Rattle.wt_keys.specs.declared.entry.RecGroupEntry.{RecGroupEntry}
use Rattle.wt_keys.specs.Entries.{made_of, made_by}
use Rattle.wt_keys.specs.Keys.{AreKeys, AreShown}
use Rattle.wt_keys.proofs.AddedKeys.{names_older}
use Rattle.wt_plan.specs.declared.plan.Plan.{Plan as PlanFields}
use Rattle.wt_plan.specs.Planned.{plan_of, AreNewBelow}
use Rattle.wt_plan.proofs.Planning.{groups_of-joined}
use Rattle.wt_holds.specs.declared.inner.TypeRegistryInner.{TypeRegistryInner}
use Rattle.wt_holds.specs.Counts.{standings_of, references_at, AreTotals}
use Rattle.wt_holds.specs.References.{references}
use Rattle.wt_registry.proofs.Tallied.{references-append}
use Rattle.wt_holds.specs.Kept.{AreKept, registry_at}
use Rattle.wt_holds.proofs.Counted.{held_at-bounded}

-- the same entries, counts, marks and numbers are kept as they were
pub kept-same : (engine : EngineParts) (old new : TypeRegistryInner) → AreKept engine old → new.entries ≡ old.entries → new.counts.items ≡ old.counts.items
    → new.stack.items ≡ old.stack.items → vec_capacity old.stack ≤ vec_capacity new.stack → new.given ≡ old.given → AreKept engine new
kept-same engine old new kept entries counts stack capacity given = record {
  keys = subst (λ (list : List RecGroupEntry). AreKeys list new.given.numbers) (sym entries) (subst (λ (g : EverRegistered). AreKeys old.entries g.numbers) (sym given) kept.keys);
  shown = subst AreShown (sym entries) kept.shown;
  rules = subst (λ (list : List RecGroupEntry). KeepRules (made_by list)) (sym entries) kept.rules;
  within = subst (λ (list : List RecGroupEntry). length list ≤ engine.limits.groups) (sym entries) kept.within;
  below = subst (λ (list : List RecGroupEntry). AreBelow engine.limits.types (made_by list)) (sym entries) kept.below;
  references = λ n. (λ i. references_at (counts i) n) ∙ kept.references n ∙ ap (λ (list : List RecGroupEntry). references (made_by list) n) (sym entries);
  totals = subst AreTotals (sym counts) kept.totals;
  stack = stack ∙ kept.stack;
  room = let room = kept.room in let same = ap length entries in omega (arith, room, same, capacity);
  holds = subst (λ (list : List RecGroupEntry). HoldsInvariant engine (made_by list) (standings_of new.counts.items)) (sym entries)
      (subst (λ standings. HoldsInvariant engine (made_by old.entries) standings) (ap standings_of (sym counts)) kept.holds);
}

-- ---- no limit is passed

not_above : (bound wanted : ℕ) → nat_lt bound wanted ≡ false → wanted ≤ bound
not_above bound wanted h = grind (arith, h)

-- each that is wanted is within its bound
none_above : (wanted : List Full) → first_full wanted ≡ None → (full : Full) → Among full wanted → full.wanted ≤ full.bound
none_above wanted none full at = not_above full.bound full.wanted (find-none (λ (f : Full). nat_lt f.bound f.wanted) wanted none full at)

module _ (registry : Registry) (party : ℕ) (plan : Plan) (none : passed_limit registry party plan ≡ None) where
  abbrev limits : EngineLimits
  limits = registry.engine.limits

  abbrev counted_limits : List Full
  counted_limits = wanted_of limits (groups_of plan) plan.given.numbers

  abbrev held_limits : List Full
  held_limits = holds_wanted limits registry.standings party plan.numbers plan.numbers

  pub groups_within : length (groups_of plan) ≤ registry.engine.limits.groups
  groups_within =
      none_above (counted_limits ++ held_limits) none (record { limit = limit.Groups; bound = limits.groups; wanted = length (groups_of plan) })
      (among_before counted_limits held_limits (record { limit = limit.Groups; bound = limits.groups; wanted = length (groups_of plan) }) (inl refl))

  pub types_within : length (used (groups_of plan)) ≤ registry.engine.limits.types
  types_within =
      none_above (counted_limits ++ held_limits) none (record { limit = limit.Types; bound = limits.types; wanted = length (used (groups_of plan)) })
      (among_before counted_limits held_limits (record { limit = limit.Types; bound = limits.types; wanted = length (used (groups_of plan)) }) (inr (inl refl)))

  pub references_within : references_of (groups_of plan) ≤ registry.engine.limits.references
  references_within =
      none_above (counted_limits ++ held_limits) none (record { limit = limit.References; bound = limits.references; wanted = references_of (groups_of plan) })
      (among_before counted_limits held_limits (record { limit = limit.References; bound = limits.references; wanted = references_of (groups_of plan) }) (inr (inr (inl refl))))

  wanted_for : (rest : List ℕ) (n : ℕ) → Among n rest
      → Among (record { limit = limit.Holds; bound = limits.holds; wanted = held_at registry.standings party n + times n plan.numbers }) (holds_wanted limits registry.standings party plan.numbers rest)
  wanted_for [] n at = absurd at
  wanted_for (m ∷ rest) n (inl same) =
      inl (ap (λ (k : ℕ). record { limit = limit.Holds; bound = limits.holds; wanted = held_at registry.standings party k + times k plan.numbers }) same)
  wanted_for (m ∷ rest) n (inr later) = inr (wanted_for rest n later)

  pub holds_within : (n : ℕ) → Among n plan.numbers → held_at registry.standings party n + times n plan.numbers ≤ registry.engine.limits.holds
  holds_within n at =
      let full : Full = record { limit = limit.Holds; bound = limits.holds; wanted = held_at registry.standings party n + times n plan.numbers } in
      none_above (counted_limits ++ held_limits) none full (among_behind counted_limits held_limits full (wanted_for plan.numbers n at))

occurs_or_not : (n : ℕ) (numbers : List ℕ) → Among n numbers ⊎ (times n numbers ≡ 0)
occurs_or_not n [] = inr refl
occurs_or_not n (m ∷ numbers) = by (m == n) refl (occurs_or_not n numbers)
  where
    by : (b : Bool) → (m == n) ≡ b → Among n numbers ⊎ (times n numbers ≡ 0) → ((n ≡ m) ⊎ Among n numbers) ⊎ (cond b (times n numbers + 1) (times n numbers) ≡ 0)
    by true e later = inl (inl (grind (arith, e)))
    by false e (inl there) = inl (inr there)
    by false e (inr none) = inr none

-- where a plan passes no limit, the party may have all its holds
pub room-left : (registry : Registry) (party : ℕ) (plan : Plan) → AreCounted registry.engine registry.standings → passed_limit registry party plan ≡ None
    → (number : ℕ) → held_at registry.standings party number + times number plan.numbers ≤ registry.engine.limits.holds
room-left registry party plan are none number = by (occurs_or_not number plan.numbers)
  where
    by : Among number plan.numbers ⊎ (times number plan.numbers ≡ 0) → held_at registry.standings party number + times number plan.numbers ≤ registry.engine.limits.holds
    by (inl at) = holds_within registry party plan none number at
    by (inr never) =
        let bounded = held_at-bounded registry.engine registry.standings party number are in
        omega (arith, bounded, never)

-- ---- a plan that is carried out

module _ (engine : EngineParts) (old : TypeRegistryInner) (plan : PlanFields) (party : ℕ) (kept : AreKept engine old) (within : party < engine.limits.parties)
    (keys : AreKeys (old.entries ++ plan.added) plan.given.numbers) (occurs : Occurs (plan_of old.entries plan))
    (none : passed_limit (registry_at engine old) party (plan_of old.entries plan) ≡ None) where
  joined : groups_of (plan_of old.entries plan) ≡ made_by (old.entries ++ plan.added)
  joined = groups_of-joined old.entries plan

  pub can-carry : CanCarryOut engine (made_by old.entries) (made_by plan.added) (standings_of old.counts.items) party plan.numbers.items
  can-carry = record {
    top = old.given.numbers;
    rising = kept.keys.rising;
    older = names_older old.entries old.given.numbers kept.keys;
    more_top = plan.given.numbers;
    more_rising = subst (λ (made : List RegisteredGroup). IsRising 0 made plan.given.numbers) (sym joined) keys.rising;
    more_older = subst NamesOlder (sym joined) (names_older (old.entries ++ plan.added) plan.given.numbers keys);
    holds = kept.holds;
    every = occurs.every;
    only = occurs.only;
    within = within;
    room = room-left (registry_at engine old) party (plan_of old.entries plan) kept.holds.counted none;
  }

  module _ (new : TypeRegistryInner) (entries : new.entries ≡ old.entries ++ plan.added) (given : new.given ≡ plan.given)
      (counts : standings_of new.counts.items ≡ hold_each party plan.numbers.items (stop_waiting_each (made_by plan.added) (standings_of old.counts.items) ++ map (new_holds engine) (made_by plan.added))) where
    made-new : groups_of (plan_of old.entries plan) ≡ made_by new.entries
    made-new = joined ∙ ap made_by (sym entries)

    -- the registry that it comes to
    pub carried-at : carried_out (registry_at engine old) party (plan_of old.entries plan) ≡ registry_at engine new
    carried-at = λ i. record { engine = engine; made = made-new i; given = (sym given) i; standings = (sym counts) i }

    pub kept-carried : KeepRules (made_by (old.entries ++ plan.added)) → AreShown plan.added → AreNewBelow old.entries plan.added
        → ((n : ℕ) → references_at new.counts.items n ≡ references_at old.counts.items n + references (made_by plan.added) n) → AreTotals new.counts.items → new.stack.items ≡ [] → length old.entries + length plan.added ≤ vec_capacity new.stack → AreKept engine new
    kept-carried rules shown below more totals stack room =
        let grouped = groups_within (registry_at engine old) party (plan_of old.entries plan) none in
        let so_many : length (groups_of (plan_of old.entries plan)) ≡ length new.entries = ap length made-new ∙ length-map new.entries made_of in
        let longer : length new.entries ≡ length old.entries + length plan.added = ap length entries ∙ length-append old.entries plan.added in
        record {
          keys = subst (λ (list : List RecGroupEntry). AreKeys list new.given.numbers) (sym entries) (subst (λ (g : EverRegistered). AreKeys (old.entries ++ plan.added) g.numbers) (sym given) keys);
          shown = subst AreShown (sym entries) (λ entry at. ⊎_elim (kept.shown entry) (shown entry) (among_either old.entries plan.added entry at));
          rules = subst (λ (list : List RecGroupEntry). KeepRules (made_by list)) (sym entries) rules;
          within = omega (arith, grouped, so_many);
          below = subst (AreBelow engine.limits.types) made-new (λ a i at there. all_below a i (among_either (made_by old.entries) (made_by plan.added) a at) there);
          references = λ n.
              more n
              ∙ ap (λ t. t + references (made_by plan.added) n) (kept.references n)
              ∙ sym (ap (λ (list : List RecGroupEntry). references (made_by list) n) entries ∙ ap (λ made. references made n) (map-append made_of old.entries plan.added) ∙ references-append (made_by old.entries) (made_by plan.added) n);
          totals = totals;
          stack = stack;
          room = omega (arith, room, longer);
          holds = subst (λ (made : List RegisteredGroup). HoldsInvariant engine made (standings_of new.counts.items)) made-new
              (subst (λ after. HoldsInvariant engine (groups_of (plan_of old.entries plan)) after) (sym counts)
              (carried-holds engine (made_by old.entries) (made_by plan.added) (standings_of old.counts.items) party plan.numbers.items can-carry));
        }
      where
        all_below : (a : RegisteredGroup) (i : VMSharedTypeIndex) → Among a (made_by old.entries) ⊎ Among a (made_by plan.added) → Among i a.indices → i.0 < engine.limits.types
        all_below a i (inl before) there = kept.below a i before there
        all_below a i (inr is_new) there =
            let named = among_map made_of plan.added a is_new in
            let own = below named.0 i named.1 (subst (λ (m : RegisteredGroup). Among i m.indices) named.2 there) in
            let few = types_within (registry_at engine old) party (plan_of old.entries plan) none in
            let same : length (used (groups_of (plan_of old.entries plan))) ≡ length (used (made_by (old.entries ++ plan.added))) = ap (λ made. length (used made)) joined in
            omega (arith, own, few, same)
