-- A plan that is carried out leaves the counts as they stand in a registry.
use Rattle.std.proofs.Common.{◌≡◌, ◌≢◌, ℕ, ◌+◌, ◌<◌, ◌≤◌, ◌==◌, ◌⊎◌, inl, inr, Bool, true, false, cond, List, [], ◌∷◌, ◌++◌, length, map, replicate, slice_index, refl, sym, ap, ◌∙◌, subst, arith}
use Rattle.std.proofs.lemmas.Bool.{false≢true}
use Rattle.std.proofs.lemmas.List.{map-append, length-replicate}
use Rattle.wt_env.specs.Among.{Among}
use Rattle.wt_env.specs.Limits.{EngineParts}
use Rattle.wt_model.specs.Registered.{RegisteredGroup, GroupHolds}
use Rattle.wt_model.specs.Reach.{edges, Reach, Edge, here, further}
use Rattle.wt_model.specs.Holds.{held_at, times, hold_each}
use Rattle.wt_model.specs.Registration.{new_holds, stop_waiting_each}
use Rattle.wt_model.specs.Removal.{is_root, is_rooted, is_reached}
use Rattle.wt_model.specs.Sound.{IsRising, NamesOlder, HoldsInvariant}
use Rattle.wt_env.proofs.lists.Mapped.{among_map, among_mapped}
use Rattle.wt_env.proofs.lists.Members.{among_before, among_behind, among_either}
use Rattle.wt_model.proofs.plan.StopWaiting.{held_at-stop_waiting_each, holds-stop_waiting_each, numbers-stop_waiting_each, still-stop_waiting_each, not_led_by, root-stop_waiting_each}
use Rattle.wt_model.proofs.plan.HoldsWanted.{held_at-with_new}
use Rattle.wt_model.proofs.holds.HeldEach.{CanHold, numbers-each, still-each, sized-each, root-each, held-each}
use Rattle.wt_model.proofs.holds.HoldIn.{leads_down}
use Rattle.wt_model.proofs.holds.Leads.{Fall, fall, reached-leads, leads-reached, reach_wider, reach_joined}
use Rattle.wt_model.proofs.holds.Rooted.{rise_with}
use Rattle.wt_model.proofs.holds.Stand.{IsSized}
use Rattle.wt_model.proofs.holds.Zeros.{slice_index-zeros}

-- ---- paths

-- a path within older groups, or one that enters them by an edge of a newer one
pub reach_from : (made more : List RegisteredGroup) (root number : ℕ) → Reach (made ++ more) root number
    → Reach made root number ⊎ ((g : RegisteredGroup) × (n : ℕ) × Among g more × Among n (edges g) × Reach made n number)
reach_from made more root number here = inl here
reach_from made more root number (further to next reach edge) = by (among_either made more edge.0 edge.1) (reach_from made more root to reach)
  where
    by : Among edge.0 made ⊎ Among edge.0 more
        → Reach made root to ⊎ ((g : RegisteredGroup) × (n : ℕ) × Among g more × Among n (edges g) × Reach made n to)
        → Reach made root next ⊎ ((g : RegisteredGroup) × (n : ℕ) × Among g more × Among n (edges g) × Reach made n next)
    by (inl old) (inl path) = inl (further to next path (edge.0, old, edge.2, edge.3))
    by (inl old) (inr found) = inr (found.0, found.1, found.2, found.3, further to next found.4 (edge.0, old, edge.2, edge.3))
    by (inr new) before = inr (edge.0, next, new, edge.3, here)

-- a path that leads on begins at a registered group
reach_first : (made : List RegisteredGroup) (from number : ℕ) → Reach made from number → (from ≡ number) ⊎ ((g : RegisteredGroup) × Among g made × (g.number ≡ from))
reach_first made from number here = inl refl
reach_first made from number (further to next reach edge) = by (reach_first made from to reach)
  where
    by : (from ≡ to) ⊎ ((g : RegisteredGroup) × Among g made × (g.number ≡ from)) → (from ≡ next) ⊎ ((g : RegisteredGroup) × Among g made × (g.number ≡ from))
    by (inl same) = inr (edge.0, edge.1, edge.2 ∙ sym same)
    by (inr found) = inr found

-- nothing else leads to what waits, since each registered group is reached
pub waits-alone : (engine : EngineParts) (made : List RegisteredGroup) (standings : List GroupHolds) → NamesOlder made → HoldsInvariant engine made standings
    → (s : GroupHolds) (from : ℕ) → Among s standings → s.waits ≡ true → from ≢ s.number → Reach made from s.number → ⊥
waits-alone engine made standings older are s from at waits other reach = by (reach_first made from s.number reach)
  where
    led : (root : ℕ) × (is_root standings root ≡ true) × Reach made root from → ⊥
    led root = at_root (root.0 == s.number) refl
      where
        at_root : (b : Bool) → (root.0 == s.number) ≡ b → ⊥
        at_root true e =
            let down : s.number ≤ from = leads_down made from s.number (fall made older) reach in
            let up : from ≤ root.0 = leads_down made root.0 from (fall made older) root.2 in
            other (grind (arith, e, down, up))
        at_root false e = are.alone s root.0 at waits (λ same. grind (arith, e, same)) root.1 (reach_joined made root.0 from s.number root.2 reach)

    by : (from ≡ s.number) ⊎ ((g : RegisteredGroup) × Among g made × (g.number ≡ from)) → ⊥
    by (inl same) = other same
    by (inr found) = led (subst (λ n. (root : ℕ) × (is_root standings root ≡ true) × Reach made root n) found.2 (reached-leads made (is_root standings) (found.0).number (are.reached found.0 found.1)))

-- ---- what is new

new_numbers : (engine : EngineParts) (added : List RegisteredGroup) → map (λ s. s.number) (map (new_holds engine) added) ≡ map (λ m. m.number) added
new_numbers engine [] = refl
new_numbers engine (g ∷ added) = ap (λ numbers. g.number ∷ numbers) (new_numbers engine added)

-- a new group doesn't wait
pub new-calm : (engine : EngineParts) (added : List RegisteredGroup) (s : GroupHolds) → Among s (map (new_holds engine) added) → s.waits ≡ false
new-calm engine [] s at = absurd at
new-calm engine (g ∷ added) s (inl same) = ap (λ (t : GroupHolds). t.waits) same
new-calm engine (g ∷ added) s (inr later) = new-calm engine added s later

-- its count has a place for each party
pub new_sized : (engine : EngineParts) (added : List RegisteredGroup) (s : GroupHolds) → Among s (map (new_holds engine) added) → IsSized engine s
new_sized engine added s at =
    let found = among_map (new_holds engine) added s at in
    let zeros : s.holds ≡ replicate engine.limits.parties 0 = ap (λ (x : GroupHolds). x.holds) found.2 in
    record {
      parties = ap length zeros ∙ length-replicate engine.limits.parties 0;
      bounded = λ p. let none : slice_index s.holds p ≡ 0 = ap (λ holds. slice_index holds p) zeros ∙ slice_index-zeros engine.limits.parties p in omega (arith, none);
    }

root_before : (first second : List GroupHolds) (n : ℕ) → is_root first n ≡ true → is_root (first ++ second) n ≡ true
root_before [] second n is = absurd (false≢true is)
root_before (s ∷ first) second n is = by (s.number == n) is (root_before first second n)
  where
    by : (b : Bool) → cond b (is_rooted s) (is_root first n) ≡ true → (is_root first n ≡ true → is_root (first ++ second) n ≡ true) → cond b (is_rooted s) (is_root (first ++ second) n) ≡ true
    by true own later = own
    by false there later = later there

-- ---- all of it

-- The groups that are registered and those that are new, what keeps the registered ones, and the numbers that occur.
pub record CanCarryOut (engine : EngineParts) (made added : List RegisteredGroup) (standings : List GroupHolds) (party : ℕ) (numbers : List ℕ) : Type 0 where
  pub top : ℕ
  pub rising : IsRising 0 made top
  pub older : NamesOlder made
  pub more_top : ℕ
  pub more_rising : IsRising 0 (made ++ added) more_top
  pub more_older : NamesOlder (made ++ added)
  pub holds : HoldsInvariant engine made standings
  pub every : (group : RegisteredGroup) → Among group added → (n : ℕ) × Among n numbers × Reach (made ++ added) n group.number
  pub only : (number : ℕ) → Among number numbers → (group : RegisteredGroup) × Among group (made ++ added) × (group.number ≡ number)
  pub within : party < engine.limits.parties
  pub room : (number : ℕ) → held_at standings party number + times number numbers ≤ engine.limits.holds

module _ (engine : EngineParts) (made added : List RegisteredGroup) (standings : List GroupHolds) (party : ℕ) (numbers : List ℕ) (can : CanCarryOut engine made added standings party numbers) where
  all : List RegisteredGroup
  all = made ++ added

  abbrev pub middle : List GroupHolds
  middle = stop_waiting_each added standings ++ map (new_holds engine) added

  abbrev pub after : List GroupHolds
  after = hold_each party numbers middle

  falls : Fall (made ++ added)
  falls = fall (made ++ added) can.more_older

  pub middle_numbers : map (λ s. s.number) middle ≡ map (λ m. m.number) (made ++ added)
  middle_numbers =
      map-append (λ (s : GroupHolds). s.number) (stop_waiting_each added standings) (map (new_holds engine) added)
      ∙ ap (λ first. first ++ map (λ s. s.number) (map (new_holds engine) added)) (numbers-stop_waiting_each added standings ∙ can.holds.numbers)
      ∙ ap (λ second. map (λ m. m.number) made ++ second) (new_numbers engine added)
      ∙ sym (map-append (λ (m : RegisteredGroup). m.number) made added)

  pub middle_sized : (s : GroupHolds) → Among s middle → IsSized engine s
  middle_sized s at = by (among_either (stop_waiting_each added standings) (map (new_holds engine) added) s at)
    where
      by : Among s (stop_waiting_each added standings) ⊎ Among s (map (new_holds engine) added) → IsSized engine s
      by (inl old) = record {
        parties = holds-stop_waiting_each (λ holds. length holds ≡ engine.limits.parties) added standings can.holds.counted.parties s old;
        bounded = λ p. holds-stop_waiting_each (λ holds. slice_index holds p ≤ engine.limits.holds) added standings (λ t there. can.holds.counted.bounded t p there) s old;
      }
      by (inr new) = new_sized engine added s new

  pub middle_stands : (number : ℕ) → Among number numbers → Among number (map (λ s. s.number) middle)
  middle_stands number at =
      let found = can.only number at in
      subst (Among number) (sym middle_numbers)
      (subst (λ n. Among n (map (λ (m : RegisteredGroup). m.number) (made ++ added))) found.2 (among_mapped (λ (m : RegisteredGroup). m.number) (made ++ added) found.0 found.1))

  pub middle_held : (p number : ℕ) → held_at middle p number ≡ held_at standings p number
  middle_held p number = held_at-with_new engine (stop_waiting_each added standings) added p number ∙ held_at-stop_waiting_each added standings p number

  can_hold : CanHold engine party numbers middle
  can_hold = record {
    within = can.within;
    rise = rise_with can.more_top (made ++ added) middle can.more_rising middle_numbers;
    sizes = middle_sized;
    stands = middle_stands;
    room = λ number. let same = middle_held party number in let before = can.room number in omega (arith, same, before);
  }

  -- what waits then was led to by none of the new groups
  pub still_waiting : (s : GroupHolds) → Among s after → s.waits ≡ true → Among s (stop_waiting_each added standings)
  still_waiting s at waits = by (among_either (stop_waiting_each added standings) (map (new_holds engine) added) s (still-each party numbers middle s at waits))
    where
      by : Among s (stop_waiting_each added standings) ⊎ Among s (map (new_holds engine) added) → Among s (stop_waiting_each added standings)
      by (inl old) = old
      by (inr new) = absurd (false≢true (sym (new-calm engine added s new) ∙ waits))

  is_alone : (s : GroupHolds) (root : ℕ) → Among s (stop_waiting_each added standings) → s.waits ≡ true → root ≢ s.number → Reach (made ++ added) root s.number → ⊥
  is_alone s root at waits other reach = by (reach_from made added root s.number reach)
    where
      stood : Among s standings
      stood = still-stop_waiting_each added standings s at waits

      by : Reach made root s.number ⊎ ((g : RegisteredGroup) × (n : ℕ) × Among g added × Among n (edges g) × Reach made n s.number) → ⊥
      by (inl path) = waits-alone engine made standings can.older can.holds s root stood waits other path
      by (inr found) =
          let apart = not_led_by added standings s (rise_with can.top made standings can.rising can.holds.numbers) at waits found.0 found.1 found.2 found.3 in
          waits-alone engine made standings can.older can.holds s found.1 stood waits (λ same. apart (sym same)) found.4

  -- a new group is led to by one that is held
  new_led : (group : RegisteredGroup) → Among group added → (root : ℕ) × (is_root after root ≡ true) × Reach (made ++ added) root group.number
  new_led group at =
      let found = can.every group at in (found.0, held-each engine party numbers middle found.0 can_hold found.1, found.2)

  is_reached_still : (m : RegisteredGroup) → Among m made ⊎ Among m added → is_reached (made ++ added) (is_root after) m.number ≡ true
  is_reached_still m (inr new) =
      let led = new_led m new in
      leads-reached can.more_top (made ++ added) (is_root after) led.0 m.number can.more_rising falls led.1 led.2
  is_reached_still m (inl old) = led (reached-leads made (is_root standings) m.number (can.holds.reached m old))
    where
      led : (from : ℕ) × (is_root standings from ≡ true) × Reach made from m.number → is_reached (made ++ added) (is_root after) m.number ≡ true
      led from = by (root-stop_waiting_each added standings from.0 from.1)
        where
          path : Reach (made ++ added) from.0 m.number
          path = reach_wider made (made ++ added) (λ g at. among_before made added g at) from.0 m.number from.2

          by : (is_root (stop_waiting_each added standings) from.0 ≡ true) ⊎ ((group : RegisteredGroup) × Among group added × Among from.0 (edges group)) → is_reached (made ++ added) (is_root after) m.number ≡ true
          by (inl root) =
              leads-reached can.more_top (made ++ added) (is_root after) from.0 m.number can.more_rising falls
              (root-each engine party numbers middle from.0 can_hold (root_before (stop_waiting_each added standings) (map (new_holds engine) added) from.0 root)) path
          by (inr found) =
              let edge : Edge (made ++ added) (found.0).number from.0 = (found.0, among_behind made added found.0 found.1, refl, found.2) in
              let root = new_led found.0 found.1 in
              leads-reached can.more_top (made ++ added) (is_root after) root.0 m.number can.more_rising falls root.1
              (reach_joined (made ++ added) root.0 from.0 m.number (further (found.0).number from.0 root.2 edge) path)

  pub carried-holds : HoldsInvariant engine (made ++ added) after
  carried-holds = record {
    numbers = numbers-each party numbers middle ∙ middle_numbers;
    counted = record {
      parties = λ s at. (sized-each engine party numbers middle can_hold s at).parties;
      bounded = λ s p at. (sized-each engine party numbers middle can_hold s at).bounded p;
    };
    unheld = λ s at waits. can.holds.unheld s (still-stop_waiting_each added standings s (still_waiting s at waits) waits) waits;
    alone = λ s root at waits other is reach. is_alone s root (still_waiting s at waits) waits other reach;
    reached = λ m at. is_reached_still m (among_either made added m at);
  }
