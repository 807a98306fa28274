-- One more hold of a registered group leaves the counts as they stand in a registry.
use Rattle.std.proofs.Common.{◌≡◌, ◌≢◌, ℕ, ◌+◌, ◌<◌, ◌≤◌, ◌==◌, Bool, true, false, List, map, slice_index, refl, sym, ap, ◌∙◌, subst, arith, length-set}
use Rattle.wt_env.specs.Limits.{EngineParts}
use Rattle.wt_model.specs.Registered.{RegisteredGroup, GroupHolds}
use Rattle.wt_env.specs.Among.{Among}
use Rattle.wt_model.specs.Holds.{held_at, change, gained}
use Rattle.wt_model.specs.Sound.{IsRising, NamesOlder}
use Rattle.wt_model.specs.Reach.{Reach, here, further}
use Rattle.wt_model.specs.Removal.{is_root, is_reached}
use Rattle.wt_model.specs.Sound.{HoldsInvariant}
use Rattle.wt_env.proofs.lists.Mapped.{among_map}
use Rattle.wt_model.proofs.holds.Leads.{Fall, fall, reached-leads, leads-reached, reach_joined}
use Rattle.wt_model.proofs.holds.Rooted.{RiseAbove, rise_with, held-at}
use Rattle.wt_model.proofs.holds.Looked.{numbers-change, root-other, gained-root}
use Rattle.wt_model.proofs.holds.Stand.{IsSized, stand, sized, sized-changed, still_there, bounded-set}

-- edges lead to older groups, so two that lead to one another are one
pub leads_down : (made : List RegisteredGroup) (from number : ℕ) → Fall made → Reach made from number → number ≤ from
leads_down made from number falls here = omega arith
leads_down made from number falls (further to next reach edge) =
    let before : to ≤ from = leads_down made from to falls reach in
    let below : next < (edge.0).number = falls edge.0 next edge.1 edge.3 in
    omega (arith, before, below, edge.2)

pub gained-stand_in : (engine : EngineParts) (top : ℕ) (made : List RegisteredGroup) (standings : List GroupHolds) (party number : ℕ) → IsRising 0 made top → NamesOlder made → HoldsInvariant engine made standings
    → party < engine.limits.parties → held_at standings party number + 1 ≤ engine.limits.holds → Among number (map (λ s. s.number) standings)
    → HoldsInvariant engine made (change number (gained party) standings)
gained-stand_in engine top made standings party number rising older are within room stands = record {
  numbers = numbers-change number (gained party) standings (λ s. refl) ∙ are.numbers;
  counted = record { parties = λ s at. (sizes s at).parties; bounded = λ s p at. (sizes s at).bounded p };
  unheld = λ s at waits. are.unheld s (still s at waits) waits;
  alone = λ s root at waits other is reach. is_alone s root (still s at waits) waits other is reach;
  reached = λ m at. found m (reached-leads made (is_root standings) m.number (are.reached m at));
}
  where
    after : List GroupHolds
    after = change number (gained party) standings

    still : (s : GroupHolds) → Among s after → s.waits ≡ true → Among s standings
    still = still_there number (gained party) standings (λ s. refl)

    rise : RiseAbove 0 (map (λ s. s.number) standings)
    rise = rise_with top made standings rising are.numbers

    sizes : (s : GroupHolds) → Among s after → IsSized engine s
    sizes = sized-changed engine number (gained party) standings (sized engine made standings (stand engine made standings are)) one_more
      where
        one_more : (s : GroupHolds) → Among s standings → s.number ≡ number → IsSized engine s → IsSized engine (gained party s)
        one_more s at own is =
            let same : held_at standings party number ≡ slice_index s.holds party = ap (held_at standings party) (sym own) ∙ held-at 0 standings s party rise at in
            let bound : slice_index s.holds party + 1 ≤ engine.limits.holds = subst (λ (n : ℕ). n + 1 ≤ engine.limits.holds) same room in
            record {
              parties = length-set s.holds party (slice_index s.holds party + 1) ∙ is.parties;
              bounded = λ p. bounded-set s.holds party (slice_index s.holds party + 1) p engine.limits.holds bound (is.bounded p);
            }

    held : is_root after number ≡ true
    held = gained-root party number standings stands (λ s at. let long = are.counted.parties s at in omega (arith, long, within))

    roots : (n : ℕ) → is_root standings n ≡ true → is_root after n ≡ true
    roots n is = by (n == number) refl
      where
        by : (b : Bool) → (n == number) ≡ b → is_root after n ≡ true
        by true e = let it : number ≡ n = grind (arith, e) in subst (λ k. is_root after k ≡ true) it held
        by false e = root-other number (gained party) standings n (λ s. refl) (λ same. grind (arith, e, same)) ∙ is

    found : (m : RegisteredGroup) → (from : ℕ) × (is_root standings from ≡ true) × Reach made from m.number → is_reached made (is_root after) m.number ≡ true
    found m from = leads-reached top made (is_root after) from.0 m.number rising (fall made older) (roots from.0 from.1) from.2

    -- what leads to the group leads on from it
    leading : (from : ℕ) × (is_root standings from ≡ true) × Reach made from number
    leading =
        let named = among_map (λ (m : RegisteredGroup). m.number) made number (subst (Among number) are.numbers stands) in
        reached-leads made (is_root standings) number (subst (λ n. is_reached made (is_root standings) n ≡ true) (sym named.2) (are.reached named.0 named.1))

    no_path : (s : GroupHolds) → Among s standings → s.waits ≡ true → number ≢ s.number → Reach made number s.number → ⊥
    no_path s at waits other reach = by (leading.0 == s.number) refl
      where
        by : (b : Bool) → (leading.0 == s.number) ≡ b → ⊥
        by true e =
            let down : s.number ≤ number = leads_down made number s.number (fall made older) reach in
            let up : number ≤ leading.0 = leads_down made leading.0 number (fall made older) leading.2 in
            other (grind (arith, e, down, up))
        by false e = are.alone s leading.0 at waits (λ same. grind (arith, e, same)) leading.1 (reach_joined made leading.0 number s.number leading.2 reach)

    is_alone : (s : GroupHolds) (root : ℕ) → Among s standings → s.waits ≡ true → root ≢ s.number → is_root after root ≡ true → Reach made root s.number → ⊥
    is_alone s root at waits other is reach = by (root == number) refl
      where
        by : (b : Bool) → (root == number) ≡ b → ⊥
        by true e =
            let it : root ≡ number = grind (arith, e) in
            no_path s at waits (λ same. other (it ∙ same)) (subst (λ n. Reach made n s.number) it reach)
        by false e = are.alone s root at waits other (sym (root-other number (gained party) standings root (λ x. refl) (λ same. grind (arith, e, same))) ∙ is) reach
