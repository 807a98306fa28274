-- A drop, a sweep and a release leave the counts as they stand in a registry: each group is reached, and what
-- waits is held by nobody and reached by nothing else.
use Rattle.std.proofs.Common.{◌≡◌, ◌≢◌, ℕ, ◌-◌, ◌≤◌, ◌==◌, ◌⊎◌, inl, inr, Bool, true, false, cond, List, length, map, Option, Some, None, refl, sym, ap, ◌∙◌, subst, arith}
use Rattle.std.proofs.lemmas.Bool.{false≢true, or_left, false_from_ne_true}
use Rattle.wt_env.specs.Limits.{EngineParts}
use Rattle.wt_model.specs.declared.swept.Swept.{Swept}
use Rattle.wt_model.specs.declared.swept.Swept.TheVariants.{Removed, Kept, Gone}
use Rattle.wt_model.specs.Registered.{RegisteredGroup, GroupHolds, Registry}
use Rattle.wt_env.specs.Among.{Among}
use Rattle.wt_model.specs.Holds.{is_held, held_at, waits_at, change, is_registered}
use Rattle.wt_model.specs.Sound.{IsRising, NamesOlder}
use Rattle.wt_model.specs.Reach.{Reach}
use Rattle.wt_model.specs.Removal.{is_root, is_reached, kept_made, kept_standings, reached_in, reached_part, fewer, now_waits, drop_hold, swept_part, sweep_debt, fewer_of, release_holds}
use Rattle.wt_model.specs.Sound.{HoldsInvariant}
use Rattle.wt_model.specs.Holds.{no_longer}
use Rattle.wt_env.proofs.lists.Mapped.{among_mapped}
use Rattle.wt_model.proofs.holds.Leads.{fall, reached-leads, leads-reached, reached-on, reached-edge, reached-agree, root-reached}
use Rattle.wt_model.proofs.holds.Rooted.{RiseAbove, rise_with, root-at, held-root, held-stands}
use Rattle.wt_model.proofs.removal.KeptPart.{KeepsLed, among-kept, kept-reach, reached-kept}
use Rattle.wt_model.proofs.holds.Stand.{Stand, IsSized, stand, sized, sized-changed, still_there, stand-fewer, stand-no_longer, stand-fewer_of}
use Rattle.wt_model.proofs.holds.Looked.{among-kept_standings, numbers-kept, root-kept, among-changed, numbers-change, root-other, root-less, root-waits, waits-root, rooted-fewer}

-- ---- the part that is reached

-- what a group that is reached leads to is reached
pub part-led : (registry : Registry) (top : ℕ) → IsRising 0 registry.made top → NamesOlder registry.made → KeepsLed (reached_in registry) registry.made
part-led registry top rising older a number at passes leads =
    reached-edge top registry.made (is_root registry.standings) a.number number rising (fall registry.made older) passes (a, at, refl, leads)

part-stands : (registry : Registry) → Stand registry.engine registry.made registry.standings
    → HoldsInvariant registry.engine (reached_part registry).made (reached_part registry).standings
part-stands registry are = record {
  numbers = numbers-kept keep made standings are.numbers;
  counted = record { parties = λ s at. are.parties s (among-kept_standings keep standings s at); bounded = λ s party at. are.bounded s party (among-kept_standings keep standings s at) };
  unheld = λ s at waits. are.unheld s (among-kept_standings keep standings s at) waits;
  alone = λ s root at waits other is reach.
      are.alone s root (among-kept_standings keep standings s at) waits other (sym (roots root) ∙ is) (kept-reach keep made root s.number reach);
  reached = λ m at.
      reached-agree (kept_made keep made) (is_root (kept_standings keep standings)) (is_root standings) m.number roots
      ∙ (reached-kept keep (is_root standings) made (λ n h. h) m.number ∙ (among-kept keep made m at).1);
}
  where
    made : List RegisteredGroup
    made = registry.made

    standings : List GroupHolds
    standings = registry.standings

    keep : ℕ → Bool
    keep = reached_in registry

    roots : (n : ℕ) → is_root (kept_standings keep standings) n ≡ is_root standings n
    roots = root-kept keep standings (λ n is. root-reached made (is_root standings) n is)

-- ---- a drop

-- where the group is still reached
drop-kept : (engine : EngineParts) (top : ℕ) (made : List RegisteredGroup) (standings : List GroupHolds) (party number : ℕ) → IsRising 0 made top → NamesOlder made → HoldsInvariant engine made standings
    → is_reached made (is_root (change number (fewer party) standings)) number ≡ true → HoldsInvariant engine made (change number (fewer party) standings)
drop-kept engine top made standings party number rising older are still = record {
  numbers = less.numbers;
  counted = record { parties = less.parties; bounded = less.bounded };
  unheld = less.unheld;
  alone = less.alone;
  reached = λ m at. found m (reached-leads made (is_root standings) m.number (are.reached m at));
}
  where
    less : Stand engine made (change number (fewer party) standings)
    less = stand-fewer engine made standings party number (stand engine made standings are)

    found : (m : RegisteredGroup) → (from : ℕ) × (is_root standings from ≡ true) × Reach made from m.number → is_reached made (is_root (change number (fewer party) standings)) m.number ≡ true
    found m from = by (from.0 == number) refl
      where
        by : (b : Bool) → (from.0 == number) ≡ b → is_reached made (is_root (change number (fewer party) standings)) m.number ≡ true
        by true e =
            let it : number ≡ from.0 = grind (arith, e) in
            reached-on top made (is_root (change number (fewer party) standings)) from.0 m.number rising (fall made older)
            (subst (λ n. is_reached made (is_root (change number (fewer party) standings)) n ≡ true) it still) from.2
        by false e =
            leads-reached top made (is_root (change number (fewer party) standings)) from.0 m.number rising (fall made older)
            (root-other number (fewer party) standings from.0 (λ s. refl) (λ same. grind (arith, e, same)) ∙ from.1) from.2

-- where it isn't, so that it waits
drop-waits : (engine : EngineParts) (top : ℕ) (made : List RegisteredGroup) (standings : List GroupHolds) (party number : ℕ) → IsRising 0 made top → NamesOlder made → HoldsInvariant engine made standings
    → 1 ≤ held_at standings party number
    → is_reached made (is_root (change number (fewer party) standings)) number ≡ false → HoldsInvariant engine made (change number now_waits (change number (fewer party) standings))
drop-waits engine top made standings party number rising older are held unreached = record {
  numbers = numbers-change number now_waits lessened (λ s. refl) ∙ less.numbers;
  counted = record { parties = λ s at. (sizes s at).parties; bounded = λ s p at. (sizes s at).bounded p };
  unheld = λ s at waits. is_unheld s waits (among-changed number now_waits lessened s at);
  alone = λ s root at waits other is reach. is_alone s root waits other is reach (among-changed number now_waits lessened s at);
  reached = λ m at. found m (reached-leads made (is_root standings) m.number (are.reached m at));
}
  where
    lessened : List GroupHolds
    lessened = change number (fewer party) standings

    after : List GroupHolds
    after = change number now_waits lessened

    less : Stand engine made lessened
    less = stand-fewer engine made standings party number (stand engine made standings are)

    sizes : (s : GroupHolds) → Among s after → IsSized engine s
    sizes = sized-changed engine number now_waits lessened (sized engine made lessened less) (λ s at own is. record { parties = is.parties; bounded = is.bounded })

    rise : RiseAbove 0 (map (λ s. s.number) lessened)
    rise = rise_with top made lessened rising less.numbers

    stands : Among number (map (λ s. s.number) lessened)
    stands =
        let own = held-stands standings party number held in
        let there : Among (own.0).number (map (λ s. s.number) standings) = among_mapped (λ (s : GroupHolds). s.number) standings own.0 own.1 in
        subst (Among number) (sym (numbers-change number (fewer party) standings (λ s. refl)))
        (subst (λ n. Among n (map (λ (s : GroupHolds). s.number) standings)) (sym own.3) there)

    -- what was a root is one
    roots : (n : ℕ) → is_root standings n ≡ true → is_root after n ≡ true
    roots n is = by (n == number) refl
      where
        by : (b : Bool) → (n == number) ≡ b → is_root after n ≡ true
        by true e =
            let it : number ≡ n = grind (arith, e) in
            subst (λ k. is_root after k ≡ true) it (waits-root number lessened stands)
        by false e = root-waits number lessened n (root-other number (fewer party) standings n (λ s. refl) (λ same. grind (arith, e, same)) ∙ is)

    -- and no other is
    no_other : (n : ℕ) → n ≢ number → is_root after n ≡ true → is_root lessened n ≡ true
    no_other n differs is = sym (root-other number now_waits lessened n (λ s. refl) differs) ∙ is

    was : (n : ℕ) → is_root after n ≡ true → is_root standings n ≡ true
    was n is = by (n == number) refl
      where
        by : (b : Bool) → (n == number) ≡ b → is_root standings n ≡ true
        by true e =
            let it : number ≡ n = grind (arith, e) in
            subst (λ k. is_root standings k ≡ true) it (held-root standings party number held)
        by false e = root-less number (fewer party) standings n (λ s. refl) (rooted-fewer party) (no_other n (λ same. grind (arith, e, same)) is)

    found : (m : RegisteredGroup) → (from : ℕ) × (is_root standings from ≡ true) × Reach made from m.number → is_reached made (is_root after) m.number ≡ true
    found m from = leads-reached top made (is_root after) from.0 m.number rising (fall made older) (roots from.0 from.1) from.2

    never : (n : ℕ) → n ≡ number → is_reached made (is_root lessened) n ≡ true → ⊥
    never n it reached = false≢true (sym unreached ∙ (ap (is_reached made (is_root lessened)) (sym it) ∙ reached))

    is_unheld : (s : GroupHolds) → s.waits ≡ true → Among s lessened ⊎ ((t : GroupHolds) × Among t lessened × (t.number ≡ number) × (s ≡ now_waits t)) → is_held s.holds ≡ false
    is_unheld s waits (inl there) = less.unheld s there waits
    is_unheld s waits (inr own) =
        let t = own.0 in
        let none : is_held t.holds ≡ false = false_from_ne_true (is_held t.holds)
        (λ some. never t.number own.2 (root-reached made (is_root lessened) t.number (root-at 0 lessened t rise own.1 ∙ or_left (is_held t.holds) t.waits some))) in
        ap (λ (x : GroupHolds). is_held x.holds) own.3 ∙ none

    is_alone : (s : GroupHolds) (root : ℕ) → s.waits ≡ true → root ≢ s.number → is_root after root ≡ true → Reach made root s.number
        → Among s lessened ⊎ ((t : GroupHolds) × Among t lessened × (t.number ≡ number) × (s ≡ now_waits t)) → ⊥
    is_alone s root waits other is reach (inl there) =
        are.alone s root (still_there number (fewer party) standings (λ x. refl) s there waits) waits other (was root is) reach
    is_alone s root waits other is reach (inr own) =
        let it : s.number ≡ number = ap (λ (x : GroupHolds). x.number) own.3 ∙ own.2 in
        never s.number it
        (leads-reached top made (is_root lessened) root s.number rising (fall made older) (no_other root (λ same. other (same ∙ sym it)) is) reach)

abbrev StandsIn : Registry → Type 0
StandsIn registry = HoldsInvariant registry.engine registry.made registry.standings

-- the answer and the registry after it, where the group is reached or isn't
abbrev pub drop_answered : Registry → ℕ → ℕ → Bool → Option ℕ × Registry
drop_answered old party number b =
    let lessened = change number (fewer party) old.standings in
    cond b (None, record old { standings = lessened }) (Some number, record old { standings = change number now_waits lessened })

pub drop-stands : (old new : Registry) (top party number : ℕ) (debt : Option ℕ) → IsRising 0 old.made top → NamesOlder old.made → HoldsInvariant old.engine old.made old.standings
    → 1 ≤ held_at old.standings party number → drop_hold old party number ≡ (debt, new) → HoldsInvariant new.engine new.made new.standings
drop-stands old new top party number debt rising older are held h = by (is_reached old.made (is_root (change number (fewer party) old.standings)) number) refl h
  where
    by : (b : Bool) → is_reached old.made (is_root (change number (fewer party) old.standings)) number ≡ b → drop_answered old party number b ≡ (debt, new) → StandsIn new
    by true e is = subst StandsIn (ap (λ (answer : Option ℕ × Registry). answer.1) is) (drop-kept old.engine top old.made old.standings party number rising older are e)
    by false e is = subst StandsIn (ap (λ (answer : Option ℕ × Registry). answer.1) is) (drop-waits old.engine top old.made old.standings party number rising older are held e)

-- ---- a sweep and a release

pub swept-stands : (registry : Registry) (number : ℕ) → HoldsInvariant registry.engine registry.made registry.standings
    → HoldsInvariant registry.engine (swept_part registry number).made (swept_part registry number).standings
swept-stands registry number are =
    part-stands (record registry { standings = change number no_longer registry.standings })
    (stand-no_longer registry.engine registry.made registry.standings number (stand registry.engine registry.made registry.standings are))

-- the answer and the registry after it, where the group waits or doesn't
abbrev pub sweep_answered : Registry → ℕ → Bool → Swept × Registry
sweep_answered old number b = cond b (Removed (length old.made - length (swept_part old number).made), swept_part old number) (cond (is_registered old.made number) Kept Gone, old)

pub sweep-stands : (old new : Registry) (number : ℕ) (swept : Swept) → HoldsInvariant old.engine old.made old.standings
    → sweep_debt old number ≡ (swept, new) → HoldsInvariant new.engine new.made new.standings
sweep-stands old new number swept are h = by (waits_at old.standings number) h
  where
    by : (b : Bool) → sweep_answered old number b ≡ (swept, new) → StandsIn new
    by true is = subst StandsIn (ap (λ (answer : Swept × Registry). answer.1) is) (swept-stands old number are)
    by false is = subst StandsIn (ap (λ (answer : Swept × Registry). answer.1) is) are

pub release-stands : (registry : Registry) (party : ℕ) (numbers : List ℕ) → HoldsInvariant registry.engine registry.made registry.standings
    → HoldsInvariant registry.engine (release_holds registry party numbers).made (release_holds registry party numbers).standings
release-stands registry party numbers are =
    part-stands (record registry { standings = fewer_of party numbers registry.standings })
    (stand-fewer_of registry.engine registry.made registry.standings party numbers (stand registry.engine registry.made registry.standings are))
