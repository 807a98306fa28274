-- What a drop, a sweep and a release change: no hold but those that they end, and no index of a group that is held.
use Rattle.std.proofs.Common.{◌≡◌, ◌≢◌, ℕ, ◌+◌, ◌-◌, ◌<◌, ◌≤◌, ◌==◌, ◌⊎◌, inl, inr, Bool, true, false, cond, List, [], ◌∷◌, length, map, slice_index, slice_set, Option, Some, None, option_map, refl, sym, ap, ◌∙◌, subst, arith}
use Rattle.std.proofs.lemmas.Bool.{false≢true, false_from_ne_true}
use Rattle.std.proofs.lemmas.List.{get_or-set_same, get_or-set_other}
use Rattle.wt_env.specs.declared.types.VMSharedTypeIndex.{VMSharedTypeIndex}
use Rattle.wt_model.specs.declared.swept.Swept.{Swept}
use Rattle.wt_model.specs.Registered.{RegisteredGroup, GroupHolds, Registry}
use Rattle.wt_env.specs.Among.{Among}
use Rattle.wt_model.specs.Holds.{held_at, waits_at, waiting, change}
use Rattle.wt_model.specs.Indices.{locate, number_of}
use Rattle.wt_model.specs.Reach.{Reach}
use Rattle.wt_model.specs.Sound.{IsRising, NamesOlder, IsHeldBySome, IsRoot, AreReached}
use Rattle.wt_model.specs.Changes.{DropChanges, IsStillReached, RemovalChanges, SweepChanges}
use Rattle.wt_model.specs.Removal.{is_root, is_reached, kept_standings, reached_in, reached_part, fewer, now_waits, drop_hold, swept_part, sweep_debt, fewer_of, release_holds}
use Rattle.wt_model.specs.Sound.{HoldsInvariant}
use Rattle.wt_model.specs.Holds.{no_longer}
use Rattle.wt_env.proofs.lists.Mapped.{among_map, among_mapped}
use Rattle.wt_model.proofs.holds.Leads.{fall, reached-leads, root-reached, leads-reached}
use Rattle.wt_model.proofs.holds.Rooted.{rise_with, held-at, held_by_one, root-tells, root-told, held-root, held-stands, waiting-stands, stands-waiting, no_root-unheld}
use Rattle.wt_model.proofs.removal.KeptPart.{among-kept, kept-among, locate-kept}
use Rattle.wt_model.proofs.holds.Looked.{among-kept_standings, among-changed, numbers-change, root-other, held-same, held-kept}
use Rattle.wt_model.proofs.removal.Reached.{reach_registered}
use Rattle.wt_model.proofs.removal.Removing.{drop_answered, sweep_answered}

-- ---- the registered groups are those reached

pub stands-reached : (registry : Registry) → NamesOlder registry.made → HoldsInvariant registry.engine registry.made registry.standings → AreReached registry
stands-reached registry older are = record {
  every = λ group at.
      let found = reached-leads registry.made (is_root registry.standings) group.number (are.reached group at) in
      (found.0, root-told registry.standings found.0 found.1, found.2);
  only = λ root number is reach. reach_registered registry.made older root number (group_of root is) reach;
}
  where
    registered : (s : GroupHolds) (number : ℕ) → Among s registry.standings → number ≡ s.number → (group : RegisteredGroup) × Among group registry.made × (group.number ≡ number)
    registered s number at same =
        let there : Among s.number (map (λ m. m.number) registry.made) =
        subst (λ numbers. Among s.number numbers) are.numbers (among_mapped (λ (t : GroupHolds). t.number) registry.standings s at) in
        let named = among_map (λ (m : RegisteredGroup). m.number) registry.made s.number there in
        (named.0, named.1, sym (same ∙ named.2))

    group_of : (root : ℕ) → IsRoot registry root → (group : RegisteredGroup) × Among group registry.made × (group.number ≡ root)
    group_of root (inl held) = let own = held-stands registry.standings held.0 root held.1 in registered own.0 root own.1 own.3
    group_of root (inr waits) = let own = waiting-stands registry.standings root waits in registered own.0 root own.1 own.3

-- ---- the part that is reached

waiting-kept : (keep : ℕ → Bool) (standings : List GroupHolds) (n : ℕ) → Among n (waiting (kept_standings keep standings)) → Among n (waiting standings)
waiting-kept keep standings n at =
    let own = waiting-stands (kept_standings keep standings) n at in
    subst (λ k. Among k (waiting standings)) (sym own.3) (stands-waiting standings own.0 (among-kept_standings keep standings own.0 own.1) own.2)

located-at : (made : List RegisteredGroup) (i : VMSharedTypeIndex) (n : ℕ) → number_of made i ≡ Some n → (at : ℕ × ℕ) × (locate made i ≡ Some at) × (at.0 ≡ n)
located-at made i n is = by (locate made i) refl is
  where
    same : (at : ℕ × ℕ) → Some at.0 ≡ Some n → at.0 ≡ n
    same at is = cc

    by : (found : Option (ℕ × ℕ)) → locate made i ≡ found → option_map (λ (at : ℕ × ℕ). at.0) found ≡ Some n → (at : ℕ × ℕ) × (locate made i ≡ Some at) × (at.0 ≡ n)
    by (Some at) e is = (at, e, same at is)
    by None e is = absurd (cc)

-- without what isn't reached no hold is changed
part-holds : (registry : Registry) (p n : ℕ) → held_at (reached_part registry).standings p n ≡ held_at registry.standings p n
part-holds registry p n =
    held-kept (reached_in registry) registry.standings p n (λ leaves.
    no_root-unheld registry.standings p n (false_from_ne_true (is_root registry.standings n) (λ is.
    false≢true (sym leaves ∙ root-reached registry.made (is_root registry.standings) n is))))

-- what is left: exactly what is reached, with the indices that it had
part-removal : (registry : Registry) (top : ℕ) → IsRising 0 registry.made top → NamesOlder registry.made → map (λ s. s.number) registry.standings ≡ map (λ m. m.number) registry.made
    → RemovalChanges registry (reached_part registry)
part-removal registry top rising older numbers = record {
  made = λ group at. (among-kept keep registry.made group at).0;
  stays = λ group root at is reach. kept-among keep registry.made group at (led root group.number (was root is) reach);
  waiting = λ n at. waiting-kept keep registry.standings n at;
  located = λ i root n held reach is.
      let own = located-at registry.made i n is in
      let stays : keep (own.0).0 ≡ true = ap keep own.2 ∙ led root n (was root (inl held)) reach in
      ap (option_map (λ (at : ℕ × ℕ). at.0)) (locate-kept keep registry.made i own.0 own.1 stays) ∙ ap Some own.2;
}
  where
    keep : ℕ → Bool
    keep = reached_in registry

    -- what is a root then was one
    was : (root : ℕ) → IsRoot (reached_part registry) root → is_root registry.standings root ≡ true
    was root (inl held) = held-root registry.standings held.0 root (subst (λ k. 1 ≤ k) (part-holds registry held.0 root) held.1)
    was root (inr waits) = (root-tells top registry root rising numbers).1 (inr (waiting-kept keep registry.standings root waits))

    led : (root number : ℕ) → is_root registry.standings root ≡ true → Reach registry.made root number → keep number ≡ true
    led root number is reach = leads-reached top registry.made (is_root registry.standings) root number rising (fall registry.made older) is reach

-- ---- a drop

held_at-fewer : (standings : List GroupHolds) (party number : ℕ) → ((s : GroupHolds) → Among s standings → party < length s.holds)
    → 1 ≤ held_at standings party number
    → held_at standings party number ≡ held_at (change number (fewer party) standings) party number + 1
held_at-fewer [] party number within held = absurd (omega (arith, held))
held_at-fewer (x ∷ standings) party number within held = by (x.number == number) refl held (held_at-fewer standings party number (λ s there. within s (inr there)))
  where
    one_less : (n m : ℕ) → 1 ≤ n → m ≡ n - 1 → n ≡ m + 1
    one_less n m some is = omega (arith, some, is)

    by : (b : Bool) → (x.number == number) ≡ b → 1 ≤ cond b (slice_index x.holds party) (held_at standings party number)
        → (1 ≤ held_at standings party number → held_at standings party number ≡ held_at (change number (fewer party) standings) party number + 1)
        → cond b (slice_index x.holds party) (held_at standings party number) ≡ held_at (cond b (fewer party x ∷ standings) (x ∷ change number (fewer party) standings)) party number + 1
    by true e some later =
        let less = get_or-set_same x.holds party (slice_index x.holds party - 1) 0 (within x (inl refl)) in
        rw e (one_less (slice_index x.holds party) (slice_index (slice_set x.holds party (slice_index x.holds party - 1)) party) some less)
    by false e some later = rw e (later some)

pub held_at-fewer-other : (standings : List GroupHolds) (party number p n : ℕ) → (p ≢ party) ⊎ (n ≢ number)
    → held_at (change number (fewer party) standings) p n ≡ held_at standings p n
held_at-fewer-other [] party number p n other = refl
held_at-fewer-other (x ∷ standings) party number p n other = by (x.number == number) refl (held_at-fewer-other standings party number p n other)
  where
    here : (b : Bool) → (x.number == n) ≡ b → (x.number == number) ≡ true → (p ≢ party) ⊎ (n ≢ number)
        → cond b (slice_index (slice_set x.holds party (slice_index x.holds party - 1)) p) (held_at standings p n) ≡ cond b (slice_index x.holds p) (held_at standings p n)
    here true e f (inl differs) = get_or-set_other x.holds party p (slice_index x.holds party - 1) 0 differs
    here true e f (inr differs) = absurd (grind arith)
    here false e f differ = refl

    by : (b : Bool) → (x.number == number) ≡ b → held_at (change number (fewer party) standings) p n ≡ held_at standings p n
        → held_at (cond b (fewer party x ∷ standings) (x ∷ change number (fewer party) standings)) p n ≡ cond (x.number == n) (slice_index x.holds p) (held_at standings p n)
    by true e later = here (x.number == n) refl e other
    by false e later = ap (cond (x.number == n) (slice_index x.holds p)) later

-- what waits after a change waited, or is the changed one
waiting-changed : (number : ℕ) (g : GroupHolds → GroupHolds) (standings : List GroupHolds) (n : ℕ) → ((s : GroupHolds) → (g s).number ≡ s.number)
    → Among n (waiting (change number g standings)) → (n ≡ number) ⊎ Among n (waiting standings)
waiting-changed number g standings n same at =
    let own = waiting-stands (change number g standings) n at in
    by own.0 own.2 own.3 (among-changed number g standings own.0 own.1)
  where
    by : (s : GroupHolds) → s.waits ≡ true → n ≡ s.number → Among s standings ⊎ ((t : GroupHolds) × Among t standings × (t.number ≡ number) × (s ≡ g t)) → (n ≡ number) ⊎ Among n (waiting standings)
    by s waits is (inl there) = inr (subst (λ k. Among k (waiting standings)) (sym is) (stands-waiting standings s there waits))
    by s waits is (inr found) = inl (is ∙ (ap (λ (x : GroupHolds). x.number) found.3 ∙ (same found.0 ∙ found.2)))

waiting-twice : (number party : ℕ) (standings : List GroupHolds) (n : ℕ) → Among n (waiting (change number now_waits (change number (fewer party) standings))) → (n ≡ number) ⊎ Among n (waiting standings)
waiting-twice number party standings n at = by (waiting-changed number now_waits (change number (fewer party) standings) n (λ s. refl) at)
  where
    by : (n ≡ number) ⊎ Among n (waiting (change number (fewer party) standings)) → (n ≡ number) ⊎ Among n (waiting standings)
    by (inl it) = inl it
    by (inr there) = waiting-changed number (fewer party) standings n (λ s. refl) there

pub drop_hold-changes : (old new : Registry) (party number : ℕ) (debt : Option ℕ) → HoldsInvariant old.engine old.made old.standings → party < old.engine.limits.parties → 1 ≤ held_at old.standings party number
    → drop_hold old party number ≡ (debt, new) → DropChanges old new party number
drop_hold-changes old new party number debt are within held h = by (is_reached old.made (is_root lessened) number) h
  where
    lessened : List GroupHolds
    lessened = change number (fewer party) old.standings

    less : held_at old.standings party number ≡ held_at lessened party number + 1
    less = held_at-fewer old.standings party number (λ s there. omega (arith, are.counted.parties s there, within)) held

    same : (p n : ℕ) → held_at (change number now_waits lessened) p n ≡ held_at lessened p n
    same p n = held-same number now_waits lessened p n (λ s. refl) (λ s. refl)

    by : (b : Bool) → drop_answered old party number b ≡ (debt, new) → DropChanges old new party number
    by true is = subst (λ (r : Registry). DropChanges old r party number) (ap (λ (answer : Option ℕ × Registry). answer.1) is)
        (record {
          engine = refl;
          made = refl;
          less = less;
          others = held_at-fewer-other old.standings party number;
          waiting = λ n at. waiting-changed number (fewer party) old.standings n (λ s. refl) at;
        })
    by false is = subst (λ (r : Registry). DropChanges old r party number) (ap (λ (answer : Option ℕ × Registry). answer.1) is)
        (record {
          engine = refl;
          made = refl;
          less = less ∙ ap (λ n. n + 1) (sym (same party number));
          others = λ p n other. same p n ∙ held_at-fewer-other old.standings party number p n other;
          waiting = λ n at. waiting-twice number party old.standings n at;
        })

-- what waits after a change after which the changed one doesn't waited before
waiting-quiet : (number : ℕ) (g : GroupHolds → GroupHolds) (standings : List GroupHolds) (n : ℕ) → ((s : GroupHolds) → (g s).waits ≡ false)
    → Among n (waiting (change number g standings)) → Among n (waiting standings)
waiting-quiet number g standings n quiet at =
    let own = waiting-stands (change number g standings) n at in
    by own.0 own.2 own.3 (among-changed number g standings own.0 own.1)
  where
    by : (s : GroupHolds) → s.waits ≡ true → n ≡ s.number → Among s standings ⊎ ((t : GroupHolds) × Among t standings × (t.number ≡ number) × (s ≡ g t)) → Among n (waiting standings)
    by s waits is (inl there) = subst (λ k. Among k (waiting standings)) (sym is) (stands-waiting standings s there waits)
    by s waits is (inr found) = absurd (false≢true (sym (quiet found.0) ∙ (ap (λ (x : GroupHolds). x.waits) (sym found.3) ∙ waits)))

-- where there is no debt, something still leads to the group
pub drop_hold-settled : (old new : Registry) (party number : ℕ) → drop_hold old party number ≡ (None, new) → IsStillReached old new number
drop_hold-settled old new party number h = by (is_reached old.made (is_root lessened) number) refl h
  where
    lessened : List GroupHolds
    lessened = change number (fewer party) old.standings

    kept : (root : ℕ) → ((p : ℕ) × (1 ≤ held_at lessened p root)) ⊎ Among root (waiting lessened) → IsHeldBySome lessened root ⊎ Among root (waiting old.standings)
    kept root (inl held) = inl held
    kept root (inr waits) = inr (waiting-quiet number (fewer party) old.standings root (λ s. refl) waits)

    by : (b : Bool) → is_reached old.made (is_root lessened) number ≡ b → drop_answered old party number b ≡ (None, new) → IsStillReached old new number
    by true e is =
        let found = reached-leads old.made (is_root lessened) number e in
        subst (λ (r : Registry). IsStillReached old r number) (ap (λ (answer : Option ℕ × Registry). answer.1) is)
        (found.0, kept found.0 (root-told lessened found.0 found.1), found.2)
    by false e is = absurd (some_none number (ap (λ (answer : Option ℕ × Registry). answer.0) is))
      where
        some_none : (n : ℕ) → Some n ≡ None → ⊥
        some_none n differ = cc

-- where there is one, nothing does
pub drop_hold-owed : (old new : Registry) (party number debt : ℕ) → IsRising 0 old.made old.given.numbers → NamesOlder old.made → HoldsInvariant old.engine old.made old.standings → 1 ≤ held_at old.standings party number
    → drop_hold old party number ≡ (Some debt, new) → IsStillReached old new number → ⊥
drop_hold-owed old new party number debt rising older are held h = by (is_reached old.made (is_root lessened) number) refl h
  where
    lessened : List GroupHolds
    lessened = change number (fewer party) old.standings

    -- what waited is no group that was held
    waited_other : (root : ℕ) → Among root (waiting old.standings) → root ≢ number
    waited_other root waits same =
        let own = waiting-stands old.standings root waits in
        let mine : held_at old.standings party (own.0).number ≡ slice_index (own.0).holds party =
        held-at 0 old.standings own.0 party (rise_with old.given.numbers old.made old.standings rising are.numbers) own.1 in
        let some : 1 ≤ slice_index (own.0).holds party =
        subst (λ k. 1 ≤ k) mine (subst (λ k. 1 ≤ held_at old.standings party k) (sym same ∙ own.3) held) in
        false≢true (sym (are.unheld own.0 own.1 own.2) ∙ held_by_one (own.0).holds party some)

    rooted : (root : ℕ) → IsHeldBySome (change number now_waits lessened) root ⊎ Among root (waiting old.standings) → is_root lessened root ≡ true
    rooted root (inl still) = held-root lessened still.0 root (subst (λ k. 1 ≤ k) (held-same number now_waits lessened still.0 root (λ s. refl) (λ s. refl)) still.1)
    rooted root (inr waits) =
        root-other number (fewer party) old.standings root (λ s. refl) (waited_other root waits)
        ∙ (root-tells old.given.numbers old root rising are.numbers).1 (inr waits)

    by : (b : Bool) → is_reached old.made (is_root lessened) number ≡ b → drop_answered old party number b ≡ (Some debt, new) → IsStillReached old new number → ⊥
    by true e is still = absurd (none_some debt (ap (λ (answer : Option ℕ × Registry). answer.0) is))
      where
        none_some : (n : ℕ) → None ≡ Some n → ⊥
        none_some n differ = cc
    by false e is still =
        let here : IsStillReached old (record old { standings = change number now_waits lessened }) number =
        subst (λ (r : Registry). IsStillReached old r number) (sym (ap (λ (answer : Option ℕ × Registry). answer.1) is)) still in
        false≢true (sym e ∙ leads-reached old.given.numbers old.made (is_root lessened) here.0 number rising (fall old.made older) (rooted here.0 here.1) here.2)

-- ---- a sweep

-- a change of what keeps the groups that makes nothing wait, and then the removal
pub then-removal : (old : Registry) (top : ℕ) (standings : List GroupHolds) → IsRising 0 old.made top → NamesOlder old.made → map (λ s. s.number) standings ≡ map (λ m. m.number) old.made
    → ((n : ℕ) → Among n (waiting standings) → Among n (waiting old.standings))
    → RemovalChanges old (reached_part (record old { standings = standings }))
then-removal old top standings rising older numbers waited =
    let left = part-removal (record old { standings = standings }) top rising older numbers in
    record { made = left.made; stays = left.stays; waiting = λ n at. waited n (left.waiting n at); located = left.located }

swept-changes : (old : Registry) (number : ℕ) → IsRising 0 old.made old.given.numbers → NamesOlder old.made → HoldsInvariant old.engine old.made old.standings → SweepChanges old (swept_part old number)
swept-changes old number rising older are =
    let quiet : Registry = record old { standings = change number no_longer old.standings } in
    record {
      engine = refl;
      holds = λ p n. part-holds quiet p n ∙ held-same number no_longer old.standings p n (λ s. refl) (λ s. refl);
      removal = then-removal old old.given.numbers (change number no_longer old.standings) rising older (numbers-change number no_longer old.standings (λ s. refl) ∙ are.numbers)
          (λ n at. waiting-quiet number no_longer old.standings n (λ s. refl) at);
    }

pub sweep_debt-changes : (old new : Registry) (number : ℕ) (swept : Swept) → IsRising 0 old.made old.given.numbers → NamesOlder old.made → HoldsInvariant old.engine old.made old.standings
    → sweep_debt old number ≡ (swept, new) → SweepChanges old new
sweep_debt-changes old new number swept rising older are h = by (waits_at old.standings number) h
  where
    by : (b : Bool) → sweep_answered old number b ≡ (swept, new) → SweepChanges old new
    by true is = subst (SweepChanges old) (ap (λ (answer : Swept × Registry). answer.1) is) (swept-changes old number rising older are)
    by false is = subst (SweepChanges old) (ap (λ (answer : Swept × Registry). answer.1) is)
        (record {
          engine = refl;
          holds = λ p n. refl;
          removal = record { made = λ group at. at; stays = λ group root at is reach. at; waiting = λ n at. at; located = λ i root n held reach is. is };
        })

-- ---- a release

pub waiting-fewer_of : (party : ℕ) (numbers : List ℕ) (standings : List GroupHolds) (n : ℕ) → Among n (waiting (fewer_of party numbers standings)) → Among n (waiting standings)
waiting-fewer_of party [] standings n at = at
waiting-fewer_of party (number ∷ numbers) standings n at =
    waiting-quiet number (fewer party) standings n (λ s. refl) (waiting-fewer_of party numbers (change number (fewer party) standings) n at)

-- the holds of other parties stay as they are
pub held_at-fewer_of-other : (party : ℕ) (numbers : List ℕ) (standings : List GroupHolds) (p n : ℕ) → p ≢ party → held_at (fewer_of party numbers standings) p n ≡ held_at standings p n
held_at-fewer_of-other party [] standings p n other = refl
held_at-fewer_of-other party (number ∷ numbers) standings p n other =
    held_at-fewer_of-other party numbers (change number (fewer party) standings) p n other ∙ held_at-fewer-other standings party number p n (inl other)

-- what isn't reached any more takes no hold along
pub held_at-released_part : (registry : Registry) (party : ℕ) (numbers : List ℕ) (p n : ℕ)
    → held_at (release_holds registry party numbers).standings p n ≡ held_at (fewer_of party numbers registry.standings) p n
held_at-released_part registry party numbers p n = part-holds (record registry { standings = fewer_of party numbers registry.standings }) p n
