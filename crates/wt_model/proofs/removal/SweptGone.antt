-- What is swept is no longer registered.
use Rattle.std.proofs.Common.{◌≡◌, ◌≢◌, ℕ, ◌-◌, ◌<◌, ◌≤◌, ◌==◌, ◌⊎◌, inl, inr, Bool, true, false, cond, ◌||◌, List, [], ◌∷◌, length, map, refl, sym, ap, ◌∙◌, arith}
use Rattle.std.proofs.lemmas.Bool.{false≢true, false_from_ne_true, cond-true, cond-false, or_from}
use Rattle.wt_model.specs.Registered.{RegisteredGroup, GroupHolds, Registry}
use Rattle.wt_env.specs.Among.{Among}
use Rattle.wt_model.specs.Holds.{is_held, waits_at, change, is_registered}
use Rattle.wt_model.specs.Reach.{Reach}
use Rattle.wt_model.specs.Removal.{is_rooted, is_root, is_reached, kept_made, swept_part}
use Rattle.wt_model.specs.Sound.{HoldsInvariant}
use Rattle.wt_model.specs.Holds.{no_longer}
use Rattle.wt_env.proofs.lists.Filtered.{filter_shorter}
use Rattle.wt_env.proofs.lists.Mapped.{among_map, among_mapped}
use Rattle.wt_model.proofs.holds.Leads.{reached-leads}
use Rattle.wt_model.proofs.holds.Rooted.{waits_at-stands}
use Rattle.wt_model.proofs.holds.Looked.{root-less, rooted-no_longer}

differ : (n m : ℕ) → (n == m) ≡ false → n ≢ m
differ n m e same = grind (arith, e, same)

-- what waited is no root where it waits no longer
no_longer-root : (number : ℕ) (standings : List GroupHolds) → ((s : GroupHolds) → Among s standings → s.waits ≡ true → is_held s.holds ≡ false)
    → waits_at standings number ≡ true → is_root (change number no_longer standings) number ≡ false
no_longer-root number [] unheld waits = refl
no_longer-root number (s ∷ standings) unheld waits = by (s.number == number) refl waits (no_longer-root number standings (λ t at. unheld t (inr at)))
  where
    by : (b : Bool) → (s.number == number) ≡ b → cond b s.waits (waits_at standings number) ≡ true
        → (waits_at standings number ≡ true → is_root (change number no_longer standings) number ≡ false)
        → is_root (cond b (no_longer s ∷ standings) (s ∷ change number no_longer standings)) number ≡ false
    by true e own later = cond-true (s.number == number) (is_held s.holds || false) (is_root standings number) e ∙ or_from (is_held s.holds) false (unheld s (inl refl) own) refl
    by false e there later = cond-false (s.number == number) (is_rooted s) (is_root (change number no_longer standings) number) e ∙ later there

-- nothing reaches it then, since nothing else reached it
pub swept-unreached : (registry : Registry) (number : ℕ) → HoldsInvariant registry.engine registry.made registry.standings → waits_at registry.standings number ≡ true
    → is_reached registry.made (is_root (change number no_longer registry.standings)) number ≡ false
swept-unreached registry number are waits =
    false_from_ne_true (is_reached registry.made (is_root (change number no_longer registry.standings)) number)
    (λ reached. from_root (reached-leads registry.made (is_root (change number no_longer registry.standings)) number reached))
  where
    own : (s : GroupHolds) × Among s registry.standings × (s.waits ≡ true) × (number ≡ s.number)
    own = waits_at-stands registry.standings number waits

    from_root : (from : ℕ) × (is_root (change number no_longer registry.standings) from ≡ true) × Reach registry.made from number → ⊥
    from_root found = by (found.0 == number) refl
      where
        unrooted : is_root (change number no_longer registry.standings) number ≡ false
        unrooted = no_longer-root number registry.standings are.unheld waits

        same : (found.0 == number) ≡ true → found.0 ≡ number
        same e = grind (arith, e)

        by : (b : Bool) → (found.0 == number) ≡ b → ⊥
        by true e = false≢true (sym unrooted ∙ (ap (is_root (change number no_longer registry.standings)) (sym (same e)) ∙ found.1))
        by false e =
            are.alone own.0 found.0 own.1 own.2 (λ it. differ found.0 number e (it ∙ sym own.3))
            (root-less number no_longer registry.standings found.0 (λ s. refl) rooted-no_longer found.1)
            (transport_end own.3 found.2)
          where
            transport_end : {k : ℕ} → number ≡ k → Reach registry.made found.0 number → Reach registry.made found.0 k
            transport_end it reach = rw it at reach

unregistered-kept : (keep : ℕ → Bool) (made : List RegisteredGroup) (number : ℕ) → keep number ≡ false → is_registered (kept_made keep made) number ≡ false
unregistered-kept keep [] number leaves = refl
unregistered-kept keep (m ∷ made) number leaves = by (keep m.number) refl (unregistered-kept keep made number leaves)
  where
    other : keep m.number ≡ true → (m.number == number) ≡ false
    other e = false_from_ne_true (m.number == number) (λ h. let same : number ≡ m.number = grind (arith, h) in false≢true (sym leaves ∙ (ap keep same ∙ e)))

    by : (b : Bool) → keep m.number ≡ b → is_registered (kept_made keep made) number ≡ false
        → is_registered (cond b (m ∷ kept_made keep made) (kept_made keep made)) number ≡ false
    by true e later = or_from (m.number == number) (is_registered (kept_made keep made) number) (other e) later
    by false e later = later

pub swept-gone : (registry : Registry) (number : ℕ) → HoldsInvariant registry.engine registry.made registry.standings → waits_at registry.standings number ≡ true
    → is_registered (swept_part registry number).made number ≡ false
swept-gone registry number are waits =
    unregistered-kept (is_reached registry.made (is_root (change number no_longer registry.standings))) registry.made number (swept-unreached registry number are waits)

fewer-kept : (keep : ℕ → Bool) (made : List RegisteredGroup) (m : RegisteredGroup) → Among m made → keep m.number ≡ false → length (kept_made keep made) < length made
fewer-kept keep [] m at leaves = absurd at
fewer-kept keep (x ∷ made) m at leaves = by (keep x.number) refl at (λ there. fewer-kept keep made m there leaves)
  where
    stays : keep x.number ≡ true → m ≡ x → ⊥
    stays e same = false≢true (sym leaves ∙ (ap (λ (y : RegisteredGroup). keep y.number) same ∙ e))

    by : (b : Bool) → keep x.number ≡ b → (m ≡ x) ⊎ Among m made → (Among m made → length (kept_made keep made) < length made)
        → length (cond b (x ∷ kept_made keep made) (kept_made keep made)) < length (x ∷ made)
    by true e (inl same) later = absurd (stays e same)
    by true e (inr there) later = let less = later there in omega (arith, less)
    by false e at later = let short = filter_shorter (λ (m : RegisteredGroup). keep m.number) made in omega (arith, short)

-- so that at least one group leaves
pub swept-some : (registry : Registry) (number : ℕ) → HoldsInvariant registry.engine registry.made registry.standings → waits_at registry.standings number ≡ true
    → 1 ≤ length registry.made - length (swept_part registry number).made
swept-some registry number are waits =
    let own = waits_at-stands registry.standings number waits in
    let there : Among (own.0).number (map (λ (m : RegisteredGroup). m.number) registry.made) =
    rw are.numbers at (among_mapped (λ (s : GroupHolds). s.number) registry.standings own.0 own.1) in
    let named = among_map (λ (m : RegisteredGroup). m.number) registry.made (own.0).number there in
    let leaves : is_reached registry.made (is_root (change number no_longer registry.standings)) (named.0).number ≡ false =
    ap (is_reached registry.made (is_root (change number no_longer registry.standings))) (sym (own.3 ∙ named.2)) ∙ swept-unreached registry number are waits in
    let less = fewer-kept (is_reached registry.made (is_root (change number no_longer registry.standings))) registry.made named.0 named.1 leaves in
    omega (arith, less)
