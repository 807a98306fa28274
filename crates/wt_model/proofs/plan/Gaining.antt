-- What a plan that is carried out changes: the party's holds of the groups that occur, and no others.
use Rattle.std.proofs.Common.{◌≡◌, ◌≢◌, ℕ, ◌+◌, ◌<◌, ◌==◌, inl, inr, Bool, true, false, cond, List, [], ◌∷◌, ◌++◌, length, map, Some, refl, sym, ap, ◌∙◌, subst, arith}
use Rattle.wt_env.specs.Among.{Among}
use Rattle.wt_model.specs.Registered.{RegisteredGroup, GroupHolds, Registry}
use Rattle.wt_model.specs.Indices.{number_of}
use Rattle.wt_model.specs.Holds.{held_at, waiting, change, gained, times, hold_each}
use Rattle.wt_model.specs.Plan.{Plan}
use Rattle.wt_model.specs.Registration.{carried_out}
use Rattle.wt_model.specs.Changes.{HoldChanges}
use Rattle.wt_model.proofs.plan.StopWaiting.{still-stop_waiting_each}
use Rattle.wt_model.proofs.plan.CarriedOut.{CanCarryOut, middle, middle_sized, middle_stands, middle_held, still_waiting}
use Rattle.wt_model.proofs.holds.HeldEach.{places-held}
use Rattle.wt_model.proofs.holds.HoldChanges.{held_at-one_more}
use Rattle.wt_model.proofs.holds.Looked.{numbers-change}
use Rattle.wt_model.proofs.holds.Rooted.{waiting-stands, stands-waiting}
use Rattle.wt_model.proofs.holds.Standings.{held_at-gained-other}
use Rattle.wt_model.proofs.indices.Located.{located-pushed}

-- as many more as the group stands in the list
pub held_at-each : (party : ℕ) (numbers : List ℕ) (standings : List GroupHolds) (n : ℕ)
    → ((number : ℕ) → Among number numbers → Among number (map (λ s. s.number) standings)) → ((s : GroupHolds) → Among s standings → party < length s.holds)
    → held_at (hold_each party numbers standings) party n ≡ held_at standings party n + times n numbers
held_at-each party [] standings n stands places = omega arith
held_at-each party (number ∷ numbers) standings n stands places =
    let next = change number (gained party) standings in
    let rest = held_at-each party numbers next n
    (λ k at. subst (Among k) (sym (numbers-change number (gained party) standings (λ s. refl))) (stands k (inr at)))
    (places-held party number party standings places) in
    let one = held_at-one_more standings party number n (stands number (inl refl)) places in
    by (number == n) (held_at (hold_each party numbers next) party n) (held_at next party n) (held_at standings party n) (times n numbers) rest one
  where
    by : (b : Bool) (after between before more : ℕ) → after ≡ between + more → between ≡ before + cond b 1 0 → after ≡ before + cond b (more + 1) more
    by true after between before more rest one = omega (arith, rest, one)
    by false after between before more rest one = omega (arith, rest, one)

-- the holds of other parties stay as they are
pub held_at-each-other : (party : ℕ) (numbers : List ℕ) (standings : List GroupHolds) (p n : ℕ) → p ≢ party → held_at (hold_each party numbers standings) p n ≡ held_at standings p n
held_at-each-other party [] standings p n other = refl
held_at-each-other party (number ∷ numbers) standings p n other =
    held_at-each-other party numbers (change number (gained party) standings) p n other ∙ held_at-gained-other standings party number p n (inl other)

pub carried-changes : (registry : Registry) (party : ℕ) (plan : Plan) → plan.registered ≡ registry.made
    → CanCarryOut registry.engine plan.registered plan.added registry.standings party plan.numbers
    → HoldChanges registry (carried_out registry party plan) party plan.numbers
carried-changes registry party plan same can = record {
  engine = refl;
  registered = can.only;
  made = (plan.added, ap (λ (made : List RegisteredGroup). made ++ plan.added) same, can.every);
  more = λ n. held_at-each party plan.numbers between n stands places ∙ ap (λ held. held + times n plan.numbers) (kept party n);
  others = λ p n other. held_at-each-other party plan.numbers between p n other ∙ kept p n;
  located = λ i n is. located-pushed plan.registered plan.added i n (subst (λ (made : List RegisteredGroup). number_of made i ≡ Some n) (sym same) is);
  waiting = λ n at. waited n (waiting-stands (hold_each party plan.numbers between) n at);
}
  where
    between : List GroupHolds
    between = middle registry.engine plan.registered plan.added registry.standings party plan.numbers can

    kept : (p n : ℕ) → held_at between p n ≡ held_at registry.standings p n
    kept = middle_held registry.engine plan.registered plan.added registry.standings party plan.numbers can

    stands : (number : ℕ) → Among number plan.numbers → Among number (map (λ s. s.number) between)
    stands = middle_stands registry.engine plan.registered plan.added registry.standings party plan.numbers can

    places : (s : GroupHolds) → Among s between → party < length s.holds
    places s at =
        let long = (middle_sized registry.engine plan.registered plan.added registry.standings party plan.numbers can s at).parties in
        let within = can.within in
        omega (arith, long, within)

    waited : (n : ℕ) → (s : GroupHolds) × Among s (hold_each party plan.numbers between) × (s.waits ≡ true) × (n ≡ s.number) → Among n (waiting registry.standings)
    waited n own =
        let s = own.0 in
        let there = still_waiting registry.engine plan.registered plan.added registry.standings party plan.numbers can s own.1 own.2 in
        subst (λ k. Among k (waiting registry.standings)) (sym own.3)
        (stands-waiting registry.standings s (still-stop_waiting_each plan.added registry.standings s there own.2) own.2)
