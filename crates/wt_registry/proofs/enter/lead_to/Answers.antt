-- it doesn't wait then, and has one reference more
use Rattle.std.proofs.Common.{ℕ, ◌+◌, ◌==◌, Bool, true, false, cond, ◌∷◌, [], map, inl, refl, sym, ap, subst, ◌≡◌, ◌∙◌, arith, eq-eqb}
use Rattle.wt_env.specs.Among.{Among}
use Rattle.wt_model.specs.Registered.{GroupHolds}
use Rattle.wt_model.specs.Holds.{times, no_longer}
use Rattle.wt_model.proofs.holds.Looked.{numbers-change}
use Rattle.wt_holds.specs.Counts.{standings_of, references_at}
use Rattle.wt_registry.proofs.enter.lead_to.Goals as goal

pub raise_reference-requires-clause-stands : goal.raise_reference-requires-clause-stands
raise_reference-requires-clause-stands c =
    subst (Among c.args.number) (sym (ap (map (λ (s : GroupHolds). s.number)) c.set_waits.ensures.standings ∙ numbers-change c.args.number no_longer (standings_of c.args.counts.now.items) (λ s. refl)))
    (c.requires.stand c.args.number (inl refl))

pub raise_reference-requires-clause-room : goal.raise_reference-requires-clause-room
raise_reference-requires-clause-room c =
    let room = c.requires.room c.args.number in
    let once : times c.args.number (c.args.number ∷ []) ≡ 1 = ap (λ b. cond b (0 + 1) 0) (eq-eqb c.args.number c.args.number refl) in
    let same = c.set_waits.ensures.references c.args.number in
    omega (arith, room, once, same)

pub returns : goal.returns
returns c = record {
  standings = c.raise_reference.ensures.standings ∙ c.set_waits.ensures.standings;
  references = λ n. c.raise_reference.ensures.references n ∙ by (c.args.number == n) (references_at c.set_waits.new.counts.items n) (references_at c.args.counts.now.items n) (c.set_waits.ensures.references n);
  more = λ n. c.raise_reference.ensures.more n ∙ c.set_waits.ensures.more n;
  totals = λ are. c.raise_reference.ensures.totals (c.set_waits.ensures.totals are);
}
  where
    by : (b : Bool) (now old : ℕ) → now ≡ old → cond b (now + 1) now ≡ old + cond b (0 + 1) 0
    by true now old same = omega (arith, same)
    by false now old same = omega (arith, same)
