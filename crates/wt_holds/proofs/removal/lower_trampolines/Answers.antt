-- the next one is lowered
use Rattle.std.proofs.Common.{ℕ, ◌+◌, ◌++◌, List, drop, vec_capacity, subst, ◌∙◌}
use Rattle.wt_holds.specs.Kept.{Falling}
use Rattle.wt_holds.proofs.counts.Told.{told_of, told-step}
use Rattle.wt_holds.proofs.removal.lower_trampolines.Goals as goal

pub lower_told-requires : goal.lower_told-requires
lower_told-requires c =
    let rest = c.requires.1 in
    let trampolines = c.args.trampolines.now in
    let k = c.loop-told.told-index in (
      c.requires.0,
      told_of (drop (k + 1) trampolines) ++ rest,
      subst (λ (pending : List ℕ). Falling c.requires.0 c.loop-told.counts.items c.loop-told.stack.items (vec_capacity c.loop-told.stack) pending) (told-step trampolines k rest c.loop-told-test.true)
          (c.loop-told.invariant.falls c.requires.0 rest c.requires.2),
    )

pub loop-told-preserved : goal.loop-told-preserved
loop-told-preserved c =
    let trampolines = c.args.trampolines.now in
    let k = c.loop-told.told-index in
    record {
      standings = c.lower_told.ensures.standings ∙ c.loop-told.invariant.standings;
      capacity = c.lower_told.ensures.capacity ∙ c.loop-told.invariant.capacity;
      falls = λ made rest is.
          c.lower_told.ensures.falls made (told_of (drop (k + 1) trampolines) ++ rest)
          (subst (λ (pending : List ℕ). Falling made c.loop-told.counts.items c.loop-told.stack.items (vec_capacity c.loop-told.stack) pending) (told-step trampolines k rest c.loop-told-test.true)
          (c.loop-told.invariant.falls made rest is));
    }
