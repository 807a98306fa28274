-- the values at a place
use Rattle.std.proofs.Common.{ℕ, ◌<◌, subst}
use Rattle.wt_env.specs.declared.types.WasmValType.TheVariants as val
use Rattle.wt_tree.specs.Kinds.{kinded_val}
use Rattle.wt_tree.proofs.KnownParts.{known-at}
use Rattle.wt_tree.proofs.fit.vals_fit.Goals as goal

pub fit_val-requires-clause-a : goal.fit_val-requires-clause-a
fit_val-requires-clause-a g c = known-at (g.S.Supers.types c.args.supers.now) kinded_val c.args.a.now c.loop-place.place val.I32 c.requires.a c.loop-place-test.true

pub fit_val-requires-clause-b : goal.fit_val-requires-clause-b
fit_val-requires-clause-b g c = known-at (g.S.Supers.types c.args.supers.now) kinded_val c.args.b.now c.loop-place.place val.I32 c.requires.b (subst (λ (n : ℕ). c.loop-place.place < n) c.if-a-b.false c.loop-place-test.true)
