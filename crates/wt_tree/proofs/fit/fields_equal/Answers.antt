-- the fields at a place
use Rattle.std.proofs.Common.{ℕ, ◌<◌, false, subst}
use Rattle.wt_env.specs.declared.types.WasmStorageType.TheVariants as storage
use Rattle.wt_tree.specs.Kinds.{kinded_field}
use Rattle.wt_tree.proofs.KnownParts.{known-at}
use Rattle.wt_tree.proofs.fit.fields_equal.Goals as goal

pub fit_field-requires-clause-a : goal.fit_field-requires-clause-a
fit_field-requires-clause-a g c = known-at (g.S.Supers.types c.args.supers.now) kinded_field c.args.a.now c.loop-place.place (record { element_type = storage.I8; mutable = false }) c.requires.a c.loop-place-test.true

pub fit_field-requires-clause-b : goal.fit_field-requires-clause-b
fit_field-requires-clause-b g c = known-at (g.S.Supers.types c.args.supers.now) kinded_field c.args.b.now c.loop-place.place (record { element_type = storage.I8; mutable = false }) c.requires.b (subst (λ (n : ℕ). c.loop-place.place < n) c.if-a-b.false c.loop-place-test.true)

pub fit_field-requires-then-fit_field-clause-a : goal.fit_field-requires-then-fit_field-clause-a
fit_field-requires-then-fit_field-clause-a g c = known-at (g.S.Supers.types c.args.supers.now) kinded_field c.args.b.now c.loop-place.place (record { element_type = storage.I8; mutable = false }) c.requires.b (subst (λ (n : ℕ). c.loop-place.place < n) c.if-a-b.false c.loop-place-test.true)

pub fit_field-requires-then-fit_field-clause-b : goal.fit_field-requires-then-fit_field-clause-b
fit_field-requires-then-fit_field-clause-b g c = known-at (g.S.Supers.types c.args.supers.now) kinded_field c.args.a.now c.loop-place.place (record { element_type = storage.I8; mutable = false }) c.requires.a c.loop-place-test.true
