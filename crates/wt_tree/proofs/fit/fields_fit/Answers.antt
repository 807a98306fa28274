-- the fields at a place
use Rattle.std.proofs.Common.{◌<◌, false, length, sym, arith}
use Rattle.wt_env.specs.declared.types.WasmStorageType.TheVariants as storage
use Rattle.wt_tree.specs.Kinds.{kinded_field}
use Rattle.wt_tree.specs.Fit.{named_by}
use Rattle.wt_tree.proofs.FitOrder.{fields_fit-short}
use Rattle.wt_tree.proofs.KnownParts.{known-at}
use Rattle.wt_tree.proofs.fit.fields_fit.Goals as goal

pub returns-then-a-b : goal.returns-then-a-b
returns-then-a-b g c = sym (fields_fit-short (named_by (g.S.Supers.types c.args.supers.now)) (named_by (g.S.Supers.types c.args.supers.now)) c.args.a.now c.args.b.now c.if-a-b.true)

pub fit_field-requires-clause-a : goal.fit_field-requires-clause-a
fit_field-requires-clause-a g c =
    let within : c.loop-place.place < length c.args.a.now = omega (arith, c.loop-place-test.true, c.if-a-b.false) in
    known-at (g.S.Supers.types c.args.supers.now) kinded_field c.args.a.now c.loop-place.place (record { element_type = storage.I8; mutable = false }) c.requires.a within

pub fit_field-requires-clause-b : goal.fit_field-requires-clause-b
fit_field-requires-clause-b g c = known-at (g.S.Supers.types c.args.supers.now) kinded_field c.args.b.now c.loop-place.place (record { element_type = storage.I8; mutable = false }) c.requires.b c.loop-place-test.true
