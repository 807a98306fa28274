-- what stands at a place
use Rattle.std.proofs.Common.{ℕ, ◌<◌, false, subst}
use Rattle.wt_env.specs.declared.types.WasmValType.TheVariants as val
use Rattle.wt_env.specs.declared.types.WasmStorageType.TheVariants as storage
use Rattle.wt_tree.specs.Kinds.{kinded_val, kinded_field}
use Rattle.wt_tree.proofs.KnownParts.{known-at}
use Rattle.wt_rules.proofs.type_rules.are_params.Goals as goal

pub is_param-requires-clause-field : goal.is_param-requires-clause-field
is_param-requires-clause-field g c = known-at (g.T.Supers.types c.args.types.now) kinded_field c.args.fields.now c.loop-place.place (record { element_type = storage.I8; mutable = false }) c.requires.fields c.loop-place-test.true

pub is_param-requires-clause-param : goal.is_param-requires-clause-param
is_param-requires-clause-param g c = known-at (g.T.Supers.types c.args.types.now) kinded_val c.args.params.now c.loop-place.place val.I32 c.requires.params (subst (λ (n : ℕ). c.loop-place.place < n) c.if-fields-params.false c.loop-place-test.true)
