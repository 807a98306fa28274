-- what the two value types name has closed trees
use Rattle.std.proofs.Common.{sym, subst}
use Rattle.wt_env.specs.declared.types.WasmValType.{WasmValType}
use Rattle.wt_tree.specs.Fit.{AreKnown}
use Rattle.wt_tree.specs.Kinds.{kinded_val, indices_of}
use Rattle.wt_model.specs.Indices.{closed_tree}
use Rattle.wt_session.specs.HostTypes.{type_named, names_in_val}
use Rattle.wt_session.proofs.HostTypes.{val-known}
use Rattle.wt_session.proofs.MissingNames.{none-missing}
use Rattle.wt_session.proofs.named_types.vals_match.Goals as goal

pub fit_val-requires-clause-a : goal.fit_val-requires-clause-a
fit_val-requires-clause-a c =
    let registry = c.args.registry.now in
    let none = none-missing (type_named registry.made c.args.row.now) (names_in_val c.args.a) (names_in_val c.args.b) c.requires in
    subst (λ (v : WasmValType). AreKnown (closed_tree registry.made) (indices_of (kinded_val v))) (sym c.val_type-first.ensures)
    (val-known registry c.args.row.now c.tell_invariant.ensures.sound c.args.a none.0)

pub fit_val-requires-clause-b : goal.fit_val-requires-clause-b
fit_val-requires-clause-b c =
    let registry = c.args.registry.now in
    let none = none-missing (type_named registry.made c.args.row.now) (names_in_val c.args.a) (names_in_val c.args.b) c.requires in
    subst (λ (v : WasmValType). AreKnown (closed_tree registry.made) (indices_of (kinded_val v))) (sym c.val_type-second.ensures)
    (val-known registry c.args.row.now c.tell_invariant.ensures.sound c.args.b none.1)
