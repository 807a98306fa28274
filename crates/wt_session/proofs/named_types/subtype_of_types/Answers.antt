-- a type that a party names by its handles is registered
use Rattle.std.proofs.Common.{sym}
use Rattle.wt_session.proofs.NamedTypes.{named-located}
use Rattle.wt_session.proofs.named_types.subtype_of_types.Goals as goal

pub is_subtype-requires-clause-sub : goal.is_subtype-requires-clause-sub
is_subtype-requires-clause-sub c =
    named-located c.args.registry.now c.args.party.now c.args.row.now c.args.sub c.in-Some.lower c.requires.handles (sym c.in-Some.ensures)

pub is_subtype-requires-clause-sup : goal.is_subtype-requires-clause-sup
is_subtype-requires-clause-sup c =
    named-located c.args.registry.now c.args.party.now c.args.row.now c.args.sup c.in-Some-index_of_type.upper c.requires.handles (sym c.in-Some-index_of_type.ensures)
