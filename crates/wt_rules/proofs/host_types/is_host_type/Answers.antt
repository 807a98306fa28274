-- what it names has closed trees
use Rattle.std.proofs.Common.{sym, ◌∙◌}
use Rattle.wt_rules.proofs.KnownHosts.{known-types}
use Rattle.wt_rules.proofs.host_types.is_host_type.Goals as goal

pub names_its_kinds-requires : goal.names_its_kinds-requires
names_its_kinds-requires g c = known-types (g.T.Supers.types c.args.types.now) c.args.ty.now (sym c.has_unknown.ensures ∙ c.if-has_unknown.false)
