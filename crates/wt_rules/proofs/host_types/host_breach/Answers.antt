-- what it names has closed trees
use Rattle.wt_rules.proofs.KnownHosts.{host-parts}
use Rattle.wt_rules.proofs.host_types.host_breach.Goals as goal

pub supertype_breach-requires : goal.supertype_breach-requires
supertype_breach-requires g c = (host-parts (g.T.Supers.types c.args.types.now) c.args.ty.now c.requires).known
