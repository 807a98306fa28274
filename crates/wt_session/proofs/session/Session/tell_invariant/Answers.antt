-- what is kept true of the fields, said of the session
use Rattle.std.proofs.Common.{subst}
use Rattle.wt_session.specs.Session.{rows_of}
use Rattle.wt_session.specs.World.{HasExactlyReached, HoldsNamedTypes}
use Rattle.wt_session.proofs.NamedTypes.{named-held}
use Rattle.wt_session.proofs.Reached.{reached}
use Rattle.wt_session.proofs.session.Session.tell_invariant.Goals as goal

pub returns-clause-reached : goal.returns-clause-reached
returns-clause-reached c =
    subst HasExactlyReached c.self.view_is (reached c.self.inside.registry c.self.inside.counts (rows_of c.self.inside.rows.items) c.self.invariant)

pub returns-clause-named_types : goal.returns-clause-named_types
returns-clause-named_types c =
    subst HoldsNamedTypes c.self.view_is (named-held c.self.inside.registry c.self.inside.counts (rows_of c.self.inside.rows.items) c.self.invariant)
