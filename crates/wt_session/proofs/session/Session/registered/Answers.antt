-- what is kept true of the fields, said of the session
use Rattle.std.proofs.Common.{subst}
use Rattle.wt_session.specs.Session.{rows_of}
use Rattle.wt_session.specs.World.{HasExactlyReached}
use Rattle.wt_session.proofs.Reached.{reached}
use Rattle.wt_session.proofs.session.Session.registered.Goals as goal

pub returns-clause-reached : goal.returns-clause-reached
returns-clause-reached c =
    subst HasExactlyReached c.self.view_is (reached c.self.inside.registry c.self.inside.counts (rows_of c.self.inside.rows.items) c.self.invariant)
