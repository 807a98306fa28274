-- nothing has to last but how many are left
use Rattle.std.proofs.Common.{vec_len}
use Rattle.wt_session.proofs.session.Session.close.Given as goal

abbrev pub invariant-loop-row : goal.invariant-loop-row
invariant-loop-row l = Unit {0}

abbrev pub decreases-loop-row : goal.decreases-loop-row
decreases-loop-row l = vec_len l.rows
