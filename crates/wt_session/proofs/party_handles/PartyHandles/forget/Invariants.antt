-- nothing has to last but how many are left
use Rattle.std.proofs.Common.{vec_len}
use Rattle.wt_session.proofs.party_handles.PartyHandles.forget.Given as goal

abbrev pub invariant-loop-handle : goal.invariant-loop-handle
invariant-loop-handle l = Unit {0}

abbrev pub decreases-loop-handle : goal.decreases-loop-handle
decreases-loop-handle l = vec_len l.handles
