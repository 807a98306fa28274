-- one row more each time, and each without handles
use Rattle.std.proofs.Common.{◌≡◌, ◌<◌, ◌≤◌, ℕ, length, vec_len, ◌+◌, ◌-◌}
use Rattle.wt_session.specs.Session.{rows_of, padded}
use Rattle.wt_session.proofs.party_handles.add_missing_parties.Given as goal

abbrev pub invariant-loop-alloc : goal.invariant-loop-alloc
invariant-loop-alloc l = record {
  grown : length l.fn.rows.items ≤ length l.rows.items;
  within : (parties : ℕ) → l.party < parties → length l.fn.rows.items ≤ parties → length l.rows.items ≤ parties;
  same : (parties : ℕ) → l.party < parties → length l.fn.rows.items ≤ parties → padded parties (rows_of l.rows.items) ≡ padded parties (rows_of l.fn.rows.items);
}

abbrev pub decreases-loop-alloc : goal.decreases-loop-alloc
decreases-loop-alloc l = (l.party + 1) - vec_len l.rows
