-- the counts so far are those of the entries before
use Rattle.std.proofs.Common.{◌≡◌, map, take, vec_len}
use Rattle.wt_env.specs.Among.{Among}
use Rattle.wt_env.specs.Limits.{EngineParts}
use Rattle.wt_holds.specs.declared.hold_counts.HoldCounts.{HoldCounts}
use Rattle.wt_registry.specs.LeadsTo.{IsFresh}
use Rattle.wt_model.specs.Registration.{new_holds}
use Rattle.wt_keys.specs.Entries.{made_by}
use Rattle.wt_holds.specs.Counts.{standings_of}
use Rattle.wt_registry.proofs.enter.new_counts.Given as goal

abbrev pub invariant-loop-entry : goal.invariant-loop-entry
invariant-loop-entry l = record {
  counts : (engine : EngineParts) → engine.limits.parties ≡ l.parties
      → standings_of l.counts.items ≡ map (new_holds engine) (made_by (take l.entry-index l.added));
  fresh : (count : HoldCounts) → Among count l.counts.items → IsFresh count;
  len : vec_len l.counts ≡ l.entry-index;
}
