-- what is told of the entries that are marked stays
use Rattle.std.proofs.Common.{nat_eq}
use Rattle.std.specs.HashMap.{get}
use Rattle.wt_env.specs.Among.{Among}
use Rattle.wt_env.specs.Equality.{rec_group_eq}
use Rattle.wt_keys.specs.declared.entry.RecGroupEntry.{RecGroupEntry}
use Rattle.wt_keys.specs.Filed.{IsFiled}
use Rattle.wt_keys.specs.Marks.{marked_items}
use Rattle.wt_keys.proofs.files.unfile_unmarked.Given as goal

abbrev pub invariant-loop-place : goal.invariant-loop-place
invariant-loop-place l = (e : RecGroupEntry) → Among e (marked_items l.marks l.entries) → IsFiled (get rec_group_eq l.initial.files.by_key) (get nat_eq l.initial.files.by_index) e
    → IsFiled (get rec_group_eq l.files.by_key) (get nat_eq l.files.by_index) e
