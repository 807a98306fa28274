-- the entries so far are told, and what is told of others that agree stays
use Rattle.std.proofs.Common.{take, nat_eq}
use Rattle.std.specs.HashMap.{get}
use Rattle.wt_env.specs.Among.{Among}
use Rattle.wt_env.specs.Equality.{rec_group_eq}
use Rattle.wt_keys.specs.declared.entry.RecGroupEntry.{RecGroupEntry}
use Rattle.wt_keys.specs.Filed.{Agree, IsFiled, AreFiled}
use Rattle.wt_keys.proofs.files.file_each.Given as goal

abbrev pub invariant-loop-entry : goal.invariant-loop-entry
invariant-loop-entry l = record {
  kept : (e : RecGroupEntry) → ((x : RecGroupEntry) → Among x l.entries → Agree e x) → IsFiled (get rec_group_eq l.initial.files.by_key) (get nat_eq l.initial.files.by_index) e
      → IsFiled (get rec_group_eq l.files.by_key) (get nat_eq l.files.by_index) e;
  told : AreFiled (get rec_group_eq l.files.by_key) (get nat_eq l.files.by_index) (take l.entry-index l.entries);
}
