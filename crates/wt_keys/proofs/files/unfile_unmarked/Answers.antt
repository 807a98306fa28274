-- an entry that isn't marked has another number than those that are, and agrees with them
use Rattle.std.proofs.Common.{length, refl, ap, ◌∙◌}
use Rattle.std.proofs.lemmas.Option.{slice_get_read}
use Rattle.wt_env.proofs.lists.Members.{get_among}
use Rattle.wt_keys.specs.declared.entry.RecGroupEntry.{RecGroupEntry}
use Rattle.wt_keys.proofs.Stored.{marked-among, unmarked-other}
use Rattle.wt_keys.proofs.files.unfile_unmarked.Goals as goal

pub loop-place-preserved : goal.loop-place-preserved
loop-place-preserved c = λ e at filed.
    let entries = c.args.entries.now in
    let marks = c.args.marks.now in
    let k = c.loop-place.place in
    let entry = c.index-entries-place.result in
    let here = get_among entries k entry (slice_get_read entries (length entries) k entry refl c.loop-place-test.true c.index-entries-place.is) in
    let there = marked-among marks entries e at in
    c.unfile_unless.ensures e
    (λ off. (
      c.requires.apart.agree e entry there here,
      λ same. unmarked-other 0 marks entries k entry e c.requires.apart.rising c.requires.marks c.loop-place-test.true off at (same ∙ ap (λ (x : RecGroupEntry). x.number) c.index-entries-place.is),
    ))
    (c.loop-place.invariant e at filed)
