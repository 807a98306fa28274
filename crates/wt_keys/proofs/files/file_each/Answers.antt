-- one more entry is told, and what is told of others that agree stays
use Rattle.std.proofs.Common.{◌≡◌, nat_eq, length, get_or, refl, sym, subst, ◌∙◌, arith}
use Rattle.std.proofs.lemmas.List.{take_all}
use Rattle.std.proofs.lemmas.Option.{slice_get_read}
use Rattle.std.specs.HashMap.{get}
use Rattle.wt_env.specs.Among.{Among}
use Rattle.wt_env.specs.Equality.{rec_group_eq}
use Rattle.wt_env.proofs.lists.Members.{get_among}
use Rattle.wt_keys.specs.declared.entry.RecGroupEntry.{RecGroupEntry}
use Rattle.wt_keys.specs.Filed.{IsFiled}
use Rattle.wt_keys.proofs.Filing.{taken_or, taken-among, either}
use Rattle.wt_keys.proofs.files.file_each.Goals as goal

pub returns-in_err-file-clause-kept : goal.returns-in_err-file-clause-kept
returns-in_err-file-clause-kept c = λ e agree filed.
    let entries = c.args.entries.now in
    let k = c.loop-entry.entry-index in
    let entry = c.entry-item.result in
    let here = get_among entries k entry (slice_get_read entries (length entries) k entry refl c.loop-entry-test.true c.entry-item.is) in
    c.file.ensures.kept e (agree entry here) (c.loop-entry.invariant.kept e agree filed)

pub loop-entry-preserved : goal.loop-entry-preserved
loop-entry-preserved c =
    let entries = c.args.entries.now in
    let k = c.loop-entry.entry-index in
    let entry = c.entry-item.result in
    let here : Among entry entries = get_among entries k entry (slice_get_read entries (length entries) k entry refl c.loop-entry-test.true c.entry-item.is) in
    let Told = λ (e : RecGroupEntry). IsFiled (get rec_group_eq c.file.new.files.by_key) (get nat_eq c.file.new.files.by_index) e in record {
      kept = λ e agree filed. c.file.ensures.kept e (agree entry here) (c.loop-entry.invariant.kept e agree filed);
      told = λ e at.
          either
          (λ before. c.file.ensures.kept e (c.requires e entry (taken-among k entries e before) here) (c.loop-entry.invariant.told e before))
          (λ (same : e ≡ get_or entries k entry). subst Told (sym (same ∙ sym c.entry-item.is)) c.in_ok-file.ensures.told)
          (taken_or entries k entry e c.loop-entry-test.true at);
    }

pub returns-clause-told : goal.returns-clause-told
returns-clause-told c = λ e at.
    c.loop-entry.invariant.told e (subst (Among e) (sym (take_all c.loop-entry.entry-index c.args.entries.now (omega (arith, c.loop-entry-test.false)))) at)
