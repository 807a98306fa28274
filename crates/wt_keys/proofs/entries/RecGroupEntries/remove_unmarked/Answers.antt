-- what is told of the marked stays
use Rattle.std.proofs.Common.{nat_eq, List, sym, subst}
use Rattle.std.specs.HashMap.{get}
use Rattle.wt_env.specs.Among.{Among}
use Rattle.wt_env.specs.Equality.{rec_group_eq}
use Rattle.wt_keys.specs.declared.entry.RecGroupEntry.{RecGroupEntry}
use Rattle.wt_keys.specs.Filed.{AreApart, IsFiled}
use Rattle.wt_keys.specs.Marks.{marked_items}
use Rattle.wt_keys.proofs.Stored.{apart-marked, marked-among}
use Rattle.wt_keys.proofs.entries.RecGroupEntries.remove_unmarked.Goals as goal

pub invariant_of-self : goal.invariant_of-self
invariant_of-self c =
    let entries = c.self.inside.entries.items in
    let marks = c.args.marks.now in
    let After = λ (e : RecGroupEntry). IsFiled (get rec_group_eq c.unfile_unmarked.new.files.by_key) (get nat_eq c.unfile_unmarked.new.files.by_index) e in
    subst (λ (items : List RecGroupEntry). AreApart items × ((e : RecGroupEntry) → Among e items → After e)) (sym c.remove_unmarked.ensures) (
      apart-marked marks entries c.self.invariant.0,
      λ e at. c.unfile_unmarked.ensures e (subst (λ (items : List RecGroupEntry). Among e (marked_items marks items)) (sym c.as_slice.ensures.value) at) (c.self.invariant.1 e (marked-among marks entries e at)),
    )
