-- the entry that was found shows the type at the index's place
use Rattle.std.proofs.Common.{◌++◌, ap, sym, ◌∙◌}
use Rattle.wt_keys.specs.Keys.{shown_in}
use Rattle.wt_keys.proofs.Borrowed.{shown-found}
use Rattle.wt_keys.proofs.search.borrow_joined.Goals as goal

pub returns-in-Some : goal.returns-in-Some
returns-in-Some c =
    c.shown_in.ensures
    ∙ ap (shown_in c.args.index) c.in-Some.ensures
    ∙ sym (shown-found (c.args.entries.now ++ c.args.added.now) c.requires.keys.0 c.requires.keys.1 c.requires.shown c.args.index)

pub returns-in-None : goal.returns-in-None
returns-in-None c =
    ap (shown_in c.args.index) c.in-None.ensures
    ∙ sym (shown-found (c.args.entries.now ++ c.args.added.now) c.requires.keys.0 c.requires.keys.1 c.requires.shown c.args.index)
