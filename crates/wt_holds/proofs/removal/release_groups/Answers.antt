-- the holds end in turn, and then what isn't reached is gone
use Rattle.std.proofs.Common.{List, sym, ap, subst, ◌∙◌}
use Rattle.wt_model.specs.Registered.{GroupHolds}
use Rattle.wt_model.specs.Removal.{reached_part}
use Rattle.wt_model.specs.Sound.{HoldsInvariant}
use Rattle.wt_holds.specs.Counts.{standings_of}
use Rattle.wt_keys.specs.Entries.{made_by}
use Rattle.wt_holds.specs.Kept.{registry_at}
use Rattle.wt_holds.proofs.GivenBack.{keys-separate}
use Rattle.wt_holds.proofs.Counted.{counted, has_place}
use Rattle.wt_holds.proofs.PartKept.{counted_as, part-keeps}
use Rattle.wt_holds.proofs.Ready.{ready, at-rest}
use Rattle.wt_model.proofs.removal.Removing.{release-stands}
use Rattle.wt_holds.proofs.removal.release_groups.Goals as goal

pub lose_each-requires-clause-parties : goal.lose_each-requires-clause-parties
lose_each-requires-clause-parties c =
    let groups = c.args.groups.now in
    has_place c.args.engine.now groups.counts.items c.args.party (counted c.args.engine.now (made_by groups.entries) (standings_of groups.counts.items) c.requires.kept.holds) c.requires.party

pub lose_each-requires-clause-falling : goal.lose_each-requires-clause-falling
lose_each-requires-clause-falling c =
    let groups = c.args.groups.now in
    (made_by groups.entries, at-rest groups (ready c.args.engine.now groups c.requires.kept))

pub remove_pushed-requires-clause-removing : goal.remove_pushed-requires-clause-removing
remove_pushed-requires-clause-removing c =
    let groups = c.args.groups.now in
    let before = ready c.args.engine.now groups c.requires.kept in
    record { rising = before.rising; names_older = before.names_older; falling = c.lose_each.ensures.falls (made_by groups.entries) (at-rest groups before) }

pub returns-clause-released : goal.returns-clause-released
returns-clause-released c =
    let engine = c.args.engine.now in
    ap (λ (standings : List GroupHolds). reached_part (counted_as engine c.args.groups.now standings)) (sym c.lose_each.ensures.standings) ∙ c.remove_pushed.ensures.part engine

pub returns-clause-kept : goal.returns-clause-kept
returns-clause-kept c =
    let engine = c.args.engine.now in
    let groups = c.args.groups.now in
    let stands = subst
    (λ (standings : List GroupHolds). HoldsInvariant engine (reached_part (counted_as engine groups standings)).made (reached_part (counted_as engine groups standings)).standings)
    (sym c.lose_each.ensures.standings)
    (release-stands (registry_at engine groups) c.args.party c.args.numbers.now c.requires.kept.holds) in
    part-keeps engine groups c.remove_pushed.new.groups (standings_of c.lose_each.new.counts.items) c.requires.kept (c.remove_pushed.ensures.part engine)
    c.remove_pushed.ensures.entries c.remove_pushed.ensures.removing c.remove_pushed.ensures.stack stands

pub remove_pushed-requires-clause-separate : goal.remove_pushed-requires-clause-separate
remove_pushed-requires-clause-separate c = keys-separate c.args.groups.now.entries c.args.groups.now.given.numbers c.requires.kept.keys
