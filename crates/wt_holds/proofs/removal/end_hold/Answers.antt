-- the hold ends, and the counts tell whether the group is still reached
use Rattle.std.proofs.Common.{◌≡◌, List, Some, None, true, false, refl, sym, ap, ◌∙◌}
use Rattle.wt_holds.specs.declared.hold_counts.HoldCounts.{HoldCounts}
use Rattle.wt_model.specs.Holds.{change}
use Rattle.wt_model.specs.Removal.{now_waits}
use Rattle.wt_keys.specs.Entries.{made_by}
use Rattle.wt_holds.specs.Counts.{standings_of}
use Rattle.wt_holds.proofs.Counted.{counted, has_place}
use Rattle.wt_holds.proofs.Ending.{dropped-reached, dropped-waits, drop-keeps}
use Rattle.wt_holds.proofs.Ready.{ready}
use Rattle.wt_holds.proofs.counts.Falls.{is_free}
use Rattle.wt_holds.proofs.counts.Freed.{free-unreached, kept-reached}
use Rattle.wt_holds.proofs.removal.end_hold.Goals as goal

pub lose-requires-clause-parties : goal.lose-requires-clause-parties
lose-requires-clause-parties c =
    let groups = c.args.groups.now in
    has_place c.args.engine.now groups.counts.items c.args.party (counted c.args.engine.now (made_by groups.entries) (standings_of groups.counts.items) c.requires.kept.holds) c.requires.party

pub returns-then-not-is_loose-clause-dropped : goal.returns-then-not-is_loose-clause-dropped
returns-then-not-is_loose-clause-dropped c =
    let groups = c.args.groups.now in
    let after = record groups { counts = c.lose.new.counts } in
    let kept : is_free c.lose.new.counts.items c.args.number ≡ false =
    ap (λ (read : List HoldCounts). is_free read c.args.number) (sym c.as_slice.ensures.value) ∙ (sym c.is_loose.ensures ∙ c.if-not-is_loose.true) in
    let reached = kept-reached groups (ready c.args.engine.now groups c.requires.kept) c.args.party c.args.number c.lose.new.counts.items c.lose.ensures.standings c.lose.ensures.references kept in
    dropped-reached c.args.engine.now groups after c.args.party c.args.number reached refl refl c.lose.ensures.standings

pub returns-then-not-is_loose-clause-kept : goal.returns-then-not-is_loose-clause-kept
returns-then-not-is_loose-clause-kept c =
    let groups = c.args.groups.now in
    let after = record groups { counts = c.lose.new.counts } in
    drop-keeps c.args.engine.now groups after c.args.party c.args.number None c.requires.kept c.requires.held refl refl refl c.lose.ensures.references c.lose.ensures.totals
    (returns-then-not-is_loose-clause-dropped c)

pub returns-clause-dropped : goal.returns-clause-dropped
returns-clause-dropped c =
    let groups = c.args.groups.now in
    let after = record groups { counts = c.set_waits.new.counts } in
    let free : is_free c.lose.new.counts.items c.args.number ≡ true =
    ap (λ (read : List HoldCounts). is_free read c.args.number) (sym c.as_slice.ensures.value) ∙ (sym c.is_loose.ensures ∙ c.if-not-is_loose.false) in
    let unreached = free-unreached groups (ready c.args.engine.now groups c.requires.kept) c.args.party c.args.number c.lose.new.counts.items c.lose.ensures.standings c.lose.ensures.references free in
    dropped-waits c.args.engine.now groups after c.args.party c.args.number unreached refl refl (c.set_waits.ensures.standings ∙ ap (change c.args.number now_waits) c.lose.ensures.standings)

pub returns-clause-kept : goal.returns-clause-kept
returns-clause-kept c =
    let groups = c.args.groups.now in
    let after = record groups { counts = c.set_waits.new.counts } in
    drop-keeps c.args.engine.now groups after c.args.party c.args.number (Some c.args.number) c.requires.kept c.requires.held refl refl refl
    (λ n. c.set_waits.ensures.references n ∙ c.lose.ensures.references n) (c.set_waits.ensures.totals c.lose.ensures.totals)
    (returns-clause-dropped c)
