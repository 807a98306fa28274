-- a command on the party's row is the session's step, and keeps what is kept
use Rattle.std.proofs.Common.{◌≤◌, ℕ, List, slice_set, sym, ap, subst, ◌∙◌, arith, length}
use Rattle.wt_session.specs.declared.party_handles.PartyHandles.{PartyHandles}
use Rattle.wt_session.specs.World.{World}
use Rattle.wt_session.specs.declared.handle.Handle.{Handle}
use Rattle.wt_session.specs.Run.{done_by}
use Rattle.wt_session.specs.Answered.{trees_asked, NamesTrees}
use Rattle.wt_session.specs.Session.{rows_of, world_of, AreHandles}
use Rattle.wt_session.proofs.OneCommand.{unheld-done, kept-grown, world-grown, grown-row, own-handles, kept-written, on-err, world-same, done-written}
use Rattle.wt_session.proofs.Padding.{length-rows}
use Rattle.wt_session.proofs.acting.run_command_of_party.Goals as goal

pub returns-in-Some-clause-ok : goal.returns-in-Some-clause-ok
returns-in-Some-clause-ok c =
    let registry = c.args.registry.now in
    let rows = c.args.rows.now.items in
    let past : length (rows_of rows) ≤ c.args.party = omega (arith, length-rows rows, c.len.ensures, c.if-len-party.true) in
    unheld-done registry c.args.counts.now (rows_of rows) c.args.party c.args.command.now c.in-Some.reply c.requires.by c.in-Some.ensures.told c.requires.below past c.requires.kept
    ∙ ap (λ counts. (c.in-Some.reply, world_of registry counts (rows_of rows))) (sym c.add_made.ensures)

pub returns-in_err-add_missing_parties-clause-kept : goal.returns-in_err-add_missing_parties-clause-kept
returns-in_err-add_missing_parties-clause-kept c =
    kept-grown c.args.registry.now c.args.rows.now.items c.add_missing_parties.new.rows.items c.args.party c.requires.below c.requires.kept c.add_missing_parties.ensures.within c.add_missing_parties.ensures.same

pub run_command-requires-clause-handles : goal.run_command-requires-clause-handles
run_command-requires-clause-handles c =
    let kept = kept-grown c.args.registry.now c.args.rows.now.items c.add_missing_parties.new.rows.items c.args.party c.requires.below c.requires.kept c.add_missing_parties.ensures.within c.add_missing_parties.ensures.same in
    subst (λ (p : ℕ). AreHandles c.args.registry.now p c.index_mut.result.now.handles.items) (sym c.new-number.ensures)
    (own-handles c.args.registry.now c.add_missing_parties.new.rows.items c.args.party c.index_mut.result.now kept c.in_ok-add_missing_parties.ensures.there c.index_mut.ensures.value)

pub returns-in_err-reply-clause-err : goal.returns-in_err-reply-clause-err
returns-in_err-reply-clause-err c =
    let registry = c.args.registry.now in
    let after : PartyHandles = record { handles = c.run_command.new.row } in
    on-err c.from_residual-in_err-reply.result
    (world-same registry c.run_command.new.registry c.args.counts.now c.add_missing_parties.new.rows.items c.args.party c.index_mut.result.now after c.in_ok-add_missing_parties.ensures.there c.index_mut.ensures.value c.in_err-reply.ensures.err
    ∙ sym (world-grown registry c.args.counts.now c.args.rows.now.items c.add_missing_parties.new.rows.items c.args.party c.requires.below c.requires.kept c.add_missing_parties.ensures.same))

pub returns-in_err-reply-clause-kept : goal.returns-in_err-reply-clause-kept
returns-in_err-reply-clause-kept c =
    let kept = kept-grown c.args.registry.now c.args.rows.now.items c.add_missing_parties.new.rows.items c.args.party c.requires.below c.requires.kept c.add_missing_parties.ensures.within c.add_missing_parties.ensures.same in
    kept-written c.args.registry.now c.run_command.new.registry c.add_missing_parties.new.rows.items c.args.party c.new-number.result c.index_mut.result.now (record { handles = c.run_command.new.row }) kept
    c.in_ok-add_missing_parties.ensures.there c.index_mut.ensures.value c.new-number.ensures c.run_command.ensures.keeps

pub returns-clause-ok : goal.returns-clause-ok
returns-clause-ok c =
    let registry = c.args.registry.now in
    let command = c.args.command.now in
    let after : PartyHandles = record { handles = c.run_command.new.row } in
    ap (λ (w : World). done_by w command) (world-grown registry c.args.counts.now c.args.rows.now.items c.add_missing_parties.new.rows.items c.args.party c.requires.below c.requires.kept c.add_missing_parties.ensures.same)
    ∙ done-written registry c.run_command.new.registry c.args.counts.now c.add_missing_parties.new.rows.items c.args.party c.index_mut.result.now after command c.in_ok-reply.reply c.in_ok-add_missing_parties.ensures.there c.index_mut.ensures.value c.requires.by c.run_command.ensures.keeps.spares.engine c.in_ok-reply.ensures.ok
    ∙ ap (λ counts. (c.in_ok-reply.reply, world_of c.run_command.new.registry counts (rows_of (slice_set c.add_missing_parties.new.rows.items c.args.party after)))) (sym c.add_made-2.ensures)

pub returns-clause-named : goal.returns-clause-named
returns-clause-named c =
    let row = grown-row c.args.registry.now c.args.rows.now.items c.add_missing_parties.new.rows.items c.args.party c.index_mut.result.now c.requires.below c.requires.kept c.add_missing_parties.ensures.same
    c.in_ok-add_missing_parties.ensures.there c.index_mut.ensures.value in
    subst (λ (own : List Handle). NamesTrees c.run_command.new.registry.made c.in_ok-reply.reply (trees_asked c.args.registry.now own c.args.command.now)) row c.in_ok-reply.ensures.named

pub returns-clause-kept : goal.returns-clause-kept
returns-clause-kept c =
    let kept = kept-grown c.args.registry.now c.args.rows.now.items c.add_missing_parties.new.rows.items c.args.party c.requires.below c.requires.kept c.add_missing_parties.ensures.within c.add_missing_parties.ensures.same in
    kept-written c.args.registry.now c.run_command.new.registry c.add_missing_parties.new.rows.items c.args.party c.new-number.result c.index_mut.result.now (record { handles = c.run_command.new.row }) kept
    c.in_ok-add_missing_parties.ensures.there c.index_mut.ensures.value c.new-number.ensures c.run_command.ensures.keeps
