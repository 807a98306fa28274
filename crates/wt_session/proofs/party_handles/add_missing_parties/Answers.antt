-- one row more changes nothing
use Rattle.std.proofs.Common.{◌∷◌, ◌++◌, [], ap, length, ◌∙◌, arith}
use Rattle.std.proofs.lemmas.List.{length-append}
use Rattle.wt_session.specs.declared.party_handles.PartyHandles.{PartyHandles}
use Rattle.wt_session.proofs.Padding.{padded-pushed}
use Rattle.wt_session.proofs.party_handles.add_missing_parties.Goals as goal

pub loop-alloc-preserved : goal.loop-alloc-preserved
loop-alloc-preserved c =
    let row : PartyHandles = record { handles = c.new.result } in
    let before = c.loop-alloc.rows.items in
    let pushed = c.push_reserved.ensures.items ∙ ap (λ rows. rows ++ row ∷ []) c.in_ok-reserve.ensures.items in
    let long = ap length pushed ∙ length-append before (row ∷ []) in
    record {
      grown = omega (arith, long, c.loop-alloc.invariant.grown);
      within = λ parties below old. omega (arith, long, c.loop-alloc-test.true, c.len.ensures, below);
      same = λ parties below old. padded-pushed parties before c.push_reserved.new.self.items row pushed c.new.ensures.items (omega (arith, c.loop-alloc-test.true, c.len.ensures, below)) ∙ c.loop-alloc.invariant.same parties below old;
    }

pub returns-in_err-reserve-clause-takes_no_memory : goal.returns-in_err-reserve-clause-takes_no_memory
returns-in_err-reserve-clause-takes_no_memory c = λ there.
    absurd (omega (arith, there, c.loop-alloc.invariant.grown, c.loop-alloc-test.true, c.len.ensures))
