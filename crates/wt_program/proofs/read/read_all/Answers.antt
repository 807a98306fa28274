use Rattle.std.proofs.Common.{◌++◌, length-append}
use Rattle.std.proofs.lemmas.Result.{err_from_is_err_and}
use Rattle.wt_program.proofs.Streams.{IsTaken-append, taken_past}
use Rattle.wt_program.proofs.read.read_all.Goals as goal

pub returns-in_err-read_piece-clause-too_long : goal.returns-in_err-read_piece-clause-too_long
returns-in_err-read_piece-clause-too_long g c = λ is_too_long.
    let returned = err_from_is_err_and c.from_residual.result c.from_residual.ensures.1 in
    let last = c.in_err-read_piece.ensures.taken in
    taken_past _ _ _ _ _ _ c.loop-bytes.invariant.taken last.1 (last.4 (cc (returned.1, returned.2, is_too_long)))

pub returns-in_err-read_piece-clause-any : goal.returns-in_err-read_piece-clause-any
returns-in_err-read_piece-clause-any g c =
    let returned = err_from_is_err_and c.from_residual.result c.from_residual.ensures.1 in
    let last = c.in_err-read_piece.ensures.taken in (
      c.loop-bytes.bytes.items ++ last.0,
      IsTaken-append _ _ _ _ _ c.loop-bytes.invariant.taken last.1,
      λ other. rw length-append (last.3 (λ same. other (cc (returned.1, returned.2, same)))),
    )
