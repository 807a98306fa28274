-- the fields so far are written
use Rattle.std.proofs.Common.{take}
use Rattle.std.specs.Fmt.{HasWritten, IsPlainFormatter}
use Rattle.wt_env.specs.Texts.{fields_text}
use Rattle.wt_types.proofs.show.write_fields.Given as goal

abbrev pub invariant-loop-field : goal.invariant-loop-field
invariant-loop-field g l = IsPlainFormatter l.initial.f → HasWritten g.W.Write.write_str_gives l.initial.f (fields_text (take l.field-index l.fields)) l.f
