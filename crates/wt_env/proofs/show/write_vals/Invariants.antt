-- the value types so far are written
use Rattle.std.proofs.Common.{take}
use Rattle.std.specs.Fmt.{HasWritten, IsPlainFormatter}
use Rattle.wt_env.specs.Texts.{vals_text}
use Rattle.wt_env.proofs.show.write_vals.Given as goal

abbrev pub invariant-loop-ty : goal.invariant-loop-ty
invariant-loop-ty g l = IsPlainFormatter l.initial.f → HasWritten g.W.Write.write_str_gives l.initial.f (vals_text (take l.ty-index l.types)) l.f
