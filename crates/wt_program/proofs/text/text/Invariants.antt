use Rattle.std.proofs.Common.{◌≡◌, string_bytes, take}
use Rattle.wt_program.specs.Text.{text_of}
use Rattle.wt_program.proofs.text.text.Given as goal

abbrev pub invariant-loop-reply : goal.invariant-loop-reply
invariant-loop-reply l = string_bytes l.text ≡ text_of (take l.reply-index l.replies)
