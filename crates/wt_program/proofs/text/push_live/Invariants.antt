use Rattle.std.proofs.Common.{◌≡◌, ◌++◌, string_bytes, take}
use Rattle.std.specs.List.{flat_map}
use Rattle.wt_program.specs.Text.{group_text}
use Rattle.wt_program.proofs.text.push_live.Given as goal

abbrev pub invariant-loop-group : goal.invariant-loop-group
invariant-loop-group l = string_bytes l.text ≡ string_bytes l.initial.text ++ flat_map group_text (take l.group-index l.groups)
