-- The number that a process ends with.
use Rattle.std.specs.Prelude.{ℕ}
use Rattle.wt_env.specs.declared.status.Status.{Status}
use Rattle.wt_env.specs.declared.status.Status.TheVariants.{Done, Usage, ReadFault, WriteFault, TooLong, NotJson, BadCommand, OutOfMemory}

abbrev pub code_of : Status → ℕ
code_of Done = 0
code_of Usage = 2
code_of ReadFault = 3
code_of WriteFault = 4
code_of TooLong = 5
code_of NotJson = 6
code_of (BadCommand place) = 7
code_of OutOfMemory = 8
