-- What stands in a list of commands.
use Rattle.std.proofs.Common.{◌≡◌, ℕ, zero, suc, ◌<◌, inl, inr, List, [], ◌∷◌, length, get_or, arith}
use Rattle.wt_env.specs.Among.{Among}
use Rattle.wt_commands.specs.declared.command.Command.{Command}

pub among_one : {A : Type 0} (x y : A) → Among x (y ∷ []) → x ≡ y
among_one x y (inl same) = same
among_one x y (inr none) = absurd none

-- a command that is read is one of the list
pub among_read : (commands : List Command) (n : ℕ) (command : Command) → n < length commands → command ≡ get_or commands n command → Among command commands
among_read [] n command below is = absurd (omega arith)
among_read (first ∷ commands) zero command below is = inl is
among_read (first ∷ commands) (suc n) command below is = inr (among_read commands n command (omega arith) is)
