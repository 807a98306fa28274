-- the value types so far are erased
use Rattle.std.proofs.Common.{◌≡◌, map, take}
use Rattle.wt_env.specs.Erasure.{erase_val}
use Rattle.wt_env.proofs.erasure.erase_all.Given as goal

abbrev pub invariant-loop-ty : goal.invariant-loop-ty
invariant-loop-ty l = l.erased ≡ map erase_val (take l.ty-index l.types)
