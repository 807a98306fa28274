use Rattle.std.proofs.Common.{sym, arith}
use Rattle.wt_decode.specs.DecodeGroups.{func_from}
use Rattle.wt_decode.proofs.Items.{two_of-not_two}
use Rattle.wt_decode.proofs.decode_groups.decode_func.Goals as goal

pub returns-then-len-ne2 : goal.returns-then-len-ne2
returns-then-len-ne2 c = rw (← c.in-Some.ensures) (sym (two_of-not_two func_from c.in-Some.list.now.items (omega arith)))
