-- A checked sum that came out is the sum.
use Rattle.std.proofs.Common.{◌≡◌, ℕ, Option, Some, None, SomeIff, sym, ◌∙◌}
use Rattle.wt_env.proofs.lists.Members.{some_same}

pub checked_value : (found : Option ℕ) (fits : Type 0) (value x : ℕ) → SomeIff found fits value → found ≡ Some x → x ≡ value
checked_value (Some y) fits value x checked is = sym (some_same is) ∙ checked.1
checked_value None fits value x checked is = absurd (cc)
