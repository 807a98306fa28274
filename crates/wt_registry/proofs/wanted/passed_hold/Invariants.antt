-- none so far passes, so those from here on decide
use Rattle.std.proofs.Common.{◌≡◌, drop}
use Rattle.wt_model.specs.Limits.{first_full, holds_wanted}
use Rattle.wt_holds.specs.Counts.{standings_of}
use Rattle.wt_registry.proofs.wanted.passed_hold.Given as goal

abbrev pub invariant-loop-number : goal.invariant-loop-number
invariant-loop-number l =
    first_full (holds_wanted l.fn.limits (standings_of l.counts) l.party l.numbers l.numbers)
    ≡ first_full (holds_wanted l.fn.limits (standings_of l.counts) l.party l.numbers (drop l.number-index l.numbers))
