-- none so far breaks a rule on the order of types
use Rattle.std.proofs.Common.{◌≡◌, ◌+◌, drop, length}
use Rattle.wt_rules.specs.Rules.{broken_order, first_of, first_disorder}
use Rattle.wt_rules.proofs.rules.first_disorder.Given as goal

abbrev pub invariant-loop-place : goal.invariant-loop-place
invariant-loop-place l =
    first_of (λ place. broken_order (l.start + length l.members) (l.start + place)) l.place (drop l.place l.members)
    ≡ first_disorder l.start l.members
