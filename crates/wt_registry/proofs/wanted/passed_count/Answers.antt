-- the sums are what all of them want
use Rattle.std.proofs.Common.{ap, ◌∙◌, arith}
use Rattle.wt_model.specs.Limits.{first_full}
use Rattle.wt_registry.proofs.WantedLimits.{wanted_of-sums}
use Rattle.wt_registry.proofs.wanted.passed_count.Goals as goal

pub returns : goal.returns
returns c =
    c.first_above.ensures
    ∙ ap first_full (wanted_of-sums c.args.limits c.args.entries.now c.args.added.now c.in_ok-checked_sum.field-0 c.in_ok-checked_sum-2.field-0 c.in_ok-checked_sum-3.field-0 c.args.numbers
    c.in_ok-checked_sum.ensures
    (omega (arith, c.in_ok-checked_sum-2.ensures, c.in_ok-types_of.ensures, c.in_ok-types_of-2.ensures))
    (omega (arith, c.in_ok-checked_sum-3.ensures, c.in_ok-references_of.ensures, c.in_ok-references_of-2.ensures)))
