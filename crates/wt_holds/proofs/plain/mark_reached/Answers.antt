use Rattle.std.proofs.Common.{◌-◌, ◌+◌, sym, ap, ◌∙◌, arith, length-set}
use Rattle.wt_keys.specs.Entries.{made_by}
use Rattle.wt_holds.proofs.marks.Walked.{walked, walked-reached}
use Rattle.wt_holds.proofs.marks.Passes.{same_rest, down_marked, down_unmarked, done_all}
use Rattle.wt_holds.proofs.plain.mark_reached.Goals as goal

pub any_leads_to-requires : goal.any_leads_to-requires
any_leads_to-requires c =
    same_rest c.loop-place.marks c.args.entries.now (c.loop-place.place - 1 + 1) c.loop-place.invariant.long

pub loop-place-preserved-then-not-marks-place : goal.loop-place-preserved-then-not-marks-place
loop-place-preserved-then-not-marks-place c = record {
  within = omega (arith, c.loop-place.invariant.within);
  long = length-set c.loop-place.marks (c.loop-place.place - 1) c.any_leads_to.result ∙ c.loop-place.invariant.long;
  marks = down_unmarked c.args.entries.now c.args.marks.now c.loop-place.marks c.loop-place.place c.index-entries-place.result c.any_leads_to.result
      c.loop-place-test.true c.loop-place.invariant.within c.requires c.loop-place.invariant.marks c.if-not-marks-place.true c.index-entries-place.is c.any_leads_to.ensures;
}

pub loop-place-preserved : goal.loop-place-preserved
loop-place-preserved c = record {
  within = omega (arith, c.loop-place.invariant.within);
  long = c.loop-place.invariant.long;
  marks = down_marked c.args.entries.now c.args.marks.now c.loop-place.marks c.loop-place.place
      c.loop-place-test.true c.loop-place.invariant.within c.requires c.loop-place.invariant.marks c.if-not-marks-place.false;
}

pub shape_of-marks : goal.shape_of-marks
shape_of-marks c = c.loop-place.invariant.long ∙ sym c.requires

pub returns-clause-length : goal.returns-clause-length
returns-clause-length c = c.loop-place.invariant.long ∙ sym c.requires

pub returns-clause-reached : goal.returns-clause-reached
returns-clause-reached c = λ top root rising older is.
    c.loop-place.invariant.marks
    ∙ (done_all c.args.entries.now c.args.marks.now c.loop-place.place c.loop-place-test.false
    ∙ (ap (walked (made_by c.args.entries.now)) is ∙ walked-reached top (made_by c.args.entries.now) root rising older))
