-- the total is what the parties hold together
use Rattle.std.proofs.Common.{◌≡◌, ◌==◌, Bool, true, false, not, ◌&&◌, refl, sym, ap, ◌∙◌, eq-eqb}
use Rattle.std.proofs.lemmas.Bool.{false≢true}
use Rattle.wt_holds.proofs.counts.Rows.{loose}
use Rattle.wt_holds.proofs.counts.Times.{not_same}
use Rattle.wt_holds.proofs.hold_counts.row_is_loose.Goals as goal
use Rattle.wt_holds.proofs.hold_counts.row_is_loose.Goals.{then-count-eq0, else-count-eq0}

passes : (a b w v : Bool) → v ≡ (a && b) → v ≡ true → w ≡ (a && (b && w))
passes true true w v e is = refl
passes true false w v e is = absurd (false≢true (sym e ∙ is))
passes false b w v e is = absurd (false≢true (sym e ∙ is))

fails : (a b w v : Bool) → v ≡ (a && b) → v ≡ false → v ≡ (a && (b && w))
fails true true w v e is = absurd (false≢true (sym is ∙ e))
fails true false w v e is = is
fails false b w v e is = is

pub returns-then-count-eq0-2 : goal.returns-then-count-eq0-2
returns-then-count-eq0-2 c =
    let x = c.args.count.now in
    let both : c.if-count-eq0.value ≡ ((x.references == 0) && (x.total == 0)) = elim c.if-count-eq0.branch [
      | then-count-eq0 w ↦ w.value-is ∙ sym (ap (λ b. b && (x.total == 0)) (eq-eqb x.references 0 w.if-count-eq0.true))
      | else-count-eq0 w ↦ w.value-is ∙ (not_same x.references 0 w.if-count-eq0.false ∙ sym (ap (λ b. b && (x.total == 0)) (not_same x.references 0 w.if-count-eq0.false)))
    ] in
    passes (x.references == 0) (x.total == 0) (not x.waits) c.if-count-eq0.value both c.if-count-eq0-2.true ∙ loose x.references x.total x.holds.items x.waits c.requires

pub returns-else-count-eq0-2 : goal.returns-else-count-eq0-2
returns-else-count-eq0-2 c =
    let x = c.args.count.now in
    let both : c.if-count-eq0.value ≡ ((x.references == 0) && (x.total == 0)) =
    elim c.if-count-eq0.branch [
      | then-count-eq0 w ↦ w.value-is ∙ sym (ap (λ b. b && (x.total == 0)) (eq-eqb x.references 0 w.if-count-eq0.true))
      | else-count-eq0 w ↦ w.value-is ∙ (not_same x.references 0 w.if-count-eq0.false ∙ sym (ap (λ b. b && (x.total == 0)) (not_same x.references 0 w.if-count-eq0.false)))
    ] in
    fails (x.references == 0) (x.total == 0) (not x.waits) c.if-count-eq0.value both c.if-count-eq0-2.false ∙ loose x.references x.total x.holds.items x.waits c.requires
