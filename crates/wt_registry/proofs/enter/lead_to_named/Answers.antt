-- the next one is led to
use Rattle.std.proofs.Common.{ℕ, ◌∷◌, []}
use Rattle.wt_registry.proofs.Leading.{can-turn, leads-turn}
use Rattle.wt_registry.proofs.enter.lead_to_named.Goals as goal

pub lead_to-requires : goal.lead_to-requires
lead_to-requires c = can-turn (λ (r : ℕ × ℕ). r.0 ∷ []) c.args.references.now c.loop-reference.reference-index (0, 0) c.loop-reference-test.true c.args.counts.now.items c.loop-reference.counts.items c.requires c.loop-reference.invariant

pub loop-reference-preserved : goal.loop-reference-preserved
loop-reference-preserved c =
    leads-turn (λ (r : ℕ × ℕ). r.0 ∷ []) c.args.references.now c.loop-reference.reference-index (0, 0) c.loop-reference-test.true c.args.counts.now.items c.loop-reference.counts.items c.lead_to.new.counts.items c.loop-reference.invariant c.lead_to.ensures
