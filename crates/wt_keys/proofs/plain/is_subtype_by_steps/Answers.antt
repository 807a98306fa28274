-- the walk goes one declared step on, to a smaller rank; it ends at the index that is looked for, or without a supertype
use Rattle.std.proofs.Common.{◌≡◌, ℕ, sym, ap, ◌∙◌}
use Rattle.wt_env.specs.declared.types.VMSharedTypeIndex.{VMSharedTypeIndex}
use Rattle.wt_env.specs.declared.types.EngineOrModuleTypeIndex.TheVariants as index
use Rattle.wt_tree.specs.Fit.{named_by}
use Rattle.wt_tree.proofs.Subtyping.{is_sub-refl}
use Rattle.wt_tree.proofs.Walking.{walk-step, walk-end, walk-falls}
use Rattle.wt_model.specs.Indices.{closed_tree}
use Rattle.wt_model.specs.Subtyping.{is_subtype_index}
use Rattle.wt_model.proofs.trees.KnownTrees.{closed-located}
use Rattle.wt_keys.specs.Entries.{made_by}
use Rattle.wt_keys.proofs.EntryTypes.{entries-map}
use Rattle.wt_keys.proofs.plain.is_subtype_by_steps.Goals as goal

pub loop-sup-smaller : goal.loop-sup-smaller
loop-sup-smaller c =
    let made = made_by c.args.entries.now in
    let map = entries-map c.args.entries.now c.requires.keys.0 c.requires.keys.1 in
    let here = closed-located made c.loop-sup.current ∙ c.loop-sup.invariant.0 in
    let next = closed-located made c.in-Some.supertype ∙ c.in-Some.ensures.registered in
    walk-falls (closed_tree made) map c.loop-sup.current c.in-Some.supertype here next c.in-Some.ensures.declared

pub loop-sup-preserved : goal.loop-sup-preserved
loop-sup-preserved c =
    let made = made_by c.args.entries.now in
    let map = entries-map c.args.entries.now c.requires.keys.0 c.requires.keys.1 in
    let here = closed-located made c.loop-sup.current ∙ c.loop-sup.invariant.0 in
    let next = closed-located made c.in-Some.supertype ∙ c.in-Some.ensures.registered in
    let goal-known = closed-located made c.args.sup ∙ c.requires.sup in
    let differ : c.loop-sup.current ≡ c.args.sup → ⊥ = λ same. c.loop-sup-test.true (c.bits.ensures ∙ ap (λ (i : VMSharedTypeIndex). i.0) same ∙ sym c.bits-in-loop-sup.ensures) in (
      c.in-Some.ensures.registered,
      walk-step (closed_tree made) map c.loop-sup.current c.in-Some.supertype c.args.sup here next goal-known differ c.in-Some.ensures.declared ∙ c.loop-sup.invariant.1,
    )

pub returns-in-None : goal.returns-in-None
returns-in-None c =
    let made = made_by c.args.entries.now in
    let map = entries-map c.args.entries.now c.requires.keys.0 c.requires.keys.1 in
    let here = closed-located made c.loop-sup.current ∙ c.loop-sup.invariant.0 in
    let goal-known = closed-located made c.args.sup ∙ c.requires.sup in
    let differ : c.loop-sup.current ≡ c.args.sup → ⊥ = λ same. c.loop-sup-test.true (c.bits.ensures ∙ ap (λ (i : VMSharedTypeIndex). i.0) same ∙ sym c.bits-in-loop-sup.ensures) in
    sym (walk-end (closed_tree made) map c.loop-sup.current c.args.sup here goal-known differ (sym c.in-None.ensures.declared)) ∙ c.loop-sup.invariant.1

pub returns : goal.returns
returns c =
    let made = made_by c.args.entries.now in
    let bits : c.loop-sup.current.0 ≡ c.args.sup.0 = sym c.bits.ensures ∙ c.loop-sup-test.false ∙ c.bits-in-loop-sup.ensures in
    let same : c.loop-sup.current ≡ c.args.sup = ap (λ (n : ℕ). record { 0 = n }) bits in
    sym (is_sub-refl (named_by (closed_tree made) (index.Engine c.loop-sup.current)))
    ∙ ap (λ (i : VMSharedTypeIndex). is_subtype_index made c.loop-sup.current i) same
    ∙ c.loop-sup.invariant.1
