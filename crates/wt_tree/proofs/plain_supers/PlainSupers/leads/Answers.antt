-- The walk goes one declared step on, to a smaller rank; it ends at the index that is looked for, or without a supertype.
use Rattle.std.proofs.Common.{◌≡◌, ℕ, sym, ap, ◌∙◌}
use Rattle.wt_env.specs.declared.types.VMSharedTypeIndex.{VMSharedTypeIndex}
use Rattle.wt_env.specs.declared.types.EngineOrModuleTypeIndex.TheVariants as index
use Rattle.wt_tree.specs.Subtyping.{is_sub}
use Rattle.wt_tree.specs.Fit.{named_by}
use Rattle.wt_tree.specs.PlainTypes.{plain_types}
use Rattle.wt_tree.proofs.Subtyping.{is_sub-refl}
use Rattle.wt_tree.proofs.Walking.{walk-step, walk-end, walk-falls}
use Rattle.wt_tree.proofs.plain_supers.PlainSupers.leads.Goals as goal

pub loop-sup-smaller : goal.loop-sup-smaller
loop-sup-smaller c =
    let map = c.tell_invariant.ensures.map in
    walk-falls (plain_types c.args.self.now) map c.loop-sup.current c.in-Some.supertype c.loop-sup.invariant.known c.in-Some.ensures.known c.in-Some.ensures.declared

pub loop-sup-preserved : goal.loop-sup-preserved
loop-sup-preserved c =
    let map = c.tell_invariant.ensures.map in
    let differ : c.loop-sup.current ≡ c.args.sup → ⊥ = λ same. c.loop-sup-test.true (c.bits.ensures ∙ ap (λ (i : VMSharedTypeIndex). i.0) same ∙ sym c.bits-in-loop-sup.ensures) in record {
      known = c.in-Some.ensures.known;
      answer = walk-step (plain_types c.args.self.now) map c.loop-sup.current c.in-Some.supertype c.args.sup c.loop-sup.invariant.known c.in-Some.ensures.known c.requires.sup differ c.in-Some.ensures.declared
          ∙ c.loop-sup.invariant.answer;
    }

pub returns-in-None : goal.returns-in-None
returns-in-None c =
    let map = c.tell_invariant.ensures.map in
    let differ : c.loop-sup.current ≡ c.args.sup → ⊥ = λ same. c.loop-sup-test.true (c.bits.ensures ∙ ap (λ (i : VMSharedTypeIndex). i.0) same ∙ sym c.bits-in-loop-sup.ensures) in
    sym (walk-end (plain_types c.args.self.now) map c.loop-sup.current c.args.sup c.loop-sup.invariant.known c.requires.sup differ (sym c.in-None.ensures.declared)) ∙ c.loop-sup.invariant.answer

pub returns : goal.returns
returns c =
    let read = named_by (plain_types c.args.self.now) in
    let bits : c.loop-sup.current.0 ≡ c.args.sup.0 = sym c.bits.ensures ∙ c.loop-sup-test.false ∙ c.bits-in-loop-sup.ensures in
    let same : c.loop-sup.current ≡ c.args.sup = ap (λ (n : ℕ). record { 0 = n }) bits in
    sym (is_sub-refl (read (index.Engine c.loop-sup.current)))
    ∙ ap (λ (i : VMSharedTypeIndex). is_sub (read (index.Engine c.loop-sup.current)) (read (index.Engine i))) same
    ∙ c.loop-sup.invariant.answer
