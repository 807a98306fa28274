-- exactly the indices of functions have a trampoline
use Rattle.std.proofs.Common.{◌≡◌, is_some, sym, ap, subst, ◌∙◌}
use Rattle.wt_keys.specs.Entries.{made_by}
use Rattle.wt_model.specs.Registered.{Registry}
use Rattle.wt_model.specs.FunctionIndices.{IsFunctionIndex}
use Rattle.wt_model.specs.Trampolines.{trampoline_index}
use Rattle.wt_keys.proofs.TrampolineIndices.{function-trampoline, trampoline-function}
use Rattle.wt_registry.proofs.registry.TypeRegistry.is_function_index.Goals as goal

pub returns-clause-trampoline : goal.returns-clause-trampoline
returns-clause-trampoline c =
    c.is_some.ensures ∙ ap is_some c.trampoline_of.ensures
    ∙ ap (λ (r : Registry). is_some (trampoline_index r.made c.args.index)) c.self.view_is

pub returns-clause-function : goal.returns-clause-function
returns-clause-function c =
    let groups = c.self.inside.groups in
    let i = c.args.index in
    let same : c.is_some.result ≡ is_some (trampoline_index (made_by groups.entries) i) =
    returns-clause-trampoline c ∙ ap (λ (r : Registry). is_some (trampoline_index r.made i)) (sym c.self.view_is) in (
      λ found. subst (λ (r : Registry). IsFunctionIndex r.made i) c.self.view_is (trampoline-function groups.entries groups.given.numbers c.self.invariant.0.keys i (sym same ∙ found)),
      λ named. same ∙ function-trampoline groups.entries groups.given.numbers c.self.invariant.0.keys i (subst (λ (r : Registry). IsFunctionIndex r.made i) (sym c.self.view_is) named),
    )
