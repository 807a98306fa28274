-- a function has a trampoline, which has the closed tree of one and is its own
use Rattle.std.proofs.Common.{◌≡◌, None, Some, is_some, sym, ap, subst, ◌∙◌}
use Rattle.std.specs.Option.{option_and_then}
use Rattle.std.proofs.lemmas.Bool.{false≢true}
use Rattle.wt_tree.specs.Trampoline.{trampoline}
use Rattle.wt_keys.specs.Entries.{made_by}
use Rattle.wt_model.specs.Registered.{Registry}
use Rattle.wt_model.specs.Indices.{closed_tree}
use Rattle.wt_model.specs.FunctionIndices.{IsFunctionIndex}
use Rattle.wt_model.specs.Trampolines.{trampoline_index}
use Rattle.wt_keys.proofs.TrampolineIndices.{function-trampoline, trampoline-closed, trampoline-own}
use Rattle.wt_registry.proofs.registry.TypeRegistry.trampoline_type.Goals as goal

pub unreachable-requires : goal.unreachable-requires
unreachable-requires c =
    let groups = c.self.inside.groups in
    let i = c.args.index in
    let none : trampoline_index (made_by groups.entries) i ≡ None = sym c.trampoline_of.ensures ∙ c.in-None.is in
    let named = subst (λ (r : Registry). IsFunctionIndex r.made i) (sym c.self.view_is) c.requires.function in
    false≢true (sym (ap is_some none) ∙ function-trampoline groups.entries groups.given.numbers c.self.invariant.0.keys i named)

pub returns-clause-trees : goal.returns-clause-trees
returns-clause-trees c =
    let groups = c.self.inside.groups in
    let i = c.args.index in
    let j = c.in-Some.trampoline in
    let value : trampoline_index (made_by groups.entries) i ≡ Some j = sym c.trampoline_of.ensures ∙ c.in-Some.is in
    subst (λ (r : Registry). closed_tree r.made j ≡ option_and_then trampoline (closed_tree r.made i)) c.self.view_is
    (trampoline-closed groups.entries groups.given.numbers c.self.invariant.0.keys i j value)

pub returns-clause-own : goal.returns-clause-own
returns-clause-own c =
    let groups = c.self.inside.groups in
    let i = c.args.index in
    let j = c.in-Some.trampoline in
    let value : trampoline_index (made_by groups.entries) i ≡ Some j = sym c.trampoline_of.ensures ∙ c.in-Some.is in
    subst (λ (r : Registry). trampoline_index r.made j ≡ Some j) c.self.view_is
    (trampoline-own groups.entries groups.given.numbers c.self.invariant.0.keys i j value)
