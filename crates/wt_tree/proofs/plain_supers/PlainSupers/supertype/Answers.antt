-- What an entry declares is the index of the closed tree that its own declares; an index without a closed tree has no
-- entry.
use Rattle.std.proofs.Common.{◌≡◌, List, Option, Some, None, is_some, sym, ap, subst, ◌∙◌}
use Rattle.std.specs.Prelude.{slice_get, option_and_then}
use Rattle.std.specs.Option.{option_copied}
use Rattle.std.proofs.lemmas.Bool.{false≢true}
use Rattle.wt_env.specs.declared.types.VMSharedTypeIndex.{VMSharedTypeIndex}
use Rattle.wt_env.specs.declared.types.WasmSubType.{WasmSubType}
use Rattle.wt_tree.specs.PlainTypes.{plain_types, ArePlain}
use Rattle.wt_tree.proofs.Borrowed.{if_told}
use Rattle.wt_tree.proofs.PlainTypes.{plain-there, plain-shows}
use Rattle.wt_tree.proofs.ShownSupertypes.{shown-supertype, shown-registered}
use Rattle.wt_tree.proofs.plain_supers.PlainSupers.supertype.Goals as goal

pub returns-in-Some-clause-declared : goal.returns-in-Some-clause-declared
returns-in-Some-clause-declared c =
    let types : List WasmSubType = c.args.self.now in
    let plain : ArePlain types = subst ArePlain c.self.view_is c.self.invariant in
    let ty : WasmSubType = c.in-Some.ty.now in
    let held : slice_get types c.args.index.0 ≡ Some ty = (λ k. slice_get (sym c.self.view_is k) (sym c.bits.ensures k)) ∙ sym c.get.ensures.value ∙ ap option_copied c.in-Some.is in
    ap (option_and_then (plain_types types)) c.declared_index.ensures ∙ shown-supertype (plain_types types) c.args.index ty (plain-shows types plain c.args.index ty held)

pub returns-in-Some-clause-known : goal.returns-in-Some-clause-known
returns-in-Some-clause-known c =
    let types : List WasmSubType = c.args.self.now in
    let plain : ArePlain types = subst ArePlain c.self.view_is c.self.invariant in
    let ty : WasmSubType = c.in-Some.ty.now in
    let held : slice_get types c.args.index.0 ≡ Some ty = (λ k. slice_get (sym c.self.view_is k) (sym c.bits.ensures k)) ∙ sym c.get.ensures.value ∙ ap option_copied c.in-Some.is in
    if_told c.declared_index.result (λ (j : VMSharedTypeIndex) (is : c.declared_index.result ≡ Some j).
    shown-registered (plain_types types) c.args.index ty (plain-shows types plain c.args.index ty held) j (sym c.declared_index.ensures ∙ is))

pub returns-in-None-clause-declared : goal.returns-in-None-clause-declared
returns-in-None-clause-declared c =
    let types : List WasmSubType = c.args.self.now in
    let plain : ArePlain types = subst ArePlain c.self.view_is c.self.invariant in
    let held : slice_get types c.args.index.0 ≡ None = (λ k. slice_get (sym c.self.view_is k) (sym c.bits.ensures k)) ∙ sym c.get.ensures.value ∙ ap option_copied c.in-None.is in
    absurd (false≢true (sym (ap is_some held) ∙ plain-there types plain c.args.index ∙ c.requires))
