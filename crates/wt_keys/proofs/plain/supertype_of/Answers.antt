-- what a registered type shows as its supertype is the index of what its closed tree declares
use Rattle.std.proofs.Common.{◌≡◌, Some, None, is_some, sym, ap, ◌∙◌}
use Rattle.std.specs.Prelude.{option_and_then}
use Rattle.std.specs.Option.{option_copied}
use Rattle.std.proofs.lemmas.Bool.{false≢true}
use Rattle.wt_model.specs.Indices.{closed_tree}
use Rattle.wt_model.specs.Shown.{sub_type_at}
use Rattle.wt_model.proofs.trees.KnownTrees.{closed-located}
use Rattle.wt_keys.specs.Entries.{made_by}
use Rattle.wt_keys.proofs.Borrowed.{borrowed-located}
use Rattle.wt_keys.proofs.EntryTypes.{registered-shows}
use Rattle.wt_tree.proofs.Borrowed.{if_told}
use Rattle.wt_tree.proofs.ShownSupertypes.{shown-supertype, shown-registered}
use Rattle.wt_env.specs.declared.types.VMSharedTypeIndex.{VMSharedTypeIndex}
use Rattle.wt_keys.proofs.plain.supertype_of.Goals as goal

pub returns-in-Some-clause-declared : goal.returns-in-Some-clause-declared
returns-in-Some-clause-declared c =
    let made = made_by c.args.entries.now in
    let ty = c.in-Some.ty.now in
    let is : sub_type_at made c.args.index ≡ Some ty = sym c.borrow_from.ensures ∙ ap option_copied c.in-Some.is in
    let shows = registered-shows c.args.entries.now c.requires.keys.0 c.args.index ty c.requires.keys.1 is in
    ap (option_and_then (closed_tree made)) c.declared_index.ensures ∙ shown-supertype (closed_tree made) c.args.index ty shows

pub returns-in-Some-clause-registered : goal.returns-in-Some-clause-registered
returns-in-Some-clause-registered c =
    let made = made_by c.args.entries.now in
    let ty = c.in-Some.ty.now in
    let is : sub_type_at made c.args.index ≡ Some ty = sym c.borrow_from.ensures ∙ ap option_copied c.in-Some.is in
    let shows = registered-shows c.args.entries.now c.requires.keys.0 c.args.index ty c.requires.keys.1 is in
    if_told c.declared_index.result (λ (j : VMSharedTypeIndex) (some : c.declared_index.result ≡ Some j).
    sym (closed-located made j) ∙ shown-registered (closed_tree made) c.args.index ty shows j (sym c.declared_index.ensures ∙ some))

pub returns-in-None-clause-declared : goal.returns-in-None-clause-declared
returns-in-None-clause-declared c =
    let made = made_by c.args.entries.now in
    let none : sub_type_at made c.args.index ≡ None = sym c.borrow_from.ensures ∙ ap option_copied c.in-None.is in
    absurd (false≢true (sym (ap is_some none) ∙ borrowed-located c.args.entries.now c.requires.keys.0 c.args.index c.requires.keys.1 ∙ c.requires.registered))
