-- what is borrowed is shown by engine indices
use Rattle.std.proofs.Common.{◌↔◌, List, ◌++◌, IsSome, IfSome, sym, subst, ◌∙◌}
use Rattle.wt_tree.specs.Fit.{ShowsAt}
use Rattle.wt_tree.proofs.Borrowed.{if_borrowed, is_borrowed}
use Rattle.wt_model.specs.Indices.{closed_tree}
use Rattle.wt_model.specs.Shown.{sub_type_at}
use Rattle.wt_model.proofs.trees.KnownTrees.{closed-located}
use Rattle.wt_keys.specs.declared.entry.RecGroupEntry.{RecGroupEntry}
use Rattle.wt_keys.specs.Entries.{made_by}
use Rattle.wt_keys.proofs.Borrowed.{borrowed-located}
use Rattle.wt_keys.proofs.EntryTypes.{registered-shows}
use Rattle.wt_keys.proofs.subtyping.RegisteredTypesTypes.borrow.Goals as goal

pub returns-clause-found : goal.returns-clause-found
returns-clause-found c =
    let all : List RecGroupEntry = c.self.inside.entries.now ++ c.self.inside.added.now in
    let same =
    is_borrowed c.borrow_joined.result (sub_type_at (made_by all) c.args.index) c.borrow_joined.ensures
    ∙ borrowed-located all c.self.invariant.0 c.args.index c.self.invariant.1
    ∙ sym (closed-located (made_by all) c.args.index) in
    subst (λ (entries : List RecGroupEntry). IsSome c.borrow_joined.result ↔ IsSome (closed_tree (made_by entries) c.args.index)) c.self.view_is
    (λ here. sym same ∙ here, λ there. same ∙ there)

pub returns-clause-shows : goal.returns-clause-shows
returns-clause-shows c =
    let all : List RecGroupEntry = c.self.inside.entries.now ++ c.self.inside.added.now in
    subst (λ (entries : List RecGroupEntry). IfSome c.borrow_joined.result (λ ty. ShowsAt (closed_tree (made_by entries)) c.args.index ty.now)) c.self.view_is
    (if_borrowed (ShowsAt (closed_tree (made_by all)) c.args.index) c.borrow_joined.result (sub_type_at (made_by all) c.args.index) c.borrow_joined.ensures
    (λ ty is. registered-shows all c.self.invariant.0 c.args.index ty c.self.invariant.1 is))
