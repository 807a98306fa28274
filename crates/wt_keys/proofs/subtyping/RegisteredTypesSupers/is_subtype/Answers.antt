-- the lists tell where declared steps lead
use Rattle.std.proofs.Common.{List, ◌++◌, subst}
use Rattle.wt_tree.specs.Subtyping.{IsTypeMap, TellsSteps}
use Rattle.wt_tree.proofs.ToldSteps.{told-by-test}
use Rattle.wt_model.specs.Indices.{closed_tree}
use Rattle.wt_keys.specs.declared.entry.RecGroupEntry.{RecGroupEntry}
use Rattle.wt_keys.specs.Entries.{made_by}
use Rattle.wt_keys.proofs.EntryTypes.{entries-map}
use Rattle.wt_keys.proofs.subtyping.RegisteredTypesSupers.is_subtype.Goals as goal

pub returns-clause-steps : goal.returns-clause-steps
returns-clause-steps c =
    let all : List RecGroupEntry = c.self.inside.entries.now ++ c.self.inside.added.now in
    subst (λ (entries : List RecGroupEntry). TellsSteps (closed_tree (made_by entries)) c.args.sub c.args.sup c.leads_uncounted.result) c.self.view_is
    (told-by-test (closed_tree (made_by all)) (entries-map all c.self.invariant.0 c.self.invariant.1) c.args.sub c.args.sup c.leads_uncounted.result c.leads_uncounted.ensures)

pub returns-clause-map : goal.returns-clause-map
returns-clause-map c =
    let all : List RecGroupEntry = c.self.inside.entries.now ++ c.self.inside.added.now in
    subst (λ (entries : List RecGroupEntry). IsTypeMap (closed_tree (made_by entries))) c.self.view_is (entries-map all c.self.invariant.0 c.self.invariant.1)
