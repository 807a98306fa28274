-- What is true of the list is true of its closed trees.
use Rattle.std.proofs.Common.{subst}
use Rattle.wt_tree.specs.PlainTypes.{ArePlain}
use Rattle.wt_tree.proofs.PlainTypes.{plain-map}
use Rattle.wt_tree.proofs.plain_supers.PlainSupers.tell_invariant.Goals as goal

pub returns-clause-map : goal.returns-clause-map
returns-clause-map c = plain-map c.args.self.now (subst ArePlain c.self.view_is c.self.invariant)

pub returns-clause-fit : goal.returns-clause-fit
returns-clause-fit c =
    let plain : ArePlain c.args.self.now = subst ArePlain c.self.view_is c.self.invariant in
    λ i t s is declared. plain.fit i.0 t s is declared
