-- those from here on decide
use Rattle.std.proofs.Common.{◌≡◌, drop}
use Rattle.std.specs.List.{list_any}
use Rattle.wt_tree.specs.Kinds.{kinded_field, kinded_fields}
use Rattle.wt_rules.proofs.kinds.any_of_fields.Given as goal

abbrev pub invariant-loop-field : goal.invariant-loop-field
invariant-loop-field g l =
    list_any (λ field. list_any (λ r. g.T.ReferenceTest.breaks l.test r.0 r.1) (kinded_field field)) (drop l.field-index l.fields)
    ≡ list_any (λ r. g.T.ReferenceTest.breaks l.test r.0 r.1) (kinded_fields l.fields)
