-- the supertype is none, so the shape decides
use Rattle.std.proofs.Common.{◌||◌, ap, sym, ◌∙◌}
use Rattle.std.specs.List.{list_any}
use Rattle.wt_tree.specs.Kinds.{kinded_shape}
use Rattle.wt_rules.proofs.ModuleReferences.{is_foreign, indices_by_parts}
use Rattle.wt_rules.proofs.rules.has_foreign.Goals as goal

pub returns-else-supertype_is_foreign : goal.returns-else-supertype_is_foreign
returns-else-supertype_is_foreign c =
    let ty = c.args.ty.now in
    let super = sym c.supertype_is_foreign.ensures ∙ c.if-supertype_is_foreign.false in
    c.any_of_shape.ensures ∙ sym (indices_by_parts is_foreign ty ∙ ap (λ b. b || list_any (λ reference. is_foreign reference.1) (kinded_shape ty.composite_type)) super)
