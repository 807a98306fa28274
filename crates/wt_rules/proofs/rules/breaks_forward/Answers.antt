-- the supertype breaks nothing, so the shape decides
use Rattle.std.proofs.Common.{◌||◌, ap, sym, ◌∙◌}
use Rattle.std.specs.List.{list_any}
use Rattle.wt_tree.specs.Kinds.{kinded_shape}
use Rattle.wt_rules.specs.Rules.{is_forward}
use Rattle.wt_rules.proofs.Referring.{forward_by_parts}
use Rattle.wt_rules.proofs.rules.breaks_forward.Goals as goal

pub returns-else-supertype_is_forward : goal.returns-else-supertype_is_forward
returns-else-supertype_is_forward c =
    let end = c.args.end in
    let ty = c.args.ty.now in
    let super = sym c.supertype_is_forward.ensures ∙ c.if-supertype_is_forward.false in
    c.any_of_shape.ensures ∙ sym (forward_by_parts end ty ∙ ap (λ b. b || list_any (λ reference. is_forward end reference.1) (kinded_shape ty.composite_type)) super)
