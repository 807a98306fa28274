-- the supertype is known, so the shape decides
use Rattle.std.proofs.Common.{◌||◌, not, ap, sym, ◌∙◌}
use Rattle.std.specs.List.{list_any}
use Rattle.wt_env.specs.declared.types.EngineOrModuleTypeIndex.{EngineOrModuleTypeIndex}
use Rattle.wt_tree.specs.Kinds.{kinded_shape}
use Rattle.wt_rules.specs.HostTypes.{is_known}
use Rattle.wt_rules.proofs.ModuleReferences.{indices_by_parts}
use Rattle.wt_rules.proofs.host_types.has_unknown.Goals as goal

pub returns-else-supertype_is_unknown : goal.returns-else-supertype_is_unknown
returns-else-supertype_is_unknown g c =
    let types = g.T.Supers.types c.args.types.now in
    let ty = c.args.ty.now in
    let super = sym c.supertype_is_unknown.ensures ∙ c.if-supertype_is_unknown.false in
    c.any_of_shape.ensures
    ∙ sym (
    indices_by_parts (λ (i : EngineOrModuleTypeIndex). not (is_known types i)) ty
    ∙ ap (λ b. b || list_any (λ reference. not (is_known types reference.1)) (kinded_shape ty.composite_type)) super)
