-- what the entries tell is told of the registry's closed trees
use Rattle.std.proofs.Common.{◌≡◌, sym, ap, ◌∙◌}
use Rattle.wt_env.specs.declared.types.VMSharedTypeIndex.{VMSharedTypeIndex}
use Rattle.wt_env.specs.declared.types.EngineOrModuleTypeIndex.TheVariants as index
use Rattle.wt_tree.specs.Fit.{named_by}
use Rattle.wt_tree.proofs.Subtyping.{is_sub-refl}
use Rattle.wt_model.specs.Registered.{Registry}
use Rattle.wt_model.specs.Indices.{closed_tree}
use Rattle.wt_model.specs.Subtyping.{is_subtype_index}
use Rattle.wt_model.proofs.subtyping.TypeMaps.{sound-steps}
use Rattle.wt_registry.proofs.registry.TypeRegistry.is_subtype_counted.Goals as goal

pub returns-clause-declared : goal.returns-clause-declared
returns-clause-declared g c =
    let i = c.args.sub in
    let j = c.args.sup in
    let value : c.is_subtype_counted_of.result ≡ is_subtype_index c.args.self.now.made i j =
    c.is_subtype_counted_of.ensures.value ∙ ap (λ (r : Registry). is_subtype_index r.made i j) c.self.view_is in
    sound-steps c.args.self.now c.tell_invariant.ensures.sound i j c.is_subtype_counted_of.result value

pub returns-clause-own : goal.returns-clause-own
returns-clause-own g c = λ same.
    let i = c.args.sub in
    let j = c.args.sup in
    let made = c.args.self.now.made in
    let value : c.is_subtype_counted_of.result ≡ is_subtype_index made i j =
    c.is_subtype_counted_of.ensures.value ∙ ap (λ (r : Registry). is_subtype_index r.made i j) c.self.view_is in
    value ∙ ap (λ (k : VMSharedTypeIndex). is_subtype_index made i k) (sym same) ∙ is_sub-refl (named_by (closed_tree made) (index.Engine i))
