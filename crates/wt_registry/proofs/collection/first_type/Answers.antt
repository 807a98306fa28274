-- what is found is within the map
use Rattle.std.proofs.Common.{◌≡◌, ◌<◌, ◌==◌, Some, length, sym, ◌∙◌, arith}
use Rattle.wt_env.specs.declared.types.VMSharedTypeIndex.{VMSharedTypeIndex}
use Rattle.wt_env.proofs.lists.Found.{found_within}
use Rattle.wt_model.specs.Indices.{place_in}
use Rattle.wt_registry.proofs.collection.first_type.Goals as goal

pub overflow_cast-result : goal.overflow_cast-result
overflow_cast-result c =
    let at : place_in c.args.index c.args.map.now ≡ Some c.in-Some.place = sym c.place_of.ensures ∙ c.in-Some.is in
    let within : c.in-Some.place < length c.args.map.now = found_within (λ (j : VMSharedTypeIndex). j.0 == c.args.index.0) c.in-Some.place c.args.map.now at in
    omega (arith, within, c.requires)
