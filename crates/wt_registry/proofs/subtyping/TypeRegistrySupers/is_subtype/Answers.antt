-- different indices have different closed trees, and declared supertypes have indices
use Rattle.wt_model.proofs.subtyping.TypeMaps.{sound-map}
use Rattle.wt_registry.proofs.subtyping.TypeRegistrySupers.is_subtype.Goals as goal

pub returns-clause-map : goal.returns-clause-map
returns-clause-map c = sound-map c.args.self.now c.tell_invariant.ensures.sound
