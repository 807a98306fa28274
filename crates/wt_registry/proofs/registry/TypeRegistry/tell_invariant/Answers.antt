-- what is kept is sound, and types keep the rules
use Rattle.std.proofs.Common.{subst}
use Rattle.wt_tree.specs.Fit.{StepsFit}
use Rattle.wt_model.specs.Indices.{closed_tree}
use Rattle.wt_model.specs.Registered.{Registry}
use Rattle.wt_model.specs.Sound.{IsSound}
use Rattle.wt_model.proofs.subtyping.TypeMaps.{rules-fit}
use Rattle.wt_keys.specs.Entries.{made_by}
use Rattle.wt_registry.proofs.Soundness.{sound}
use Rattle.wt_registry.proofs.registry.TypeRegistry.tell_invariant.Goals as goal

pub returns-clause-sound : goal.returns-clause-sound
returns-clause-sound c = subst IsSound c.self.view_is (sound c.self.inside.engine c.self.inside.groups c.self.invariant.0)

pub returns-clause-fit : goal.returns-clause-fit
returns-clause-fit c =
    subst (λ (registry : Registry). StepsFit (closed_tree registry.made)) c.self.view_is
    (rules-fit (made_by c.self.inside.groups.entries) c.self.invariant.0.rules)
