-- a hold less keeps what is kept
use Rattle.wt_registry.proofs.Soundness.{sound}
use Rattle.wt_registry.proofs.registry.TypeRegistry.end_hold.Goals as goal

pub returns-clause-sound : goal.returns-clause-sound
returns-clause-sound c = sound c.self.inside.engine c.end_hold.new.groups c.end_hold.ensures.kept
