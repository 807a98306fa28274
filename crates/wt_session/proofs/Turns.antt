-- One more command, after those that were done.
use Rattle.std.proofs.Common.{◌≡◌, List, [], ◌∷◌, ◌++◌, refl, ap}
use Rattle.wt_commands.specs.declared.command.Command.{Command}
use Rattle.wt_session.specs.World.{World}
use Rattle.wt_session.specs.Run.{step, replies_of, world_after}

pub replies_of-one_more : (world : World) (commands : List Command) (next : Command) → replies_of world (commands ++ next ∷ []) ≡ replies_of world commands ++ (step (world_after world commands) next).0 ∷ []
replies_of-one_more world [] next = refl
replies_of-one_more world (c ∷ cs) next = ap (λ replies. (step world c).0 ∷ replies) (replies_of-one_more (step world c).1 cs next)

pub world_after-one_more : (world : World) (commands : List Command) (next : Command) → world_after world (commands ++ next ∷ []) ≡ (step (world_after world commands) next).1
world_after-one_more world [] next = refl
world_after-one_more world (c ∷ cs) next = world_after-one_more (step world c).1 cs next

-- ---- two lists in turn

pub replies_of-both : (world : World) (first second : List Command) → replies_of world (first ++ second) ≡ replies_of world first ++ replies_of (world_after world first) second
replies_of-both world [] second = refl
replies_of-both world (c ∷ cs) second = ap (λ replies. (step world c).0 ∷ replies) (replies_of-both (step world c).1 cs second)

pub world_after-both : (world : World) (first second : List Command) → world_after world (first ++ second) ≡ world_after (world_after world first) second
world_after-both world [] second = refl
world_after-both world (c ∷ cs) second = world_after-both (step world c).1 cs second
