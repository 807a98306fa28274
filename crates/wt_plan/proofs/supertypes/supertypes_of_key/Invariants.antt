-- the lists of the members so far
use Rattle.std.proofs.Common.{◌++◌, take}
use Rattle.wt_keys.specs.SupertypeChains.{FollowSupertypes}
use Rattle.wt_plan.proofs.supertypes.supertypes_of_key.Given as goal

abbrev pub invariant-loop-member : goal.invariant-loop-member
invariant-loop-member l = FollowSupertypes (l.fn.entries ++ l.fn.added) l.fn.indices (take l.member-index l.types) l.lists
