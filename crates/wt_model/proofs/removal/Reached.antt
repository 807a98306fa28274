-- What is reached from a registered group is registered.
use Rattle.std.proofs.Common.{◌≡◌, ℕ, List}
use Rattle.wt_model.specs.Registered.{RegisteredGroup}
use Rattle.wt_env.specs.Among.{Among}
use Rattle.wt_model.specs.Sound.{NamesOlder}
use Rattle.wt_model.specs.Reach.{Reach, here, further}

-- what is reached from a registered group is registered, since references name what is
pub reach_registered : (made : List RegisteredGroup) → NamesOlder made → (root number : ℕ) → (group : RegisteredGroup) × Among group made × (group.number ≡ root) → Reach made root number → (group : RegisteredGroup) × Among group made × (group.number ≡ number)
reach_registered made older root number at here = at
reach_registered made older root number at (further to next reach edge) =
    let named = older edge.0 number edge.1 edge.3 in
    (named.1, named.2, named.3)
