-- What these and then those groups lead to doesn't wait.
use Rattle.std.proofs.Common.{◌≡◌, ℕ, List, [], ◌∷◌, ◌++◌, refl}
use Rattle.wt_model.specs.Registered.{GroupHolds}
use Rattle.wt_model.specs.Holds.{change, no_longer, stop_waiting}

pub stop_waiting-append : (first second : List ℕ) (standings : List GroupHolds) → stop_waiting (first ++ second) standings ≡ stop_waiting second (stop_waiting first standings)
stop_waiting-append [] second standings = refl
stop_waiting-append (number ∷ first) second standings = stop_waiting-append first second (change number no_longer standings)
