-- The registered groups as they are told.
use Rattle.std.specs.Prelude.{List, map}
use Rattle.wt_model.specs.Registered.{RegisteredGroup}
use Rattle.wt_model.specs.declared.live.LiveGroup.{LiveGroup}

abbrev pub live_group : RegisteredGroup → LiveGroup
live_group made = record { number = made.number; indices = map (λ i. i.0) made.indices }

-- in order of their numbers
abbrev pub live_of : List RegisteredGroup → List LiveGroup
live_of made = map live_group made
