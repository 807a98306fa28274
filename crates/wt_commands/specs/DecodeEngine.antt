-- Which engine a JSON value stands for (JSON as of RFC 8259): {"engine": {"gc": a bool, "profile": 1, "limits": an
-- object}}. Each key inside may be absent, and no other may stand there.
use Rattle.std.specs.Prelude.{ℕ, ◌+◌, ◌==◌, Bool, true, false, ◌&&◌, is_some, nat_lt, codes, List, Option, Some, None, option_map, option_and_then, if◌then◌else◌}
use Rattle.std.specs.Option.{option_map_or}
use Rattle.serde_json.specs.Data.{Data}
use Rattle.serde_json.specs.Find.{get, as_bool, as_number, as_u64, as_object}
use Rattle.wt_decode.specs.Json.{key_count, only_at}
use Rattle.wt_env.specs.Limits.{EngineParts}
use Rattle.wt_env.specs.declared.limits.EngineLimits.{EngineLimits}

-- the limits that stand where none are named
abbrev pub usual_limits : EngineLimits
usual_limits = record { parties = 16; groups = 65536; types = 1048576; references = 16777216; ever = 1048576; holds = 1048576 }

-- the greatest value of each
abbrev pub greatest_limits : EngineLimits
greatest_limits = record { parties = 1024; groups = 16777216; types = 268435456; references = 1073741824; ever = 16777216; holds = 1073741824 }

-- the engine where none is named: number 1, with garbage collection and the usual limits
abbrev pub usual_engine : EngineParts
usual_engine = record { number = 1; limits = usual_limits; gc = true; profile = 1 }

-- 1 where there is a value, else 0
abbrev pub one_if_some : Option Data → ℕ
one_if_some None = 0
one_if_some (Some d) = 1

-- how many of the keys of an engine there are, and of those of its limits
abbrev pub engine_keys : Data → ℕ
engine_keys d = one_if_some (get (codes "gc") d) + one_if_some (get (codes "profile") d) + one_if_some (get (codes "limits") d)

abbrev pub limit_keys : Data → ℕ
limit_keys d =
    one_if_some (get (codes "parties") d) + one_if_some (get (codes "groups") d) + one_if_some (get (codes "types") d)
    + one_if_some (get (codes "references") d) + one_if_some (get (codes "ever") d) + one_if_some (get (codes "holds") d)

-- an object that has this many keys
abbrev pub is_object_of : ℕ → Data → Bool
is_object_of count d = is_some (as_object d) && (key_count d == count)

-- the number, if it is no greater than this
abbrev pub up_to : ℕ → ℕ → Option ℕ
up_to greatest n = if nat_lt greatest n then None else Some n

-- a limit: a whole number that is no greater than this
abbrev pub decode_limit : ℕ → Data → Option ℕ
decode_limit greatest d = option_and_then (up_to greatest) (option_and_then as_u64 (as_number d))

-- the limit under a key, and the usual one where the key is absent
abbrev pub limit_at : List ℕ → ℕ → ℕ → Data → Option ℕ
limit_at key greatest usual d = option_map_or (decode_limit greatest) (get key d) (Some usual)

-- the limits under their keys
abbrev pub limits_in : Data → Option EngineLimits
limits_in d =
    option_and_then (λ parties. option_and_then (λ groups. option_and_then (λ types. option_and_then (λ references. option_and_then (λ ever. option_map (λ holds.
    record { parties = parties; groups = groups; types = types; references = references; ever = ever; holds = holds })
    (limit_at (codes "holds") greatest_limits.holds usual_limits.holds d))
    (limit_at (codes "ever") greatest_limits.ever usual_limits.ever d))
    (limit_at (codes "references") greatest_limits.references usual_limits.references d))
    (limit_at (codes "types") greatest_limits.types usual_limits.types d))
    (limit_at (codes "groups") greatest_limits.groups usual_limits.groups d))
    (limit_at (codes "parties") greatest_limits.parties usual_limits.parties d)

-- an object with no key but those of limits
abbrev pub decode_limits : Data → Option EngineLimits
decode_limits d = if is_object_of (limit_keys d) d then limits_in d else None

-- the limits of an engine, usual where the key is absent
abbrev pub limits_at : Data → Option EngineLimits
limits_at d = option_map_or decode_limits (get (codes "limits") d) (Some usual_limits)

-- whether an engine has garbage collection, as it does where the key is absent
abbrev pub gc_at : Data → Option Bool
gc_at d = option_map_or as_bool (get (codes "gc") d) (Some true)

-- the number 1
abbrev pub is_one : Data → Bool
is_one d = option_map_or (λ n. n == 1) (option_and_then as_u64 (as_number d)) false

-- profile 1 alone may be named
abbrev pub has_profile : Data → Bool
has_profile d = option_map_or is_one (get (codes "profile") d) true

-- the engine with number 1 that has this garbage collection and these limits
abbrev pub engine_with : Bool → EngineLimits → EngineParts
engine_with gc limits = record { number = 1; limits = limits; gc = gc; profile = 1 }

-- an engine: an object with no key but its three
abbrev pub engine_in : Data → Option EngineParts
engine_in d =
    if is_object_of (engine_keys d) d && has_profile d
    then option_and_then (λ gc. option_map (engine_with gc) (limits_at d)) (gc_at d)
    else None

-- an element that is an engine: an object whose only key is `engine`
abbrev pub decode_engine : Data → Option EngineParts
decode_engine d = option_and_then engine_in (only_at (codes "engine") d)
