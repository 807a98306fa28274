-- Looking into JSON values (RFC 8259): the readers that decoding shares.
use Rattle.std.specs.Prelude.{ℕ, ◌==◌, nat_lt, List, [], ◌∷◌, Option, Some, None, option_map, option_and_then, if◌then◌else◌}
use Rattle.std.specs.Option.{option_map_or}
use Rattle.serde_json.specs.Data.{Data, Items, no_items, item}
use Rattle.serde_json.specs.Events.{members_len}
use Rattle.serde_json.specs.Find.{get, as_number, as_u64, as_object}

-- how many members an object has; none where the value is no object
abbrev pub key_count : Data → ℕ
key_count d = option_map_or members_len (as_object d) 0

-- the value at the only key of an object, if it is this key
abbrev pub only_at : List ℕ → Data → Option Data
only_at key d = if key_count d == 1 then get key d else None

-- how many members an object has under a key: one, or none
abbrev pub count_at : List ℕ → Data → ℕ
count_at key d = option_map_or (λ member. 1) (get key d) 0

-- a number of 32 bits
abbrev pub u32_of : ℕ → Option ℕ
u32_of n = if nat_lt n 4294967296 then Some n else None

abbrev pub decode_u32 : Data → Option ℕ
decode_u32 d = option_and_then u32_of (option_and_then as_u64 (as_number d))

-- what the items stand for, one by one, if each stands for something
abbrev pub each_of : {X : Type 0} → (Data → Option X) → Items → Option (List X)
each_of read no_items = Some []
each_of read (item d ds) = option_and_then (λ x. option_map (λ xs. x ∷ xs) (each_of read ds)) (read d)

-- what two items stand for, if they are exactly two
abbrev pub two_of : {X : Type 0} → (Data → Data → Option X) → Items → Option X
two_of read no_items = None
two_of read (item first no_items) = None
two_of read (item first (item second no_items)) = read first second
two_of read (item first (item second (item third rest))) = None
