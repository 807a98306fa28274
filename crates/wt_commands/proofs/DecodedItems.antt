-- Decoded groups, and the members of all of them, are no more than the items of the value.
use Rattle.std.proofs.Common.{ℕ, ◌+◌, ◌≤◌, List, ◌∷◌, length, Option, Some, option_map, Ordering, Less, Equal, Greater, arith}
use Rattle.std.specs.Prelude.{⊤, IfSome}
use Rattle.std.specs.Ordering.{nat_cmp, match_ordering}
use Rattle.std.specs.Cmp.Lexicographic.{slice_cmp}
use Rattle.serde_json.specs.Data.{Data, null, boolean, number, string, array, object, Items, no_items, item, Members, no_members, member}
use Rattle.serde_json.specs.Find.{get_member, get, as_array}
use Rattle.wt_decode.specs.Json.{each_of}
use Rattle.wt_decode.specs.DecodeGroups.{decode_member, decode_group, decode_groups}
use Rattle.wt_env.specs.declared.types.WasmRecGroup.{WasmRecGroup}
use Rattle.wt_rules.specs.Rules.{total_members}
use Rattle.wt_commands.specs.ItemCount.{item_count, items_count, members_count}
use Rattle.wt_commands.proofs.Decoding.{any_value, mapped, weakened, chained}

-- ---- parts of a value

pub list_items : (d : Data) → IfSome (as_array d) (λ ds. items_count ds ≤ item_count d)
list_items null = tt
list_items (boolean b) = tt
list_items (number n) = tt
list_items (string s) = tt
list_items (array ds) = omega arith
list_items (object ms) = tt

one_of : (order : Ordering) (a b c : Option Data) (n : ℕ) → IfSome a (λ d. item_count d ≤ n) → IfSome b (λ d. item_count d ≤ n) → IfSome c (λ d. item_count d ≤ n) → IfSome (match_ordering order a b c) (λ d. item_count d ≤ n)
one_of Less a b c n before same after = before
one_of Equal a b c n before same after = same
one_of Greater a b c n before same after = after

member_items : (key : List ℕ) (ms : Members) (n : ℕ) → members_count ms ≤ n → IfSome (get_member key ms) (λ d. item_count d ≤ n)
member_items key no_members n within = tt
member_items key (member l d ms) n within =
    one_of (slice_cmp nat_cmp key l) (get_member key ms) (Some d) (get_member key ms) n (member_items key ms n (omega arith)) (omega arith) (member_items key ms n (omega arith))

-- the value under a key has no more items than the object
pub value_items : (key : List ℕ) (d : Data) → IfSome (get key d) (λ found. item_count found ≤ item_count d)
value_items key null = tt
value_items key (boolean b) = tt
value_items key (number n) = tt
value_items key (string s) = tt
value_items key (array ds) = tt
value_items key (object ms) = member_items key ms (members_count ms) (omega arith)

-- ---- what items stand for

few_read : {A : Type 0} (read : Data → Option A) (ds : Items) → IfSome (each_of read ds) (λ xs. length xs ≤ items_count ds)
few_read read no_items = omega arith
few_read {A} read (item d ds) =
    chained (λ x. ⊤) (λ (xs : List A). length xs ≤ items_count (item d ds)) (λ x. option_map (λ xs. x ∷ xs) (each_of read ds))
    (λ x any. mapped (λ (xs : List A). length xs ≤ items_count ds) (λ (xs : List A). length xs ≤ items_count (item d ds)) (λ xs. x ∷ xs) (λ xs few. omega arith) (each_of read ds) (few_read read ds)) (read d) (any_value (read d))

group_items : (d : Data) → IfSome (decode_group d) (λ group. length group.types ≤ item_count d)
group_items d =
    mapped (λ types. length types ≤ item_count d) (λ group. length group.types ≤ item_count d) (λ types. record { types = types }) (λ types few. few) _
    (chained (λ ds. items_count ds ≤ item_count d) (λ types. length types ≤ item_count d) (each_of decode_member)
    (λ ds within. weakened (λ types. length types ≤ items_count ds) (λ types. length types ≤ item_count d) (λ types few. omega arith) (each_of decode_member ds) (few_read decode_member ds)) (as_array d) (list_items d))

abbrev size : List WasmRecGroup → ℕ
size groups = length groups + total_members groups

groups_items : (ds : Items) → IfSome (each_of decode_group ds) (λ groups. size groups ≤ items_count ds)
groups_items no_items = omega arith
groups_items (item d ds) =
    chained (λ group. length group.types ≤ item_count d) (λ groups. size groups ≤ items_count (item d ds)) (λ group. option_map (λ groups. group ∷ groups) (each_of decode_group ds))
    (λ group few. mapped (λ groups. size groups ≤ items_count ds) (λ groups. size groups ≤ items_count (item d ds)) (λ groups. group ∷ groups) (λ groups others. omega arith) (each_of decode_group ds) (groups_items ds))
    (decode_group d) (group_items d)

-- the groups and their members together
pub decoded_items : (d : Data) → IfSome (decode_groups d) (λ types. length types.groups + total_members types.groups ≤ item_count d)
decoded_items d =
    mapped (λ groups. size groups ≤ item_count d) (λ types. size types.groups ≤ item_count d) (λ groups. record { groups = groups }) (λ groups few. few) _
    (chained (λ ds. items_count ds ≤ item_count d) (λ groups. size groups ≤ item_count d) (each_of decode_group)
    (λ ds within. weakened (λ groups. size groups ≤ items_count ds) (λ groups. size groups ≤ item_count d) (λ groups few. omega arith) (each_of decode_group ds) (groups_items ds)) (as_array d) (list_items d))
