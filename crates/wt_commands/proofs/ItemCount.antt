-- A JSON value that was read has no more items than its text has bytes: it has fewer than the tokens that it took.
use Rattle.std.proofs.Common.{◌≡◌, ℕ, zero, suc, ◌+◌, ◌≤◌, List, [], ◌∷◌, length, Option, Some, None, option_map, option_and_then, Ordering, Less, Equal, Greater, subst, arith}
use Rattle.std.specs.Prelude.{⊤, IfSome}
use Rattle.std.specs.Ordering.{nat_cmp, match_ordering}
use Rattle.std.specs.Cmp.Lexicographic.{slice_cmp}
use Rattle.json.specs.Token.{Token}
use Rattle.json.specs.Lex.{tokens}
use Rattle.json.specs.Json as json
use Rattle.json.specs.Json.{Json, Parse, parse_map, after_end_array, read_key, items_step, members_step, value_with}
use Rattle.serde_json.specs.Data.{Data, number, array, object, item, Members, no_members, member, put}
use Rattle.serde_json.specs.Read.{number_of, of_json, of_items, of_members, max_depth, read}
use Rattle.wt_commands.specs.ItemCount.{item_count, items_count, members_count}
use Rattle.wt_commands.proofs.Decoding.{any_value, mapped, weakened, chained}
use Rattle.wt_commands.proofs.TokenCount.{tokens_within}

-- ---- what is read of a parsed value

-- it counts at most k
abbrev ValueFits : Json → ℕ → Type 0
ValueFits j k = IfSome (of_json j) (λ d. item_count d ≤ k)

abbrev ItemsFit : json.Items → ℕ → Type 0
ItemsFit js k = IfSome (of_items js) (λ ds. items_count ds ≤ k)

-- with the members that were found before
abbrev MembersFit : json.Members → ℕ → Type 0
MembersFit ms k = (found : Members) → IfSome (of_members ms found) (λ all. members_count all ≤ k + members_count found)

one_of : (order : Ordering) (a b c : Members) (n : ℕ) → members_count a ≤ n → members_count b ≤ n → members_count c ≤ n → members_count (match_ordering order a b c) ≤ n
one_of Less a b c n before same after = before
one_of Equal a b c n before same after = same
one_of Greater a b c n before same after = after

-- a member that takes the place of another adds no more than its own items
put_adds : (k : List ℕ) (d : Data) (ms : Members) → members_count (put k d ms) ≤ item_count d + members_count ms
put_adds k d no_members = omega arith
put_adds k d (member l e ms) =
    one_of (slice_cmp nat_cmp k l) (member k d (member l e ms)) (member l d ms) (member l e (put k d ms)) _ (omega arith) (omega arith) (omega (arith, put_adds k d ms))

-- an item or a member counts for one at most, beside its own
item_adds : (j : Json) (js : json.Items) (k n : ℕ) → ValueFits j k → ItemsFit js n → ItemsFit (json.item j js) (suc (k + n))
item_adds j js k n fits others =
    chained (λ d. item_count d ≤ k) (λ ds. items_count ds ≤ suc (k + n)) (λ d. option_map (item d) (of_items js))
    (λ d few. mapped (λ ds. items_count ds ≤ n) (λ ds. items_count ds ≤ suc (k + n)) (item d) (λ ds more. omega arith) (of_items js) others) (of_json j) fits

member_adds : (name : List ℕ) (j : Json) (ms : json.Members) (k n : ℕ) → ValueFits j k → MembersFit ms n → MembersFit (json.member name j ms) (suc (k + n))
member_adds name j ms k n fits others = λ found.
    chained (λ d. item_count d ≤ k) (λ all. members_count all ≤ suc (k + n) + members_count found) (λ d. of_members ms (put name d found))
    (λ d few. weakened (λ all. members_count all ≤ n + members_count (put name d found)) (λ all. members_count all ≤ suc (k + n) + members_count found) (λ all within. omega (arith, within, few, put_adds name d found)) (of_members ms (put name d found)) (others (put name d found))) (of_json j) fits

number_fits : (s : List ℕ) → ValueFits (json.number s) 0
number_fits s = mapped (λ n. ⊤) (λ d. item_count d ≤ 0) number (λ n any. omega arith) (number_of s) (any_value (number_of s))

array_fits : (js : json.Items) (k : ℕ) → ItemsFit js k → ValueFits (json.array js) k
array_fits js k fits = mapped (λ ds. items_count ds ≤ k) (λ d. item_count d ≤ k) array (λ ds few. few) (of_items js) fits

object_fits : (ms : json.Members) (k : ℕ) → MembersFit ms k → ValueFits (json.object ms) k
object_fits ms k fits = mapped (λ all. members_count all ≤ k + 0) (λ d. item_count d ≤ k) object (λ all few. omega arith) (of_members ms no_members) (fits no_members)

-- ---- the tokens that it took

-- of n tokens, what was read took at least one more than it counts
abbrev Took : {A : Type 0} → (A → ℕ → Type 0) → ℕ → Option (A × List Token) → Type 0
Took Fits n None = ⊤
Took Fits n (Some read) = (k : ℕ) × Fits read.0 k × (k + suc (length read.1) ≤ n)

abbrev Takes : {A : Type 0} → (A → ℕ → Type 0) → Parse A → Type 0
Takes Fits parse = (ts : List Token) → Took Fits (length ts) (parse ts)

wider : {A : Type 0} (Fits : A → ℕ → Type 0) (n m : ℕ) (o : Option (A × List Token)) → n ≤ m → Took Fits n o → Took Fits m o
wider Fits n m None within took = tt
wider Fits n m (Some read) within took = (took.0, took.1, omega (arith, within, took.2))

made : {A B : Type 0} (Fits : A → ℕ → Type 0) (Fit : B → ℕ → Type 0) (n m : ℕ) (f : A → B) → ((a : A) (k left : ℕ) → Fits a k → k + suc left ≤ n → (l : ℕ) × Fit (f a) l × (l + suc left ≤ m))
    → (o : Option (A × List Token)) → Took Fits n o → Took Fit m (parse_map f o)
made Fits Fit n m f more None took = tt
made Fits Fit n m f more (Some read) took = more read.0 took.0 (length read.1) took.1 took.2

-- a value and those after it, each with the one token that it took more than it counts
and_more : {B : Type 0} (Fits : B → ℕ → Type 0) (n : ℕ) (f : Json → B → B) → ((j : Json) (b : B) (k l : ℕ) → ValueFits j k → Fits b l → Fits (f j b) (suc (k + l))) → (more : Parse B) → Takes Fits more
    → (o : Option (Json × List Token)) → Took ValueFits n o → Took Fits n (option_and_then (λ q. parse_map (f q.0) (more q.1)) o)
and_more Fits n f adds more takes None took = tt
and_more Fits n f adds more takes (Some q) took =
    made Fits Fits (length q.1) n (f q.0) (λ b l left fits within. (suc (took.0 + l), adds q.0 b took.0 l took.1 fits, omega (arith, took.2, within))) (more q.1) (takes q.1)

-- a bracket or a key is one token
abbrev OneTaken : List Token → Option (List Token) → Type 0
OneTaken ts None = ⊤
OneTaken ts (Some rest) = length ts ≡ suc (length rest)

closing : (ts : List Token) → OneTaken ts (after_end_array ts)
closing [] = tt
closing (Token.begin_object ∷ ts) = tt
closing (Token.end_object ∷ ts) = tt
closing (Token.begin_array ∷ ts) = tt
closing (Token.end_array ∷ ts) = omega arith
closing (Token.key s ∷ ts) = tt
closing (Token.string s ∷ ts) = tt
closing (Token.number s ∷ ts) = tt
closing (Token.boolean b ∷ ts) = tt
closing (Token.null ∷ ts) = tt
closing (Token.bad ∷ ts) = tt

abbrev NameTaken : List Token → Option (Option (List ℕ) × List Token) → Type 0
NameTaken ts None = ⊤
NameTaken ts (Some read) = length ts ≡ suc (length read.1)

naming : (ts : List Token) → NameTaken ts (read_key ts)
naming [] = tt
naming (Token.begin_object ∷ ts) = tt
naming (Token.end_object ∷ ts) = omega arith
naming (Token.begin_array ∷ ts) = tt
naming (Token.end_array ∷ ts) = tt
naming (Token.key s ∷ ts) = omega arith
naming (Token.string s ∷ ts) = tt
naming (Token.number s ∷ ts) = tt
naming (Token.boolean b ∷ ts) = tt
naming (Token.null ∷ ts) = tt
naming (Token.bad ∷ ts) = tt

module _ (parse : Parse Json) (takes : Takes ValueFits parse) where
  one_item : (more : Parse json.Items) → Takes ItemsFit more → (ts : List Token) (o : Option (List Token)) → OneTaken ts o → Took ItemsFit (length ts) (items_step parse more ts o)
  one_item more again ts (Some rest) one = (0, omega arith, omega arith)
  one_item more again ts None one = and_more ItemsFit (length ts) json.item item_adds more again (parse ts) (takes ts)

  all_items : (n : ℕ) → Takes ItemsFit (json.items parse n)
  unfolding json.items
  all_items zero ts = tt
  all_items (suc n) ts = one_item (json.items parse n) (all_items n) ts (after_end_array ts) (closing ts)

  one_member : (ts : List Token) (more : Parse json.Members) → Takes MembersFit more → (o : Option (Option (List ℕ) × List Token)) → NameTaken ts o
      → Took MembersFit (length ts) (option_and_then (λ q. members_step parse more q.0 q.1) o)
  one_member ts more again None one = tt
  one_member ts more again (Some (None, rest)) one = (0, λ found. omega arith, omega arith)
  one_member ts more again (Some (Some name, rest)) one =
      wider MembersFit (length rest) (length ts) _ (omega arith) (and_more MembersFit (length rest) (json.member name) (member_adds name) more again (parse rest) (takes rest))

  all_members : (n : ℕ) → Takes MembersFit (json.members parse n)
  unfolding json.members
  all_members zero ts = tt
  all_members (suc n) ts = one_member ts (json.members parse n) (all_members n) (read_key ts) (naming ts)

one_level : (a : Parse json.Items) (o : Parse json.Members) → Takes ItemsFit a → Takes MembersFit o → Takes ValueFits (value_with a o)
one_level a o in_list in_object [] = tt
one_level a o in_list in_object (Token.begin_object ∷ ts) =
    made MembersFit ValueFits (length ts) (suc (length ts)) json.object (λ ms k left fits took. (k, object_fits ms k fits, omega arith)) (o ts) (in_object ts)
one_level a o in_list in_object (Token.end_object ∷ ts) = tt
one_level a o in_list in_object (Token.begin_array ∷ ts) =
    made ItemsFit ValueFits (length ts) (suc (length ts)) json.array (λ js k left fits took. (k, array_fits js k fits, omega arith)) (a ts) (in_list ts)
one_level a o in_list in_object (Token.end_array ∷ ts) = tt
one_level a o in_list in_object (Token.key s ∷ ts) = tt
one_level a o in_list in_object (Token.string s ∷ ts) = (0, omega arith, omega arith)
one_level a o in_list in_object (Token.number s ∷ ts) = (0, number_fits s, omega arith)
one_level a o in_list in_object (Token.boolean b ∷ ts) = (0, omega arith, omega arith)
one_level a o in_list in_object (Token.null ∷ ts) = (0, omega arith, omega arith)
one_level a o in_list in_object (Token.bad ∷ ts) = tt

every_depth : (depth : ℕ) → Takes ValueFits (json.value depth)
unfolding json.value
every_depth zero = one_level (λ ts. None) (λ ts. None) (λ ts. tt) (λ ts. tt)
every_depth (suc depth) =
    one_level (λ ts. json.items (json.value depth) (length ts) ts) (λ ts. json.members (json.value depth) (length ts) ts)
    (λ ts. all_items (json.value depth) (every_depth depth) (length ts) ts) (λ ts. all_members (json.value depth) (every_depth depth) (length ts) ts)

-- ---- the text

last_within : (n : ℕ) (o : Option (Json × List Token)) → Took ValueFits (suc n) o → IfSome (option_and_then (λ p. json.if_last p.0 p.1) o) (λ j. ValueFits j n)
last_within n None took = tt
last_within n (Some (j, [])) took = weakened (λ d. item_count d ≤ took.0) (λ d. item_count d ≤ n) (λ d few. omega (arith, few, took.2)) (of_json j) took.1
last_within n (Some (j, t ∷ rest)) took = tt

pub item_count_read : (bytes : List ℕ) (d : Data) → read bytes ≡ Some d → item_count d ≤ length bytes
item_count_read bytes d is =
    subst (λ o. IfSome o (λ found. item_count found ≤ length bytes)) is
    (chained (λ j. ValueFits j (length bytes)) (λ found. item_count found ≤ length bytes) of_json (λ j fits. fits) (option_and_then (λ p. json.if_last p.0 p.1) parsed) (last_within (length bytes) parsed took))
  where
    parsed : Option (Json × List Token)
    parsed = json.value max_depth (tokens bytes)

    took : Took ValueFits (suc (length bytes)) parsed
    took = wider ValueFits (length (tokens bytes)) (suc (length bytes)) parsed (tokens_within bytes) (every_depth max_depth (tokens bytes))
