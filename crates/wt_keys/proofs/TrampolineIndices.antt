-- The index of the trampoline of a function type: it is told at the entry of the type, the trampoline of a
-- trampoline is itself, and exactly the functions have one.
use Rattle.std.proofs.Common.{◌≡◌, ℕ, zero, suc, ◌+◌, ◌==◌, Bool, true, false, cond, ◌&&◌, List, [], ◌∷◌, length, slice_get, Option, Some, None, is_some, is_none, option_map, option_and_then, unwrap_or, refl, sym, ap, subst, ◌∙◌, arith}
use Rattle.std.specs.List.{find}
use Rattle.std.proofs.lemmas.Bool.{false≢true}
use Rattle.std.proofs.lemmas.Option.{slice_get_within, option_and_then_some}
use Rattle.wt_env.specs.Among.{Among}
use Rattle.wt_env.specs.declared.types.VMSharedTypeIndex.{VMSharedTypeIndex}
use Rattle.wt_env.specs.declared.types.WasmCompositeInnerType.{WasmCompositeInnerType}
use Rattle.wt_env.specs.declared.types.WasmCompositeInnerType.TheVariants as shape
use Rattle.wt_env.specs.declared.types.WasmSubType.{WasmSubType}
use Rattle.wt_env.proofs.lists.Mapped.{among_map, among_mapped}
use Rattle.wt_env.proofs.lists.Members.{some_same, find-found, find-map}
use Rattle.wt_tree.specs.References.{sub_refs, number_sub, number_group_from}
use Rattle.wt_tree.specs.Tree.{Description, Tree, ClosedTree, tree_eq, members_of}
use Rattle.wt_tree.specs.Trampoline.{trampoline_member, trampoline_tree, trampoline_of_shape, is_erased_shape, is_own_trampoline, other_trampoline, trampoline_at, trampoline}
use Rattle.wt_tree.proofs.Trampolines.{trampoline-once, is_own_trampoline-numbered}
use Rattle.wt_tree.proofs.TreeEquality.{tree_eq-decides}
use Rattle.wt_tree.specs.Kinds.{kind_of}
use Rattle.wt_rules.specs.Rules.{is_function_kind}
use Rattle.wt_model.specs.Registered.{RegisteredGroup}
use Rattle.wt_model.specs.Trees.{trees}
use Rattle.wt_model.specs.Indices.{locate, closed_tree}
use Rattle.wt_model.specs.Trampolines.{IsTrampoline, TellsTrampoline, index_of, trampoline_index}
use Rattle.wt_model.specs.FunctionIndices.{IsFunctionIndex}
use Rattle.wt_model.proofs.Trampolines.{ToldAt, tell-at}
use Rattle.wt_model.proofs.indices.Places.{locate-at}
use Rattle.wt_model.proofs.trees.Trees.{trees-registered}
use Rattle.wt_model.proofs.indices.Rising.{one_number}
use Rattle.wt_model.proofs.subtyping.NamedIndices.{get_within}
use Rattle.wt_keys.specs.declared.entry.RecGroupEntry.{RecGroupEntry}
use Rattle.wt_keys.specs.Entries.{made_of, made_by}
use Rattle.wt_keys.specs.Keys.{AreKeys}
use Rattle.wt_keys.proofs.KeyTrees.{names_below}
use Rattle.wt_keys.proofs.AddedKeys.{indexed}
use Rattle.wt_keys.proofs.KeyTrampolines.{found-passing, trampoline-found}

-- ---- a closed tree and its index

-- the index of the closed tree of an index is that index
pub index_of-closed : (entries : List RecGroupEntry) (top : ℕ) → AreKeys entries top → (i : VMSharedTypeIndex) (at : ℕ × ℕ) → locate (made_by entries) i ≡ Some at
    → index_of (made_by entries) (record { tree = trees (made_by entries) at.0; place = at.1 }) ≡ Some i
index_of-closed entries top keys i at is =
    let made = made_by entries in
    let here = locate-at made i at is in
    let test : RegisteredGroup → Bool = λ (m : RegisteredGroup). tree_eq (trees made m.number) (trees made at.0) in
    let found = found-passing test made here.group here.among ((tree_eq-decides (trees made here.group.number) (trees made at.0)).1 (ap (trees made) here.number)) in
    let passes = find-found test made found.0 found.1 in
    let tree = (tree_eq-decides (trees made (found.0).number) (trees made at.0)).0 passes.0 in
    let number = keys.apart found.0 here.group passes.1 here.among (tree ∙ ap (trees made) (sym here.number)) in
    let same = one_number 0 top made found.0 here.group keys.rising passes.1 here.among number in
    ap (option_and_then (λ (g : RegisteredGroup). slice_get g.indices at.1)) found.1
    ∙ ap (λ (g : RegisteredGroup). slice_get g.indices at.1) same
    ∙ here.place

-- and the closed tree of the index of a closed tree is that tree
pub closed-index_of : (entries : List RecGroupEntry) (top : ℕ) → AreKeys entries top → (closed : ClosedTree) (i : VMSharedTypeIndex) → index_of (made_by entries) closed ≡ Some i
    → closed_tree (made_by entries) i ≡ Some closed
closed-index_of entries top keys closed i is =
    let made = made_by entries in
    let test : RegisteredGroup → Bool = λ (m : RegisteredGroup). tree_eq (trees made m.number) closed.tree in
    option_and_then_some (λ (g : RegisteredGroup). slice_get g.indices closed.place) (find test made) i is (λ g found has.
    let passes = find-found test made g found in
    let tree = (tree_eq-decides (trees made g.number) closed.tree).0 passes.0 in
    ap (option_map (λ (at : ℕ × ℕ). record { tree = trees made at.0; place = at.1 })) (keys.located g closed.place i passes.1 has)
    ∙ ap (λ (t : Tree). Some (record { tree = t; place = closed.place })) tree)

-- ---- the trampoline of a trampoline

-- the closed trees of a type and of its trampoline
record Entered (made : List RegisteredGroup) (i j : VMSharedTypeIndex) : Type 0 where
  own : ClosedTree
  other : ClosedTree
  is : closed_tree made i ≡ Some own
  enters : trampoline own ≡ Some other
  at : closed_tree made j ≡ Some other
  index : index_of made other ≡ Some j

entered : (entries : List RecGroupEntry) (top : ℕ) → AreKeys entries top → (i j : VMSharedTypeIndex) → trampoline_index (made_by entries) i ≡ Some j → Entered (made_by entries) i j
entered entries top keys i j is =
    let made = made_by entries in
    option_and_then_some (index_of made) (option_and_then trampoline (closed_tree made i)) j is (λ other found has.
    option_and_then_some trampoline (closed_tree made i) other found (λ own closed enters. record {
      own = own;
      other = other;
      is = closed;
      enters = enters;
      at = closed-index_of entries top keys other j has;
      index = has;
    }))

-- the trampoline of a function type has the closed tree that is the trampoline of its closed tree
pub trampoline-closed : (entries : List RecGroupEntry) (top : ℕ) → AreKeys entries top → (i j : VMSharedTypeIndex) → trampoline_index (made_by entries) i ≡ Some j
    → closed_tree (made_by entries) j ≡ option_and_then trampoline (closed_tree (made_by entries) i)
trampoline-closed entries top keys i j is =
    let it = entered entries top keys i j is in
    it.at ∙ sym (ap (option_and_then trampoline) it.is ∙ it.enters)

-- the trampoline of a trampoline is itself
pub trampoline-own : (entries : List RecGroupEntry) (top : ℕ) → AreKeys entries top → (i j : VMSharedTypeIndex) → trampoline_index (made_by entries) i ≡ Some j
    → trampoline_index (made_by entries) j ≡ Some j
trampoline-own entries top keys i j is =
    let made = made_by entries in
    let it = entered entries top keys i j is in
    ap (λ closed. option_and_then (index_of made) (option_and_then trampoline closed)) it.at
    ∙ ap (option_and_then (index_of made)) (trampoline-once it.own it.other it.enters)
    ∙ it.index

-- ---- a member and its numbered form

-- a member of a description is one of the key, with numbered references
record NumberedAt (types : List WasmSubType) (place : ℕ) (from : ℕ) (ty : WasmSubType) : Type 0 where
  start : ℕ
  is : slice_get (number_group_from from types) place ≡ Some (number_sub start ty)

numbered-at : (types : List WasmSubType) (place from : ℕ) (ty : WasmSubType) → slice_get types place ≡ Some ty → NumberedAt types place from ty
numbered-at [] place from ty is = absurd (cc)
numbered-at (t ∷ types) zero from ty is = record { start = from; is = ap (λ (u : WasmSubType). Some (number_sub from u)) (some_same is) }
numbered-at (t ∷ types) (suc place) from ty is =
    let rest = numbered-at types place (from + length (sub_refs t)) ty is in
    record { start = rest.start; is = rest.is }

-- ---- what is told

-- the first index of the entry with this number
abbrev pub first_of : List RecGroupEntry → ℕ → Option VMSharedTypeIndex
first_of entries number = option_and_then (λ entry. slice_get entry.shared_type_indices 0) (find (λ entry. entry.number == number) entries)

same_number : (m n : ℕ) → (m == n) ≡ true → m ≡ n
same_number m n same = grind (arith, same)

number_same : (m n : ℕ) → m ≡ n → (m == n) ≡ true
number_same m n same = grind (arith, same)

-- the first index of a registered group with this number
first_of-group : (entries : List RecGroupEntry) (top : ℕ) → AreKeys entries top → (g : RegisteredGroup) (number : ℕ) → Among g (made_by entries) → g.number ≡ number
    → first_of entries number ≡ slice_get g.indices 0
first_of-group entries top keys g number at is =
    let made = made_by entries in
    let test : RegisteredGroup → Bool = λ (m : RegisteredGroup). m.number == number in
    let found = found-passing test made g at (number_same g.number number is) in
    let passes = find-found test made found.0 found.1 in
    let same = one_number 0 top made found.0 g keys.rising passes.1 at (same_number (found.0).number number passes.0 ∙ sym is) in
    by (find (λ (entry : RecGroupEntry). entry.number == number) entries)
    (sym (find-map made_of (λ (entry : RecGroupEntry). entry.number == number) test entries (λ entry there. refl)) ∙ found.1 ∙ ap Some same)
  where
    by : (entry : Option RecGroupEntry) → option_map made_of entry ≡ Some g → option_and_then (λ e. slice_get e.shared_type_indices 0) entry ≡ slice_get g.indices 0
    by None is = absurd (cc)
    by (Some entry) is = ap (λ (m : RegisteredGroup). slice_get m.indices 0) (some_same is)

-- a test of the member at a place
abbrev pub is_own_at : List WasmSubType → ℕ → Bool
is_own_at types place = unwrap_or (option_map is_own_trampoline (slice_get types place)) false

-- what is told at a place
abbrev pub told_at : List (Option ℕ) → ℕ → Option ℕ
told_at told place = option_and_then (λ t. t) (slice_get told place)

-- an entry that has an index at a place
pub record HasIndex (entries : List RecGroupEntry) (top : ℕ) (entry : RecGroupEntry) (place : ℕ) (i : VMSharedTypeIndex) : Type 0 where
  pub keys : AreKeys entries top
  pub among : Among entry entries
  pub located : locate (made_by entries) i ≡ Some (entry.number, place)

-- its member there: as it stands in the key and in the description
record MemberAt (entries : List RecGroupEntry) (entry : RecGroupEntry) (place : ℕ) (i : VMSharedTypeIndex) : Type 0 where
  ty : WasmSubType
  start : ℕ
  key : slice_get entry.hash_consing_key.types place ≡ Some ty
  numbered : slice_get (made_of entry).description.members place ≡ Some (number_sub start ty)
  index : slice_get entry.shared_type_indices place ≡ Some i

member-at : (entries : List RecGroupEntry) (top : ℕ) (entry : RecGroupEntry) (place : ℕ) (i : VMSharedTypeIndex) → HasIndex entries top entry place i → MemberAt entries entry place i
member-at entries top entry place i has =
    let made = made_by entries in
    let here = locate-at made i (entry.number, place) has.located in
    let same = one_number 0 top made here.group (made_of entry) has.keys.rising here.among (among_mapped made_of entries entry has.among) here.number in
    let index : slice_get entry.shared_type_indices place ≡ Some i = ap (λ (m : RegisteredGroup). slice_get m.indices place) (sym same) ∙ here.place in
    let below = slice_get_within entry.shared_type_indices place i index in
    let long = (has.keys.keys entry has.among).members in
    let member = get_within entry.hash_consing_key.types place (omega (arith, below, long)) in
    let numbered = numbered-at entry.hash_consing_key.types place 0 member.0 member.1 in
    record { ty = member.0; start = numbered.start; key = member.1; numbered = numbered.is; index = index }

-- the closed tree of the index
abbrev closed_at : List RecGroupEntry → RecGroupEntry → ℕ → ClosedTree
closed_at entries entry place = record { tree = trees (made_by entries) entry.number; place = place }

-- the trampoline of the index, by the member in the description
index-by_member : (entries : List RecGroupEntry) (top : ℕ) (entry : RecGroupEntry) (place : ℕ) (i : VMSharedTypeIndex) → HasIndex entries top entry place i → (t : WasmSubType)
    → slice_get (made_of entry).description.members place ≡ Some t
    → trampoline_index (made_by entries) i ≡ option_and_then (index_of (made_by entries)) (trampoline_at (closed_at entries entry place) t)
index-by_member entries top entry place i has t is =
    let made = made_by entries in
    let closed = closed_at entries entry place in
    ap (λ at. option_and_then (index_of made) (option_and_then trampoline (option_map (λ (at : ℕ × ℕ). record { tree = trees made at.0; place = at.1 }) at))) has.located
    ∙ ap (λ (tree : Tree). option_and_then (index_of made) (option_and_then (trampoline_at closed) (slice_get (members_of tree) place))) (trees-registered top made has.keys.rising (names_below entries top has.keys) (made_of entry) (among_mapped made_of entries entry has.among))
    ∙ ap (λ found. option_and_then (index_of made) (option_and_then (trampoline_at closed) found)) is

-- a member that is its own trampoline
pub index-own : (entries : List RecGroupEntry) (top : ℕ) (entry : RecGroupEntry) (place : ℕ) (i : VMSharedTypeIndex) → HasIndex entries top entry place i
    → is_own_at entry.hash_consing_key.types place ≡ true → Some i ≡ trampoline_index (made_by entries) i
index-own entries top entry place i has own =
    let made = made_by entries in
    let closed = closed_at entries entry place in
    let member = member-at entries top entry place i has in
    let t = number_sub member.start member.ty in
    let is : is_own_trampoline t ≡ true =
    is_own_trampoline-numbered member.start member.ty ∙ ap (λ found. unwrap_or (option_map is_own_trampoline found) false) (sym member.key) ∙ own in
    sym (index-by_member entries top entry place i has t member.numbered
    ∙ ap (λ b. option_and_then (index_of made) (cond b (Some closed) (option_map (λ other. record { tree = trampoline_tree other; place = 0 }) (trampoline_of_shape t.composite_type)))) is
    ∙ index_of-closed entries top has.keys i (entry.number, place) has.located)

-- another is told
pub index-told : (entries : List RecGroupEntry) (top : ℕ) (entry : RecGroupEntry) (place : ℕ) (i : VMSharedTypeIndex) → HasIndex entries top entry place i
    → is_own_at entry.hash_consing_key.types place ≡ false → option_and_then (first_of entries) (told_at entry.trampolines place) ≡ trampoline_index (made_by entries) i
index-told entries top entry place i has other =
    ap (λ found. option_and_then (first_of entries) (option_and_then (λ (t : Option ℕ). t) found)) told.is
    ∙ by (other_trampoline t) told.here told.tells
    ∙ sym (ap (λ found. option_and_then (index_of made) (option_map alone found)) others)
    ∙ sym (index-by_member entries top entry place i has t member.numbered
    ∙ ap (λ b. option_and_then (index_of made) (cond b (Some closed) (option_map alone (trampoline_of_shape t.composite_type)))) not_own)
  where
    made : List RegisteredGroup
    made = made_by entries

    closed : ClosedTree
    closed = closed_at entries entry place

    alone : WasmSubType → ClosedTree
    alone member = record { tree = trampoline_tree member; place = 0 }

    member : MemberAt entries entry place i
    member = member-at entries top entry place i has

    t : WasmSubType
    t = number_sub member.start member.ty

    not_own : is_own_trampoline t ≡ false
    not_own = is_own_trampoline-numbered member.start member.ty ∙ ap (λ found. unwrap_or (option_map is_own_trampoline found) false) (sym member.key) ∙ other

    others : trampoline_of_shape t.composite_type ≡ other_trampoline t
    others = sym (ap (λ b. cond b None (trampoline_of_shape t.composite_type)) not_own)

    told : ToldAt made entry.trampolines place t
    told = tell-at made (made_of entry).description.members entry.trampolines place t (has.keys.keys entry has.among).trampolines member.numbered

    by : (m : Option WasmSubType) (here : Option ℕ) → TellsTrampoline made m here
        → option_and_then (first_of entries) here ≡ option_and_then (index_of made) (option_map alone m)
    by None None tells = refl
    by None (Some n) tells = absurd tells
    by (Some m) None tells = absurd tells
    by (Some m) (Some n) tells =
        let found = trampoline-found entries top has.keys m n tells in
        first_of-group entries top has.keys found.0 n found.2 found.3
        ∙ sym (ap (option_and_then (λ (g : RegisteredGroup). slice_get g.indices 0)) found.1)

-- ---- exactly the functions have a trampoline

abbrev alone_of : WasmSubType → ClosedTree
alone_of member = record { tree = trampoline_tree member; place = 0 }

-- a function has one, and another type has none
shape-function : (s : WasmCompositeInnerType) → is_function_kind (kind_of s) ≡ true → (m : WasmSubType) × (trampoline_of_shape s ≡ Some m)
shape-function (shape.Func f) is = (trampoline_member f, refl)
shape-function (shape.Struct s) is = absurd (false≢true is)
shape-function (shape.Array a) is = absurd (false≢true is)
shape-function (shape.Exn e) is = absurd (false≢true is)
shape-function (shape.Cont c) is = absurd (false≢true is)

without : {A : Type 0} (b : Bool) (x : A) → cond (b && false) (Some x) None ≡ None
without true x = refl
without false x = refl

some-shape : (closed : ClosedTree) (b : Bool) (s : WasmCompositeInnerType) (u : ClosedTree)
    → cond (b && is_erased_shape s) (Some closed) (option_map (λ member. record { tree = trampoline_tree member; place = 0 }) (trampoline_of_shape s)) ≡ Some u
    → is_function_kind (kind_of s) ≡ true
some-shape closed b (shape.Func f) u is = refl
some-shape closed b (shape.Struct s) u is = let none = without b closed in absurd (cc)
some-shape closed b (shape.Array a) u is = let none = without b closed in absurd (cc)
some-shape closed b (shape.Exn e) u is = let none = without b closed in absurd (cc)
some-shape closed b (shape.Cont c) u is = let none = without b closed in absurd (cc)

some_is : {A : Type 0} (found : Option A) (x : A) → found ≡ Some x → is_some found ≡ true
some_is found x is = ap is_some is

is_some_at : {A : Type 0} (found : Option A) → is_some found ≡ true → (x : A) × (found ≡ Some x)
is_some_at None is = absurd (false≢true is)
is_some_at (Some x) is = (x, refl)

-- an index at which a registered group has it is that of an entry
record EntryAt (entries : List RecGroupEntry) (top : ℕ) (g : RegisteredGroup) (place : ℕ) (i : VMSharedTypeIndex) : Type 0 where
  entry : RecGroupEntry
  is : g ≡ made_of entry
  has : HasIndex entries top entry place i

entry-at : (entries : List RecGroupEntry) (top : ℕ) → AreKeys entries top → (g : RegisteredGroup) (place : ℕ) (i : VMSharedTypeIndex) → Among g (made_by entries) → slice_get g.indices place ≡ Some i
    → EntryAt entries top g place i
entry-at entries top keys g place i at is =
    let named = among_map made_of entries g at in
    let number = ap (λ (m : RegisteredGroup). Some (m.number, place)) named.2 in
    record {
      entry = named.0;
      is = named.2;
      has = record { keys = keys; among = named.1; located = keys.located g place i at is ∙ number };
    }

-- the first index of a trampoline's group
first-alone : (entries : List RecGroupEntry) (top : ℕ) → AreKeys entries top → (m : WasmSubType) (n : ℕ) → IsTrampoline (made_by entries) m n
    → (j : VMSharedTypeIndex) × (index_of (made_by entries) (alone_of m) ≡ Some j)
first-alone entries top keys m n tells =
    let found = trampoline-found entries top keys m n tells in
    let same = one_number 0 top (made_by entries) found.0 tells.0 keys.rising found.2 tells.1 (found.3 ∙ sym tells.2) in
    let long = indexed entries top keys found.0 found.2 in
    let one : length (found.0).description.members ≡ 1 = ap (λ (g : RegisteredGroup). length g.description.members) same ∙ ap (λ (d : Description). length d.members) tells.3 in
    let first = get_within (found.0).indices 0 (omega (arith, long, one)) in
    (first.0, ap (option_and_then (λ (g : RegisteredGroup). slice_get g.indices 0)) found.1 ∙ first.1)

-- an index of a function has a trampoline
pub function-trampoline : (entries : List RecGroupEntry) (top : ℕ) → AreKeys entries top → (i : VMSharedTypeIndex) → IsFunctionIndex (made_by entries) i
    → is_some (trampoline_index (made_by entries) i) ≡ true
function-trampoline entries top keys i is = by (is_own_trampoline t) refl
  where
    made : List RegisteredGroup
    made = made_by entries

    place : ℕ
    place = is.1

    t : WasmSubType
    t = is.2

    it : EntryAt entries top is.0 place i
    it = entry-at entries top keys is.0 place i is.3 is.4

    closed : ClosedTree
    closed = closed_at entries it.entry place

    at : slice_get (made_of it.entry).description.members place ≡ Some t
    at = ap (λ (g : RegisteredGroup). slice_get g.description.members place) (sym it.is) ∙ is.5

    whole : trampoline_index made i ≡ option_and_then (index_of made) (trampoline_at closed t)
    whole = index-by_member entries top it.entry place i it.has t at

    member : (m : WasmSubType) × (trampoline_of_shape t.composite_type ≡ Some m)
    member = shape-function t.composite_type is.6

    told : ToldAt made it.entry.trampolines place t
    told = tell-at made (made_of it.entry).description.members it.entry.trampolines place t (keys.keys it.entry it.has.among).trampolines at

    index : (m : Option WasmSubType) (here : Option ℕ) → TellsTrampoline made m here → m ≡ Some member.0 → (j : VMSharedTypeIndex) × (index_of made (alone_of member.0) ≡ Some j)
    index None here tells same = absurd (cc)
    index (Some m) None tells same = absurd tells
    index (Some m) (Some n) tells same = subst (λ (u : WasmSubType). (j : VMSharedTypeIndex) × (index_of made (alone_of u) ≡ Some j)) (some_same same) (first-alone entries top keys m n tells)

    by : (own : Bool) → is_own_trampoline t ≡ own → is_some (trampoline_index made i) ≡ true
    by true own =
        some_is (trampoline_index made i) i
        (whole
        ∙ ap (λ b. option_and_then (index_of made) (cond b (Some closed) (option_map (λ other. record { tree = trampoline_tree other; place = 0 }) (trampoline_of_shape t.composite_type)))) own
        ∙ index_of-closed entries top keys i (it.entry.number, place) it.has.located)
    by false own =
        let other : other_trampoline t ≡ Some member.0 = ap (λ b. cond b None (trampoline_of_shape t.composite_type)) own ∙ member.1 in
        let first = index (other_trampoline t) told.here told.tells other in
        some_is (trampoline_index made i) first.0
        (whole
        ∙ ap (λ b. option_and_then (index_of made) (cond b (Some closed) (option_map (λ other. record { tree = trampoline_tree other; place = 0 }) (trampoline_of_shape t.composite_type)))) own
        ∙ ap (λ found. option_and_then (index_of made) (option_map (λ other. record { tree = trampoline_tree other; place = 0 }) found)) member.1
        ∙ first.1)

-- and what has a trampoline is an index of a function
pub trampoline-function : (entries : List RecGroupEntry) (top : ℕ) → AreKeys entries top → (i : VMSharedTypeIndex) → is_some (trampoline_index (made_by entries) i) ≡ true
    → IsFunctionIndex (made_by entries) i
trampoline-function entries top keys i is =
    located (locate made i) refl
  where
    made : List RegisteredGroup
    made = made_by entries

    some : (j : VMSharedTypeIndex) × (trampoline_index made i ≡ Some j)
    some = is_some_at (trampoline_index made i) is

    located : (at : Option (ℕ × ℕ)) → locate made i ≡ at → IsFunctionIndex made i
    located None none =
        let nothing = ap (λ at. option_and_then (index_of made) (option_and_then trampoline (option_map (λ (at : ℕ × ℕ). record { tree = trees made at.0; place = at.1 }) at))) none in
        absurd (false≢true (sym (ap is_some nothing) ∙ is))
    located (Some at) there =
        let here = locate-at made i at there in
        let it = entry-at entries top keys here.group at.1 i here.among here.place in
        let member = member-at entries top it.entry at.1 i it.has in
        let t = number_sub member.start member.ty in
        let closed = closed_at entries it.entry at.1 in
        let whole = sym (index-by_member entries top it.entry at.1 i it.has t member.numbered) ∙ some.1 in
        option_and_then_some (index_of made) (trampoline_at closed t) some.0 whole (λ u chosen enters. (
          here.group,
          at.1,
          t,
          here.among,
          here.place,
          ap (λ (g : RegisteredGroup). slice_get g.description.members at.1) it.is ∙ member.numbered,
          some-shape closed (t.is_final && is_none t.supertype) t.composite_type u chosen,
        ))
