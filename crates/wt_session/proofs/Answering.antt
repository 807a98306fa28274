-- A refused command changes nothing, and each command of a run is answered.
use Rattle.std.proofs.Common.{◌≡◌, ◌≤◌, ℕ, nat_lt, zero, suc, ◌+◌, ◌<◌, ◌⊎◌, inl, inr, true, false, List, [], ◌∷◌, ◌++◌, length, map, take, get_or, slice_get, slice_set, Option, Some, None, option_map, option_and_then, IsSome, Result, Ok, Err, IfOk, refl, sym, ap, subst, ◌∙◌, arith}
use Rattle.std.proofs.lemmas.Bool.{false≢true}
use Rattle.wt_env.specs.declared.types.VMSharedTypeIndex.{VMSharedTypeIndex}
use Rattle.wt_env.specs.declared.limits.Limit.TheVariants.{Parties}
use Rattle.wt_env.specs.declared.memory.OutOfMemory.{OutOfMemory}
use Rattle.wt_tree.specs.Tree.{ClosedTree}
use Rattle.wt_tree.specs.Subtyping.{TellsSteps}
use Rattle.wt_model.specs.declared.refusal.Full.{Full}
use Rattle.wt_model.specs.declared.refusal.BuildRefusal.{BuildRefusal}
use Rattle.wt_registry.specs.Registered.{RegisteredGroup, Registry}
use Rattle.wt_registry.specs.Holds.{Hold, root, hold as held}
use Rattle.wt_registry.specs.Indices.{locate, closed_tree}
use Rattle.wt_registry.specs.Holds.{Collection}
use Rattle.wt_registry.specs.Registration.{register_one, register_groups}
use Rattle.wt_registry.specs.Removal.{drop_hold}
use Rattle.wt_registry.specs.Sound.{OneIndexPerTree, IsSound}
use Rattle.wt_model.specs.Trees.{trees}
use Rattle.wt_model.specs.Trampolines.{trampoline_index}
use Rattle.wt_model.specs.Subtyping.{is_subtype_index}
use Rattle.wt_commands.specs.declared.command.NamedType.{NamedType}
use Rattle.wt_commands.specs.declared.host_type.HostSub.{HostSub}
use Rattle.wt_commands.specs.declared.host_type.HostVal.{HostVal}
use Rattle.wt_commands.specs.declared.command.Command.{Command}
use Rattle.wt_commands.specs.declared.command.Command.TheVariants as command
use Rattle.wt_session.specs.declared.counts.ObjectCounts.{ObjectCounts}
use Rattle.wt_session.specs.declared.handle.Handle.{Handle}
use Rattle.wt_session.specs.declared.reply.Refusal.{Refusal}
use Rattle.wt_session.specs.declared.reply.Refusal.TheVariants as refusal
use Rattle.wt_session.specs.declared.reply.Reply.{Reply}
use Rattle.wt_session.specs.declared.reply.Reply.TheVariants as reply
use Rattle.wt_types.specs.CoreTexts.{text_at}
use Rattle.wt_session.specs.World.{World, row_of, type_at, debt_at, module_at, index_named, HasExactlyReached, HoldsNamedTypes}
use Rattle.wt_commands.specs.Commands.{party_of}
use Rattle.wt_session.specs.HostTypes.{type_named, names_in_val, missing_name, described}
use Rattle.wt_session.specs.Run.{PartyOutcome, type_made, type_described, held_again, clone_made, root_made, hold_ended, type_dropped, debt_swept, module_made, module_released, trampoline_told, subtype_told, missing_in_vals, matches_told, text_told, full_of_parties, party_outcome, counts_after, done_by, world_after}
use Rattle.wt_session.proofs.HostTypes.{val-known}
use Rattle.wt_session.proofs.MissingNames.{none-missing}
use Rattle.wt_session.proofs.BuildChecks.{not_below, step-checked}
use Rattle.wt_session.specs.Answered.{own_row, check_of, trees_asked, index_of, is_refusal, TellsCheck, NamesTrees, TellsTest, TellsMatch, TellsText, IsAnswered, AreAnswered}

-- ---- a refusal tells no trees

pub refusal-names : (made : List RegisteredGroup) (told : Reply) (trees : Option (List ClosedTree)) → is_refusal told ≡ true → NamesTrees made told trees
refusal-names made told None refuses = tt
refusal-names made told (Some trees) refuses = λ accepts. absurd (false≢true (sym accepts ∙ refuses))

-- ---- a refused command changes nothing

abbrev IsUnchanged : Registry → List Handle → PartyOutcome → Type 0
IsUnchanged registry row outcome = is_refusal outcome.reply ≡ true → (outcome.registry ≡ registry) × (outcome.row ≡ row)

accepted : {P : Type 0} → false ≡ true → P
accepted refuses = absurd (false≢true refuses)

type_made-unchanged : (registry : Registry) (row : List Handle) (made : Result (Hold × Registry) BuildRefusal) → IsUnchanged registry row (type_made registry row made)
type_made-unchanged registry row (Ok made) = accepted
type_made-unchanged registry row (Err cause) = λ refuses. (refl, refl)

type_described-unchanged : (registry : Registry) (row : List Handle) (party : ℕ) (sub : HostSub) (name : Option NamedType) → IsUnchanged registry row (type_described registry row party sub name)
type_described-unchanged registry row party sub (Some name) = λ refuses. (refl, refl)
type_described-unchanged registry row party sub None = type_made-unchanged registry row (register_one registry party (described registry.made row sub))

held_again-unchanged : (registry : Registry) (row : List Handle) (hold : Hold) (after : Result Registry Full) → IsUnchanged registry row (held_again registry row hold after)
held_again-unchanged registry row hold (Ok after) = accepted
held_again-unchanged registry row hold (Err full) = λ refuses. (refl, refl)

clone_made-unchanged : (registry : Registry) (row : List Handle) (party place : ℕ) (hold : Option Hold) → IsUnchanged registry row (clone_made registry row party place hold)
clone_made-unchanged registry row party place (Some hold) = held_again-unchanged registry row hold (held registry party hold.number)
clone_made-unchanged registry row party place None = λ refuses. (refl, refl)

root_made-unchanged : (registry : Registry) (row : List Handle) (found : Result (Option Hold × Registry) Full) → IsUnchanged registry row (root_made registry row found)
root_made-unchanged registry row (Ok (Some hold, after)) = accepted
root_made-unchanged registry row (Ok (None, after)) = accepted
root_made-unchanged registry row (Err full) = λ refuses. (refl, refl)

hold_ended-unchanged : (registry : Registry) (row : List Handle) (place : ℕ) (ended : Option ℕ × Registry) → IsUnchanged registry row (hold_ended row place ended)
hold_ended-unchanged registry row place (Some number, after) = accepted
hold_ended-unchanged registry row place (None, after) = accepted

type_dropped-unchanged : (registry : Registry) (row : List Handle) (party place : ℕ) (hold : Option Hold) → IsUnchanged registry row (type_dropped registry row party place hold)
type_dropped-unchanged registry row party place (Some hold) = hold_ended-unchanged registry row place (drop_hold registry party hold.number)
type_dropped-unchanged registry row party place None = λ refuses. (refl, refl)

debt_swept-unchanged : (registry : Registry) (row : List Handle) (party place : ℕ) (debt : Option ℕ) → IsUnchanged registry row (debt_swept registry row party place debt)
debt_swept-unchanged registry row party place (Some number) = accepted
debt_swept-unchanged registry row party place None = λ refuses. (refl, refl)

module_made-unchanged : (registry : Registry) (row : List Handle) (made : Result (Collection × Registry) BuildRefusal) → IsUnchanged registry row (module_made registry row made)
module_made-unchanged registry row (Ok made) = accepted
module_made-unchanged registry row (Err cause) = λ refuses. (refl, refl)

module_released-unchanged : (registry : Registry) (row : List Handle) (party place : ℕ) (types : Option Collection) → IsUnchanged registry row (module_released registry row party place types)
module_released-unchanged registry row party place (Some types) = accepted
module_released-unchanged registry row party place None = λ refuses. (refl, refl)

trampoline_told-unchanged : (registry : Registry) (row : List Handle) (party : ℕ) (ty : NamedType) (index : Option VMSharedTypeIndex) → IsUnchanged registry row (trampoline_told registry row party ty index)
trampoline_told-unchanged registry row party ty (Some index) = accepted
trampoline_told-unchanged registry row party ty None = λ refuses. (refl, refl)

subtype_told-unchanged : (registry : Registry) (row : List Handle) (party : ℕ) (sub sup : NamedType) (lower upper : Option VMSharedTypeIndex) → IsUnchanged registry row (subtype_told registry row party sub sup lower upper)
subtype_told-unchanged registry row party sub sup None upper = λ refuses. (refl, refl)
subtype_told-unchanged registry row party sub sup (Some i) None = λ refuses. (refl, refl)
subtype_told-unchanged registry row party sub sup (Some i) (Some j) = accepted

matches_told-unchanged : (registry : Registry) (row : List Handle) (party : ℕ) (a b : HostVal) (name : Option NamedType) → IsUnchanged registry row (matches_told registry row party a b name)
matches_told-unchanged registry row party a b (Some name) = λ refuses. (refl, refl)
matches_told-unchanged registry row party a b None = accepted

text_told-unchanged : (registry : Registry) (row : List Handle) (party : ℕ) (name : NamedType) (ty : Option (List ℕ)) → IsUnchanged registry row (text_told registry row party name ty)
text_told-unchanged registry row party name (Some ty) = accepted
text_told-unchanged registry row party name None = λ refuses. (refl, refl)

outcome-unchanged : (registry : Registry) (row : List Handle) (command : Command) → IsUnchanged registry row (party_outcome registry row command)
outcome-unchanged registry row (command.HostType by sub) = type_described-unchanged registry row by sub (missing_name registry.made row sub)
outcome-unchanged registry row (command.Module by types) = module_made-unchanged registry row (register_groups registry by types.groups)
outcome-unchanged registry row (command.Clone by place) = clone_made-unchanged registry row by place (type_at row place)
outcome-unchanged registry row (command.Root by index) = root_made-unchanged registry row (root registry by (index_of index))
outcome-unchanged registry row (command.Drop by place) = type_dropped-unchanged registry row by place (type_at row place)
outcome-unchanged registry row (command.Sweep by place) = debt_swept-unchanged registry row by place (debt_at row place)
outcome-unchanged registry row (command.Release by place) = module_released-unchanged registry row by place (module_at row place)
outcome-unchanged registry row (command.Trampoline by ty) = trampoline_told-unchanged registry row by ty (option_and_then (trampoline_index registry.made) (index_named row ty))
outcome-unchanged registry row (command.Subtype by sub sup) = subtype_told-unchanged registry row by sub sup (index_named row sub) (index_named row sup)
outcome-unchanged registry row (command.Matches by a b) = matches_told-unchanged registry row by a b (missing_in_vals registry row a b)
outcome-unchanged registry row (command.Show by ty) = text_told-unchanged registry row by ty (option_and_then (text_at registry.made) (index_named row ty))
outcome-unchanged registry row (command.Live by) = accepted

counts-unchanged : (told : Reply) (counts : ObjectCounts) → is_refusal told ≡ true → counts_after told counts ≡ counts
counts-unchanged (reply.Module place indices) counts refuses = accepted refuses
counts-unchanged other counts refuses = refl

set-own_row : (handles : List (List Handle)) (party : ℕ) → slice_set handles party (row_of party handles) ≡ handles
set-own_row [] party = refl
set-own_row (row ∷ rows) zero = refl
set-own_row (row ∷ rows) (suc party) = ap (λ (rest : List (List Handle)). row ∷ rest) (set-own_row rows party)

done-unchanged : (world : World) (command : Command) → is_refusal (done_by world command).0 ≡ true → (done_by world command).1 ≡ world
done-unchanged world command refuses =
    let party = party_of command in
    let outcome : PartyOutcome = party_outcome world.registry (row_of party world.handles) command in
    let same = outcome-unchanged world.registry (row_of party world.handles) command refuses in
    let rows = ap (slice_set world.handles party) same.1 ∙ set-own_row world.handles party in
    let counts = counts-unchanged outcome.reply world.counts refuses in
    λ i. record { registry = same.0 i; handles = rows i; counts = counts i }

-- ---- an answer to a subtype test tells the steps between the types that are named

-- the test by indices tells the steps
abbrev pub TestTells : List RegisteredGroup → Type 0
TestTells made = (i j : VMSharedTypeIndex) → TellsSteps (closed_tree made) i j (is_subtype_index made i j)

-- what has one image has any
mapped : {A B C : Type 0} (f : A → B) (g : A → C) (o : Option A) (b : B) → option_map f o ≡ Some b → IsSome (option_map g o)
mapped f g (Some a) b is = refl
mapped f g None b is = absurd (cc)

-- what the party names has a closed tree
named-closed : (world : World) (party : ℕ) (ty : NamedType) (i : VMSharedTypeIndex) → HoldsNamedTypes world → index_named (row_of party world.handles) ty ≡ Some i → IsSome (closed_tree world.registry.made i)
named-closed world party ty i holds is =
    let held = holds party ty i is in
    mapped (λ (at : ℕ × ℕ). at.0) (λ (at : ℕ × ℕ). record { tree = trees world.registry.made at.0; place = at.1 }) (locate world.registry.made i) held.0 held.2

-- a refusal tells no steps
refusal-tests : (made : List RegisteredGroup) (row : List Handle) (command : Command) (why : Refusal) → TellsTest made row command (reply.Refused why)
refusal-tests made row (command.Subtype by sub sup) why = tt
refusal-tests made row other why = tt

-- what is told of two names, each of which may name nothing
told-tests : (world : World) (by : ℕ) (sub sup : NamedType) (lower upper : Option VMSharedTypeIndex) → TestTells world.registry.made → HoldsNamedTypes world
    → index_named (row_of by world.handles) sub ≡ lower → index_named (row_of by world.handles) sup ≡ upper
    → TellsTest world.registry.made (row_of by world.handles) (command.Subtype by sub sup) (subtype_told world.registry (row_of by world.handles) by sub sup lower upper).reply
told-tests world by sub sup None upper tells holds first second = tt
told-tests world by sub sup (Some i) None tells holds first second = tt
told-tests world by sub sup (Some i) (Some j) tells holds first second = record {
  lower = i;
  upper = j;
  names_lower = first;
  names_upper = second;
  has_lower = named-closed world by sub i holds first;
  has_upper = named-closed world by sup j holds second;
  steps = tells i j;
}

-- the outcome of any command, which has steps to tell only of a subtype test
outcome-tests : (world : World) (command : Command) → TestTells world.registry.made → HoldsNamedTypes world
    → TellsTest world.registry.made (row_of (party_of command) world.handles) command (party_outcome world.registry (row_of (party_of command) world.handles) command).reply
outcome-tests world (command.Subtype by sub sup) tells holds =
    let row = row_of by world.handles in
    told-tests world by sub sup (index_named row sub) (index_named row sup) tells holds refl refl
outcome-tests world other tells holds = tt

-- ---- an answer to a match tells whether the first value type that is named matches the second

refusal-matches : (made : List RegisteredGroup) (row : List Handle) (command : Command) (why : Refusal) → TellsMatch made row command (reply.Refused why)
refusal-matches made row (command.Matches by a b) why = tt
refusal-matches made row other why = tt

told-matches : (registry : Registry) (row : List Handle) (by : ℕ) (a b : HostVal) (name : Option NamedType) → IsSound registry → missing_in_vals registry row a b ≡ name
    → TellsMatch registry.made row (command.Matches by a b) (matches_told registry row by a b name).reply
told-matches registry row by a b (Some name) sound is = tt
told-matches registry row by a b None sound is =
    let none = none-missing (type_named registry.made row) (names_in_val a) (names_in_val b) is in
    record {
      named_first = none.0;
      named_second = none.1;
      known_first = val-known registry row sound a none.0;
      known_second = val-known registry row sound b none.1;
      fits = refl;
    }

outcome-matches : (registry : Registry) (row : List Handle) (command : Command) → IsSound registry → TellsMatch registry.made row command (party_outcome registry row command).reply
outcome-matches registry row (command.Matches by a b) sound = told-matches registry row by a b (missing_in_vals registry row a b) sound refl
outcome-matches registry row other sound = tt

-- ---- what is shown is the text of the type that is named

refusal-texts : (made : List RegisteredGroup) (row : List Handle) (command : Command) (why : Refusal) → TellsText made row command (reply.Refused why)
refusal-texts made row (command.Show by name) why = tt
refusal-texts made row other why = tt

told-texts : (registry : Registry) (row : List Handle) (by : ℕ) (name : NamedType) (index : Option VMSharedTypeIndex) (text : Option (List ℕ))
    → index_named row name ≡ index → option_and_then (text_at registry.made) index ≡ text → TellsText registry.made row (command.Show by name) (text_told registry row by name text).reply
told-texts registry row by name index None named found = tt
told-texts registry row by name None (Some text) named found = absurd (cc)
told-texts registry row by name (Some i) (Some text) named found = record { index = i; named = named; text = found }

outcome-texts : (registry : Registry) (row : List Handle) (command : Command) → TellsText registry.made row command (party_outcome registry row command).reply
outcome-texts registry row (command.Show by name) = told-texts registry row by name (index_named row name) (option_and_then (text_at registry.made) (index_named row name)) refl refl
outcome-texts registry row other = tt

-- ---- one command is answered

pub refused-answered : (world : World) (command : Command) (party bound : ℕ) → party ≡ party_of command → bound ≡ world.registry.engine.limits.parties → bound ≤ party → OneIndexPerTree world.registry.made → HasExactlyReached world
    → IsAnswered world command (reply.Refused (refusal.Full (record { limit = Parties; bound = bound; wanted = party + 1 }))) world
refused-answered world command party bound by is past one reached =
    let told = full_of_parties world (party_of command) in
    let full : full_of_parties world (party_of command) ≡ record { limit = Parties; bound = bound; wanted = party + 1 } = λ i. record { limit = Parties; bound = (sym is) i; wanted = (sym by) i + 1 } in
    subst (λ (f : Full). IsAnswered world command (reply.Refused (refusal.Full f)) world) full (record {
      accepted = λ asked has. step-checked world command asked false (not_below (party_of command) world.registry.engine.limits.parties (omega (arith, by, is, past))) has;
      named = refusal-names world.registry.made (reply.Refused (refusal.Full told)) (trees_asked world.registry (own_row world command) command) refl;
      subtypes = refusal-tests world.registry.made (own_row world command) command (refusal.Full told);
      matches = refusal-matches world.registry.made (own_row world command) command (refusal.Full told);
      texts = refusal-texts world.registry.made (own_row world command) command (refusal.Full told);
      unchanged = λ again. refl;
      one_index = one;
      reached = reached;
    })

pub done-answered : (before after : World) (command : Command) (result : Result Reply OutOfMemory) → nat_lt (party_of command) before.registry.engine.limits.parties ≡ true
    → IfOk result (λ told. NamesTrees after.registry.made told (trees_asked before.registry (own_row before command) command))
    → IfOk result (λ told. done_by before command ≡ (told, after)) → IsSound before.registry → TestTells before.registry.made → HoldsNamedTypes before → OneIndexPerTree after.registry.made → HasExactlyReached after → IfOk result (λ told. IsAnswered before command told after)
done-answered before after command (Ok told) below named done sound tells holds one reached = record {
  accepted = λ asked is. subst (λ (p : Reply × World). TellsCheck p.0 (check_of before asked)) done (step-checked before command asked true below is);
  named = named;
  subtypes =
      let row = row_of (party_of command) before.handles in
      subst (λ (p : Reply × World). TellsTest before.registry.made row command p.0) done (outcome-tests before command tells holds);
  matches =
      let row = own_row before command in
      subst (λ (p : Reply × World). TellsMatch before.registry.made row command p.0) done (outcome-matches before.registry row command sound);
  texts =
      let row = own_row before command in
      subst (λ (p : Reply × World). TellsText before.registry.made row command p.0) done (outcome-texts before.registry row command);
  unchanged = λ refuses.
      sym (ap (λ (p : Reply × World). p.1) done)
      ∙ done-unchanged before command (ap (λ (p : Reply × World). is_refusal p.0) done ∙ refuses);
  one_index = one;
  reached = reached;
}
done-answered before after command (Err none) below named done sound tells holds one reached = tt

-- ---- the indices of a module

again : (indices : List VMSharedTypeIndex) → map index_of (map (λ i. i.0) indices) ≡ indices
again [] = refl
again (i ∷ indices) = ap (λ (rest : List VMSharedTypeIndex). i ∷ rest) (again indices)

pub module-names : (made : List RegisteredGroup) (place : ℕ) (indices : List VMSharedTypeIndex) (trees : List ClosedTree) → map (closed_tree made) indices ≡ map Some trees
    → NamesTrees made (reply.Module place (map (λ i. i.0) indices)) (Some trees)
module-names made place indices trees named = λ accepts. (indices, ap (λ (told : List VMSharedTypeIndex). Some told) (again indices), named)

pub type-names : (made : List RegisteredGroup) (place : ℕ) (index : VMSharedTypeIndex) (trees : List ClosedTree) → closed_tree made index ∷ [] ≡ map Some trees → NamesTrees made (reply.TypeMade place index.0) (Some trees)
type-names made place index trees named = λ accepts. (index ∷ [], refl, named)

-- ---- each command of a run is answered

pub got-read : (commands : List Command) (n : ℕ) (command : Command) → n < length commands → command ≡ get_or commands n command → slice_get commands n ≡ Some command
got-read [] n command below is = absurd (omega arith)
got-read (first ∷ commands) zero command below is = ap (λ (c : Command). Some c) (sym is)
got-read (first ∷ commands) (suc n) command below is = got-read commands n command (omega arith) is

same_reply : (a b : Reply) → Some a ≡ Some b → a ≡ b
same_reply a b h = cc

same_command : (a b : Command) → Some a ≡ Some b → a ≡ b
same_command a b h = cc

no_reply : (told : Reply) → None ≡ Some told → ⊥
no_reply told h = absurd (cc)

-- a reply of a list with one more is of that list, or the one
got-pushed : (replies : List Reply) (last told : Reply) (n : ℕ) → slice_get (replies ++ last ∷ []) n ≡ Some told → (slice_get replies n ≡ Some told) ⊎ ((n ≡ length replies) × (told ≡ last))
got-pushed [] last told zero got = inr (refl, sym (same_reply last told got))
got-pushed [] last told (suc n) got = absurd (no_reply told got)
got-pushed (first ∷ replies) last told zero got = inl got
got-pushed (first ∷ replies) last told (suc n) got = elim (got-pushed replies last told n got) [
  | inl there ↦ inl there
  | inr here ↦ inr (next here.0, here.1)
]
  where
    next : n ≡ length replies → suc n ≡ length (first ∷ replies)
    next same = omega (arith, same)

none-past : (replies : List Reply) (told : Reply) (n : ℕ) → slice_get replies (length replies + n) ≡ Some told → ⊥
none-past [] told n got = no_reply told got
none-past (first ∷ replies) told n got =
    let next : suc (length replies + n) ≡ length (first ∷ replies) + n = omega arith in
    none-past replies told n (ap (λ (m : ℕ). slice_get (first ∷ replies) m) next ∙ got)

pub answered-none : (before : World) (commands : List Command) (replies : List Reply) → AreAnswered before commands (length replies) replies
answered-none before commands replies n command told asked got = absurd (none-past replies told n got)

pub answered-more : (before mid after : World) (commands : List Command) (k others : ℕ) (replies : List Reply) (command : Command) (told : Reply) → length replies ≡ others + k → slice_get commands k ≡ Some command
    → mid ≡ world_after before (take k commands) → after ≡ world_after before (take (k + 1) commands) → IsAnswered mid command told after → AreAnswered before commands others replies
    → AreAnswered before commands others (replies ++ told ∷ [])
answered-more before mid after commands k others replies command told long asked from to is earlier n asks tells wants got = elim (got-pushed replies told tells (others + n) got) [
  | inl there ↦ earlier n asks tells wants there
  | inr here ↦ last (omega (arith, long, here.0)) here.1
]
  where
    last : n ≡ k → tells ≡ told → IsAnswered (world_after before (take n commands)) asks tells (world_after before (take (n + 1) commands))
    last same said =
        let one : asks ≡ command = same_command asks command (sym wants ∙ ap (slice_get commands) same ∙ asked) in
        let worlds = subst (λ (w : World). IsAnswered w command told (world_after before (take (k + 1) commands))) from (subst (λ (w : World). IsAnswered mid command told w) to is) in
        subst (λ (m : ℕ). IsAnswered (world_after before (take m commands)) asks tells (world_after before (take (m + 1) commands))) (sym same)
        (subst (λ (c : Command). IsAnswered (world_after before (take k commands)) c tells (world_after before (take (k + 1) commands))) (sym one)
        (subst (λ (r : Reply). IsAnswered (world_after before (take k commands)) command r (world_after before (take (k + 1) commands))) (sym said) worlds))
