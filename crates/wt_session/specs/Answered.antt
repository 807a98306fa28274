-- What a session answers to a registration, by the build checks and in the words of closed trees, what it answers to a
-- test of types and of what it is asked to show, and what a refusal leaves.
use Rattle.std.specs.Prelude.{◌≡◌, ℕ, ◌+◌, List, [], ◌∷◌, map, take, slice_get, Bool, true, false, nat_lt, if◌then◌else◌, Option, Some, None, option_map, IsSome}
use Rattle.std.specs.Option.{option_or}
use Rattle.wt_env.specs.declared.limits.Limit.TheVariants.{Parties}
use Rattle.wt_env.specs.declared.types.Kind.{Kind}
use Rattle.wt_env.specs.declared.types.VMSharedTypeIndex.{VMSharedTypeIndex}
use Rattle.wt_tree.specs.Tree.{ClosedTree}
use Rattle.wt_tree.specs.Kinds.{kinded_val, indices_of as type_indices_of}
use Rattle.wt_tree.specs.Subtyping.{TellsSteps}
use Rattle.wt_tree.specs.Fit.{AreKnown, named_by, val_fits}
use Rattle.wt_model.specs.declared.refusal.BuildRefusal.{BuildRefusal}
use Rattle.wt_model.specs.declared.refusal.BuildRefusal.TheVariants as why
use Rattle.wt_registry.specs.Registered.{RegisteredGroup, Registry}
use Rattle.wt_registry.specs.Indices.{closed_tree}
use Rattle.wt_registry.specs.Registration.{Registration, trees_of, module_groups, registration_refusal}
use Rattle.wt_registry.specs.Sound.{OneIndexPerTree}
use Rattle.wt_commands.specs.declared.command.NamedType.{NamedType}
use Rattle.wt_commands.specs.declared.command.Command.{Command}
use Rattle.wt_commands.specs.declared.command.Command.TheVariants as command
use Rattle.wt_commands.specs.declared.host_type.HostVal.{HostVal}
use Rattle.wt_session.specs.declared.handle.Handle.{Handle}
use Rattle.wt_session.specs.declared.reply.Refusal.{Refusal}
use Rattle.wt_session.specs.declared.reply.Refusal.TheVariants as refusal
use Rattle.wt_session.specs.declared.reply.Reply.{Reply}
use Rattle.wt_session.specs.declared.reply.Reply.TheVariants as reply
use Rattle.wt_session.specs.World.{World, row_of, index_named, HasExactlyReached}
use Rattle.wt_commands.specs.Commands.{party_of}
use Rattle.wt_session.specs.HostTypes.{type_named, val_of, names_in_val, names_in, first_missing, described}
use Rattle.wt_types.specs.CoreTexts.{text_at}
use Rattle.wt_session.specs.Run.{no_such_type, world_after}

-- ---- registrations

-- A registration as a command asks for it: the party whose command it is, the names in it, in order and each with the
-- kind that its place needs, and what is to be registered, over what these name.
pub record RegistrationCommand : Type 0 where
  pub party : ℕ
  pub names : List (Option Kind × NamedType)
  pub registration : Registration

-- why a registration of a command is refused: a party's name is missing, or what registrations are refused for
pub data Cause : Type 0 where
  missing : ℕ → NamedType → Cause
  refused : BuildRefusal → Cause

-- the limit on parties, where the party's number isn't below it
abbrev pub party_refusal : Registry → ℕ → Option BuildRefusal
party_refusal registry party =
    if nat_lt party registry.engine.limits.parties then None
    else Some (why.Full (record { limit = Parties; bound = registry.engine.limits.parties; wanted = party + 1 }))

-- The build checks: the first cause for which a registration of a command is refused, if there is one, where
-- the party has these handles. The party's limit comes first, then the names, then all else.
abbrev pub build_check : Registry → List Handle → RegistrationCommand → Option Cause
build_check registry row asked =
    option_or (option_map refused (party_refusal registry asked.party))
    (option_or (option_map (missing asked.party) (first_missing (type_named registry.made row) asked.names))
    (option_map refused (registration_refusal registry asked.party asked.registration)))

-- what a command asks to register, where its party has these handles; none where it registers nothing
abbrev pub registration_of : Registry → List Handle → Command → Option RegistrationCommand
registration_of registry row (command.HostType by sub) = Some (record { party = by; names = names_in sub; registration = described registry.made row sub })
registration_of registry row (command.Module by types) = Some (record { party = by; names = []; registration = module_groups types.groups })
registration_of registry row other = None

-- the handles of the party whose command it is
abbrev pub own_row : World → Command → List Handle
own_row world asks = row_of (party_of asks) world.handles

-- the build checks of a registration in a session, on the handles of the party whose command it is
abbrev pub check_of : World → RegistrationCommand → Option Cause
check_of world asked = build_check world.registry (row_of asked.party world.handles) asked

-- how a reply tells a cause: want of memory is none
abbrev pub refusal_told : Cause → Option Refusal
refusal_told (missing party name) = Some (no_such_type party name)
refusal_told (refused (why.InvalidModule place rule)) = Some (refusal.InvalidModule place rule)
refusal_told (refused (why.FinalSupertype supertype)) = Some (refusal.FinalSupertype supertype)
refusal_told (refused (why.SupertypeMismatch kind)) = Some (refusal.SupertypeMismatch kind)
refusal_told (refused (why.TooManyFields fields)) = Some (refusal.TooManyFields fields)
refusal_told (refused (why.TagHasResults results)) = Some (refusal.TagHasResults results)
refusal_told (refused why.NoGc) = Some refusal.NoGc
refusal_told (refused (why.Full full)) = Some (refusal.Full full)
refusal_told (refused why.OutOfMemory) = None

-- the closed trees of the types that a command registers, where its party has these handles; none where it registers
-- nothing
abbrev pub trees_asked : Registry → List Handle → Command → Option (List ClosedTree)
trees_asked registry row asks = option_map (λ asked. trees_of registry.made asked.registration) (registration_of registry row asks)

abbrev pub index_of : ℕ → VMSharedTypeIndex
index_of bits = record { 0 = bits }

-- the indices of types that a reply tells
abbrev pub indices_of : Reply → Option (List VMSharedTypeIndex)
indices_of (reply.TypeMade place index) = Some (index_of index ∷ [])
indices_of (reply.Module place indices) = Some (map index_of indices)
indices_of (reply.Index index) = Some (index_of index ∷ [])
indices_of other = None

abbrev pub is_refusal : Reply → Bool
is_refusal (reply.Refused why) = true
is_refusal other = false

-- the reply tells indices, and the closed trees of the types that have them are these
abbrev pub TellsTrees : List RegisteredGroup → Reply → List ClosedTree → Type 0
TellsTrees made told trees = (indices : List VMSharedTypeIndex) × (indices_of told ≡ Some indices) × (map (closed_tree made) indices ≡ map Some trees)

-- a reply to what registers these trees, if any: unless it is a refusal, it tells their indices
abbrev pub NamesTrees : List RegisteredGroup → Reply → Option (List ClosedTree) → Type 0
NamesTrees made told None = Unit {0}
NamesTrees made told (Some trees) = is_refusal told ≡ false → TellsTrees made told trees

-- The reply to a registration by what its build checks gave: where they gave no cause it is accepted, else it is
-- the refusal that tells the cause.
abbrev pub TellsCheck : Reply → Option Cause → Type 0
TellsCheck told None = is_refusal told ≡ false
TellsCheck told (Some cause) = (tells : Refusal) × (refusal_told cause ≡ Some tells) × (told ≡ reply.Refused tells)

-- The party with these handles names two registered types, and the answer tells whether zero or more declared
-- supertype steps lead from the closed tree of the first to that of the second.
pub record TellsStepsNamed (made : List RegisteredGroup) (row : List Handle) (sub sup : NamedType) (told : Bool) : Type 0 where
  pub lower : VMSharedTypeIndex
  pub upper : VMSharedTypeIndex
  pub names_lower : index_named row sub ≡ Some lower
  pub names_upper : index_named row sup ≡ Some upper
  pub has_lower : IsSome (closed_tree made lower)
  pub has_upper : IsSome (closed_tree made upper)
  pub steps : TellsSteps (closed_tree made) lower upper told

-- an answer to a subtype test tells the steps between the types that it names
abbrev pub TellsTest : List RegisteredGroup → List Handle → Command → Reply → Type 0
TellsTest made row (command.Subtype by sub sup) (reply.Answer told) = TellsStepsNamed made row sub sup told
TellsTest made row asks other = Unit {0}

-- The party with these handles names registered types alone in two value types, and the answer tells whether the first
-- matches the second, by the closed trees of what they name.
pub record TellsMatchNamed (made : List RegisteredGroup) (row : List Handle) (a b : HostVal) (told : Bool) : Type 0 where
  pub named_first : first_missing (type_named made row) (names_in_val a) ≡ None
  pub named_second : first_missing (type_named made row) (names_in_val b) ≡ None
  pub known_first : AreKnown (closed_tree made) (type_indices_of (kinded_val (val_of (type_named made row) a)))
  pub known_second : AreKnown (closed_tree made) (type_indices_of (kinded_val (val_of (type_named made row) b)))
  pub fits : told ≡ val_fits (named_by (closed_tree made)) (named_by (closed_tree made)) (val_of (type_named made row) a) (val_of (type_named made row) b)

-- an answer to a test of two value types tells whether the first that it names matches the second
abbrev pub TellsMatch : List RegisteredGroup → List Handle → Command → Reply → Type 0
TellsMatch made row (command.Matches by a b) (reply.Answer told) = TellsMatchNamed made row a b told
TellsMatch made row asks other = Unit {0}

-- the party with these handles names a registered type, and this is its text
pub record TellsTextNamed (made : List RegisteredGroup) (row : List Handle) (name : NamedType) (told : List ℕ) : Type 0 where
  pub index : VMSharedTypeIndex
  pub named : index_named row name ≡ Some index
  pub text : text_at made index ≡ Some told

-- what is shown is the text of the type that is named
abbrev pub TellsText : List RegisteredGroup → List Handle → Command → Reply → Type 0
TellsText made row (command.Show by name) (reply.Show told) = TellsTextNamed made row name told
TellsText made row asks other = Unit {0}

-- ---- one command with its reply, and the sessions before and after it

-- A registration is accepted exactly where its build checks give no cause, and else refused with that cause.
abbrev pub IsAcceptedAsChecked : World → Command → Reply → World → Type 0
IsAcceptedAsChecked before asks told after =
    (asked : RegistrationCommand) → registration_of before.registry (own_row before asks) asks ≡ Some asked → TellsCheck told (check_of before asked)

-- An accepted registration is answered with indices whose closed trees are the command's.
abbrev pub NamesTreesAsked : World → Command → Reply → World → Type 0
NamesTreesAsked before asks told after = NamesTrees after.registry.made told (trees_asked before.registry (own_row before asks) asks)

-- An answer to a subtype test tells whether declared steps lead from the first type that is named to the second.
abbrev pub TellsSubtypes : World → Command → Reply → World → Type 0
TellsSubtypes before asks told after = TellsTest before.registry.made (own_row before asks) asks told

-- An answer to a match tells whether the first value type, over what the party names, matches the second.
abbrev pub TellsMatches : World → Command → Reply → World → Type 0
TellsMatches before asks told after = TellsMatch before.registry.made (own_row before asks) asks told

-- What is shown is the text of the registered type that the party names.
abbrev pub TellsTexts : World → Command → Reply → World → Type 0
TellsTexts before asks told after = TellsText before.registry.made (own_row before asks) asks told

-- A refused command, of any kind, leaves all as before.
abbrev pub LeavesAllIfRefused : World → Command → Reply → World → Type 0
LeavesAllIfRefused before asks told after = is_refusal told ≡ true → after ≡ before

-- After it, two registered types have one index exactly where their closed trees are equal.
abbrev pub HasOneIndexPerTree : World → Command → Reply → World → Type 0
HasOneIndexPerTree before asks told after = OneIndexPerTree after.registry.made

-- After it, the registered groups are exactly those reached from what is held or waits.
abbrev pub IsExactlyReached : World → Command → Reply → World → Type 0
IsExactlyReached before asks told after = HasExactlyReached after

-- all of it
pub record IsAnswered (before : World) (asks : Command) (told : Reply) (after : World) : Type 0 where
  pub accepted : IsAcceptedAsChecked before asks told after
  pub named : NamesTreesAsked before asks told after
  pub subtypes : TellsSubtypes before asks told after
  pub matches : TellsMatches before asks told after
  pub texts : TellsTexts before asks told after
  pub unchanged : LeavesAllIfRefused before asks told after
  pub one_index : HasOneIndexPerTree before asks told after
  pub reached : IsExactlyReached before asks told after

-- ---- each command of a run

-- What is said of each of the commands that has a reply, behind so many others, and of the sessions before and
-- after that command.
abbrev pub EachReply : (World → Command → Reply → World → Type 0) → World → List Command → ℕ → List Reply → Type 0
EachReply Says start commands others replies =
    (n : ℕ) (asks : Command) (told : Reply) → slice_get commands n ≡ Some asks → slice_get replies (others + n) ≡ Some told
    → Says (world_after start (take n commands)) asks told (world_after start (take (n + 1) commands))

-- each of them is answered
abbrev pub AreAnswered : World → List Command → ℕ → List Reply → Type 0
AreAnswered start commands others replies = EachReply IsAnswered start commands others replies
