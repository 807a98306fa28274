-- What a session answers to commands, and what they change.
use Rattle.std.specs.Prelude.{ℕ, ◌+◌, nat_lt, if◌then◌else◌, List, [], ◌∷◌, ◌++◌, length, map, slice_set, Bool, Option, Some, None, option_and_then, Result, Ok, Err}
use Rattle.wt_env.specs.declared.types.VMSharedTypeIndex.{VMSharedTypeIndex}
use Rattle.wt_env.specs.declared.limits.Limit.TheVariants.{Parties}
use Rattle.wt_model.specs.declared.swept.Swept.{Swept}
use Rattle.wt_model.specs.declared.refusal.Full.{Full}
use Rattle.wt_model.specs.declared.refusal.BuildRefusal.{BuildRefusal}
use Rattle.wt_model.specs.declared.refusal.BuildRefusal.TheVariants as why
use Rattle.wt_registry.specs.Registered.{Registry}
use Rattle.wt_registry.specs.Holds.{Hold, root as rooted, hold as held}
use Rattle.wt_registry.specs.Holds.{Collection}
use Rattle.wt_registry.specs.Registration.{register_one, register_groups}
use Rattle.wt_registry.specs.Removal.{drop_hold as dropped, sweep_debt as swept, release_holds}
use Rattle.wt_registry.specs.Live.{live_of}
use Rattle.wt_model.specs.Trampolines.{trampoline_index}
use Rattle.wt_model.specs.Subtyping.{is_subtype_index}
use Rattle.wt_tree.specs.Fit.{named_by, val_fits}
use Rattle.wt_model.specs.Indices.{closed_tree}
use Rattle.wt_commands.specs.declared.host_type.HostVal.{HostVal}
use Rattle.wt_commands.specs.declared.host_type.HostSub.{HostSub}
use Rattle.wt_commands.specs.declared.command.NamedType.{NamedType}
use Rattle.wt_commands.specs.declared.command.NamedType.TheVariants as named
use Rattle.wt_commands.specs.declared.command.Command.{Command}
use Rattle.wt_commands.specs.declared.command.Command.TheVariants as command
use Rattle.wt_session.specs.declared.counts.ObjectCounts.{ObjectCounts}
use Rattle.wt_session.specs.declared.handle.Handle.{Handle}
use Rattle.wt_session.specs.declared.handle.Handle.TheVariants as handle
use Rattle.wt_model.specs.declared.handle_kind.HandleKind.TheVariants as kind
use Rattle.wt_session.specs.declared.reply.Refusal.{Refusal}
use Rattle.wt_session.specs.declared.reply.Refusal.TheVariants as refusal
use Rattle.wt_session.specs.declared.reply.Reply.{Reply}
use Rattle.wt_session.specs.declared.reply.Reply.TheVariants as reply
use Rattle.wt_session.specs.World.{World, row_of, type_at, debt_at, module_at, index_named}
use Rattle.wt_session.specs.HostTypes.{type_named, val_of, names_in_val, first_missing, missing_name, described}
use Rattle.wt_types.specs.CoreTexts.{text_at}
use Rattle.wt_commands.specs.Commands.{party_of}

-- ---- one command, on its party's handles

-- what a command comes to on its party's handles: the reply, the registry after it, and those handles after it
pub record PartyOutcome : Type 0 where
  pub reply : Reply
  pub registry : Registry
  pub row : List Handle

-- a refused command changes nothing
abbrev pub refused : Registry → List Handle → Refusal → PartyOutcome
refused registry row why = record { reply = reply.Refused why; registry = registry; row = row }

-- one handle more, on a type
abbrev pub with_type : List Handle → Hold → Registry → PartyOutcome
with_type row hold after = record { reply = reply.TypeMade (length row) hold.index.0; registry = after; row = row ++ handle.Type hold ∷ [] }

-- How a reply tells why a registration is refused. Want of memory is no cause of the build checks.
abbrev pub refusal_of : BuildRefusal → Refusal
refusal_of (why.InvalidModule place rule) = refusal.InvalidModule place rule
refusal_of (why.FinalSupertype supertype) = refusal.FinalSupertype supertype
refusal_of (why.SupertypeMismatch kind) = refusal.SupertypeMismatch kind
refusal_of (why.TooManyFields fields) = refusal.TooManyFields fields
refusal_of (why.TagHasResults results) = refusal.TagHasResults results
refusal_of why.NoGc = refusal.NoGc
refusal_of (why.Full full) = refusal.Full full
refusal_of why.OutOfMemory = refusal.NoGc

-- how a command is refused that names no type, or none that fits
abbrev pub no_such_type : ℕ → NamedType → Refusal
no_such_type party (named.Handle place) = refusal.NoSuchHandle party kind.Type place
no_such_type party (named.OfModule place ty) = refusal.NoSuchType party place ty

-- a registration
abbrev pub type_made : Registry → List Handle → Result (Hold × Registry) BuildRefusal → PartyOutcome
type_made registry row (Ok made) = with_type row made.0 made.1
type_made registry row (Err cause) = refused registry row (refusal_of cause)

-- the registration of what a host describes, over the types that its party names; the first name that is missing is
-- refused before
abbrev pub type_described : Registry → List Handle → ℕ → HostSub → Option NamedType → PartyOutcome
type_described registry row party sub (Some name) = refused registry row (no_such_type party name)
type_described registry row party sub None = type_made registry row (register_one registry party (described registry.made row sub))

abbrev pub held_again : Registry → List Handle → Hold → Result Registry Full → PartyOutcome
held_again registry row hold (Ok after) = with_type row hold after
held_again registry row hold (Err full) = refused registry row (refusal.Full full)

-- one handle more on the type of a handle
abbrev pub clone_made : Registry → List Handle → ℕ → ℕ → Option Hold → PartyOutcome
clone_made registry row party place (Some hold) = held_again registry row hold (held registry party hold.number)
clone_made registry row party place None = refused registry row (refusal.NoSuchHandle party kind.Type place)

-- a handle on the type that has an index
abbrev pub root_made : Registry → List Handle → Result (Option Hold × Registry) Full → PartyOutcome
root_made registry row (Ok (Some hold, after)) = with_type row hold after
root_made registry row (Ok (None, after)) = record { reply = reply.NoneFound; registry = after; row = row }
root_made registry row (Err full) = refused registry row (refusal.Full full)

abbrev pub hold_ended : List Handle → ℕ → Option ℕ × Registry → PartyOutcome
hold_ended row place (Some number, after) = record { reply = reply.Owed; registry = after; row = slice_set row place (handle.Owed number) }
hold_ended row place (None, after) = record { reply = reply.Dropped; registry = after; row = slice_set row place handle.Ended }

-- the end of a handle on a type
abbrev pub type_dropped : Registry → List Handle → ℕ → ℕ → Option Hold → PartyOutcome
type_dropped registry row party place (Some hold) = hold_ended row place (dropped registry party hold.number)
type_dropped registry row party place None = refused registry row (refusal.NoSuchHandle party kind.Type place)

abbrev pub debt_ended : List Handle → ℕ → Swept × Registry → PartyOutcome
debt_ended row place (did, after) = record { reply = reply.Swept did; registry = after; row = slice_set row place handle.Ended }

-- the sweep of a debt
abbrev pub debt_swept : Registry → List Handle → ℕ → ℕ → Option ℕ → PartyOutcome
debt_swept registry row party place (Some number) = debt_ended row place (swept registry number)
debt_swept registry row party place None = refused registry row (refusal.NoSuchHandle party kind.Debt place)

-- the registration of a module's groups
abbrev pub module_made : Registry → List Handle → Result (Collection × Registry) BuildRefusal → PartyOutcome
module_made registry row (Ok made) = record {
  reply = reply.Module (length row) (map (λ i. i.0) made.0.map);
  registry = made.1;
  row = row ++ handle.Module made.0 ∷ [];
}
module_made registry row (Err cause) = refused registry row (refusal_of cause)

-- the end of a handle on a module
abbrev pub module_released : Registry → List Handle → ℕ → ℕ → Option Collection → PartyOutcome
module_released registry row party place (Some types) = record {
  reply = reply.Released;
  registry = release_holds registry party types.numbers;
  row = slice_set row place handle.Ended;
}
module_released registry row party place None = refused registry row (refusal.NoSuchHandle party kind.Module place)

-- the index of the trampoline of the type that is named, if that is a function
abbrev pub trampoline_told : Registry → List Handle → ℕ → NamedType → Option VMSharedTypeIndex → PartyOutcome
trampoline_told registry row party ty (Some index) = record { reply = reply.Index index.0; registry = registry; row = row }
trampoline_told registry row party ty None = refused registry row (no_such_type party ty)

-- whether declared supertype steps lead from the first type that is named to the second; the first of them that is
-- not there is refused
abbrev pub subtype_told : Registry → List Handle → ℕ → NamedType → NamedType → Option VMSharedTypeIndex → Option VMSharedTypeIndex → PartyOutcome
subtype_told registry row party sub sup None upper = refused registry row (no_such_type party sub)
subtype_told registry row party sub sup (Some i) None = refused registry row (no_such_type party sup)
subtype_told registry row party sub sup (Some i) (Some j) = record { reply = reply.Answer (is_subtype_index registry.made i j); registry = registry; row = row }

-- Whether a value of the first type may stand where the second is wanted, by the closed trees of what they name.
abbrev pub matches_described : Registry → List Handle → HostVal → HostVal → Bool
matches_described registry row a b =
    val_fits (named_by (closed_tree registry.made)) (named_by (closed_tree registry.made)) (val_of (type_named registry.made row) a) (val_of (type_named registry.made row) b)

-- the first name that is missing in one value type, and else in another
abbrev pub missing_in_vals : Registry → List Handle → HostVal → HostVal → Option NamedType
missing_in_vals registry row a b = first_missing (type_named registry.made row) (names_in_val a ++ names_in_val b)

-- whether one value type matches another; the first name that is missing is refused
abbrev pub matches_told : Registry → List Handle → ℕ → HostVal → HostVal → Option NamedType → PartyOutcome
matches_told registry row party a b (Some name) = refused registry row (no_such_type party name)
matches_told registry row party a b None = record { reply = reply.Answer (matches_described registry row a b); registry = registry; row = row }

-- the text of the type that is named
abbrev pub text_told : Registry → List Handle → ℕ → NamedType → Option (List ℕ) → PartyOutcome
text_told registry row party name (Some text) = record { reply = reply.Show text; registry = registry; row = row }
text_told registry row party name None = refused registry row (no_such_type party name)

-- The same for a party below the limit that has these handles.
abbrev pub party_outcome : Registry → List Handle → Command → PartyOutcome
party_outcome registry row (command.HostType by sub) = type_described registry row by sub (missing_name registry.made row sub)
party_outcome registry row (command.Module by types) = module_made registry row (register_groups registry by types.groups)
party_outcome registry row (command.Clone by place) = clone_made registry row by place (type_at row place)
party_outcome registry row (command.Root by index) = root_made registry row (rooted registry by (record { 0 = index }))
party_outcome registry row (command.Drop by place) = type_dropped registry row by place (type_at row place)
party_outcome registry row (command.Sweep by place) = debt_swept registry row by place (debt_at row place)
party_outcome registry row (command.Release by place) = module_released registry row by place (module_at row place)
party_outcome registry row (command.Trampoline by ty) = trampoline_told registry row by ty (option_and_then (trampoline_index registry.made) (index_named row ty))
party_outcome registry row (command.Subtype by sub sup) = subtype_told registry row by sub sup (index_named row sub) (index_named row sup)
party_outcome registry row (command.Matches by a b) = matches_told registry row by a b (missing_in_vals registry row a b)
party_outcome registry row (command.Show by ty) = text_told registry row by ty (option_and_then (text_at registry.made) (index_named row ty))
party_outcome registry row (command.Live by) = record { reply = reply.Live (live_of registry.made); registry = registry; row = row }

-- ---- commands in turn

-- the limit that a party's number passes
abbrev pub full_of_parties : World → ℕ → Full
full_of_parties world party = record { limit = Parties; bound = world.registry.engine.limits.parties; wanted = party + 1 }

-- a count with one more: it stands still at the greatest number of 64 bits
abbrev pub raised : ℕ → ℕ
raised count = if nat_lt count 18446744073709551615 then count + 1 else count

-- what was made so far after a reply: one module more where a module was registered
abbrev pub counts_after : Reply → ObjectCounts → ObjectCounts
counts_after (reply.Module place indices) counts = record counts { modules = raised counts.modules }
counts_after other counts = counts

-- What a command comes to: the reply, and after it the registry, the party's handles, and what was made so far.
pub record Outcome : Type 0 where
  pub reply : Reply
  pub registry : Registry
  pub row : List Handle
  pub counts : ObjectCounts

abbrev pub counted : ObjectCounts → PartyOutcome → Outcome
counted counts own = record {
  reply = own.reply;
  registry = own.registry;
  row = own.row;
  counts = counts_after own.reply counts;
}

-- the same of a party below the limit that has these handles, where so much was made before
abbrev pub outcome_of : Registry → ObjectCounts → List Handle → Command → Outcome
outcome_of registry counts row command = counted counts (party_outcome registry row command)

abbrev pub with_outcome : World → ℕ → Outcome → Reply × World
with_outcome world party outcome = (
  outcome.reply,
  record {
    registry = outcome.registry;
    handles = slice_set world.handles party outcome.row;
    counts = outcome.counts;
  },
)

-- the reply to a command by a party below the limit, and the session after it
abbrev pub done_by : World → Command → Reply × World
done_by world command =
    with_outcome world (party_of command) (outcome_of world.registry world.counts (row_of (party_of command) world.handles) command)

-- The reply to one command, and the session after it.
abbrev pub step : World → Command → Reply × World
step world command =
    if nat_lt (party_of command) world.registry.engine.limits.parties
    then done_by world command
    else (reply.Refused (refusal.Full (full_of_parties world (party_of command))), world)

-- the replies to commands in turn
abbrev pub replies_of : World → List Command → List Reply
replies_of world [] = []
replies_of world (first ∷ rest) = (step world first).0 ∷ replies_of (step world first).1 rest

-- the session after them
abbrev pub world_after : World → List Command → World
world_after world [] = world
world_after world (first ∷ rest) = world_after (step world first).1 rest
