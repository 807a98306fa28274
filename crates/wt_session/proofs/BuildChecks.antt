-- A registration is accepted exactly where its build checks pass, and else refused with the first cause.
use Rattle.std.proofs.Common.{◌≡◌, ℕ, ◌≤◌, arith, nat_lt, ◌||◌, Bool, true, false, cond, List, [], Option, Some, None, option_map, Result, Ok, Err, refl, sym, subst}
use Rattle.std.specs.Option.{option_or}
use Rattle.std.proofs.lemmas.Bool.{ltb-true}
use Rattle.wt_rules.specs.declared.place.Place.{Place}
use Rattle.wt_rules.specs.declared.place.Rule.{Rule}
use Rattle.wt_rules.specs.declared.host_types.HostBreach.{HostBreach}
use Rattle.wt_rules.specs.declared.host_types.HostBreach.TheVariants as breach
use Rattle.wt_rules.specs.HostTypes.{host_breach}
use Rattle.wt_rules.specs.Rules.{first_broken}
use Rattle.wt_model.specs.HostRefusals.{breach_refusal}
use Rattle.wt_model.specs.Indices.{closed_tree}
use Rattle.wt_model.specs.declared.refusal.Full.{Full}
use Rattle.wt_model.specs.declared.refusal.BuildRefusal.{BuildRefusal}
use Rattle.wt_model.specs.declared.refusal.BuildRefusal.TheVariants as why
use Rattle.wt_registry.specs.Registered.{Registry}
use Rattle.wt_registry.specs.Limits.{passed_limit}
use Rattle.wt_registry.specs.Registration.{Registration, host_type, host_exception, module_groups, registration_plan, has_functions_alone, rule_refusal, gc_refusal, limit_refusal, registration_refusal, hold_of, collection_of, carried_out, made_unless}
use Rattle.wt_commands.specs.declared.command.NamedType.{NamedType}
use Rattle.wt_commands.specs.declared.host_type.HostSub.{HostSub}
use Rattle.wt_commands.specs.declared.command.Command.{Command}
use Rattle.wt_commands.specs.declared.command.Command.TheVariants as command
use Rattle.wt_session.specs.declared.reply.Refusal.TheVariants as refusal
use Rattle.wt_session.specs.declared.reply.Reply.{Reply}
use Rattle.wt_session.specs.declared.reply.Reply.TheVariants as reply
use Rattle.wt_session.specs.declared.handle.Handle.{Handle}
use Rattle.wt_session.specs.World.{World, row_of}
use Rattle.wt_commands.specs.Commands.{party_of}
use Rattle.wt_session.specs.HostTypes.{names_in, missing_name, described}
use Rattle.wt_session.specs.Run.{PartyOutcome, no_such_type, refusal_of, type_made, type_described, module_made, full_of_parties, done_by}
use Rattle.wt_session.specs.Answered.{RegistrationCommand, Cause, missing, refused, own_row, registration_of, refusal_told, check_of, is_refusal, TellsCheck}

-- ---- want of memory is no cause

abbrev IsNoWant : Option BuildRefusal → Type 0
IsNoWant (Some why.OutOfMemory) = ⊥
IsNoWant other = Unit {0}

or-no_want : (first second : Option BuildRefusal) → IsNoWant first → IsNoWant second → IsNoWant (option_or first second)
or-no_want None second before after = after
or-no_want (Some reason) second before after = before

breach-no_want : (broken : Option HostBreach) → IsNoWant (option_map breach_refusal broken)
breach-no_want (Some (breach.FinalSupertype supertype)) = tt
breach-no_want (Some (breach.SupertypeMismatch kind)) = tt
breach-no_want (Some (breach.TooManyFields fields)) = tt
breach-no_want (Some (breach.TagHasResults results)) = tt
breach-no_want None = tt

rule-no_want : (registry : Registry) (registration : Registration) → IsNoWant (rule_refusal registry registration)
rule-no_want registry (host_type ty) = breach-no_want (host_breach (closed_tree registry.made) ty)
rule-no_want registry (host_exception fields) = tt
rule-no_want registry (module_groups groups) = by (first_broken groups)
  where
    by : (broken : Option (Place × Rule)) → IsNoWant (option_map (λ at. why.InvalidModule at.0 at.1) broken)
    by (Some at) = tt
    by None = tt

gc-no_want : (registry : Registry) (registration : Registration) → IsNoWant (gc_refusal registry registration)
gc-no_want registry registration = by (registry.engine.gc || has_functions_alone registration)
  where
    by : (may : Bool) → IsNoWant (cond may None (Some why.NoGc))
    by true = tt
    by false = tt

limit-no_want : (registry : Registry) (party : ℕ) (registration : Registration) → IsNoWant (limit_refusal registry party registration)
limit-no_want registry party registration = by (passed_limit registry party (registration_plan registry registration))
  where
    by : (full : Option Full) → IsNoWant (option_map why.Full full)
    by (Some full) = tt
    by None = tt

no_want : (registry : Registry) (party : ℕ) (registration : Registration) → IsNoWant (registration_refusal registry party registration)
no_want registry party registration =
    or-no_want (rule_refusal registry registration) (option_or (gc_refusal registry registration) (limit_refusal registry party registration)) (rule-no_want registry registration)
    (or-no_want (gc_refusal registry registration) (limit_refusal registry party registration) (gc-no_want registry registration) (limit-no_want registry party registration))

-- ---- the build checks are what is told

told-cause : (reason : BuildRefusal) → IsNoWant (Some reason) → refusal_told (refused reason) ≡ Some (refusal_of reason)
told-cause (why.InvalidModule place rule) not = refl
told-cause (why.FinalSupertype supertype) not = refl
told-cause (why.SupertypeMismatch kind) not = refl
told-cause (why.TooManyFields fields) not = refl
told-cause (why.TagHasResults results) not = refl
told-cause why.NoGc not = refl
told-cause (why.Full full) not = refl
told-cause why.OutOfMemory not = absurd not

checked-made : {A : Type 0} (make : Result A BuildRefusal → PartyOutcome) (made : A) (cause : Option BuildRefusal) → IsNoWant cause → is_refusal (make (Ok made)).reply ≡ false
    → ((unmet : BuildRefusal) → (make (Err unmet)).reply ≡ reply.Refused (refusal_of unmet)) → TellsCheck (make (made_unless cause made)).reply (option_map refused cause)
checked-made make made None not accepts refuses = accepts
checked-made make made (Some reason) not accepts refuses = (refusal_of reason, told-cause reason not, refuses reason)

-- a name that is missing comes before what else is refused
checked-described : (registry : Registry) (row : List Handle) (party : ℕ) (sub : HostSub) (name : Option NamedType) (inner : Option Cause)
    → TellsCheck (type_described registry row party sub None).reply inner → TellsCheck (type_described registry row party sub name).reply (option_or (option_map (missing party) name) inner)
checked-described registry row party sub None inner tells = tells
checked-described registry row party sub (Some name) inner tells = (no_such_type party name, refl, refl)

-- the party's limit comes first
checked-party : (world : World) (party : ℕ) (done : Reply × World) (inner : Option Cause) → TellsCheck done.0 inner → (below : Bool)
    → TellsCheck (cond below done (reply.Refused (refusal.Full (full_of_parties world party)), world)).0 (option_or (option_map refused (cond below None (Some (why.Full (full_of_parties world party))))) inner)
checked-party world party done inner tells true = tells
checked-party world party done inner tells false = (refusal.Full (full_of_parties world party), refl, refl)

abbrev stepped : World → Command → Bool → Reply
stepped world asks below = (cond below (done_by world asks) (reply.Refused (refusal.Full (full_of_parties world (party_of asks))), world)).0

-- a party's number is below the limit, or not
pub not_below : (party bound : ℕ) → bound ≤ party → nat_lt party bound ≡ false
not_below party bound past = by (nat_lt party bound) refl
  where
    by : (below : Bool) → nat_lt party bound ≡ below → below ≡ false
    by true is = absurd (omega (arith, past, ltb-true party bound is))
    by false is = refl

-- what is told of a registration by a party below the limit, or not
told-checked : (world : World) (asks : Command) (inner : Option Cause) (below : Bool)
    → TellsCheck (done_by world asks).0 inner → nat_lt (party_of asks) world.registry.engine.limits.parties ≡ below
    → TellsCheck (stepped world asks below) (option_or (option_map refused (cond (nat_lt (party_of asks) world.registry.engine.limits.parties) None (Some (why.Full (full_of_parties world (party_of asks)))))) inner)
told-checked world asks inner below tells is =
    subst (λ (b : Bool). TellsCheck (stepped world asks below) (option_or (option_map refused (cond b None (Some (why.Full (full_of_parties world (party_of asks)))))) inner)) (sym is)
    (checked-party world (party_of asks) (done_by world asks) inner tells below)

same_asked : (a b : RegistrationCommand) → Some a ≡ Some b → a ≡ b
same_asked a b h = cc

none_asked : (asked : RegistrationCommand) → None ≡ Some asked → ⊥
none_asked asked h = absurd (cc)

pub step-checked : (world : World) (asks : Command) (asked : RegistrationCommand) (below : Bool) → nat_lt (party_of asks) world.registry.engine.limits.parties ≡ below
    → registration_of world.registry (own_row world asks) asks ≡ Some asked → TellsCheck (stepped world asks below) (check_of world asked)
step-checked world (command.HostType by sub) asked below is has =
    let row = row_of by world.handles in
    let registration = described world.registry.made row sub in
    let own : RegistrationCommand = record { party = by; names = names_in sub; registration = registration } in
    let plan = registration_plan world.registry registration in
    let cause = registration_refusal world.registry by registration in
    let name = missing_name world.registry.made row sub in
    let made = checked-made (type_made world.registry row) (hold_of world.registry.engine.number by plan, carried_out world.registry by plan) cause (no_want world.registry by registration) refl (λ unmet. refl) in
    subst (λ (r : RegistrationCommand). TellsCheck (stepped world (command.HostType by sub) below) (check_of world r)) (same_asked own asked has)
    (told-checked world (command.HostType by sub) (option_or (option_map (missing by) name) (option_map refused cause)) below
    (checked-described world.registry row by sub name (option_map refused cause) made) is)
step-checked world (command.Module by types) asked below is has =
    let own : RegistrationCommand = record { party = by; names = []; registration = module_groups types.groups } in
    let row = row_of by world.handles in
    let plan = registration_plan world.registry (module_groups types.groups) in
    let cause = registration_refusal world.registry by (module_groups types.groups) in
    subst (λ (r : RegistrationCommand). TellsCheck (stepped world (command.Module by types) below) (check_of world r)) (same_asked own asked has)
    (told-checked world (command.Module by types) (option_map refused cause) below
    (checked-made (module_made world.registry row) (collection_of world.registry.engine.number by plan, carried_out world.registry by plan) cause (no_want world.registry by (module_groups types.groups)) refl (λ unmet. refl)) is)
step-checked world (command.Clone by place) asked below is has = absurd (none_asked asked has)
step-checked world (command.Root by index) asked below is has = absurd (none_asked asked has)
step-checked world (command.Drop by place) asked below is has = absurd (none_asked asked has)
step-checked world (command.Sweep by place) asked below is has = absurd (none_asked asked has)
step-checked world (command.Release by place) asked below is has = absurd (none_asked asked has)
step-checked world (command.Trampoline by ty) asked below is has = absurd (none_asked asked has)
step-checked world (command.Subtype by sub sup) asked below is has = absurd (none_asked asked has)
step-checked world (command.Matches by a b) asked below is has = absurd (none_asked asked has)
step-checked world (command.Show by ty) asked below is has = absurd (none_asked asked has)
step-checked world (command.Live by) asked below is has = absurd (none_asked asked has)
