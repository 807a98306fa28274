-- what the host describes may be registered, and is what is registered
use Rattle.std.proofs.Common.{◌≡◌, ℕ, ◌⊎◌, inl, inr, List, map, true, Option, None, Result, Ok, Err, IfOk, IfErr, sym, ap, subst, ◌∙◌}
use Rattle.wt_env.specs.declared.types.WasmValType.{WasmValType}
use Rattle.wt_env.specs.declared.types.WasmSubType.{WasmSubType}
use Rattle.wt_rules.specs.HostTypes.{is_host_type}
use Rattle.wt_model.specs.declared.refusal.BuildRefusal.{BuildRefusal}
use Rattle.wt_model.specs.declared.refusal.BuildRefusal.TheVariants as refusal
use Rattle.wt_model.specs.HostExceptions.{exception_function}
use Rattle.wt_model.specs.Registered.{Registry}
use Rattle.wt_model.specs.Indices.{closed_tree}
use Rattle.wt_model.specs.Registration.{Registration, host_exception, registration_plan, registration_refusal, hold_of, carried_out, made_unless, register_one, IsRefusal}
use Rattle.wt_commands.specs.declared.host_type.HostSub.{HostSub}
use Rattle.wt_session.specs.HostTypes.{type_named, val_of, described, missing_name}
use Rattle.wt_session.proofs.HostTypes.{declared-named, exception-named}
use Rattle.wt_session.proofs.type_handles.register_described.Goals as goal

pub new-requires-clause-host : goal.new-requires-clause-host
new-requires-clause-host c =
    let registry = c.args.registry.now in
    let row = c.args.row.now in
    let none = subst (λ (sub : HostSub). missing_name registry.made row sub ≡ None) c.in-Declared.is c.requires.named in
    subst (λ (ty : WasmSubType). is_host_type (closed_tree registry.made) ty ≡ true) (sym c.in_ok-ty-in-Declared.ensures)
    (declared-named registry row c.tell_invariant.ensures.sound c.in-Declared.is_final c.in-Declared.supertype c.in-Declared.shape none)

pub new_exn-requires-clause-host : goal.new_exn-requires-clause-host
new_exn-requires-clause-host c =
    let registry = c.args.registry.now in
    let row = c.args.row.now in
    let none = subst (λ (sub : HostSub). missing_name registry.made row sub ≡ None) c.in-Exception.is c.requires.named in
    let held = c.as_slice-in-Exception.ensures ∙ c.in_ok-fields-in-Exception.ensures ∙ ap (map (val_of (type_named registry.made row))) c.as_slice.ensures in
    subst (λ (fields : List WasmValType). is_host_type (closed_tree registry.made) (exception_function fields) ≡ true) (sym held)
    (exception-named registry row c.tell_invariant.ensures.sound c.in-Exception.fields none)

refused_for : (registry : Registry) (party : ℕ) (registration : Registration) (why : BuildRefusal) → IsRefusal (registration_refusal registry party registration) why
    → (why ≡ refusal.OutOfMemory) ⊎ (register_one registry party registration ≡ Err why)
refused_for registry party registration why (inl want) = inl want
refused_for registry party registration why (inr cause) =
    let plan = registration_plan registry registration in
    inr (ap (λ (told : Option BuildRefusal). made_unless told (hold_of registry.engine.number party plan, carried_out registry party plan)) cause)

if_err-weaker : {A E : Type 0} (result : Result A E) (P Q : E → Type 0) → ((e : E) → P e → Q e) → IfErr result P → IfErr result Q
if_err-weaker (Ok x) P Q weaker told = tt
if_err-weaker (Err e) P Q weaker told = weaker e told

pub returns-in_ok-fields-in-Exception-clause-ok : goal.returns-in_ok-fields-in-Exception-clause-ok
returns-in_ok-fields-in-Exception-clause-ok c =
    let registry = c.args.registry.now in
    let row = c.args.row.now in
    let held = c.as_slice-in-Exception.ensures ∙ c.in_ok-fields-in-Exception.ensures ∙ ap (map (val_of (type_named registry.made row))) c.as_slice.ensures in
    let asked = ap (described registry.made row) c.in-Exception.is ∙ ap host_exception (sym held) in
    subst (λ (registration : Registration). IfOk c.new_exn.result (λ hold. register_one registry c.args.party.now registration ≡ Ok (hold, c.new_exn.new.registry))) (sym asked) c.new_exn.ensures.ok

pub returns-in_ok-fields-in-Exception-clause-refused : goal.returns-in_ok-fields-in-Exception-clause-refused
returns-in_ok-fields-in-Exception-clause-refused c =
    let registry = c.args.registry.now in
    let row = c.args.row.now in
    let held = c.as_slice-in-Exception.ensures ∙ c.in_ok-fields-in-Exception.ensures ∙ ap (map (val_of (type_named registry.made row))) c.as_slice.ensures in
    let asked = ap (described registry.made row) c.in-Exception.is ∙ ap host_exception (sym held) in
    let fields = c.as_slice-in-Exception.result.now in
    subst (λ (registration : Registration). IfErr c.new_exn.result (λ why. (why ≡ refusal.OutOfMemory) ⊎ (register_one registry c.args.party.now registration ≡ Err why))) (sym asked)
    (if_err-weaker c.new_exn.result _ _ (refused_for registry c.args.party.now (host_exception fields)) c.new_exn.ensures.refused)
