-- the exception that holds the values as data
use Rattle.std.proofs.Common.{List, sym, ap, subst, ◌∙◌}
use Rattle.wt_env.specs.declared.types.WasmValType.{WasmValType}
use Rattle.wt_model.specs.Registration.{host_exception, registration_refusal, register_exception, IsRefusal}
use Rattle.wt_types.proofs.exn_type.ExnType.new.Goals as goal

pub returns-in-Ok-clause-ok : goal.returns-in-Ok-clause-ok
returns-in-Ok-clause-ok c =
    ap (register_exception c.args.registry.now c.args.party.now) (sym (c.as_slice.ensures.value ∙ c.in_ok-values.ensures)) ∙ c.in-Ok.ensures.ok

pub returns-in-Ok-clause-accepted : goal.returns-in-Ok-clause-accepted
returns-in-Ok-clause-accepted c =
    ap (λ (values : List WasmValType). registration_refusal c.args.registry.now c.args.party.now (host_exception values)) (sym (c.as_slice.ensures.value ∙ c.in_ok-values.ensures)) ∙ c.in-Ok.ensures.accepted

pub returns-clause-refused : goal.returns-clause-refused
returns-clause-refused c =
    subst (λ (values : List WasmValType). IsRefusal (registration_refusal c.args.registry.now c.args.party.now (host_exception values)) c.in-Err.why) (c.as_slice.ensures.value ∙ c.in_ok-values.ensures) c.in-Err.ensures.refused
