-- the exception over the tag's function type
use Rattle.std.proofs.Common.{◌≡◌, sym, ap, subst, ◌∙◌}
use Rattle.wt_env.specs.declared.types.WasmSubType.{WasmSubType}
use Rattle.wt_heap.specs.declared.names.FuncName.{FuncName}
use Rattle.wt_model.specs.Registered.{Registry}
use Rattle.wt_model.specs.Registration.{host_type, registration_refusal, register, IsRefusal}
use Rattle.wt_core.specs.CoreTypes.{tag_sub_type}
use Rattle.wt_types.proofs.exn_type.ExnType.from_tag_type.Goals as goal

-- the type that was read is that of the tag
of_tag : (registry : Registry) (name found : FuncName) (ty : WasmSubType) → found ≡ name → ty ≡ tag_sub_type registry.made found.index → tag_sub_type registry.made name.index ≡ ty
of_tag registry name found ty same is = ap (λ (n : FuncName). tag_sub_type registry.made n.index) (sym same) ∙ sym is

pub returns-in-Ok-clause-ok : goal.returns-in-Ok-clause-ok
returns-in-Ok-clause-ok c =
    ap (register c.args.registry.now c.args.party.now) (of_tag c.args.registry.now c.args.tag.now.ty c.ty.result.now c.in_ok-ty.ty c.ty.ensures c.in_ok-ty.ensures.value) ∙ c.in-Ok.ensures.ok

pub returns-in-Ok-clause-accepted : goal.returns-in-Ok-clause-accepted
returns-in-Ok-clause-accepted c =
    ap (λ (ty : WasmSubType). registration_refusal c.args.registry.now c.args.party.now (host_type ty)) (of_tag c.args.registry.now c.args.tag.now.ty c.ty.result.now c.in_ok-ty.ty c.ty.ensures c.in_ok-ty.ensures.value)
    ∙ c.in-Ok.ensures.accepted

pub returns-in-Err-clause-refused : goal.returns-in-Err-clause-refused
returns-in-Err-clause-refused c =
    subst (λ (ty : WasmSubType). IsRefusal (registration_refusal c.args.registry.now c.args.party.now (host_type ty)) c.in-Err.why)
    (sym (of_tag c.args.registry.now c.args.tag.now.ty c.ty.result.now c.in_ok-ty.ty c.ty.ensures c.in_ok-ty.ensures.value)) c.in-Err.ensures.refused
