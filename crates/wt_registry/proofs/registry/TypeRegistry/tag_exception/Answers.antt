-- the exception over a function type that is registered is one that a host may register
use Rattle.std.proofs.Common.{◌≡◌, List, Option, Some, option_map, sym, ap, ◌∙◌}
use Rattle.std.specs.Option.{option_and_then, option_copied}
use Rattle.wt_env.specs.declared.types.EngineOrModuleTypeIndex.TheVariants as index
use Rattle.wt_env.specs.declared.types.WasmValType.{WasmValType}
use Rattle.wt_env.specs.declared.types.WasmCompositeInnerType.{WasmCompositeInnerType}
use Rattle.wt_env.specs.declared.types.WasmSubType.{WasmSubType}
use Rattle.wt_model.specs.HostExceptions.{exception_over, params_of, tag_exception}
use Rattle.wt_model.proofs.HostExceptionTypes.{tag-host}
use Rattle.wt_registry.proofs.registry.TypeRegistry.tag_exception.Goals as goal

pub returns-in_ok-exception_over-in-Func-clause-host : goal.returns-in_ok-exception_over-in-Func-clause-host
returns-in_ok-exception_over-in-Func-clause-host c = λ ty is. tag-host c.args.self.now c.tell_invariant.ensures.sound c.args.index ty (told ∙ is)
  where
    told : tag_exception c.args.self.now.made c.args.index ≡ Some c.in_ok-exception_over-in-Func.field-0
    told =
        ap (λ (o : Option WasmSubType). option_map (λ (params : List WasmValType). exception_over (index.Engine c.args.index) params) (option_and_then (λ (x : WasmSubType). params_of x.composite_type) o))
        (sym c.borrow.ensures.value ∙ ap option_copied c.in-Some.is)
        ∙ ap (λ (s : WasmCompositeInnerType). option_map (λ (params : List WasmValType). exception_over (index.Engine c.args.index) params) (params_of s)) c.in-Func.is
        ∙ ap Some (ap (exception_over (index.Engine c.args.index)) (sym c.as_slice-params.ensures) ∙ sym c.in_ok-exception_over-in-Func.ensures)
