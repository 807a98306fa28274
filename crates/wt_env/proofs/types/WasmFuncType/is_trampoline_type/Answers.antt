-- the test tells what erasure leaves as it is
use Rattle.std.proofs.Common.{◌≡◌, ◌↔◌, Bool, true, sym, subst}
use Rattle.wt_env.specs.Erasure.{erase}
use Rattle.wt_env.proofs.Erased.{erased-tells}
use Rattle.wt_env.proofs.types.WasmFuncType.is_trampoline_type.Goals as goal

pub returns-clause-erased : goal.returns-clause-erased
returns-clause-erased c = subst (λ (b : Bool). (b ≡ true) ↔ (erase c.args.self.now ≡ c.args.self.now)) (sym c.is_erased_func.ensures) (erased-tells c.args.self.now)
