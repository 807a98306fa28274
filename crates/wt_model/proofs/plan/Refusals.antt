-- Where no earlier cause holds, a registration is refused by a limit or not at all.
use Rattle.std.proofs.Common.{◌≡◌, ℕ, ◌⊎◌, inl, inr, Bool, true, false, cond, ◌||◌, List, Option, Some, None, option_map, refl, ap}
use Rattle.std.specs.Option.{option_or}
use Rattle.wt_env.specs.declared.types.WasmRecGroup.{WasmRecGroup}
use Rattle.wt_rules.specs.declared.place.Place.{Place}
use Rattle.wt_rules.specs.declared.place.Rule.{Rule}
use Rattle.wt_rules.specs.Rules.{are_functions, first_broken}
use Rattle.wt_model.specs.declared.refusal.BuildRefusal.TheVariants as refusal
use Rattle.wt_model.specs.Registered.{Registry}
use Rattle.wt_model.specs.Limits.{passed_limit}
use Rattle.wt_model.specs.Registration.{Registration, module_groups, registration_plan, invalid_module, rule_refusal, has_functions_alone, gc_refusal, limit_refusal, registration_refusal}

-- garbage collection, or functions alone
allowed : (gc functions : Bool) → (gc ≡ true) ⊎ (functions ≡ true) → (gc || functions) ≡ true
allowed true functions may = refl
allowed false functions (inl gc) = ap (λ b. b || functions) gc
allowed false functions (inr alone) = alone

pub gc-allowed : (registry : Registry) (registration : Registration) → (registry.engine.gc ≡ true) ⊎ (has_functions_alone registration ≡ true) → gc_refusal registry registration ≡ None
gc-allowed registry registration may = ap (λ b. cond b None (Some refusal.NoGc)) (allowed registry.engine.gc (has_functions_alone registration) may)

-- where neither a rule nor garbage collection refuses it
pub by-limit : (registry : Registry) (party : ℕ) (registration : Registration) → rule_refusal registry registration ≡ None → gc_refusal registry registration ≡ None
    → registration_refusal registry party registration ≡ limit_refusal registry party registration
by-limit registry party registration rules gc = λ i. option_or (rules i) (option_or (gc i) (limit_refusal registry party registration))

pub module-refusal : (registry : Registry) (party : ℕ) (groups : List WasmRecGroup) → first_broken groups ≡ None → (registry.engine.gc ≡ true) ⊎ (are_functions groups ≡ true)
    → registration_refusal registry party (module_groups groups) ≡ option_map refusal.Full (passed_limit registry party (registration_plan registry (module_groups groups)))
module-refusal registry party groups rules may =
    by-limit registry party (module_groups groups) (ap (option_map invalid_module) rules) (gc-allowed registry (module_groups groups) may)

-- a broken rule is the first cause
pub module-broken : (registry : Registry) (party : ℕ) (groups : List WasmRecGroup) (place : Place) (rule : Rule) → first_broken groups ≡ Some (place, rule)
    → registration_refusal registry party (module_groups groups) ≡ Some (refusal.InvalidModule place rule)
module-broken registry party groups place rule broken =
    ap (λ (found : Option (Place × Rule)). option_or (option_map invalid_module found)
    (option_or (gc_refusal registry (module_groups groups)) (limit_refusal registry party (module_groups groups)))) broken

-- and then that there is no garbage collection
pub module-no_gc : (registry : Registry) (party : ℕ) (groups : List WasmRecGroup) → first_broken groups ≡ None → registry.engine.gc ≡ false → are_functions groups ≡ false
    → registration_refusal registry party (module_groups groups) ≡ Some refusal.NoGc
module-no_gc registry party groups rules gc functions =
    (λ i. option_or (option_map invalid_module (rules i))
    (option_or (cond (gc i || functions i) None (Some refusal.NoGc)) (limit_refusal registry party (module_groups groups))))
