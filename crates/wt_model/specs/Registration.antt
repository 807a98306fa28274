-- Registrations: the build checks, and what an accepted registration makes.
use Rattle.std.specs.Prelude.{◌≡◌, ℕ, ◌⊎◌, List, [], ◌∷◌, ◌++◌, map, replicate, slice_get, unwrap_or, Bool, false, ◌||◌, if◌then◌else◌, Option, Some, None, option_map, Result, Ok, Err}
use Rattle.std.specs.Option.{option_or}
use Rattle.wt_env.specs.Limits.{EngineParts}
use Rattle.wt_env.specs.declared.types.WasmValType.{WasmValType}
use Rattle.wt_env.specs.declared.types.WasmSubType.{WasmSubType}
use Rattle.wt_env.specs.declared.types.WasmRecGroup.{WasmRecGroup}
use Rattle.wt_tree.specs.Tree.{ClosedTree}
use Rattle.wt_tree.specs.ModuleTree.{module_trees}
use Rattle.wt_rules.specs.declared.place.Place.{Place}
use Rattle.wt_rules.specs.declared.place.Rule.{Rule}
use Rattle.wt_rules.specs.HostTypes.{host_breach}
use Rattle.wt_rules.specs.Rules.{first_broken, is_function, are_functions}
use Rattle.wt_model.specs.declared.refusal.BuildRefusal.{BuildRefusal}
use Rattle.wt_model.specs.declared.refusal.BuildRefusal.TheVariants as refusal
use Rattle.wt_model.specs.Registered.{RegisteredGroup, GroupHolds, Registry}
use Rattle.wt_model.specs.Describe.{tree_of}
use Rattle.wt_model.specs.HostExceptions.{exception_tree}
use Rattle.wt_model.specs.HostRefusals.{breach_refusal}
use Rattle.wt_model.specs.Indices.{closed_tree}
use Rattle.wt_model.specs.Trampolines.{trampolines_of}
use Rattle.wt_model.specs.Reach.{edges}
use Rattle.wt_model.specs.Holds.{Hold, Collection, stop_waiting, hold_each}
use Rattle.wt_model.specs.Plan.{Plan, empty_plan, groups_of, first_index, plan_key, plan_exception, plan_groups}
use Rattle.wt_model.specs.Limits.{passed_limit}

-- What is to be registered: one type of a host, whose references are engine indices, the exception of a host that holds
-- these values, whose function type is registered with it, or the groups of a module.
pub data Registration : Type 0 where
  host_type : WasmSubType → Registration
  host_exception : List WasmValType → Registration
  module_groups : List WasmRecGroup → Registration

-- The closed trees of what is to be registered, where these groups are registered.
abbrev pub trees_of : List RegisteredGroup → Registration → List ClosedTree
trees_of made (host_type ty) = record { tree = tree_of made (ty ∷ []); place = 0 } ∷ []
trees_of made (host_exception fields) = record { tree = exception_tree made fields; place = 0 } ∷ []
trees_of made (module_groups groups) = module_trees [] groups

-- what it comes to, where it is accepted
abbrev pub registration_plan : Registry → Registration → Plan
registration_plan registry (host_type ty) = plan_key (empty_plan registry) (ty ∷ [])
registration_plan registry (host_exception fields) = plan_exception (empty_plan registry) fields
registration_plan registry (module_groups groups) = plan_groups (empty_plan registry) groups

-- ---- the build checks

abbrev pub invalid_module : Place × Rule → BuildRefusal
invalid_module broken = refusal.InvalidModule broken.0 broken.1

-- the first cause by the type of a host, or by the first rule of module types that is broken
abbrev pub rule_refusal : Registry → Registration → Option BuildRefusal
rule_refusal registry (host_type ty) = option_map breach_refusal (host_breach (closed_tree registry.made) ty)
rule_refusal registry (host_exception fields) = None
rule_refusal registry (module_groups groups) = option_map invalid_module (first_broken groups)

-- whether it has functions alone
abbrev pub has_functions_alone : Registration → Bool
has_functions_alone (host_type ty) = is_function ty
has_functions_alone (host_exception fields) = false
has_functions_alone (module_groups groups) = are_functions groups

-- an engine without garbage collection takes functions alone
abbrev pub gc_refusal : Registry → Registration → Option BuildRefusal
gc_refusal registry registration = if registry.engine.gc || has_functions_alone registration then None else Some refusal.NoGc

-- the first limit that would be passed
abbrev pub limit_refusal : Registry → ℕ → Registration → Option BuildRefusal
limit_refusal registry party registration = option_map refusal.Full (passed_limit registry party (registration_plan registry registration))

-- The first cause for which a registration by a party below the limit is refused, if there is one: what a type of a
-- host breaks, or a broken rule of a module, then no garbage collection, then a limit.
abbrev pub registration_refusal : Registry → ℕ → Registration → Option BuildRefusal
registration_refusal registry party registration =
    option_or (rule_refusal registry registration) (option_or (gc_refusal registry registration) (limit_refusal registry party registration))

-- ---- what an accepted registration makes

-- nobody holds a new group yet
abbrev pub new_holds : EngineParts → RegisteredGroup → GroupHolds
new_holds engine group = record { number = group.number; holds = replicate engine.limits.parties 0; waits = false }

-- what new groups lead to doesn't wait
abbrev pub stop_waiting_each : List RegisteredGroup → List GroupHolds → List GroupHolds
stop_waiting_each [] standings = standings
stop_waiting_each (group ∷ rest) standings = stop_waiting_each rest (stop_waiting (edges group) standings)

-- The registry after a plan was carried out for a party: the new groups are registered, and the party has one
-- more hold of each group for each time that it occurs.
abbrev pub carried_out : Registry → ℕ → Plan → Registry
carried_out registry party plan = record registry {
  made = groups_of plan;
  given = plan.given;
  standings = hold_each party plan.numbers (stop_waiting_each plan.added registry.standings ++ map (new_holds registry.engine) plan.added);
}

-- what was made, unless it is refused
abbrev pub made_unless : {A : Type 0} → Option BuildRefusal → A → Result A BuildRefusal
made_unless None made = Ok made
made_unless (Some why) made = Err why

abbrev pub hold_of : ℕ → ℕ → Plan → Hold
hold_of engine party plan = record {
  engine = engine;
  index = first_index plan.map;
  number = unwrap_or (slice_get plan.numbers 0) 0;
  party = party;
}

-- A registration of what is one type by a party: its hold and the registry after it, or the first cause why not.
abbrev pub register_one : Registry → ℕ → Registration → Result (Hold × Registry) BuildRefusal
register_one registry party registration =
    let plan = registration_plan registry registration in
    made_unless (registration_refusal registry party registration) (hold_of registry.engine.number party plan, carried_out registry party plan)

-- that of one type of a host
abbrev pub register : Registry → ℕ → WasmSubType → Result (Hold × Registry) BuildRefusal
register registry party ty = register_one registry party (host_type ty)

-- and that of the exception that holds these
abbrev pub register_exception : Registry → ℕ → List WasmValType → Result (Hold × Registry) BuildRefusal
register_exception registry party fields = register_one registry party (host_exception fields)

abbrev pub collection_of : ℕ → ℕ → Plan → Collection
collection_of engine party plan = record {
  engine = engine;
  party = party;
  numbers = plan.numbers;
  map = plan.map;
  trampolines = trampolines_of (groups_of plan) plan.map;
}

-- A registration of a module's groups by a party: what it holds then and the registry after it, or the first
-- cause why not.
abbrev pub register_groups : Registry → ℕ → List WasmRecGroup → Result (Collection × Registry) BuildRefusal
register_groups registry party groups =
    let plan = registration_plan registry (module_groups groups) in
    made_unless (registration_refusal registry party (module_groups groups)) (collection_of registry.engine.number party plan, carried_out registry party plan)

-- A refusal is want of memory, or the first cause.
abbrev pub IsRefusal : Option BuildRefusal → BuildRefusal → Type 0
IsRefusal cause why = (why ≡ refusal.OutOfMemory) ⊎ (cause ≡ Some why)
