-- What a registration of groups comes to, before any limit is tested and any hold is added.
use Rattle.std.specs.Prelude.{◌≡◌, ℕ, ◌+◌, List, [], ◌∷◌, ◌++◌, length, slice_get, unwrap_or, Option, Some, None}
use Rattle.wt_env.specs.Among.{Among}
use Rattle.wt_env.specs.declared.types.VMSharedTypeIndex.{VMSharedTypeIndex}
use Rattle.wt_env.specs.declared.types.EngineOrModuleTypeIndex.TheVariants as index
use Rattle.wt_env.specs.declared.types.WasmValType.{WasmValType}
use Rattle.wt_env.specs.declared.types.WasmSubType.{WasmSubType}
use Rattle.wt_env.specs.declared.types.WasmRecGroup.{WasmRecGroup}
use Rattle.wt_tree.specs.Canonical.{canonical_index}
use Rattle.wt_tree.specs.MapRefs.{map_group_refs}
use Rattle.wt_tree.specs.Tree.{Description}
use Rattle.wt_tree.specs.Trampoline.{trampoline_tree, trampoline_alone, other_trampoline}
use Rattle.wt_model.specs.declared.ever.EverRegistered.{EverRegistered}
use Rattle.wt_model.specs.Registered.{RegisteredGroup, Registry}
use Rattle.wt_model.specs.Indices.{used, assign_shared_type_indices}
use Rattle.wt_model.specs.Describe.{describe, tree_of, find_tree}
use Rattle.wt_model.specs.HostExceptions.{exception_function, exception_over}
use Rattle.wt_model.specs.Trampolines.{trampoline_numbers}
use Rattle.wt_model.specs.Reach.{edges, Reach}

-- The groups that are registered, those that are new from the oldest on, how much was ever registered with
-- them, the registration number of the group of each occurrence, and the index of each type so far.
pub record Plan : Type 0 where
  pub registered : List RegisteredGroup
  pub added : List RegisteredGroup
  pub given : EverRegistered
  pub numbers : List ℕ
  pub map : List VMSharedTypeIndex

abbrev pub empty_plan : Registry → Plan
empty_plan registry = record { registered = registry.made; added = []; given = registry.given; numbers = []; map = [] }

-- what is registered after the plan
abbrev pub groups_of : Plan → List RegisteredGroup
groups_of plan = plan.registered ++ plan.added

-- one more occurrence of a group
abbrev pub with_occurrence : Plan → RegisteredGroup → Plan
with_occurrence plan group = record plan { numbers = plan.numbers ++ group.number ∷ []; map = plan.map ++ group.indices }

-- a new group takes the next registration number, and the smallest free indices
abbrev pub new_group : Plan → Description → RegisteredGroup
new_group plan description = record {
  number = plan.given.numbers + 1;
  description = description;
  trampolines = trampoline_numbers (groups_of plan) description.members;
  indices = assign_shared_type_indices (length description.members) (used (groups_of plan));
}

-- one more group was ever registered
abbrev pub ever_with : EverRegistered → RegisteredGroup → EverRegistered
ever_with given group = record {
  numbers = given.numbers + 1;
  types = given.types + length group.description.members;
  references = given.references + length (edges group);
}

abbrev pub with_added : Plan → RegisteredGroup → Plan
with_added plan group = record plan { added = plan.added ++ group ∷ []; given = ever_with plan.given group }

-- ---- the trampolines of a new group

abbrev pub trampoline_planned : Plan → WasmSubType → Option RegisteredGroup → Plan
trampoline_planned plan member (Some group) = plan
trampoline_planned plan member None = with_added plan (new_group plan (trampoline_alone member))

-- the trampoline of a member, where it isn't the member itself: a group of its own, which may be there already
abbrev pub plan_trampoline : Plan → Option WasmSubType → Plan
plan_trampoline plan None = plan
plan_trampoline plan (Some member) = trampoline_planned plan member (find_tree (groups_of plan) (trampoline_tree member))

-- those of members, in order
abbrev pub plan_trampolines : Plan → List WasmSubType → Plan
plan_trampolines plan [] = plan
plan_trampolines plan (ty ∷ members) = plan_trampolines (plan_trampoline plan (other_trampoline ty)) members

-- ---- one more group

abbrev pub with_new : Plan → List WasmSubType → Plan
with_new plan key =
    let group = new_group plan (describe (groups_of plan) key) in
    with_occurrence (with_added plan group) group

abbrev pub planned : Plan → List WasmSubType → Option RegisteredGroup → Plan
planned plan key (Some group) = with_occurrence plan group
planned plan key None = with_new (plan_trampolines plan key) key

-- One more group, whose references that leave it are engine indices: a group that has its tree is that group. A new
-- one comes behind the trampolines of its members that are missing.
abbrev pub plan_key : Plan → List WasmSubType → Plan
plan_key plan key = planned plan key (find_tree (groups_of plan) (tree_of (groups_of plan) key))

-- one more group of a module, whose types count from behind those so far
abbrev pub plan_group : Plan → WasmRecGroup → Plan
plan_group plan group = plan_key plan (map_group_refs (canonical_index (length plan.map) plan.map) group.types)

-- the groups of a module in order
abbrev pub plan_groups : Plan → List WasmRecGroup → Plan
plan_groups plan [] = plan
plan_groups plan (group ∷ groups) = plan_groups (plan_group plan group) groups

-- ---- an exception of a host

-- nothing occurs yet of what was planned
abbrev pub without_occurrences : Plan → Plan
without_occurrences plan = record plan { numbers = []; map = [] }

abbrev pub first_index : List VMSharedTypeIndex → VMSharedTypeIndex
first_index map = unwrap_or (slice_get map 0) (record { 0 = 0 })

-- The exception that holds these, behind its function type, which doesn't occur by itself.
abbrev pub plan_exception : Plan → List WasmValType → Plan
plan_exception plan fields =
    let function = plan_key plan (exception_function fields ∷ []) in
    plan_key (without_occurrences function) (exception_over (index.Engine (first_index function.map)) fields ∷ [])

-- Edges lead to each new group from one that occurs; and what occurs is registered or new.
pub record Occurs (plan : Plan) : Type 0 where
  pub every : (group : RegisteredGroup) → Among group plan.added → (n : ℕ) × Among n plan.numbers × Reach (groups_of plan) n group.number
  pub only : (number : ℕ) → Among number plan.numbers → (group : RegisteredGroup) × Among group (groups_of plan) × (group.number ≡ number)
