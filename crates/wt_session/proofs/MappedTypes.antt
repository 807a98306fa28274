-- The index of each type of a module is that of a group of the module.
use Rattle.std.proofs.Common.{◌≡◌, ℕ, suc, inl, inr, List, [], ◌∷◌, ◌++◌, length, slice_get, Option, Some, None, option_map, Result, Ok, Err, refl, sym, ap, subst}
use Rattle.wt_env.specs.Among.{Among}
use Rattle.wt_env.specs.declared.types.VMSharedTypeIndex.{VMSharedTypeIndex}
use Rattle.wt_env.specs.declared.types.WasmSubType.{WasmSubType}
use Rattle.wt_env.specs.declared.types.WasmRecGroup.{WasmRecGroup}
use Rattle.wt_env.proofs.lists.Members.{among_before, among_behind, among_either, find-found}
use Rattle.wt_tree.specs.Canonical.{canonical_index}
use Rattle.wt_tree.specs.MapRefs.{map_group_refs}
use Rattle.wt_tree.specs.Tree.{tree_eq}
use Rattle.wt_tree.specs.Trampoline.{trampoline_tree, trampoline_alone, other_trampoline}
use Rattle.wt_model.specs.declared.refusal.BuildRefusal.{BuildRefusal}
use Rattle.wt_model.specs.Registered.{RegisteredGroup, Registry}
use Rattle.wt_model.specs.Trees.{trees}
use Rattle.wt_model.specs.Describe.{describe, tree_of, find_tree}
use Rattle.wt_model.specs.Holds.{Collection}
use Rattle.wt_model.specs.Plan.{Plan, empty_plan, groups_of, with_occurrence, new_group, with_added, trampoline_planned, plan_trampoline, plan_trampolines, planned, plan_key, plan_group, plan_groups}
use Rattle.wt_model.specs.Registration.{module_groups, registration_plan, registration_refusal, collection_of, carried_out, made_unless, register_groups}
use Rattle.wt_model.specs.Sound.{IsLocated}
use Rattle.wt_session.specs.Session.{AreLocated}

-- ---- a plan

-- each index in the map is one of a group that occurs
abbrev AreMapped : Plan → Type 0
AreMapped plan = (i : VMSharedTypeIndex) → Among i plan.map → (g : RegisteredGroup) × Among g (groups_of plan) × Among g.number plan.numbers × Among i g.indices

added-before : (plan : Plan) (group g : RegisteredGroup) → Among g (groups_of plan) → Among g (groups_of (with_added plan group))
added-before plan group g at = elim (among_either plan.registered plan.added g at) [
  | inl old ↦ among_before plan.registered (plan.added ++ group ∷ []) g old
  | inr new ↦ among_behind plan.registered (plan.added ++ group ∷ []) g (among_before plan.added (group ∷ []) g new)
]

added-own : (plan : Plan) (group : RegisteredGroup) → Among group (groups_of (with_added plan group))
added-own plan group = among_behind plan.registered (plan.added ++ group ∷ []) group (among_behind plan.added (group ∷ []) group (inl refl))

mapped-added : (plan : Plan) (group : RegisteredGroup) → AreMapped plan → AreMapped (with_added plan group)
mapped-added plan group mapped i at = let found = mapped i at in (found.0, added-before plan group found.0 found.1, found.2, found.3)

mapped-trampoline : (plan : Plan) (member : Option WasmSubType) → AreMapped plan → AreMapped (plan_trampoline plan member)
mapped-trampoline plan None mapped = mapped
mapped-trampoline plan (Some member) mapped = by (find_tree (groups_of plan) (trampoline_tree member))
  where
    by : (found : Option RegisteredGroup) → AreMapped (trampoline_planned plan member found)
    by (Some group) = mapped
    by None = mapped-added plan (new_group plan (trampoline_alone member)) mapped

mapped-trampolines : (plan : Plan) (members : List WasmSubType) → AreMapped plan → AreMapped (plan_trampolines plan members)
mapped-trampolines plan [] mapped = mapped
mapped-trampolines plan (ty ∷ members) mapped = mapped-trampolines (plan_trampoline plan (other_trampoline ty)) members (mapped-trampoline plan (other_trampoline ty) mapped)

mapped-occurrence : (plan : Plan) (group : RegisteredGroup) → Among group (groups_of plan) → AreMapped plan → AreMapped (with_occurrence plan group)
mapped-occurrence plan group there mapped i at = elim (among_either plan.map group.indices i at) [
  | inl before ↦ earlier (mapped i before)
  | inr own ↦ (group, there, among_behind plan.numbers (group.number ∷ []) group.number (inl refl), own)
]
  where
    earlier : (g : RegisteredGroup) × Among g (groups_of plan) × Among g.number plan.numbers × Among i g.indices
        → (g : RegisteredGroup) × Among g (groups_of plan) × Among g.number (plan.numbers ++ group.number ∷ []) × Among i g.indices
    earlier found = (found.0, found.1, among_before plan.numbers (group.number ∷ []) (found.0).number found.2, found.3)

mapped-key : (plan : Plan) (key : List WasmSubType) → AreMapped plan → AreMapped (plan_key plan key)
mapped-key plan key mapped = by (find_tree (groups_of plan) (tree_of (groups_of plan) key)) refl
  where
    by : (found : Option RegisteredGroup) → find_tree (groups_of plan) (tree_of (groups_of plan) key) ≡ found → AreMapped (planned plan key found)
    by (Some group) is =
        let test = λ (m : RegisteredGroup). tree_eq (trees (groups_of plan) m.number) (tree_of (groups_of plan) key) in
        mapped-occurrence plan group (find-found test (groups_of plan) group is).1 mapped
    by None is =
        let before = plan_trampolines plan key in
        let group = new_group before (describe (groups_of before) key) in
        mapped-occurrence (with_added before group) group (added-own before group) (mapped-added before group (mapped-trampolines plan key mapped))

mapped-groups : (plan : Plan) (groups : List WasmRecGroup) → AreMapped plan → AreMapped (plan_groups plan groups)
mapped-groups plan [] mapped = mapped
mapped-groups plan (group ∷ groups) mapped =
    mapped-groups (plan_group plan group) groups (mapped-key plan (map_group_refs (canonical_index (length plan.map) plan.map) group.types) mapped)

-- ---- what is registered

among-place : (indices : List VMSharedTypeIndex) (i : VMSharedTypeIndex) → Among i indices → (place : ℕ) × (slice_get indices place ≡ Some i)
among-place [] i at = absurd at
among-place (j ∷ indices) i (inl same) = (0, ap (λ (k : VMSharedTypeIndex). Some k) (sym same))
among-place (j ∷ indices) i (inr later) = let found = among-place indices i later in (suc found.0, found.1)

planned-located : (engine party : ℕ) (plan : Plan) → AreMapped plan → IsLocated (groups_of plan) → AreLocated (groups_of plan) (collection_of engine party plan)
planned-located engine party plan mapped located i at =
    let found = mapped i at in
    let place = among-place (found.0).indices i found.3 in
    ((found.0).number, found.2, ap (option_map (λ (at : ℕ × ℕ). at.0)) (located found.0 place.0 i found.1 place.1))

abbrev made_or : Collection × Registry → Result (Collection × Registry) BuildRefusal → Collection × Registry
made_or other (Ok made) = made
made_or other (Err why) = other

-- Each index of a module that was registered is that of a group of it.
pub module-located : (registry after : Registry) (party : ℕ) (groups : List WasmRecGroup) (types : Collection) → register_groups registry party groups ≡ Ok (types, after) → IsLocated after.made → AreLocated after.made types
module-located registry after party groups types is = by (registration_refusal registry party (module_groups groups)) is
  where
    plan : Plan
    plan = registration_plan registry (module_groups groups)

    made : Collection × Registry
    made = (collection_of registry.engine.number party plan, carried_out registry party plan)

    by : (cause : Option BuildRefusal) → made_unless cause made ≡ Ok (types, after) → IsLocated after.made → AreLocated after.made types
    by (Some why) h = absurd (cc)
    by None h =
        subst (λ (m : Collection × Registry). IsLocated m.1.made → AreLocated m.1.made m.0) (ap (made_or made) h)
        (planned-located registry.engine.number party plan (mapped-groups (empty_plan registry) groups (λ i at. absurd at)))
