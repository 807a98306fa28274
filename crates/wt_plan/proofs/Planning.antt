-- One more group of a plan, by the search by keys.
use Rattle.std.proofs.Common.{◌≡◌, ℕ, ◌+◌, inl, inr, List, [], ◌∷◌, ◌++◌, length, Option, Some, None, option_map, refl, sym, ap, subst, ◌∙◌}
use Rattle.std.specs.List.{find}
use Rattle.std.proofs.lemmas.List.{map-append}
use Rattle.wt_env.specs.Equality.{rec_group_eq}
use Rattle.wt_env.specs.declared.types.WasmRecGroup.{WasmRecGroup}
use Rattle.wt_env.specs.declared.types.WasmSubType.{WasmSubType}
use Rattle.wt_tree.specs.References.{number_group}
use Rattle.wt_tree.proofs.Numbering.{length-number_group}
use Rattle.wt_model.specs.Registered.{RegisteredGroup}
use Rattle.wt_model.specs.Indices.{used, assign_shared_type_indices}
use Rattle.wt_model.specs.Describe.{describe, tree_of, find_tree}
use Rattle.wt_model.specs.declared.ever.EverRegistered.{EverRegistered}
use Rattle.wt_model.specs.Reach.{edges}
use Rattle.wt_model.specs.Trampolines.{trampoline_numbers}
use Rattle.wt_model.specs.Plan.{groups_of, with_occurrence, new_group, ever_with, with_added, with_new, plan_trampolines, planned, plan_key}
use Rattle.wt_model.proofs.indices.FreshIndices.{length-assign_shared_type_indices}
use Rattle.wt_keys.specs.declared.entry.RecGroupEntry.{RecGroupEntry}
use Rattle.wt_keys.specs.Entries.{made_of, made_by}
use Rattle.wt_env.specs.Among.{Among}
use Rattle.wt_tree.specs.MapRefs.{map_group_refs}
use Rattle.wt_keys.specs.Keys.{AreKeys, IsNewKey, own_shown}
use Rattle.wt_keys.proofs.KeyTrees.{find_tree-by_key}
use Rattle.wt_plan.specs.declared.plan.Plan.{Plan as PlanFields}
use Rattle.wt_plan.specs.Planned.{AreResolved, plan_of, PlansMore}

-- what is registered after the plan, as one list of entries
pub groups_of-joined : (entries : List RecGroupEntry) (plan : PlanFields) → groups_of (plan_of entries plan) ≡ made_by (entries ++ plan.added)
groups_of-joined entries plan = sym (map-append made_of entries plan.added)

-- what the search by keys finds is what is planned
planned-by_key : (entries : List RecGroupEntry) (plan : PlanFields) (key : WasmRecGroup) (found : Option RecGroupEntry)
    → AreKeys (entries ++ plan.added) plan.given.numbers → AreResolved (made_by (entries ++ plan.added)) key.types
    → find (λ entry. rec_group_eq entry.hash_consing_key key) (entries ++ plan.added) ≡ found
    → plan_key (plan_of entries plan) key.types ≡ planned (plan_of entries plan) key.types (option_map made_of found)
planned-by_key entries plan key found keys named is =
    let all = entries ++ plan.added in
    let joined = groups_of-joined entries plan in
    (λ i. planned (plan_of entries plan) key.types (find_tree (joined i) (tree_of (joined i) key.types)))
    ∙ ap (planned (plan_of entries plan) key.types)
    (find_tree-by_key all plan.given.numbers key.types named.0 keys named.1 ∙ ap (option_map made_of) is)

-- ---- a group that is there

pub planned-found : (entries : List RecGroupEntry) (plan after : PlanFields) (key : WasmRecGroup) (entry : RecGroupEntry)
    → AreKeys (entries ++ plan.added) plan.given.numbers → AreResolved (made_by (entries ++ plan.added)) key.types
    → find (λ e. rec_group_eq e.hash_consing_key key) (entries ++ plan.added) ≡ Some entry
    → after.added ≡ plan.added → after.given ≡ plan.given
    → after.numbers.items ≡ plan.numbers.items ++ entry.number ∷ [] → after.map.items ≡ plan.map.items ++ entry.shared_type_indices
    → plan_key (plan_of entries plan) key.types ≡ plan_of entries after
planned-found entries plan after key entry keys named is added given numbers map_after =
    planned-by_key entries plan key (Some entry) keys named is
    ∙ (λ i. record {
      registered = made_by entries;
      added = made_by ((sym added) i);
      given = (sym given) i;
      numbers = (sym numbers) i;
      map = (sym map_after) i;
    })

-- ---- a group that is new

-- what stands for the next group with these types as its key
abbrev pub IsNext : List RecGroupEntry → ℕ → List WasmSubType → RecGroupEntry → Type 0
IsNext all numbers types entry = made_of entry ≡ record {
  number = numbers + 1;
  description = describe (made_by all) types;
  trampolines = trampoline_numbers (made_by all) (number_group types);
  indices = assign_shared_type_indices (length types) (used (made_by all));
}

-- how much was ever registered with it
abbrev pub given_with : EverRegistered → RecGroupEntry → EverRegistered
given_with given entry = record {
  numbers = given.numbers + 1;
  types = given.types + length entry.shared_type_indices;
  references = given.references + length (edges (made_of entry));
}

-- where a new entry and nothing else was added
pub plans-entry : (entries : List RecGroupEntry) (before after : PlanFields) (entry : RecGroupEntry) → IsNewKey (entries ++ before.added) before.given.numbers entry
    → entry.runtime_types ≡ map_group_refs (own_shown entry.shared_type_indices) entry.hash_consing_key.types
    → after.added ≡ before.added ++ entry ∷ [] → after.given ≡ given_with before.given entry → PlansMore entries before after (entry ∷ [])
plans-entry entries before after entry new shown added given = record {
  added = added;
  new = (new, tt);
  given = ap (λ (g : EverRegistered). g.numbers) given;
  shown = λ e at. only e at;
}
  where
    only : (e : RecGroupEntry) → Among e (entry ∷ []) → e.runtime_types ≡ map_group_refs (own_shown e.shared_type_indices) e.hash_consing_key.types
    only e (inl same) = subst (λ (x : RecGroupEntry). x.runtime_types ≡ map_group_refs (own_shown x.shared_type_indices) x.hash_consing_key.types) (sym same) shown
    only e (inr none) = absurd none

-- the new group is that of the entry
new-made : (entries : List RecGroupEntry) (plan : PlanFields) (types : List WasmSubType) (entry : RecGroupEntry)
    → IsNext (entries ++ plan.added) plan.given.numbers types entry
    → new_group (plan_of entries plan) (describe (groups_of (plan_of entries plan)) types) ≡ made_of entry
new-made entries plan types entry is =
    let members = length-number_group types in
    let joined = groups_of-joined entries plan in
    (λ i. record {
      number = plan.given.numbers + 1;
      description = describe (joined i) types;
      trampolines = trampoline_numbers (joined i) (number_group types);
      indices = assign_shared_type_indices (members i) (used (joined i));
    })
    ∙ sym is

-- where the entry and nothing else was added, its group was
pub added-new : (entries : List RecGroupEntry) (plan after : PlanFields) (types : List WasmSubType) (entry : RecGroupEntry)
    → IsNext (entries ++ plan.added) plan.given.numbers types entry
    → after.added ≡ plan.added ++ entry ∷ [] → after.given ≡ given_with plan.given entry
    → after.numbers.items ≡ plan.numbers.items → after.map.items ≡ plan.map.items
    → with_added (plan_of entries plan) (new_group (plan_of entries plan) (describe (groups_of (plan_of entries plan)) types)) ≡ plan_of entries after
added-new entries plan after types entry is added given numbers map_after =
    let new = new-made entries plan types entry is in
    let made = made_by (entries ++ plan.added) in
    let members : length (made_of entry).description.members ≡ length entry.shared_type_indices =
    ap (λ (m : RegisteredGroup). length m.description.members) is
    ∙ length-number_group types ∙ sym (length-assign_shared_type_indices (length types) (used made)) ∙ ap (λ (m : RegisteredGroup). length m.indices) (sym is) in
    let grown : made_by plan.added ++ made_of entry ∷ [] ≡ made_by after.added =
    sym (map-append made_of plan.added (entry ∷ [])) ∙ ap made_by (sym added) in
    let counted : ever_with plan.given (made_of entry) ≡ after.given =
    (λ i. record { numbers = plan.given.numbers + 1; types = plan.given.types + members i; references = plan.given.references + length (edges (made_of entry)) }) ∙ sym given in
    ap (with_added (plan_of entries plan)) new
    ∙ (λ i. record {
      registered = made_by entries;
      added = grown i;
      given = counted i;
      numbers = (sym numbers) i;
      map = (sym map_after) i;
    })

-- and with one occurrence of it
pub occurs-new : (entries : List RecGroupEntry) (plan after : PlanFields) (types : List WasmSubType) (entry : RecGroupEntry)
    → IsNext (entries ++ plan.added) plan.given.numbers types entry
    → after.added ≡ plan.added ++ entry ∷ [] → after.given ≡ given_with plan.given entry
    → after.numbers.items ≡ plan.numbers.items ++ entry.number ∷ [] → after.map.items ≡ plan.map.items ++ entry.shared_type_indices
    → with_new (plan_of entries plan) types ≡ plan_of entries after
occurs-new entries plan after types entry is added given numbers map_after =
    let without : PlanFields = record { added = after.added; given = after.given; numbers = plan.numbers; map = plan.map } in
    let new = new-made entries plan types entry is in
    let so_far = added-new entries plan without types entry is added given refl refl in
    (λ i. with_occurrence (so_far i) (new i))
    ∙ (λ i. record {
      registered = made_by entries;
      added = made_by after.added;
      given = after.given;
      numbers = (sym numbers) i;
      map = (sym map_after) i;
    })

-- a group that isn't there comes behind its trampolines
pub planned-new : (entries : List RecGroupEntry) (plan : PlanFields) (key : WasmRecGroup)
    → AreKeys (entries ++ plan.added) plan.given.numbers → AreResolved (made_by (entries ++ plan.added)) key.types
    → find (λ e. rec_group_eq e.hash_consing_key key) (entries ++ plan.added) ≡ None
    → plan_key (plan_of entries plan) key.types ≡ with_new (plan_trampolines (plan_of entries plan) key.types) key.types
planned-new entries plan key keys named none = planned-by_key entries plan key None keys named none
