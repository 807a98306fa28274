-- Where a group of a module keeps the order of types, each type index in its key is a known type or a place of its own,
-- and each supertype is before the type that declares it.
use Rattle.std.proofs.Common.{◌≡◌, ℕ, ◌+◌, ◌-◌, ◌<◌, ◌≤◌, Bool, true, false, nat_lt, if◌then◌else◌, List, [], ◌∷◌, length, slice_get, get_or, Option, Some, None, option_map, inl, refl, sym, ap, subst, ◌∙◌, arith}
use Rattle.std.proofs.lemmas.List.{length-map}
use Rattle.std.proofs.lemmas.Option.{slice_get-get_or, slice_get-map}
use Rattle.wt_env.specs.Among.{Among}
use Rattle.wt_env.specs.declared.types.VMSharedTypeIndex.{VMSharedTypeIndex}
use Rattle.wt_env.specs.declared.types.ModuleInternedTypeIndex.{ModuleInternedTypeIndex}
use Rattle.wt_env.specs.declared.types.EngineOrModuleTypeIndex.{EngineOrModuleTypeIndex}
use Rattle.wt_env.specs.declared.types.EngineOrModuleTypeIndex.TheVariants as index
use Rattle.wt_env.specs.declared.types.WasmSubType.{WasmSubType}
use Rattle.wt_env.specs.declared.types.WasmRecGroup.{WasmRecGroup}
use Rattle.wt_env.proofs.lists.Mapped.{among_map}
use Rattle.wt_env.proofs.lists.Members.{some_same, get_among}
use Rattle.wt_tree.specs.Canonical.{known_at, canonical_index}
use Rattle.wt_tree.specs.MapRefs.{map_sub_refs, map_group_refs}
use Rattle.wt_tree.specs.Kinds.{type_indices}
use Rattle.wt_tree.proofs.ChangedKinds.{type_indices-changed}
use Rattle.wt_tree.proofs.ShownSupertypes.{supertype-among}
use Rattle.wt_rules.specs.Rules.{AreModuleTypes}
use Rattle.wt_rules.proofs.KeptRules.{KeepOrder, forward-kept, super_order-kept}
use Rattle.wt_keys.specs.Keys.{KeyNamesSlot, KeyNamesEarlier, KeyNamesTypes}
use Rattle.wt_plan.proofs.ModuleKeys.{module_index, known_index-at}

-- what a function makes of the entry of an option comes from one
some_mapped : {A B : Type 0} (f : A → B) (found : Option A) (y : B) → option_map f found ≡ Some y → (x : A) × (found ≡ Some x) × (y ≡ f x)
some_mapped f None y is = absurd (cc)
some_mapped f (Some x) y is = (x, refl, sym (some_same is))

module _ (indices : List VMSharedTypeIndex) (group : WasmRecGroup) (only : AreModuleTypes (group ∷ [])) (rules : KeepOrder (length indices) group.types) where
  abbrev change : EngineOrModuleTypeIndex → EngineOrModuleTypeIndex
  change = canonical_index (length indices) indices

  -- an index in a type of the group is one to a type of the module, up to the group's end
  module_within : (t : WasmSubType) (i : EngineOrModuleTypeIndex) → Among t group.types → Among i (type_indices t) → (j : ModuleInternedTypeIndex) × (i ≡ index.Module j) × (j.0 < length indices + length group.types)
  module_within t i at there =
      let named = module_index i (only.by_index group t i (inl refl) at there) in
      let within = forward-kept (length indices + length group.types) t named.0 (rules.forward t at) (subst (λ (x : EngineOrModuleTypeIndex). Among x (type_indices t)) named.1 there) in
      (named.0, named.1, within)

  slot_found : (j : ModuleInternedTypeIndex) → j.0 < length indices + length group.types → KeyNamesSlot (map_group_refs change group.types) (change (index.Module j))
  slot_found j within = by (nat_lt j.0 (length indices)) refl
    where
      by : (b : Bool) → nat_lt j.0 (length indices) ≡ b → KeyNamesSlot (map_group_refs change group.types) (if b then known_at indices j else index.RecGroup (j.0 - length indices))
      by true e =
          let earlier : j.0 < length indices = grind (arith, e) in
          let at = slice_get-get_or indices j.0 (record { 0 = 0 }) earlier in
          subst (KeyNamesSlot (map_group_refs change group.types)) (sym (known_index-at indices j (get_or indices j.0 (record { 0 = 0 })) at)) tt
      by false e =
          let past : length indices ≤ j.0 = grind (arith, e) in
          let long = length-map group.types (map_sub_refs change) in
          omega (arith, past, within, long)

  slots_named : (ty : WasmSubType) (i : EngineOrModuleTypeIndex) → Among ty (map_group_refs change group.types) → Among i (type_indices ty) → KeyNamesSlot (map_group_refs change group.types) i
  slots_named ty i at there =
      let source = among_map (map_sub_refs change) group.types ty at in
      let changed = subst (Among i) (ap type_indices source.2 ∙ type_indices-changed change source.0) there in
      let from = among_map change (type_indices source.0) i changed in
      let named = module_within source.0 from.0 source.1 from.1 in
      subst (KeyNamesSlot (map_group_refs change group.types)) (sym (from.2 ∙ ap change named.1)) (slot_found named.0 named.2)

  -- a type before the one at a place is a known one, or an earlier member of the group
  earlier_found : (place : ℕ) (j : ModuleInternedTypeIndex) → j.0 < length indices + place → KeyNamesEarlier place (change (index.Module j))
  earlier_found place j below = by (nat_lt j.0 (length indices)) refl
    where
      by : (b : Bool) → nat_lt j.0 (length indices) ≡ b → KeyNamesEarlier place (if b then known_at indices j else index.RecGroup (j.0 - length indices))
      by true e =
          let known_before : j.0 < length indices = grind (arith, e) in
          let at = slice_get-get_or indices j.0 (record { 0 = 0 }) known_before in
          subst (KeyNamesEarlier place) (sym (known_index-at indices j (get_or indices j.0 (record { 0 = 0 })) at)) tt
      by false e =
          let past : length indices ≤ j.0 = grind (arith, e) in
          omega (arith, past, below)

  super_changed : (place : ℕ) (t : WasmSubType) (i : EngineOrModuleTypeIndex) → slice_get group.types place ≡ Some t → t.supertype ≡ Some i → KeyNamesEarlier place (change i)
  super_changed place t i at is =
      let named = module_within t i (get_among group.types place t at) (supertype-among t i is) in
      let below = super_order-kept (length indices + place) t named.0 (rules.super_order place t at) (is ∙ ap Some named.1) in
      subst (λ (x : EngineOrModuleTypeIndex). KeyNamesEarlier place (change x)) (sym named.1) (earlier_found place named.0 below)

  supertypes_named : (place : ℕ) (ty : WasmSubType) (i : EngineOrModuleTypeIndex) → slice_get (map_group_refs change group.types) place ≡ Some ty → ty.supertype ≡ Some i → KeyNamesEarlier place i
  supertypes_named place ty i at is =
      let source = some_mapped (map_sub_refs change) (slice_get group.types place) ty (sym (slice_get-map (map_sub_refs change) group.types place) ∙ at) in
      let from = some_mapped change (source.0).supertype i (ap (λ (t : WasmSubType). t.supertype) (sym source.2) ∙ is) in
      subst (KeyNamesEarlier place) (sym from.2) (super_changed place source.0 from.0 source.1 from.1)

  pub canonical-slots : KeyNamesTypes (map_group_refs (canonical_index (length indices) indices) group.types)
  canonical-slots = record { slots = slots_named; supertypes = supertypes_named }
