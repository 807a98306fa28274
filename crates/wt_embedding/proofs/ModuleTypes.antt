-- A group of two types that each refer to one type of the module.
use Rattle.std.proofs.Common.{◌≡◌, inl, inr, true, List, [], ◌∷◌, ap, subst, ◌∙◌}
use Rattle.wt_env.specs.declared.types.ModuleInternedTypeIndex.{ModuleInternedTypeIndex}
use Rattle.wt_env.specs.declared.types.EngineOrModuleTypeIndex.{EngineOrModuleTypeIndex}
use Rattle.wt_env.specs.declared.types.EngineOrModuleTypeIndex.TheVariants as index
use Rattle.wt_env.specs.declared.types.WasmSubType.{WasmSubType}
use Rattle.wt_env.specs.declared.types.WasmRecGroup.{WasmRecGroup}
use Rattle.wt_env.specs.Among.{Among}
use Rattle.wt_tree.specs.Kinds.{type_indices}
use Rattle.wt_registry.specs.Rules.{is_module_index, AreModuleTypes}

one-named : (i : ModuleInternedTypeIndex) (r : EngineOrModuleTypeIndex) → Among r (index.Module i ∷ []) → is_module_index r ≡ true
one-named i r (inl same) = ap is_module_index same
one-named i r (inr none) = absurd none

module _ (a b : WasmSubType) (i j : ModuleInternedTypeIndex) (first : type_indices a ≡ index.Module i ∷ []) (second : type_indices b ≡ index.Module j ∷ []) where
  member-named : (ty : WasmSubType) (r : EngineOrModuleTypeIndex) → Among ty (a ∷ b ∷ []) → Among r (type_indices ty) → is_module_index r ≡ true
  member-named ty r (inl same) at = one-named i r (subst (λ (refs : List EngineOrModuleTypeIndex). Among r refs) (ap type_indices same ∙ first) at)
  member-named ty r (inr (inl same)) at = one-named j r (subst (λ (refs : List EngineOrModuleTypeIndex). Among r refs) (ap type_indices same ∙ second) at)
  member-named ty r (inr (inr none)) at = absurd none

  pub pair-named : AreModuleTypes (record { types = a ∷ b ∷ [] } ∷ [])
  pair-named = record { by_index = named }
    where
      named : (group : WasmRecGroup) (ty : WasmSubType) (r : EngineOrModuleTypeIndex) → Among group (record { types = a ∷ b ∷ [] } ∷ []) → Among ty group.types → Among r (type_indices ty) → is_module_index r ≡ true
      named group ty r (inl same) in_group at = member-named ty r (subst (λ (g : WasmRecGroup). Among ty g.types) same in_group) at
      named group ty r (inr none) in_group at = absurd none
