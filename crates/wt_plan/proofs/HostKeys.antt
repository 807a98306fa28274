-- A trampoline, which has no index in it, names nothing that isn't there.
use Rattle.std.proofs.Common.{◌≡◌, true, [], ◌∷◌, inl, inr, subst}
use Rattle.wt_env.specs.Among.{Among}
use Rattle.wt_env.specs.declared.types.EngineOrModuleTypeIndex.{EngineOrModuleTypeIndex}
use Rattle.wt_env.specs.declared.types.WasmSubType.{WasmSubType}
use Rattle.wt_env.proofs.lists.Members.{get_among}
use Rattle.wt_tree.specs.Trampoline.{is_own_trampoline}
use Rattle.wt_tree.proofs.Plain.{map_sub_refs-own}
use Rattle.wt_tree.specs.Kinds.{type_indices}
use Rattle.wt_tree.proofs.ShownSupertypes.{supertype-among}
use Rattle.wt_rules.proofs.Unchanging.{IsUnchanging, no_index}
use Rattle.wt_keys.specs.Keys.{KeyNamesTypes}

unchanging-slots : (ty : WasmSubType) → IsUnchanging ty → KeyNamesTypes (ty ∷ [])
unchanging-slots ty same = record {
  slots = λ t i at there. absurd (none t i at there);
  supertypes = λ place t i at is. absurd (none t i (get_among (ty ∷ []) place t at) (supertype-among t i is));
}
  where
    none : (t : WasmSubType) (i : EngineOrModuleTypeIndex) → Among t (ty ∷ []) → Among i (type_indices t) → ⊥
    none t i (inl is) there = no_index ty same i (subst (λ (x : WasmSubType). Among i (type_indices x)) is there)
    none t i (inr nothing) there = absurd nothing

-- a key of a trampoline alone names nothing that isn't there
pub alone-slots : (ty : WasmSubType) → is_own_trampoline ty ≡ true → KeyNamesTypes (ty ∷ [])
alone-slots ty own = unchanging-slots ty (λ f. map_sub_refs-own f ty own)
