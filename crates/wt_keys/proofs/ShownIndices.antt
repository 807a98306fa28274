-- The members of a registered group with every reference as an index, from its description or from its key.
use Rattle.std.proofs.Common.{◌≡◌, ℕ, zero, suc, List, [], ◌∷◌, map, slice_get, Some, option_map, unwrap_or, refl, sym, ap, ◌∙◌}
use Rattle.wt_env.specs.declared.types.VMSharedTypeIndex.{VMSharedTypeIndex}
use Rattle.wt_env.specs.declared.types.ModuleInternedTypeIndex.{ModuleInternedTypeIndex}
use Rattle.wt_env.specs.declared.types.EngineOrModuleTypeIndex.{EngineOrModuleTypeIndex}
use Rattle.wt_env.specs.declared.types.EngineOrModuleTypeIndex.TheVariants as index
use Rattle.wt_tree.specs.References.{group_refs, number_group}
use Rattle.wt_tree.specs.MapRefs.{map_group_refs, fill_index}
use Rattle.wt_tree.proofs.Numbering.{refill_group}
use Rattle.wt_tree.proofs.Changing.{map_group_refs-same, map_group_refs-over}
use Rattle.wt_keys.specs.declared.entry.RecGroupEntry.{RecGroupEntry}
use Rattle.wt_model.specs.Registered.{RegisteredGroup}
use Rattle.wt_env.specs.Among.{Among}
use Rattle.wt_model.specs.Sound.{IsRising}
use Rattle.wt_keys.specs.Entries.{made_of, made_by}
use Rattle.wt_keys.specs.Keys.{named_at, AreKeys, own_shown}
use Rattle.wt_keys.proofs.KeyedGroups.{AreKeyed, keyed}
use Rattle.wt_model.specs.Shown.{index_at, shown_index, shown}
use Rattle.wt_env.proofs.lists.Members.{first_same, rest_same}
use Rattle.wt_model.proofs.indices.ShownPlaces.{index_at-located}

module _ (top : ℕ) (made : List RegisteredGroup) (rising : IsRising 0 made top) (indices : List VMSharedTypeIndex) where
  named-shown : (x : EngineOrModuleTypeIndex) (o : ℕ × ℕ) → named_at made x ≡ Some o → own_shown indices x ≡ index.Engine (index_at made o)
  named-shown (index.Engine i) o is = ap index.Engine (sym (index_at-located top made i o rising is))
  named-shown (index.Module i) o is = absurd (cc)
  named-shown (index.RecGroup k) o is = absurd (cc)

  refs-shown : (xs : List EngineOrModuleTypeIndex) (os : List (ℕ × ℕ)) → map (named_at made) xs ≡ map Some os → (n : ℕ) (d : ModuleInternedTypeIndex)
      → own_shown indices (unwrap_or (slice_get xs n) (index.Module d)) ≡ unwrap_or (option_map (λ at. index.Engine (index_at made at)) (slice_get os n)) (index.Module d)
  refs-shown [] [] is n d = refl
  refs-shown [] (o ∷ os) is n d = absurd (cc)
  refs-shown (x ∷ xs) [] is n d = absurd (cc)
  refs-shown (x ∷ xs) (o ∷ os) is zero d = named-shown x o (first_same is)
  refs-shown (x ∷ xs) (o ∷ os) is (suc n) d = refs-shown xs os (rest_same is) n d

-- each reference of the numbered key is shown as that of the key is
pub shown-filled : (entries : List RecGroupEntry) (top : ℕ) (entry : RecGroupEntry) → AreKeyed entries top → Among entry entries → (x : EngineOrModuleTypeIndex) → shown_index (made_by entries) (made_of entry) x ≡ own_shown entry.shared_type_indices (fill_index (group_refs entry.hash_consing_key.types) x)
shown-filled entries top entry keys at (index.Engine i) = refl
shown-filled entries top entry keys at (index.Module n) =
    sym (refs-shown top (made_by entries) keys.rising entry.shared_type_indices (group_refs entry.hash_consing_key.types) entry.outer (keys.keys entry at).names n.0 n)
shown-filled entries top entry keys at (index.RecGroup k) = refl

-- a registered group shows its key, with its own members as indices
pub shown-key : (entries : List RecGroupEntry) (top : ℕ) (entry : RecGroupEntry) → AreKeys entries top → Among entry entries → shown (made_by entries) (made_of entry) ≡ map_group_refs (own_shown entry.shared_type_indices) entry.hash_consing_key.types
shown-key entries top entry keys at =
    let refs = group_refs entry.hash_consing_key.types in
    let members = number_group entry.hash_consing_key.types in
    map_group_refs-same (shown_index (made_by entries) (made_of entry)) (λ x. own_shown entry.shared_type_indices (fill_index refs x)) (shown-filled entries top entry (keyed keys) at) members
    ∙ sym (map_group_refs-over (own_shown entry.shared_type_indices) (fill_index refs) members)
    ∙ ap (map_group_refs (own_shown entry.shared_type_indices)) (refill_group entry.hash_consing_key.types)
