-- One place of the lists that entries keep tells whether declared steps lead from one registered type to another.
use Rattle.std.proofs.Common.{◌≡◌, ℕ, true, List, length, slice_get, Some, None, IsSome, is_some, sym, ap, ◌∙◌}
use Rattle.std.proofs.lemmas.Bool.{false≢true}
use Rattle.wt_env.specs.declared.types.VMSharedTypeIndex.{VMSharedTypeIndex}
use Rattle.wt_env.specs.declared.types.EngineOrModuleTypeIndex.TheVariants as index
use Rattle.wt_tree.specs.Fit.{named_by}
use Rattle.wt_tree.proofs.Subtyping.{is_sub-refl}
use Rattle.wt_model.specs.Indices.{locate, closed_tree}
use Rattle.wt_model.specs.Subtyping.{is_subtype_index}
use Rattle.wt_keys.specs.declared.entry.RecGroupEntry.{RecGroupEntry}
use Rattle.wt_keys.specs.Entries.{made_by}
use Rattle.wt_keys.specs.Keys.{AreKeys}
use Rattle.wt_keys.specs.SupertypeChains.{list_of, is_index}
use Rattle.wt_keys.proofs.EntryTypes.{entries-map}
use Rattle.wt_keys.proofs.SupertypeLists.{lists-tell}
use Rattle.wt_keys.proofs.ToldLists.{list-told, list-found}

module _ (entries : List RecGroupEntry) (top : ℕ) (keys : AreKeys entries top) where
  -- a type is its own subtype
  pub own-subtype : (i j : VMSharedTypeIndex) → i.0 ≡ j.0 → true ≡ is_subtype_index (made_by entries) i j
  own-subtype i j is =
      let same : i ≡ j = ap (λ (n : ℕ). record { 0 = n }) is in
      sym (is_sub-refl (named_by (closed_tree (made_by entries)) (index.Engine i))) ∙ ap (is_subtype_index (made_by entries) i) same

  -- of two others one place of the lists tells
  pub listed-subtype : (i j : VMSharedTypeIndex) (below above : List VMSharedTypeIndex) → (i.0 ≡ j.0 → ⊥) → list_of entries i ≡ Some below → list_of entries j ≡ Some above
      → is_index (slice_get below (length above)) j ≡ is_subtype_index (made_by entries) i j
  listed-subtype i j below above differ first second =
      let one = list-told entries i below keys.supertypes first in
      let other = list-told entries j above keys.supertypes second in
      lists-tell (closed_tree (made_by entries)) (entries-map entries top keys) i j one.0 other.0 below above one.1 other.1 (λ same. differ (ap (λ (k : VMSharedTypeIndex). k.0) same)) one.2 other.2

  -- and each registered type has a list
  pub listed : (i : VMSharedTypeIndex) → IsSome (locate (made_by entries) i) → list_of entries i ≡ None → ⊥
  listed i is none = let found = list-found entries i top keys is in false≢true (ap is_some (sym none ∙ found.1))
