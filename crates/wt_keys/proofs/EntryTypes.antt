-- The closed trees of entries, by index, with what each shows.
use Rattle.std.proofs.Common.{◌≡◌, ℕ, List, Some}
use Rattle.wt_env.specs.declared.types.VMSharedTypeIndex.{VMSharedTypeIndex}
use Rattle.wt_env.specs.declared.types.WasmSubType.{WasmSubType}
use Rattle.wt_tree.specs.Subtyping.{IsTypeMap}
use Rattle.wt_tree.specs.Fit.{ShowsAt}
use Rattle.wt_model.specs.Indices.{closed_tree}
use Rattle.wt_model.specs.Shown.{sub_type_at}
use Rattle.wt_model.proofs.subtyping.NamedIndices.{AreTyped}
use Rattle.wt_model.proofs.subtyping.ShownTypes.{shows-at}
use Rattle.wt_model.proofs.subtyping.TypeMaps.{type-map}
use Rattle.wt_keys.specs.declared.entry.RecGroupEntry.{RecGroupEntry}
use Rattle.wt_keys.specs.Entries.{made_by}
use Rattle.wt_keys.specs.Keys.{AreKeys}
use Rattle.wt_keys.proofs.KeyedGroups.{keyed, keyed-typed}

-- ---- the entries

pub typed : (entries : List RecGroupEntry) (top : ℕ) → AreKeys entries top → AreTyped (made_by entries) top
typed entries top keys = keyed-typed entries top (keyed keys)

pub entries-map : (entries : List RecGroupEntry) (top : ℕ) → AreKeys entries top → IsTypeMap (closed_tree (made_by entries))
entries-map entries top keys = type-map (made_by entries) top (typed entries top keys)

-- what the type at an index shows
pub registered-shows : (entries : List RecGroupEntry) (top : ℕ) (i : VMSharedTypeIndex) (ty : WasmSubType) → AreKeys entries top → sub_type_at (made_by entries) i ≡ Some ty
    → ShowsAt (closed_tree (made_by entries)) i ty
registered-shows entries top i ty keys is = shows-at (made_by entries) top (typed entries top keys) i ty is
