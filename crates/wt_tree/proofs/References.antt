-- One more value, field or member at the end refers to what it refers to.
use Rattle.std.proofs.Common.{◌≡◌, ℕ, ◌+◌, ◌<◌, List, [], ◌∷◌, ◌++◌, length, take, get_or, sym, ap, ◌∙◌}
use Rattle.std.proofs.lemmas.List.{append_assoc, append-nil, take_more}
use Rattle.wt_env.specs.declared.types.EngineOrModuleTypeIndex.{EngineOrModuleTypeIndex}
use Rattle.wt_env.specs.declared.types.WasmFieldType.{WasmFieldType}
use Rattle.wt_env.specs.declared.types.WasmSubType.{WasmSubType}
use Rattle.wt_env.specs.declared.types.WasmValType.{WasmValType}
use Rattle.wt_tree.specs.References.{val_refs, vals_refs, storage_refs, fields_refs, sub_refs, group_refs}

pub vals_refs-more : (vs : List WasmValType) (v : WasmValType) → vals_refs (vs ++ v ∷ []) ≡ vals_refs vs ++ val_refs v
vals_refs-more [] v = append-nil (val_refs v)
vals_refs-more (w ∷ vs) v = ap (λ (refs : List EngineOrModuleTypeIndex). val_refs w ++ refs) (vals_refs-more vs v) ∙ sym (append_assoc (val_refs w) (vals_refs vs) (val_refs v))

pub fields_refs-more : (fs : List WasmFieldType) (f : WasmFieldType) → fields_refs (fs ++ f ∷ []) ≡ fields_refs fs ++ storage_refs f.element_type
fields_refs-more [] f = append-nil (storage_refs f.element_type)
fields_refs-more (g ∷ fs) f = ap (λ (refs : List EngineOrModuleTypeIndex). storage_refs g.element_type ++ refs) (fields_refs-more fs f) ∙ sym (append_assoc (storage_refs g.element_type) (fields_refs fs) (storage_refs f.element_type))

pub group_refs-more : (ts : List WasmSubType) (t : WasmSubType) → group_refs (ts ++ t ∷ []) ≡ group_refs ts ++ sub_refs t
group_refs-more [] t = append-nil (sub_refs t)
group_refs-more (u ∷ ts) t = ap (λ (refs : List EngineOrModuleTypeIndex). sub_refs u ++ refs) (group_refs-more ts t) ∙ sym (append_assoc (sub_refs u) (group_refs ts) (sub_refs t))

-- ---- a turn of a loop over them

pub vals_refs-turn : (before refs after : List EngineOrModuleTypeIndex) (vs : List WasmValType) (n : ℕ) (d : WasmValType) → n < length vs → refs ≡ before ++ vals_refs (take n vs) → after ≡ refs ++ val_refs (get_or vs n d) → after ≡ before ++ vals_refs (take (n + 1) vs)
vals_refs-turn before refs after vs n d below so_far one =
    one
    ∙ ap (λ (rs : List EngineOrModuleTypeIndex). rs ++ val_refs (get_or vs n d)) so_far
    ∙ append_assoc before (vals_refs (take n vs)) (val_refs (get_or vs n d))
    ∙ ap (λ (rs : List EngineOrModuleTypeIndex). before ++ rs) (sym (vals_refs-more (take n vs) (get_or vs n d)) ∙ ap vals_refs (sym (take_more vs n d below)))

pub fields_refs-turn : (before refs after : List EngineOrModuleTypeIndex) (fs : List WasmFieldType) (n : ℕ) (d : WasmFieldType) → n < length fs → refs ≡ before ++ fields_refs (take n fs) → after ≡ refs ++ storage_refs (get_or fs n d).element_type → after ≡ before ++ fields_refs (take (n + 1) fs)
fields_refs-turn before refs after fs n d below so_far one =
    one
    ∙ ap (λ (rs : List EngineOrModuleTypeIndex). rs ++ storage_refs (get_or fs n d).element_type) so_far
    ∙ append_assoc before (fields_refs (take n fs)) (storage_refs (get_or fs n d).element_type)
    ∙ ap (λ (rs : List EngineOrModuleTypeIndex). before ++ rs) (sym (fields_refs-more (take n fs) (get_or fs n d)) ∙ ap fields_refs (sym (take_more fs n d below)))
