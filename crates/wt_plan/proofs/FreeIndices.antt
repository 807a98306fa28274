-- The free indices beside one more group.
use Rattle.std.proofs.Common.{◌≡◌, ℕ, Bool, true, false, not, ◌||◌, List, [], ◌∷◌, ◌++◌, map, refl, ap, sym, ◌∙◌, append_assoc}
use Rattle.std.proofs.lemmas.List.{map-append, append-nil}
use Rattle.std.proofs.lemmas.List.Concat.{flat_map-append}
use Rattle.wt_env.specs.declared.types.VMSharedTypeIndex.{VMSharedTypeIndex}
use Rattle.wt_model.specs.Registered.{RegisteredGroup}
use Rattle.wt_model.specs.Indices.{used, is_used}
use Rattle.wt_indices.specs.Free.{FreeSet, AreFreeBeside}
use Rattle.wt_indices.proofs.Occurrences.{used-append}
use Rattle.wt_keys.specs.declared.entry.RecGroupEntry.{RecGroupEntry}
use Rattle.wt_keys.specs.Entries.{made_of, made_by}
use Rattle.wt_plan.specs.Planned.{AreFreeFor}

or_swap : (a b : Bool) → (a || b) ≡ (b || a)
or_swap true true = refl
or_swap true false = refl
or_swap false true = refl
or_swap false false = refl

used-last : (all : List RecGroupEntry) (entry : RecGroupEntry) (k : ℕ)
    → is_used (used (made_by (all ++ entry ∷ []))) k ≡ is_used (map (λ (i : VMSharedTypeIndex). i.0) entry.shared_type_indices ++ used (made_by all)) k
used-last all entry k =
    let own = map (λ (i : VMSharedTypeIndex). i.0) entry.shared_type_indices in
    ap (λ made. is_used (used made) k) (map-append made_of all (entry ∷ []))
    ∙ ap (λ xs. is_used xs k) (flat_map-append (λ (m : RegisteredGroup). map (λ i. i.0) m.indices) (made_by all) (made_of entry ∷ []))
    ∙ ap (λ xs. is_used (used (made_by all) ++ xs) k) (append-nil own)
    ∙ used-append k (used (made_by all)) own
    ∙ or_swap (is_used (used (made_by all)) k) (is_used own k)
    ∙ sym (used-append k own (used (made_by all)))

pub free-pushed : (entries added : List RecGroupEntry) (entry : RecGroupEntry) (free : FreeSet)
    → AreFreeBeside (map (λ (i : VMSharedTypeIndex). i.0) entry.shared_type_indices ++ used (made_by (entries ++ added))) free → AreFreeFor entries (added ++ entry ∷ []) free
free-pushed entries added entry free beside k =
    beside k
    ∙ ap not (sym (used-last (entries ++ added) entry k))
    ∙ ap (λ es. not (is_used (used (made_by es)) k)) (append_assoc entries added (entry ∷ []))
