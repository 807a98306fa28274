-- The indices of new groups are below the number of all types, also where one more is new.
use Rattle.std.proofs.Common.{◌≡◌, ℕ, ◌+◌, ◌<◌, ◌⊎◌, inl, inr, List, [], ◌∷◌, ◌++◌, length, map, sym, ap, subst, ◌∙◌, arith, append_assoc}
use Rattle.std.proofs.lemmas.List.{map-append, length-append, length-map}
use Rattle.std.proofs.lemmas.List.Concat.{flat_map-append}
use Rattle.wt_env.specs.Among.{Among}
use Rattle.wt_env.specs.declared.types.VMSharedTypeIndex.{VMSharedTypeIndex}
use Rattle.wt_env.proofs.lists.Members.{among_pushed}
use Rattle.wt_model.specs.Registered.{RegisteredGroup}
use Rattle.wt_model.specs.Indices.{used}
use Rattle.wt_keys.specs.declared.entry.RecGroupEntry.{RecGroupEntry}
use Rattle.wt_keys.specs.Entries.{made_of, made_by}
use Rattle.wt_keys.specs.Keys.{IsNewKey}
use Rattle.wt_plan.specs.Planned.{AreNewBelow}

-- so many types, with one more group
used-pushed : (entries : List RecGroupEntry) (entry : RecGroupEntry) → length (used (made_by (entries ++ entry ∷ []))) ≡ length (used (made_by entries)) + length entry.shared_type_indices
used-pushed entries entry =
    ap (λ made. length (used made)) (map-append made_of entries (entry ∷ []))
    ∙ ap length (flat_map-append (λ (m : RegisteredGroup). map (λ i. i.0) m.indices) (made_by entries) (made_of entry ∷ []))
    ∙ length-append (used (made_by entries)) (used (made_of entry ∷ []))
    ∙ ap (λ n. length (used (made_by entries)) + n) (length-append (map (λ (i : VMSharedTypeIndex). i.0) entry.shared_type_indices) [] ∙ last)
  where
    last : length (map (λ (i : VMSharedTypeIndex). i.0) entry.shared_type_indices) + 0 ≡ length entry.shared_type_indices
    last = let same = length-map entry.shared_type_indices (λ (i : VMSharedTypeIndex). i.0) in omega (arith, same)

pub new_below-none : (entries : List RecGroupEntry) → AreNewBelow entries []
new_below-none entries entry i none there = absurd none

pub new_below-pushed : (entries added : List RecGroupEntry) (top : ℕ) (entry : RecGroupEntry) → AreNewBelow entries added → IsNewKey (entries ++ added) top entry → AreNewBelow entries (added ++ entry ∷ [])
new_below-pushed entries added top entry below new e i at there =
    let count = ap (λ es. length (used (made_by es))) (sym (append_assoc entries added (entry ∷ []))) ∙ used-pushed (entries ++ added) entry in
    by (among_pushed added entry e at) count
  where
    by : Among e added ⊎ (e ≡ entry)
        → length (used (made_by (entries ++ (added ++ entry ∷ [])))) ≡ length (used (made_by (entries ++ added))) + length entry.shared_type_indices
        → i.0 < length (used (made_by (entries ++ (added ++ entry ∷ []))))
    by (inl old) count = let before = below e i old there in omega (arith, before, count)
    by (inr same) count =
        let own = new.within i (subst (λ (x : RecGroupEntry). Among i x.shared_type_indices) same there) in
        omega (arith, own, count)
