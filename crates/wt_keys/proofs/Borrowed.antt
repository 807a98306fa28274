-- The sub type that an index shows: there is one exactly where the index is located, and it stands at the
-- index's place in what the entry shows.
use Rattle.std.proofs.Common.{◌≡◌, ℕ, zero, suc, ◌<◌, true, List, [], ◌∷◌, length, slice_get, if◌then◌else◌, Option, Some, None, is_some, inl, inr, refl, sym, ap, ◌∙◌, arith, ◌==◌}
use Rattle.std.specs.List.{find}
use Rattle.std.specs.Option.{option_and_then}
use Rattle.std.proofs.lemmas.List.{length-map}
use Rattle.wt_env.specs.declared.types.VMSharedTypeIndex.{VMSharedTypeIndex}
use Rattle.wt_env.specs.declared.types.WasmSubType.{WasmSubType}
use Rattle.wt_tree.specs.MapRefs.{map_sub_refs}
use Rattle.wt_tree.proofs.Numbering.{length-number_group}
use Rattle.wt_keys.specs.declared.entry.RecGroupEntry.{RecGroupEntry}
use Rattle.wt_model.specs.Registered.{RegisteredGroup}
use Rattle.wt_env.specs.Among.{Among}
use Rattle.wt_model.specs.Indices.{place_in, located_here, locate}
use Rattle.wt_keys.specs.Entries.{made_of, made_by}
use Rattle.wt_keys.specs.Keys.{AreKeys}
use Rattle.wt_model.specs.Shown.{shown_index, shown, member_here, shown_at, sub_type_at}
use Rattle.wt_keys.specs.Keys.{AreShown, shown_in}
use Rattle.wt_env.proofs.lists.Found.{found_within}
use Rattle.wt_keys.proofs.ShownIndices.{shown-key}

shown-among : (all : List RecGroupEntry) (top : ℕ) → AreKeys all top → AreShown all → (i : VMSharedTypeIndex) (entries : List RecGroupEntry) → ((e : RecGroupEntry) → Among e entries → Among e all)
    → shown_at (made_by all) (made_by entries) i ≡ shown_in i (find (λ entry. is_some (place_in i entry.shared_type_indices)) entries)
shown-among all top keys are_shown i [] among = refl
shown-among all top keys are_shown i (e ∷ entries) among =
    by (place_in i e.shared_type_indices) refl (shown-among all top keys are_shown i entries (λ x at. among x (inr at)))
  where
    same : shown (made_by all) (made_of e) ≡ e.runtime_types
    same = shown-key all top e keys (among e (inl refl)) ∙ sym (are_shown e (among e (inl refl)))

    by : (place : Option ℕ) → place_in i e.shared_type_indices ≡ place
        → shown_at (made_by all) (made_by entries) i ≡ shown_in i (find (λ entry. is_some (place_in i entry.shared_type_indices)) entries)
        → member_here place (shown (made_by all) (made_of e)) (shown_at (made_by all) (made_by entries) i)
        ≡ shown_in i (if is_some place then Some e else find (λ entry. is_some (place_in i entry.shared_type_indices)) entries)
    by (Some place) at later = ap (λ (ts : List WasmSubType). slice_get ts place) same ∙ sym (ap (option_and_then (slice_get e.runtime_types)) at)
    by None at later = later

-- the entry that has the index shows the type at its place
pub shown-found : (entries : List RecGroupEntry) (top : ℕ) → AreKeys entries top → AreShown entries → (i : VMSharedTypeIndex)
    → sub_type_at (made_by entries) i ≡ shown_in i (find (λ entry. is_some (place_in i entry.shared_type_indices)) entries)
shown-found entries top keys are_shown i = shown-among entries top keys are_shown i entries (λ e at. at)

is_some-within : {A : Type 0} (xs : List A) (k : ℕ) → k < length xs → is_some (slice_get xs k) ≡ true
is_some-within [] k below = absurd (omega (arith, below))
is_some-within (x ∷ xs) zero below = refl
is_some-within (x ∷ xs) (suc k) below = is_some-within xs k (omega (arith, below))

-- each registered group shows as many members as it has indices
length-shown : (entries : List RecGroupEntry) (top : ℕ) (entry : RecGroupEntry) → AreKeys entries top → Among entry entries → length (shown (made_by entries) (made_of entry)) ≡ length entry.shared_type_indices
length-shown entries top entry keys at =
    length-map (made_of entry).description.members (map_sub_refs (shown_index (made_by entries) (made_of entry)))
    ∙ length-number_group entry.hash_consing_key.types
    ∙ sym (keys.keys entry at).members

shown_at-located : (made : List RegisteredGroup) (entries : List RecGroupEntry) (i : VMSharedTypeIndex) → ((entry : RecGroupEntry) → Among entry entries → length (shown made (made_of entry)) ≡ length entry.shared_type_indices)
    → is_some (shown_at made (made_by entries) i) ≡ is_some (locate (made_by entries) i)
shown_at-located made [] i long = refl
shown_at-located made (e ∷ entries) i long = by (place_in i e.shared_type_indices) refl (shown_at-located made entries i (λ x at. long x (inr at)))
  where
    by : (place : Option ℕ) → place_in i e.shared_type_indices ≡ place → is_some (shown_at made (made_by entries) i) ≡ is_some (locate (made_by entries) i)
        → is_some (member_here place (shown made (made_of e)) (shown_at made (made_by entries) i)) ≡ is_some (located_here e.number place (locate (made_by entries) i))
    by (Some place) at later =
        let within : place < length e.shared_type_indices = found_within (λ (j : VMSharedTypeIndex). j.0 == i.0) place e.shared_type_indices at in
        let same = long e (inl refl) in
        is_some-within (shown made (made_of e)) place (omega (arith, within, same))
    by None at later = later

-- an index has a sub type exactly where it is located
pub borrowed-located : (entries : List RecGroupEntry) (top : ℕ) (i : VMSharedTypeIndex) → AreKeys entries top → is_some (sub_type_at (made_by entries) i) ≡ is_some (locate (made_by entries) i)
borrowed-located entries top i keys = shown_at-located (made_by entries) entries i (λ entry at. length-shown entries top entry keys at)
