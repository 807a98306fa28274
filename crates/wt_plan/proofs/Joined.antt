-- What stands and what was planned, searched as one list: where an index is located, and which numbers are used.
use Rattle.std.proofs.Common.{◌≡◌, ℕ, ◌==◌, true, false, ◌||◌, List, [], ◌∷◌, ◌++◌, map, Option, Some, None, refl, sym, ap, ◌∙◌}
use Rattle.std.specs.List.{list_any}
use Rattle.std.specs.Option.{option_or}
use Rattle.std.proofs.lemmas.Grind.{flat_map-append}
use Rattle.std.proofs.lemmas.List.{map-append}
use Rattle.std.proofs.lemmas.List.Folds.{list_any-append}
use Rattle.wt_env.specs.declared.types.VMSharedTypeIndex.{VMSharedTypeIndex}
use Rattle.wt_keys.specs.declared.entry.RecGroupEntry.{RecGroupEntry}
use Rattle.wt_model.specs.Registered.{RegisteredGroup}
use Rattle.wt_model.specs.Indices.{place_in, located_here, locate, used, is_used}
use Rattle.wt_keys.specs.Entries.{made_of, made_by}
use Rattle.wt_model.proofs.indices.FreeIndices.{list_any-bits}

-- ---- where an index is located

pub locate-append : (made more : List RegisteredGroup) (i : VMSharedTypeIndex) → locate (made ++ more) i ≡ option_or (locate made i) (locate more i)
locate-append [] more i = refl
locate-append (m ∷ made) more i = by (place_in i m.indices) (locate-append made more i)
  where
    by : (place : Option ℕ) → locate (made ++ more) i ≡ option_or (locate made i) (locate more i)
        → located_here m.number place (locate (made ++ more) i) ≡ option_or (located_here m.number place (locate made i)) (locate more i)
    by (Some place) later = refl
    by None later = later

locate-joined : (entries added : List RecGroupEntry) (i : VMSharedTypeIndex) → option_or (locate (made_by entries) i) (locate (made_by added) i) ≡ locate (made_by (entries ++ added)) i
locate-joined entries added i =
    sym (locate-append (made_by entries) (made_by added) i) ∙ ap (λ made. locate made i) (sym (map-append made_of entries added))

pub locate_first : (entries added : List RecGroupEntry) (i : VMSharedTypeIndex) (at : ℕ × ℕ) → Some at ≡ locate (made_by entries) i → Some at ≡ locate (made_by (entries ++ added)) i
locate_first entries added i at is =
    ap (λ found. option_or found (locate (made_by added) i)) is ∙ locate-joined entries added i

pub locate_second : (entries added : List RecGroupEntry) (i : VMSharedTypeIndex) → None ≡ locate (made_by entries) i → locate (made_by added) i ≡ locate (made_by (entries ++ added)) i
locate_second entries added i none =
    ap (λ found. option_or found (locate (made_by added) i)) none ∙ locate-joined entries added i

-- ---- which numbers are used

pub used-joined : (entries added : List RecGroupEntry) → used (made_by (entries ++ added)) ≡ used (made_by entries) ++ used (made_by added)
used-joined entries added =
    ap used (map-append made_of entries added) ∙ flat_map-append (λ m. map (λ i. i.0) m.indices) (made_by entries) (made_by added)

pub is_used-joined : (entries added : List RecGroupEntry) (k : ℕ) → is_used (used (made_by (entries ++ added))) k ≡ (is_used (used (made_by entries)) k || is_used (used (made_by added)) k)
is_used-joined entries added k =
    ap (λ numbers. is_used numbers k) (used-joined entries added) ∙ list_any-append (λ j. j == k) (used (made_by entries)) (used (made_by added))

-- a number is used where it is taken, or used by what stands, or by what was planned
is_used-planned : (k : ℕ) (taken : List VMSharedTypeIndex) (entries added : List RecGroupEntry) → is_used (map (λ i. i.0) taken ++ used (made_by (entries ++ added))) k ≡ (list_any (λ i. i.0 == k) taken || (is_used (used (made_by entries)) k || is_used (used (made_by added)) k))
is_used-planned k taken entries added =
    let here = sym (list_any-bits k taken) in
    let others = is_used-joined entries added k in
    list_any-append (λ j. j == k) (map (λ i. i.0) taken) (used (made_by (entries ++ added))) ∙ (λ t. here t || others t)

pub is_used-taken : (k : ℕ) (taken : List VMSharedTypeIndex) (entries added : List RecGroupEntry) → list_any (λ i. i.0 == k) taken ≡ true → is_used (map (λ i. i.0) taken ++ used (made_by (entries ++ added))) k ≡ true
is_used-taken k taken entries added here =
    is_used-planned k taken entries added ∙ ap (λ b. b || (is_used (used (made_by entries)) k || is_used (used (made_by added)) k)) here

pub is_used-standing : (k : ℕ) (taken : List VMSharedTypeIndex) (entries added : List RecGroupEntry) → list_any (λ i. i.0 == k) taken ≡ false → is_used (used (made_by entries)) k ≡ true → is_used (map (λ i. i.0) taken ++ used (made_by (entries ++ added))) k ≡ true
is_used-standing k taken entries added none here =
    is_used-planned k taken entries added ∙ (λ t. none t || (here t || is_used (used (made_by added)) k))

pub is_used-others : (k : ℕ) (taken : List VMSharedTypeIndex) (entries added : List RecGroupEntry) → list_any (λ i. i.0 == k) taken ≡ false → is_used (used (made_by entries)) k ≡ false → is_used (map (λ i. i.0) taken ++ used (made_by (entries ++ added))) k ≡ is_used (used (made_by added)) k
is_used-others k taken entries added none neither =
    is_used-planned k taken entries added ∙ (λ t. none t || (neither t || is_used (used (made_by added)) k))
