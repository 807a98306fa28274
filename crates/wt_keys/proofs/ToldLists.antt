-- The list that is found for an index tells the supertypes of its type, and each index of a registered type has one.
use Rattle.std.proofs.Common.{◌≡◌, ℕ, ◌<◌, true, List, length, reverse, slice_get, Option, Some, None, IsSome, is_some, option_map, refl, sym, ap, ◌∙◌, arith, ◌==◌}
use Rattle.std.specs.Prelude.{option_and_then}
use Rattle.std.specs.List.{find}
use Rattle.std.proofs.lemmas.Bool.{false≢true}
use Rattle.wt_env.specs.Among.{Among}
use Rattle.wt_env.specs.declared.types.VMSharedTypeIndex.{VMSharedTypeIndex}
use Rattle.wt_env.proofs.lists.Found.{found_within}
use Rattle.wt_env.proofs.lists.Members.{find-found}
use Rattle.wt_tree.specs.Tree.{ClosedTree}
use Rattle.wt_model.specs.Trees.{trees}
use Rattle.wt_model.specs.Indices.{place_in, locate, closed_tree}
use Rattle.wt_model.proofs.subtyping.NamedIndices.{get_within}
use Rattle.wt_keys.specs.declared.entry.RecGroupEntry.{RecGroupEntry}
use Rattle.wt_keys.specs.Entries.{made_by}
use Rattle.wt_keys.specs.Keys.{AreKeys}
use Rattle.wt_keys.specs.SupertypeChains.{IsSupertypeChain, TellsSupertypes, list_in, list_of}
use Rattle.wt_keys.proofs.LocatedEntries.{located-at, located-none}

module _ (entries : List RecGroupEntry) (i : VMSharedTypeIndex) where
  abbrev found : Option RecGroupEntry
  found = find (λ entry. is_some (place_in i entry.shared_type_indices)) entries

  -- at the place of the index
  pub list-told : (list : List VMSharedTypeIndex) → ((entry : RecGroupEntry) → Among entry entries → TellsSupertypes (made_by entries) entry) → list_of entries i ≡ Some list
      → (t : ClosedTree) × (closed_tree (made_by entries) i ≡ Some t) × IsSupertypeChain (closed_tree (made_by entries)) t (reverse list)
  list-told list tell is = by found refl is
    where
      at_place : (e : RecGroupEntry) → found ≡ Some e → (place : Option ℕ) → place_in i e.shared_type_indices ≡ place → option_and_then (slice_get e.supertypes) place ≡ Some list
          → (t : ClosedTree) × (closed_tree (made_by entries) i ≡ Some t) × IsSupertypeChain (closed_tree (made_by entries)) t (reverse list)
      at_place e here None at stands = absurd (false≢true (ap is_some stands))
      at_place e here (Some place) at stands = (
        record { tree = trees (made_by entries) e.number; place = place },
        ap (option_map (λ at. record { tree = trees (made_by entries) at.0; place = at.1 })) (located-at entries i e place here at),
        (tell e (find-found (λ entry. is_some (place_in i entry.shared_type_indices)) entries e here).1).chains place list stands,
      )

      by : (o : Option RecGroupEntry) → found ≡ o → list_in i o ≡ Some list
          → (t : ClosedTree) × (closed_tree (made_by entries) i ≡ Some t) × IsSupertypeChain (closed_tree (made_by entries)) t (reverse list)
      by None none stands = absurd (false≢true (ap is_some stands))
      by (Some e) here stands = at_place e here (place_in i e.shared_type_indices) refl stands

  -- a registered type has a list
  pub list-found : (top : ℕ) → AreKeys entries top → IsSome (locate (made_by entries) i) → (list : List VMSharedTypeIndex) × (list_of entries i ≡ Some list)
  list-found top keys is = by found refl
    where
      at_place : (e : RecGroupEntry) → found ≡ Some e → (place : Option ℕ) → place_in i e.shared_type_indices ≡ place
          → is_some (place_in i e.shared_type_indices) ≡ true → (list : List VMSharedTypeIndex) × (option_and_then (slice_get e.supertypes) place ≡ Some list)
      at_place e here None at some = absurd (false≢true (sym (ap is_some at) ∙ some))
      at_place e here (Some place) at some =
          let among = (find-found (λ entry. is_some (place_in i entry.shared_type_indices)) entries e here).1 in
          let within : place < length e.shared_type_indices = found_within (λ (j : VMSharedTypeIndex). j.0 == i.0) place e.shared_type_indices at in
          let members = (keys.keys e among).members in
          let lists = (keys.supertypes e among).lists in
          get_within e.supertypes place (omega (arith, within, members, lists))

      by : (o : Option RecGroupEntry) → found ≡ o → (list : List VMSharedTypeIndex) × (list_in i o ≡ Some list)
      by None none = absurd (false≢true (sym (ap is_some (located-none entries i none)) ∙ is))
      by (Some e) here = at_place e here (place_in i e.shared_type_indices) refl (find-found (λ entry. is_some (place_in i entry.shared_type_indices)) entries e here).0
