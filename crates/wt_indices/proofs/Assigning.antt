-- The smallest free indices taken one after another.
use Rattle.std.proofs.Common.{◌≡◌, ℕ, ◌<◌, ◌==◌, Bool, true, false, not, ◌||◌, ◌&&◌, List, [], ◌∷◌, ◌++◌, length, map, refl, ap, sym, ◌∙◌, arith, append-nil, ◌-◌}
use Rattle.std.proofs.lemmas.Bool.{false≢true}
use Rattle.wt_env.specs.declared.types.VMSharedTypeIndex.{VMSharedTypeIndex}
use Rattle.wt_model.specs.Indices.{is_used, assign_shared_type_indices}
use Rattle.wt_model.proofs.indices.TakenIndices.{IsTaking, used_with, used_with-push, is_used-with, taking-take}
use Rattle.wt_indices.specs.Free.{FreeSet, is_free, AreFreeBeside}

-- what is taken so far, with what is free besides
pub record IsAssigning (count : ℕ) (numbers : List ℕ) (taken : List VMSharedTypeIndex) (free : FreeSet) : Type 0 where
  pub taking : IsTaking count numbers taken 0
  pub beside : AreFreeBeside (used_with taken numbers) free

used_bool : (b : Bool) → false ≡ not b → b ≡ true
used_bool true h = refl
used_bool false h = absurd (false≢true h)

free_bool : (b : Bool) → true ≡ not b → b ≡ false
free_bool true h = absurd (false≢true (sym h))
free_bool false h = refl

left_bool : (u own : Bool) → (not u && not own) ≡ not (own || u)
left_bool true true = refl
left_bool true false = refl
left_bool false true = refl
left_bool false false = refl

-- nothing is taken yet
pub assigning-none : (count : ℕ) (numbers : List ℕ) (free : FreeSet) → AreFreeBeside numbers free → IsAssigning count numbers [] free
assigning-none count numbers free beside = record {
  taking = record { within = omega arith; below = λ j less. absurd (omega (arith, less)); left = let same : count - 0 ≡ count = omega arith in ap (λ n. assign_shared_type_indices n numbers) same };
  beside = beside;
}

-- one more is taken
pub assigning-more : (count : ℕ) (numbers : List ℕ) (taken : List VMSharedTypeIndex) (old new : FreeSet) (index : VMSharedTypeIndex) → IsAssigning count numbers taken old → length taken < count
    → is_free old index.0 ≡ true → ((k : ℕ) → k < index.0 → is_free old k ≡ false) → ((k : ℕ) → is_free new k ≡ (is_free old k && not (index.0 == k)))
    → IsAssigning count numbers (taken ++ index ∷ []) new
assigning-more count numbers taken old new index assigning more free least left = record {
  taking = record { within = next.within; below = λ j less. absurd (omega (arith, less)); left = next.left };
  beside = λ k.
      left k
      ∙ ap (λ b. b && not (index.0 == k)) (assigning.beside k)
      ∙ left_bool (is_used (used_with taken numbers) k) (index.0 == k)
      ∙ ap (λ xs. not (is_used xs k)) (sym (used_with-push taken index numbers));
}
  where
    here : IsTaking count numbers taken index.0
    here = record {
      within = assigning.taking.within;
      below = λ j less. used_bool (is_used (used_with taken numbers) j) (sym (least j less) ∙ assigning.beside j);
      left = assigning.taking.left;
    }

    next : IsTaking count numbers (taken ++ index ∷ []) index.0
    next = taking-take count numbers taken index index.0 refl here more
        (sym (is_used-with index.0 taken numbers) ∙ free_bool (is_used (used_with taken numbers) index.0) (sym free ∙ assigning.beside index.0))

-- where all are taken, they are the smallest free ones
pub assigned-all : (count : ℕ) (numbers : List ℕ) (taken : List VMSharedTypeIndex) (free : FreeSet) → IsAssigning count numbers taken free → (length taken < count → ⊥) → taken ≡ assign_shared_type_indices count numbers
assigned-all count numbers taken free assigning all =
    sym (append-nil taken) ∙ ap (λ n. taken ++ assign_shared_type_indices n (used_with taken numbers)) none ∙ assigning.taking.left
  where
    none : 0 ≡ count - length taken
    none = omega (arith, all)

-- and what is free besides
pub assigned-left : (count : ℕ) (numbers : List ℕ) (taken : List VMSharedTypeIndex) (free : FreeSet) → IsAssigning count numbers taken free → AreFreeBeside (map (λ i. i.0) taken ++ numbers) free
assigned-left count numbers taken free assigning k = assigning.beside k ∙ ap not (is_used-with k taken numbers)
