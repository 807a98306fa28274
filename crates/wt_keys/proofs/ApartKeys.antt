-- Entries of which each is known by its key are apart.
use Rattle.std.proofs.Common.{◌≡◌, ℕ, suc, ◌+◌, List, [], ◌∷◌, ◌++◌, slice_get, Some, inl, inr, sym, ap, subst, ◌∙◌}
use Rattle.std.proofs.lemmas.List.{append_assoc}
use Rattle.wt_env.specs.Among.{Among}
use Rattle.wt_env.specs.declared.types.WasmRecGroup.{WasmRecGroup}
use Rattle.wt_env.proofs.lists.Mapped.{among_mapped}
use Rattle.wt_env.proofs.lists.Members.{some_same}
use Rattle.wt_model.specs.Sound.{IsRising}
use Rattle.wt_model.specs.Describe.{tree_of}
use Rattle.wt_keys.specs.declared.entry.RecGroupEntry.{RecGroupEntry}
use Rattle.wt_keys.specs.Entries.{made_of, made_by}
use Rattle.wt_keys.specs.Keys.{AreKeys, IsNewKey}
use Rattle.wt_keys.specs.Filed.{NumbersRise, AreApart}
use Rattle.wt_keys.proofs.AddedKeys.{keys-push}
use Rattle.wt_keys.proofs.KeyTrees.{tree-of_key}
use Rattle.wt_keys.proofs.Stored.{apart-behind}

pub numbers-rise : (low top : ℕ) (entries : List RecGroupEntry) → IsRising low (made_by entries) top → NumbersRise low entries
numbers-rise low top [] rises = tt
numbers-rise low top (e ∷ es) rises = (rises.0, numbers-rise e.number top es rises.1)

-- the place of what stands in a list
placed : {A : Type 0} (xs : List A) (x : A) → Among x xs → (k : ℕ) × (slice_get xs k ≡ Some x)
placed [] x at = absurd at
placed (y ∷ ys) x (inl same) = (0, ap Some (sym same))
placed (y ∷ ys) x (inr later) = let found = placed ys x later in (suc found.0, found.1)

pub keys-apart : (entries : List RecGroupEntry) (top : ℕ) → AreKeys entries top → AreApart entries
keys-apart entries top keys = record {
  rising = numbers-rise 0 top entries keys.rising;
  agree = λ a b at there. record {
    keys = λ same. keys.apart (made_of a) (made_of b) (among_mapped made_of entries a at) (among_mapped made_of entries b there)
        (tree-of_key entries top a keys at ∙ ap (λ (key : WasmRecGroup). tree_of (made_by entries) key.types) same ∙ sym (tree-of_key entries top b keys there));
    indices = λ i here also.
        let j = placed a.shared_type_indices i here in
        let k = placed b.shared_type_indices i also in
        let first = keys.located (made_of a) j.0 i (among_mapped made_of entries a at) j.1 in
        let second = keys.located (made_of b) k.0 i (among_mapped made_of entries b there) k.1 in
        ap (λ (place : ℕ × ℕ). place.0) (some_same (sym first ∙ second));
  };
}

-- a new entry is apart from those that were added before it
pub new-apart : (entries added : List RecGroupEntry) (top : ℕ) (entry : RecGroupEntry) → AreKeys (entries ++ added) top → IsNewKey (entries ++ added) top entry → AreApart (added ++ entry ∷ [])
new-apart entries added top entry keys new =
    apart-behind entries (added ++ entry ∷ [])
    (subst AreApart (append_assoc entries added (entry ∷ [])) (keys-apart ((entries ++ added) ++ entry ∷ []) (top + 1) (keys-push (entries ++ added) top entry keys new)))
