-- What is told of trampolines is what the search by trees finds.
use Rattle.std.proofs.Common.{◌≡◌, ℕ, Bool, true, List, [], ◌∷◌, Option, Some, None, option_map, option_and_then, refl, sym, ap, subst, ◌∙◌}
use Rattle.std.specs.List.{find}
use Rattle.std.proofs.lemmas.Bool.{false≢true}
use Rattle.wt_env.specs.Among.{Among}
use Rattle.wt_env.specs.declared.types.WasmSubType.{WasmSubType}
use Rattle.wt_env.proofs.lists.Mapped.{among_map}
use Rattle.wt_env.proofs.lists.Members.{find-found, find-none}
use Rattle.wt_tree.specs.Tree.{tree_eq}
use Rattle.wt_tree.specs.Trampoline.{trampoline_tree, other_trampoline}
use Rattle.wt_tree.proofs.TreeEquality.{tree_eq-decides}
use Rattle.wt_model.specs.Registered.{RegisteredGroup}
use Rattle.wt_model.specs.Trees.{trees}
use Rattle.wt_model.specs.Trampolines.{trampoline_number, trampoline_numbers, IsTrampoline, TellsTrampoline, TellTrampolines, HaveTrampolines}
use Rattle.wt_model.proofs.Trampolines.{trampoline-tree}
use Rattle.wt_keys.specs.declared.entry.RecGroupEntry.{RecGroupEntry}
use Rattle.wt_keys.specs.Entries.{made_of, made_by}
use Rattle.wt_keys.specs.Keys.{AreKeys}
use Rattle.wt_keys.proofs.KeyTrees.{names_below}

-- a search finds something where something passes
pub found-passing : {A : Type 0} (p : A → Bool) (xs : List A) (x : A) → Among x xs → p x ≡ true → (y : A) × (find p xs ≡ Some y)
found-passing {A} p xs x at passes = by (find p xs) refl
  where
    by : (found : Option A) → find p xs ≡ found → (y : A) × (find p xs ≡ Some y)
    by (Some y) is = (y, is)
    by None is = absurd (false≢true (sym (find-none p xs is x at) ∙ passes))

-- the group of a trampoline is the one that has its tree
pub trampoline-found : (entries : List RecGroupEntry) (top : ℕ) → AreKeys entries top → (member : WasmSubType) (n : ℕ) → IsTrampoline (made_by entries) member n
    → (g : RegisteredGroup) × (find (λ m. tree_eq (trees (made_by entries) m.number) (trampoline_tree member)) (made_by entries) ≡ Some g) × Among g (made_by entries) × (g.number ≡ n)
trampoline-found entries top keys member n is =
    let made = made_by entries in
    let own = trampoline-tree top made keys.rising (names_below entries top keys) member (is.0).number (is.0, is.1, refl, is.3) in
    let found = found-passing (λ (m : RegisteredGroup). tree_eq (trees made m.number) (trampoline_tree member)) made is.0 is.1 ((tree_eq-decides (trees made (is.0).number) (trampoline_tree member)).1 own) in
    let passes = find-found (λ (m : RegisteredGroup). tree_eq (trees made m.number) (trampoline_tree member)) made found.0 found.1 in
    let tree = (tree_eq-decides (trees made (found.0).number) (trampoline_tree member)).0 passes.0 in
    (found.0, found.1, passes.1, keys.apart found.0 is.0 passes.1 is.1 (tree ∙ sym own) ∙ is.2)

pub trampoline-number : (entries : List RecGroupEntry) (top : ℕ) → AreKeys entries top → (member : WasmSubType) (n : ℕ) → IsTrampoline (made_by entries) member n
    → trampoline_number (made_by entries) member ≡ Some n
trampoline-number entries top keys member n is =
    let found = trampoline-found entries top keys member n is in
    ap (option_map (λ (m : RegisteredGroup). m.number)) found.1 ∙ ap Some found.3

told-number : (entries : List RecGroupEntry) (top : ℕ) → AreKeys entries top → (member : Option WasmSubType) (told : Option ℕ) → TellsTrampoline (made_by entries) member told
    → told ≡ option_and_then (trampoline_number (made_by entries)) member
told-number entries top keys None None tells = refl
told-number entries top keys None (Some n) tells = absurd tells
told-number entries top keys (Some member) None tells = absurd tells
told-number entries top keys (Some member) (Some n) tells = sym (trampoline-number entries top keys member n tells)

-- what is told are the numbers of the trampolines
pub told-numbers : (entries : List RecGroupEntry) (top : ℕ) → AreKeys entries top → (members : List WasmSubType) (told : List (Option ℕ)) → TellTrampolines (made_by entries) members told
    → told ≡ trampoline_numbers (made_by entries) members
told-numbers entries top keys [] [] tell = refl
told-numbers entries top keys [] (t ∷ told) tell = absurd tell
told-numbers entries top keys (ty ∷ members) [] tell = absurd tell
told-numbers entries top keys (ty ∷ members) (t ∷ told) tell =
    let here = told-number entries top keys (other_trampoline ty) t tell.0 in
    let rest = told-numbers entries top keys members told tell.1 in
    λ i. here i ∷ rest i

-- each registered group has its trampolines
pub have_trampolines : (entries : List RecGroupEntry) (top : ℕ) → AreKeys entries top → HaveTrampolines (made_by entries)
have_trampolines entries top keys a at =
    let named = among_map made_of entries a at in
    subst (λ (m : RegisteredGroup). TellTrampolines (made_by entries) m.description.members m.trampolines) (sym named.2) (keys.keys named.0 named.1).trampolines
