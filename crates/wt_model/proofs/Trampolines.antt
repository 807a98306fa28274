-- What is told of the trampolines of members: that they are registered, also where more groups are.
use Rattle.std.proofs.Common.{◌≡◌, ℕ, zero, suc, ◌+◌, inl, inr, List, [], ◌∷◌, ◌++◌, length, slice_get, Option, Some, None, refl, sym, ap, subst, ◌∙◌}
use Rattle.std.specs.List.{filter_map}
use Rattle.wt_env.specs.Among.{Among}
use Rattle.wt_env.specs.declared.types.WasmSubType.{WasmSubType}
use Rattle.wt_env.proofs.lists.Members.{among_before, some_same}
use Rattle.wt_tree.specs.References.{sub_refs, number_group_from, number_group}
use Rattle.wt_tree.specs.Tree.{close}
use Rattle.wt_tree.specs.Trampoline.{trampoline_tree, other_trampoline}
use Rattle.wt_tree.proofs.Trampolines.{other_trampoline-numbered}
use Rattle.wt_model.specs.Registered.{RegisteredGroup}
use Rattle.wt_model.specs.Trees.{trees}
use Rattle.wt_model.specs.Trampolines.{IsTrampoline, TellsTrampoline, TellTrampolines}
use Rattle.wt_model.specs.Sound.{IsRising}
use Rattle.wt_model.proofs.trees.Trees.{NamesBelow, trees-registered}

-- the numbers that are told
pub among-told : (n : ℕ) (told : List (Option ℕ)) → Among n (filter_map (λ number. number) told) → Among (Some n) told
among-told n [] at = at
among-told n (None ∷ told) at = inr (among-told n told at)
among-told n (Some m ∷ told) (inl same) = inl (ap Some same)
among-told n (Some m ∷ told) (inr later) = inr (among-told n told later)

pub told-among : (n : ℕ) (told : List (Option ℕ)) → Among (Some n) told → Among n (filter_map (λ number. number) told)
told-among n [] at = at
told-among n (None ∷ told) (inl same) = absurd (cc)
told-among n (None ∷ told) (inr later) = told-among n told later
told-among n (Some m ∷ told) (inl same) = inl (some_same same)
told-among n (Some m ∷ told) (inr later) = inr (told-among n told later)

-- ---- more groups

tells-before : (made more : List RegisteredGroup) (member : Option WasmSubType) (told : Option ℕ) → TellsTrampoline made member told → TellsTrampoline (made ++ more) member told
tells-before made more None None tells = tells
tells-before made more None (Some n) tells = tells
tells-before made more (Some member) None tells = tells
tells-before made more (Some member) (Some n) tells = (tells.0, among_before made more tells.0 tells.1, tells.2, tells.3)

pub tell-before : (made more : List RegisteredGroup) (members : List WasmSubType) (told : List (Option ℕ)) → TellTrampolines made members told → TellTrampolines (made ++ more) members told
tell-before made more [] [] tell = tell
tell-before made more [] (t ∷ told) tell = tell
tell-before made more (ty ∷ members) [] tell = tell
tell-before made more (ty ∷ members) (t ∷ told) tell = (tells-before made more (other_trampoline ty) t tell.0, tell-before made more members told tell.1)

-- ---- one more member

pub tell-pushed : (made : List RegisteredGroup) (members : List WasmSubType) (told : List (Option ℕ)) (ty : WasmSubType) (t : Option ℕ)
    → TellTrampolines made members told → TellsTrampoline made (other_trampoline ty) t → TellTrampolines made (members ++ ty ∷ []) (told ++ t ∷ [])
tell-pushed made [] [] ty t tell tells = (tells, tt)
tell-pushed made [] (u ∷ told) ty t tell tells = absurd tell
tell-pushed made (x ∷ members) [] ty t tell tells = absurd tell
tell-pushed made (x ∷ members) (u ∷ told) ty t tell tells = (tell.0, tell-pushed made members told ty t tell.1 tells)

-- ---- what is told

tells-registered : (made : List RegisteredGroup) (member : Option WasmSubType) (told : Option ℕ) (n : ℕ) → TellsTrampoline made member told → told ≡ Some n
    → (g : RegisteredGroup) × Among g made × (g.number ≡ n)
tells-registered made None None n tells is = absurd (cc)
tells-registered made None (Some m) n tells is = absurd tells
tells-registered made (Some member) None n tells is = absurd tells
tells-registered made (Some member) (Some m) n tells is = (tells.0, tells.1, tells.2 ∙ some_same is)

-- a number that is told is that of a registered group
pub tell-registered : (made : List RegisteredGroup) (members : List WasmSubType) (told : List (Option ℕ)) (n : ℕ) → TellTrampolines made members told → Among (Some n) told
    → (g : RegisteredGroup) × Among g made × (g.number ≡ n)
tell-registered made [] [] n tell at = absurd at
tell-registered made [] (t ∷ told) n tell at = absurd tell
tell-registered made (ty ∷ members) [] n tell at = absurd tell
tell-registered made (ty ∷ members) (t ∷ told) n tell (inl same) = tells-registered made (other_trampoline ty) t n tell.0 (sym same)
tell-registered made (ty ∷ members) (t ∷ told) n tell (inr later) = tell-registered made members told n tell.1 later

-- what is told of the member at a place
pub record ToldAt (made : List RegisteredGroup) (told : List (Option ℕ)) (place : ℕ) (ty : WasmSubType) : Type 0 where
  pub here : Option ℕ
  pub is : slice_get told place ≡ Some here
  pub tells : TellsTrampoline made (other_trampoline ty) here

pub tell-at : (made : List RegisteredGroup) (members : List WasmSubType) (told : List (Option ℕ)) (place : ℕ) (ty : WasmSubType)
    → TellTrampolines made members told → slice_get members place ≡ Some ty → ToldAt made told place ty
tell-at made [] told place ty tell is = absurd (cc)
tell-at made (x ∷ members) [] place ty tell is = absurd tell
tell-at made (x ∷ members) (t ∷ told) zero ty tell is =
    let same = some_same is in
    record { here = t; is = refl; tells = subst (λ (y : WasmSubType). TellsTrampoline made (other_trampoline y) t) same tell.0 }
tell-at made (x ∷ members) (t ∷ told) (suc place) ty tell is =
    let rest = tell-at made members told place ty tell.1 is in
    record { here = rest.here; is = rest.is; tells = rest.tells }

-- the tree of a trampoline's group
pub trampoline-tree : (top : ℕ) (made : List RegisteredGroup) → IsRising 0 made top → NamesBelow made → (member : WasmSubType) (n : ℕ) → IsTrampoline made member n
    → trees made n ≡ trampoline_tree member
trampoline-tree top made rising below member n is =
    ap (trees made) (sym is.2) ∙ trees-registered top made rising below is.0 is.1 ∙ ap (close (trees made)) is.3

-- ---- the members by numbers

tell-numbered_from : (made : List RegisteredGroup) (n : ℕ) (types : List WasmSubType) (told : List (Option ℕ)) → TellTrampolines made types told → TellTrampolines made (number_group_from n types) told
tell-numbered_from made n [] [] tell = tell
tell-numbered_from made n [] (t ∷ told) tell = tell
tell-numbered_from made n (ty ∷ types) [] tell = tell
tell-numbered_from made n (ty ∷ types) (t ∷ told) tell = (
  subst (λ (member : Option WasmSubType). TellsTrampoline made member t) (sym (other_trampoline-numbered n ty)) tell.0,
  tell-numbered_from made (n + length (sub_refs ty)) types told tell.1,
)

-- what is told of members is told of them where their references are numbered
pub tell-numbered : (made : List RegisteredGroup) (types : List WasmSubType) (told : List (Option ℕ)) → TellTrampolines made types told → TellTrampolines made (number_group types) told
tell-numbered made types told tell = tell-numbered_from made 0 types told tell
