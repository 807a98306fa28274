-- Where the groups whose numbers pass are kept, and what they name passes: what is true of them stays true.
use Rattle.std.proofs.Common.{◌≡◌, ℕ, ◌<◌, ◌≤◌, ◌==◌, inl, inr, Bool, true, false, cond, ◌||◌, ◌&&◌, List, [], ◌∷◌, map, Option, Some, None, option_map, refl, sym, ap, ◌∙◌, arith}
use Rattle.std.specs.List.{filter_map}
use Rattle.std.proofs.lemmas.Bool.{false≢true, or_left, false_from_ne_true, cond-false}
use Rattle.wt_env.specs.declared.types.VMSharedTypeIndex.{VMSharedTypeIndex}
use Rattle.wt_env.specs.declared.types.WasmSubType.{WasmSubType}
use Rattle.wt_tree.specs.Tree.{Description, Tree, ClosedTree, group, none, close}
use Rattle.wt_tree.specs.Trampoline.{other_trampoline}
use Rattle.wt_tree.proofs.Closing.{close-agree}
use Rattle.wt_model.specs.Registered.{RegisteredGroup}
use Rattle.wt_env.specs.Among.{Among}
use Rattle.wt_model.specs.NamedTypes.{HasPlace, NamesTypes, NameTypes}
use Rattle.wt_model.specs.Trampolines.{TellsTrampoline, TellTrampolines, HaveTrampolines}
use Rattle.wt_model.specs.Trees.{with_tree, trees_from, trees}
use Rattle.wt_model.specs.Indices.{place_in, located_here, locate, closed_tree}
use Rattle.wt_model.specs.Sound.{IsRising, OneIndexPerTree, NamesOlder, IsLocated, AreIndexed, AreBelow, KeepRules}
use Rattle.wt_model.specs.Reach.{edges, leads_to, Reach, here, further}
use Rattle.wt_model.specs.Removal.{is_reached, kept_made}
use Rattle.wt_env.proofs.lists.Filtered.{among_filter, filter_among}
use Rattle.wt_env.proofs.lists.Mapped.{among_mapped}
use Rattle.wt_env.proofs.lists.Members.{among_before, among_behind, some_same}
use Rattle.wt_model.proofs.holds.Leads.{reach_wider}
use Rattle.wt_model.proofs.indices.Places.{locate-at}
use Rattle.wt_model.proofs.trees.KnownTrees.{closed_tree-located}

-- what a group that passes leads to passes
abbrev pub KeepsLed : (ℕ → Bool) → List RegisteredGroup → Type 0
KeepsLed keep made = (a : RegisteredGroup) (number : ℕ) → Among a made → keep a.number ≡ true → Among number (edges a) → keep number ≡ true

-- what its references name passes
abbrev pub KeepsNamed : (ℕ → Bool) → List RegisteredGroup → Type 0
KeepsNamed keep made = (a : RegisteredGroup) (reference : ℕ × ℕ) → Among a made → keep a.number ≡ true → Among reference a.description.outer → keep reference.0 ≡ true

-- each reference that leaves a group is an edge
pub led-named : (keep : ℕ → Bool) (made : List RegisteredGroup) → KeepsLed keep made → KeepsNamed keep made
led-named keep made led a reference at passes refers = led a reference.0 at passes (among_before (map (λ (r : ℕ × ℕ). r.0) a.description.outer) (filter_map (λ (number : Option ℕ). number) a.trampolines) reference.0 (among_mapped (λ (r : ℕ × ℕ). r.0) a.description.outer reference refers))

-- ---- which are kept

pub among-kept : (keep : ℕ → Bool) (made : List RegisteredGroup) (m : RegisteredGroup) → Among m (kept_made keep made) → Among m made × (keep m.number ≡ true)
among-kept keep made m at = among_filter (λ x. keep x.number) made m at

pub kept-among : (keep : ℕ → Bool) (made : List RegisteredGroup) (m : RegisteredGroup) → Among m made → keep m.number ≡ true → Among m (kept_made keep made)
kept-among keep made m at passes = filter_among (λ x. keep x.number) made m at passes

-- ---- numbers and references

rising_lower : (low above top : ℕ) (made : List RegisteredGroup) → low ≤ above → IsRising above made top → IsRising low made top
rising_lower low above top [] h rising = omega (arith, h, rising)
rising_lower low above top (m ∷ made) h rising = let first : above < m.number = rising.0 in (omega (arith, h, first), rising.1)

pub rising-kept : (keep : ℕ → Bool) (low top : ℕ) (made : List RegisteredGroup) → IsRising low made top → IsRising low (kept_made keep made) top
rising-kept keep low top [] rising = rising
rising-kept keep low top (x ∷ made) rising = by (keep x.number) (rising-kept keep x.number top made rising.1)
  where
    by : (b : Bool) → IsRising x.number (kept_made keep made) top → IsRising low (cond b (x ∷ kept_made keep made) (kept_made keep made)) top
    by true rest = (rising.0, rest)
    by false rest = let first : low < x.number = rising.0 in rising_lower low x.number top (kept_made keep made) (omega (arith, first)) rest

pub names_older-kept : (keep : ℕ → Bool) (made : List RegisteredGroup) → KeepsLed keep made → NamesOlder made → NamesOlder (kept_made keep made)
names_older-kept keep made led older a number at leads =
    let stays = among-kept keep made a at in
    let is = older a number stays.0 leads in
    (is.0, is.1, kept-among keep made is.1 is.2 (ap keep is.3 ∙ led a number stays.0 stays.1 leads), is.3)

-- ---- edges

-- what a group that is kept leads to is kept, and led to still
pub reach-kept : (keep : ℕ → Bool) (made : List RegisteredGroup) (from number : ℕ) → KeepsLed keep made → keep from ≡ true → Reach made from number → (keep number ≡ true) × Reach (kept_made keep made) from number
reach-kept keep made from number named passes here = (passes, here)
reach-kept keep made from number named passes (further to next reach edge) =
    let before = reach-kept keep made from to named passes reach in
    let own : keep (edge.0).number ≡ true = ap keep edge.2 ∙ before.0 in (
      named edge.0 next edge.1 own edge.3,
      further to next before.1 (edge.0, kept-among keep made edge.0 edge.1 own, edge.2, edge.3),
    )

pub kept-reach : (keep : ℕ → Bool) (made : List RegisteredGroup) (from number : ℕ) → Reach (kept_made keep made) from number → Reach made from number
kept-reach keep made from number reach = reach_wider (kept_made keep made) made (λ g at. (among-kept keep made g at).0) from number reach

without_second : (a b c : Bool) → c ≡ false → (a || (b && c)) ≡ a
without_second true b c h = refl
without_second false true c h = h
without_second false false c h = refl

-- where all that is reached passes, the walk over what is kept finds the same
pub reached-kept : (keep root : ℕ → Bool) (made : List RegisteredGroup) → ((n : ℕ) → is_reached made root n ≡ true → keep n ≡ true) → (n : ℕ) → is_reached (kept_made keep made) root n ≡ is_reached made root n
reached-kept keep root [] passes n = refl
reached-kept keep root (x ∷ made) passes n = by (keep x.number) refl (reached-kept keep root made (λ k h. passes k (or_left (is_reached made root k) (leads_to x k && is_reached made root x.number) h)))
  where
    by : (b : Bool) → keep x.number ≡ b → ((k : ℕ) → is_reached (kept_made keep made) root k ≡ is_reached made root k)
        → is_reached (cond b (x ∷ kept_made keep made) (kept_made keep made)) root n ≡ (is_reached made root n || (leads_to x n && is_reached made root x.number))
    by true e rest = λ i. rest n i || (leads_to x n && rest x.number i)
    by false e rest =
        let unreached : is_reached made root x.number ≡ false = false_from_ne_true (is_reached made root x.number)
        (λ h. false≢true (sym e ∙ passes x.number (or_left (is_reached made root x.number) (leads_to x x.number && is_reached made root x.number) h))) in
        rest n ∙ sym (without_second (is_reached made root n) (leads_to x n) (is_reached made root x.number) unreached)

-- ---- trees

trees_from-kept : (keep : ℕ → Bool) (made : List RegisteredGroup) (known other : ℕ → Tree) → KeepsNamed keep made → ((n : ℕ) → keep n ≡ true → known n ≡ other n)
    → (n : ℕ) → keep n ≡ true → trees_from known (kept_made keep made) n ≡ trees_from other made n
trees_from-kept keep [] known other named agree n passes = agree n passes
trees_from-kept keep (x ∷ made) known other named agree n passes =
    by (keep x.number) refl (λ first second same. trees_from-kept keep made first second (λ a r at. named a r (inr at)) same n passes)
  where
    next : ℕ → Tree
    next = with_tree x.number (close other x.description) other

    not_it : keep x.number ≡ false → (k : ℕ) → keep k ≡ true → (k == x.number) ≡ false
    not_it e k stays = false_from_ne_true (k == x.number) (λ h. let same : x.number ≡ k = grind (arith, h) in false≢true (sym e ∙ (ap keep same ∙ stays)))

    by : (b : Bool) → keep x.number ≡ b
        → ((first second : ℕ → Tree) → ((k : ℕ) → keep k ≡ true → first k ≡ second k) → trees_from first (kept_made keep made) n ≡ trees_from second made n)
        → trees_from known (cond b (x ∷ kept_made keep made) (kept_made keep made)) n ≡ trees_from (with_tree x.number (close other x.description) other) made n
    by true e rest =
        let closed : close known x.description ≡ close other x.description = close-agree known other x.description (λ r at. agree r.0 (named x r (inl refl) e at)) in
        rest (with_tree x.number (close known x.description) known) (with_tree x.number (close other x.description) other)
        (λ k stays. λ i. cond (k == x.number) (closed i) (agree k stays i))
    by false e rest =
        rest known (with_tree x.number (close other x.description) other)
        (λ k stays. agree k stays ∙ sym (cond-false (k == x.number) (close other x.description) (other k) (not_it e k stays)))

-- a group that is kept has the tree that it had
pub trees-kept : (keep : ℕ → Bool) (made : List RegisteredGroup) (n : ℕ) → KeepsNamed keep made → keep n ≡ true → trees (kept_made keep made) n ≡ trees made n
trees-kept keep made n named passes = trees_from-kept keep made (λ _. group [] none) (λ _. group [] none) named (λ k stays. refl) n passes

-- ---- indices

pub locate-kept : (keep : ℕ → Bool) (made : List RegisteredGroup) (i : VMSharedTypeIndex) (at : ℕ × ℕ) → locate made i ≡ Some at → keep at.0 ≡ true → locate (kept_made keep made) i ≡ Some at
locate-kept keep [] i at is passes = absurd (cc)
locate-kept keep (x ∷ made) i at is passes = by (keep x.number) refl (place_in i x.indices) refl is (λ there. locate-kept keep made i at there passes)
  where
    first_number : (place : ℕ) → Some (x.number, place) ≡ Some at → x.number ≡ at.0
    first_number place is = cc

    by : (b : Bool) → keep x.number ≡ b → (place : Option ℕ) → place_in i x.indices ≡ place → located_here x.number place (locate made i) ≡ Some at
        → (locate made i ≡ Some at → locate (kept_made keep made) i ≡ Some at)
        → locate (cond b (x ∷ kept_made keep made) (kept_made keep made)) i ≡ Some at
    by true e (Some place) p first later = rw p first
    by true e None p there later = rw p (later there)
    by false e (Some place) p first later = absurd (false≢true (sym e ∙ (ap keep (first_number place first) ∙ passes)))
    by false e None p there later = later there

pub is_located-kept : (keep : ℕ → Bool) (made : List RegisteredGroup) → IsLocated made → IsLocated (kept_made keep made)
is_located-kept keep made located a j i at ai =
    let stays = among-kept keep made a at in
    locate-kept keep made i (a.number, j) (located a j i stays.0 ai) stays.1

pub one_index-kept : (keep : ℕ → Bool) (made : List RegisteredGroup) → KeepsNamed keep made → OneIndexPerTree made → OneIndexPerTree (kept_made keep made)
one_index-kept keep made named one a b j k i l at bt ai bl =
    let first = among-kept keep made a at in
    let second = among-kept keep made b bt in
    let ta : trees (kept_made keep made) a.number ≡ trees made a.number = trees-kept keep made a.number named first.1 in
    let tb : trees (kept_made keep made) b.number ≡ trees made b.number = trees-kept keep made b.number named second.1 in
    let both = one a b j k i l first.0 second.0 ai bl in (
      λ same. (ta ∙ ((both.0 same).0 ∙ sym tb), (both.0 same).1),
      λ same. both.1 (sym ta ∙ (same.0 ∙ tb), same.1),
    )

pub indexed-kept : (keep : ℕ → Bool) (made : List RegisteredGroup) → AreIndexed made → AreIndexed (kept_made keep made)
indexed-kept keep made indexed a at = indexed a (among-kept keep made a at).0

pub below-kept : (keep : ℕ → Bool) (made : List RegisteredGroup) (bound : ℕ) → AreBelow bound made → AreBelow bound (kept_made keep made)
below-kept keep made bound below a i at there = below a i (among-kept keep made a at).0 there

-- ---- what is named

has_place-kept : (keep : ℕ → Bool) (made : List RegisteredGroup) (at : ℕ × ℕ) → keep at.0 ≡ true → HasPlace made at → HasPlace (kept_made keep made) at
has_place-kept keep made at passes has = (has.0, kept-among keep made has.0 has.1 (ap keep has.2 ∙ passes), has.2, has.3)

-- a group whose references are to groups that are kept names types still
pub names_types-kept : (keep : ℕ → Bool) (made : List RegisteredGroup) (described : Description) → ((at : ℕ × ℕ) → Among at described.outer → keep at.0 ≡ true)
    → NamesTypes made described → NamesTypes (kept_made keep made) described
names_types-kept keep made described passes names = record {
  outer = λ at there. has_place-kept keep made at (passes at there) (names.outer at there);
  slots = names.slots;
  supertypes = names.supertypes;
}

pub name_types-kept : (keep : ℕ → Bool) (made : List RegisteredGroup) → KeepsNamed keep made → NameTypes made → NameTypes (kept_made keep made)
name_types-kept keep made named name a at =
    let stays = among-kept keep made a at in
    names_types-kept keep made a.description (λ reference there. named a reference stays.0 stays.1 there) (name a stays.0)

-- ---- rules

-- a type that is kept has the closed tree that it had
pub closed_tree-kept : (keep : ℕ → Bool) (made : List RegisteredGroup) → KeepsNamed keep made → IsLocated made → (i : VMSharedTypeIndex) (t : ClosedTree)
    → closed_tree (kept_made keep made) i ≡ Some t → closed_tree made i ≡ Some t
closed_tree-kept keep made named located i t is =
    let found = closed_tree-located (kept_made keep made) i t is in
    let here = locate-at (kept_made keep made) i found.0 found.1 in
    let stays = among-kept keep made here.group here.among in
    let there : locate made i ≡ Some (here.group.number, (found.0).1) = located here.group (found.0).1 i stays.0 here.place in
    let tree : trees (kept_made keep made) (found.0).0 ≡ trees made here.group.number = ap (trees (kept_made keep made)) (sym here.number) ∙ trees-kept keep made here.group.number named stays.1 in
    ap (option_map (λ (at : ℕ × ℕ). record { tree = trees made at.0; place = at.1 })) there
    ∙ (λ k. Some (record { tree = sym tree k; place = (found.0).1 }))
    ∙ ap Some (sym found.2)

pub rules-kept : (keep : ℕ → Bool) (made : List RegisteredGroup) → KeepsNamed keep made → IsLocated made → KeepRules made → KeepRules (kept_made keep made)
rules-kept keep made named located rules i t is = rules i t (closed_tree-kept keep made named located i t is)

-- ---- trampolines

tells-kept : (keep : ℕ → Bool) (made : List RegisteredGroup) (member : Option WasmSubType) (told : Option ℕ) → ((n : ℕ) → told ≡ Some n → keep n ≡ true)
    → TellsTrampoline made member told → TellsTrampoline (kept_made keep made) member told
tells-kept keep made None None passes tells = tells
tells-kept keep made None (Some n) passes tells = tells
tells-kept keep made (Some member) None passes tells = tells
tells-kept keep made (Some member) (Some n) passes tells = (tells.0, kept-among keep made tells.0 tells.1 (ap keep tells.2 ∙ passes n refl), tells.2, tells.3)

tell-kept : (keep : ℕ → Bool) (made : List RegisteredGroup) (members : List WasmSubType) (told : List (Option ℕ)) → ((n : ℕ) → Among n (filter_map (λ number. number) told) → keep n ≡ true)
    → TellTrampolines made members told → TellTrampolines (kept_made keep made) members told
tell-kept keep made [] [] passes tell = tell
tell-kept keep made [] (t ∷ told) passes tell = tell
tell-kept keep made (ty ∷ members) [] passes tell = tell
tell-kept keep made (ty ∷ members) (None ∷ told) passes tell =
    (tells-kept keep made (other_trampoline ty) None (λ n same. absurd (cc)) tell.0, tell-kept keep made members told passes tell.1)
tell-kept keep made (ty ∷ members) (Some n ∷ told) passes tell = (
  tells-kept keep made (other_trampoline ty) (Some n) (λ k same. passes k (inl (sym (some_same same)))) tell.0,
  tell-kept keep made members told (λ k there. passes k (inr there)) tell.1,
)

-- a group that is kept has the trampolines that it had, since edges lead to them
pub have_trampolines-kept : (keep : ℕ → Bool) (made : List RegisteredGroup) → KeepsLed keep made → HaveTrampolines made → HaveTrampolines (kept_made keep made)
have_trampolines-kept keep made led have a at =
    let stays = among-kept keep made a at in
    tell-kept keep made a.description.members a.trampolines
    (λ n there. led a n stays.0 stays.1 (among_behind (map (λ (r : ℕ × ℕ). r.0) a.description.outer) (filter_map (λ (number : Option ℕ). number) a.trampolines) n there))
    (have a stays.0)
