-- The trampolines of a group's members that were planned so far, and one more.
use Rattle.std.proofs.Common.{◌≡◌, ℕ, inl, inr, true, false, Bool, ◌⊎◌, List, [], ◌∷◌, ◌++◌, map, Option, Some, None, option_map, refl, sym, ap, subst, ◌∙◌, append_assoc}
use Rattle.std.specs.List.{find}
use Rattle.std.proofs.lemmas.Bool.{false_from_ne_true}
use Rattle.std.proofs.lemmas.List.{map-append}
use Rattle.wt_env.specs.Among.{Among}
use Rattle.wt_env.specs.Equality.{rec_group_eq, rec_group_eq-exact}
use Rattle.wt_env.specs.declared.types.WasmSubType.{WasmSubType}
use Rattle.wt_env.specs.declared.types.WasmRecGroup.{WasmRecGroup}
use Rattle.wt_env.proofs.lists.Mapped.{among_mapped, among_last}
use Rattle.wt_env.proofs.lists.Members.{among_before, among_behind, among_either, find-found}
use Rattle.wt_tree.specs.References.{number_group, group_refs}
use Rattle.wt_tree.specs.Tree.{Tree, Description, close}
use Rattle.wt_tree.specs.Trampoline.{trampoline_tree, trampoline_alone, is_own_trampoline, other_trampoline}
use Rattle.wt_tree.proofs.Plain.{group_refs-own, number_group-own}
use Rattle.wt_tree.proofs.Trampolines.{other-no_other, other-own}
use Rattle.wt_model.specs.Registered.{RegisteredGroup}
use Rattle.wt_model.specs.Trees.{trees}
use Rattle.wt_model.specs.Describe.{located, describe, tree_of, find_tree}
use Rattle.wt_model.specs.Trampolines.{IsTrampoline, TellTrampolines}
use Rattle.wt_model.specs.Plan.{Plan, groups_of, new_group, with_added, trampoline_planned, plan_trampoline, plan_trampolines}
use Rattle.wt_model.proofs.Trampolines.{tell-before, tell-pushed}
use Rattle.wt_keys.specs.declared.entry.RecGroupEntry.{RecGroupEntry}
use Rattle.wt_keys.specs.Entries.{made_of, made_by}
use Rattle.wt_keys.specs.Keys.{named_at, ResolvesTo, AreKeys}
use Rattle.wt_keys.proofs.KeyTrees.{find_tree-by_key}
use Rattle.wt_plan.specs.declared.plan.Plan.{Plan as PlanFields}
use Rattle.wt_plan.specs.Planned.{plan_of, PlansMore, PlansAlone, PlansTold, PlansTrampolines, IsAlone, PlansOne}
use Rattle.wt_keys.proofs.Joined.{find_second}
use Rattle.wt_plan.proofs.GrownKeys.{plans-none, plans-joined}
use Rattle.wt_plan.proofs.Planning.{groups_of-joined, IsNext, given_with, added-new}

-- ---- the group of a trampoline alone

-- it has no references
pub own-names : (made : List RegisteredGroup) (member : WasmSubType) → is_own_trampoline member ≡ true → ResolvesTo made (member ∷ []) []
own-names made member own = ap (λ refs. map (named_at made) refs) (group_refs-own member own)

pub own-described : (made : List RegisteredGroup) (member : WasmSubType) → is_own_trampoline member ≡ true → describe made (member ∷ []) ≡ trampoline_alone member
own-described made member own =
    let members = number_group-own member own in
    let references = group_refs-own member own in
    λ i. record { members = members i; outer = map (located made) (references i) }

pub own-tree : (made : List RegisteredGroup) (member : WasmSubType) → is_own_trampoline member ≡ true → tree_of made (member ∷ []) ≡ trampoline_tree member
own-tree made member own = ap (close (trees made)) (own-described made member own)

-- an entry whose key it is
pub own-entry : (entries : List RecGroupEntry) (top : ℕ) (entry : RecGroupEntry) (member : WasmSubType) → is_own_trampoline member ≡ true → AreKeys entries top → Among entry entries → entry.hash_consing_key.types ≡ member ∷ []
    → IsTrampoline (made_by entries) member entry.number
own-entry entries top entry member own keys at same = (made_of entry, among_mapped made_of entries entry at, refl, described)
  where
    none : (outer : List (ℕ × ℕ)) → [] ≡ map Some outer → outer ≡ []
    none [] is = refl
    none (o ∷ outer) is = absurd (cc)

    references : group_refs entry.hash_consing_key.types ≡ []
    references = ap group_refs same ∙ group_refs-own member own

    outer : entry.outer ≡ []
    outer = none entry.outer (ap (λ refs. map (named_at (made_by entries)) refs) (sym references) ∙ (keys.keys entry at).names)

    members : number_group entry.hash_consing_key.types ≡ member ∷ []
    members = ap number_group same ∙ number_group-own member own

    described : (made_of entry).description ≡ trampoline_alone member
    described = λ i. record { members = members i; outer = outer i }

-- what the search by keys finds is what is planned
trampoline-by_key : (entries : List RecGroupEntry) (plan : PlanFields) (member : WasmSubType) (key : WasmRecGroup) (found : Option RecGroupEntry) → is_own_trampoline member ≡ true
    → AreKeys (entries ++ plan.added) plan.given.numbers → key.types ≡ member ∷ []
    → find (λ e. rec_group_eq e.hash_consing_key key) (entries ++ plan.added) ≡ found
    → plan_trampoline (plan_of entries plan) (Some member) ≡ trampoline_planned (plan_of entries plan) member (option_map made_of found)
trampoline-by_key entries plan member key found own keys same is =
    let all = entries ++ plan.added in
    let made = made_by all in
    let alone : key ≡ record { types = member ∷ [] } = λ i. record { types = same i } in
    ap (λ (groups : List RegisteredGroup). trampoline_planned (plan_of entries plan) member (find_tree groups (trampoline_tree member))) (groups_of-joined entries plan)
    ∙ ap (λ (tree : Tree). trampoline_planned (plan_of entries plan) member (find_tree made tree)) (sym (own-tree made member own))
    ∙ ap (trampoline_planned (plan_of entries plan) member)
    (find_tree-by_key all plan.given.numbers (member ∷ []) [] keys (own-names made member own)
    ∙ ap (λ (k : WasmRecGroup). option_map made_of (find (λ e. rec_group_eq e.hash_consing_key k) all)) (sym alone)
    ∙ ap (option_map made_of) is)

-- it was there
pub alone-found-planned : (entries : List RecGroupEntry) (plan : PlanFields) (member : WasmSubType) (key : WasmRecGroup) (entry : RecGroupEntry) → is_own_trampoline member ≡ true
    → AreKeys (entries ++ plan.added) plan.given.numbers → key.types ≡ member ∷ []
    → find (λ e. rec_group_eq e.hash_consing_key key) (entries ++ plan.added) ≡ Some entry
    → plan_trampoline (plan_of entries plan) (Some member) ≡ plan_of entries plan
alone-found-planned entries plan member key entry own keys same is = trampoline-by_key entries plan member key (Some entry) own keys same is

pub alone-found : (entries : List RecGroupEntry) (plan : PlanFields) (member : WasmSubType) (key : WasmRecGroup) (entry : RecGroupEntry) → is_own_trampoline member ≡ true
    → AreKeys (entries ++ plan.added) plan.given.numbers → key.types ≡ member ∷ []
    → find (λ e. rec_group_eq e.hash_consing_key key) (entries ++ plan.added) ≡ Some entry
    → PlansAlone entries plan plan member entry.number
alone-found entries plan member key entry own keys same is =
    let found = find-found (λ (e : RecGroupEntry). rec_group_eq e.hash_consing_key key) (entries ++ plan.added) entry is in
    let types = ap (λ (g : WasmRecGroup). g.types) (rec_group_eq-exact entry.hash_consing_key key found.0) ∙ same in
    record {
      more = [];
      plans = plans-none entries plan plan refl refl;
      is = own-entry (entries ++ plan.added) plan.given.numbers entry member own keys found.1 types;
      led = λ e at. absurd at;
      numbers = refl;
      map = refl;
    }

-- it is new
pub alone-new-planned : (entries : List RecGroupEntry) (plan after : PlanFields) (member : WasmSubType) (key : WasmRecGroup) (entry : RecGroupEntry) → is_own_trampoline member ≡ true
    → AreKeys (entries ++ plan.added) plan.given.numbers → key.types ≡ member ∷ []
    → find (λ e. rec_group_eq e.hash_consing_key key) (entries ++ plan.added) ≡ None
    → IsNext (entries ++ plan.added) plan.given.numbers key.types entry
    → after.added ≡ plan.added ++ entry ∷ [] → after.given ≡ given_with plan.given entry
    → after.numbers.items ≡ plan.numbers.items → after.map.items ≡ plan.map.items
    → plan_trampoline (plan_of entries plan) (Some member) ≡ plan_of entries after
alone-new-planned entries plan after member key entry own keys same none is added given numbers map_after =
    trampoline-by_key entries plan member key None own keys same none
    ∙ ap (λ (d : Description). with_added (plan_of entries plan) (new_group (plan_of entries plan) d))
    (sym (own-described (groups_of (plan_of entries plan)) member own) ∙ ap (describe (groups_of (plan_of entries plan))) (sym same))
    ∙ added-new entries plan after key.types entry is added given numbers map_after

pub alone-new : (entries : List RecGroupEntry) (plan after : PlanFields) (member : WasmSubType) (entry : RecGroupEntry) → is_own_trampoline member ≡ true
    → AreKeys (entries ++ after.added) after.given.numbers → entry.hash_consing_key.types ≡ member ∷ []
    → PlansMore entries plan after (entry ∷ []) → after.numbers.items ≡ plan.numbers.items → after.map.items ≡ plan.map.items
    → PlansAlone entries plan after member entry.number
alone-new entries plan after member entry own keys same plans numbers map_after =
    let there = subst (λ (added : List RecGroupEntry). Among entry (entries ++ added)) (sym plans.added) (among_behind entries (plan.added ++ entry ∷ []) entry (among_last plan.added entry)) in
    record {
      more = entry ∷ [];
      plans = plans;
      is = own-entry (entries ++ after.added) after.given.numbers entry member own keys there same;
      led = λ e at. only e at;
      numbers = numbers;
      map = map_after;
    }
  where
    only : (e : RecGroupEntry) → Among e (entry ∷ []) → (e.number ≡ entry.number) × (e.hash_consing_key.types ≡ member ∷ [])
    only e (inl is) = (ap (λ (x : RecGroupEntry). x.number) is, ap (λ (x : RecGroupEntry). x.hash_consing_key.types) is ∙ same)
    only e (inr none) = absurd none

-- ---- the trampoline of a member

pub told-alone : (entries : List RecGroupEntry) (before after : PlanFields) (member : WasmSubType) (number : ℕ) → PlansAlone entries before after member number → PlansTold entries before after (Some member) (Some number)
told-alone entries before after member number alone = record {
  more = alone.more;
  plans = alone.plans;
  tells = alone.is;
  led = λ e at. let own = alone.led e at in (ap Some (sym own.0), member, refl, own.1);
  numbers = alone.numbers;
  map = alone.map;
}

pub told-none : (entries : List RecGroupEntry) (plan : PlanFields) → PlansTold entries plan plan None None
told-none entries plan = record {
  more = [];
  plans = plans-none entries plan plan refl refl;
  tells = tt;
  led = λ e at. absurd at;
  numbers = refl;
  map = refl;
}

-- ---- those of all members

pub trampolines-none : (entries : List RecGroupEntry) (plan : PlanFields) → AreKeys (entries ++ plan.added) plan.given.numbers → PlansTrampolines entries plan plan [] []
trampolines-none entries plan keys = record {
  planned = refl;
  keys = keys;
  more = [];
  plans = plans-none entries plan plan refl refl;
  tell = tt;
  led = λ e at. absurd at;
  numbers = refl;
  map = refl;
}

plan_trampolines-more : (plan : Plan) (members : List WasmSubType) (ty : WasmSubType) → plan_trampolines plan (members ++ ty ∷ []) ≡ plan_trampoline (plan_trampolines plan members) (other_trampoline ty)
plan_trampolines-more plan [] ty = refl
plan_trampolines-more plan (x ∷ members) ty = plan_trampolines-more (plan_trampoline plan (other_trampoline x)) members ty

-- an entry is told, and is the trampoline of a member
abbrev Led : RecGroupEntry → List WasmSubType → List (Option ℕ) → Type 0
Led e members told = Among (Some e.number) told × (t : WasmSubType) × (m : WasmSubType) × Among t members × (other_trampoline t ≡ Some m) × (e.hash_consing_key.types ≡ m ∷ [])

pub trampolines-more : (entries : List RecGroupEntry) (before middle after : PlanFields) (members : List WasmSubType) (told : List (Option ℕ)) (ty : WasmSubType) (one : Option ℕ)
    → PlansTrampolines entries before middle members told → PlansTold entries middle after (other_trampoline ty) one
    → plan_trampoline (plan_of entries middle) (other_trampoline ty) ≡ plan_of entries after → AreKeys (entries ++ after.added) after.given.numbers
    → PlansTrampolines entries before after (members ++ ty ∷ []) (told ++ one ∷ [])
trampolines-more entries before middle after members told ty one so_far tells step keys = record {
  planned =
      plan_trampolines-more (plan_of entries before) members ty
      ∙ ap (λ (p : Plan). plan_trampoline p (other_trampoline ty)) so_far.planned
      ∙ step;
  keys = keys;
  more = so_far.more ++ tells.more;
  plans = plans-joined entries before middle after so_far.more tells.more so_far.plans tells.plans;
  tell = tell-pushed (made_by (entries ++ after.added)) members told ty one still tells.tells;
  led = λ e at. by e (among_either so_far.more tells.more e at);
  numbers = tells.numbers ∙ so_far.numbers;
  map = tells.map ∙ so_far.map;
}
  where
    grown : made_by (entries ++ middle.added) ++ made_by tells.more ≡ made_by (entries ++ after.added)
    grown =
        sym (map-append made_of (entries ++ middle.added) tells.more)
        ∙ ap made_by (append_assoc entries middle.added tells.more ∙ ap (λ (added : List RecGroupEntry). entries ++ added) (sym tells.plans.added))

    still : TellTrampolines (made_by (entries ++ after.added)) members told
    still = subst (λ (made : List RegisteredGroup). TellTrampolines made members told) grown (tell-before (made_by (entries ++ middle.added)) (made_by tells.more) members told so_far.tell)

    by : (e : RecGroupEntry) → Among e so_far.more ⊎ Among e tells.more → Led e (members ++ ty ∷ []) (told ++ one ∷ [])
    by e (inl at) =
        let was = so_far.led e at in
        (among_before told (one ∷ []) (Some e.number) was.0, was.1, was.2, among_before members (ty ∷ []) was.1 was.3, was.4, was.5)
    by e (inr at) =
        let is = tells.led e at in
        (among_behind told (one ∷ []) (Some e.number) (inl (sym is.0)), ty, is.1, among_last members ty, is.2, is.3)

-- ---- a group that is new, behind its trampolines

find-nothing : {A : Type 0} (p : A → Bool) (xs : List A) → ((x : A) → Among x xs → p x ≡ false) → find p xs ≡ None
find-nothing p [] fails = refl
find-nothing p (x ∷ xs) fails = rw (fails x (inl refl)) (find-nothing p xs (λ y at. fails y (inr at)))

-- none of the trampolines has the key of the group
pub still-none : (entries : List RecGroupEntry) (before after : PlanFields) (key : WasmRecGroup) (told : List (Option ℕ)) → PlansTrampolines entries before after key.types told
    → find (λ e. rec_group_eq e.hash_consing_key key) (entries ++ before.added) ≡ None → find (λ e. rec_group_eq e.hash_consing_key key) (entries ++ after.added) ≡ None
still-none entries before after key told so_far none =
    ap (find test) (sym grown)
    ∙ sym (find_second test (entries ++ before.added) so_far.more (sym none))
    ∙ find-nothing test so_far.more (λ e at. false_from_ne_true (test e) (passes e at))
  where
    test : RecGroupEntry → Bool
    test e = rec_group_eq e.hash_consing_key key

    grown : (entries ++ before.added) ++ so_far.more ≡ entries ++ after.added
    grown = append_assoc entries before.added so_far.more ∙ ap (λ (added : List RecGroupEntry). entries ++ added) (sym so_far.plans.added)

    only : (t m : WasmSubType) → Among t (m ∷ []) → other_trampoline t ≡ Some m → ⊥
    only t m (inl same) other =
        let none : other_trampoline m ≡ None = other-no_other t m other in
        let some : other_trampoline m ≡ Some m = subst (λ (x : WasmSubType). other_trampoline x ≡ Some m) same other in
        absurd (cc)
    only t m (inr nothing) other = absurd nothing

    passes : (e : RecGroupEntry) → Among e so_far.more → test e ≡ true → ⊥
    passes e at is =
        let own = so_far.led e at in
        let key_is : key.types ≡ own.2 ∷ [] = ap (λ (g : WasmRecGroup). g.types) (sym (rec_group_eq-exact e.hash_consing_key key is)) ∙ own.5 in
        only own.1 own.2 (subst (Among own.1) key_is own.3) own.4

-- what stands behind them
pub new-behind : (entries : List RecGroupEntry) (before after : PlanFields) (types : List WasmSubType) (told : List (Option ℕ)) (so_far : PlansTrampolines entries before after types told)
    → (entries ++ before.added) ++ so_far.more ≡ entries ++ after.added
new-behind entries before after types told so_far =
    append_assoc entries before.added so_far.more ∙ ap (λ (added : List RecGroupEntry). entries ++ added) (sym so_far.plans.added)

-- the group leads to each of them that is new
pub new-led : (entries : List RecGroupEntry) (before middle after : PlanFields) (types : List WasmSubType) (told : List (Option ℕ)) (entry : RecGroupEntry)
    → PlansTrampolines entries before middle types told → PlansMore entries middle after (entry ∷ [])
    → entry.hash_consing_key.types ≡ types → entry.trampolines ≡ told
    → after.numbers.items ≡ before.numbers.items ++ entry.number ∷ [] → after.map.items ≡ before.map.items ++ entry.shared_type_indices
    → PlansOne entries before after types
new-led entries before middle after types told entry so_far last key_is same numbers map_after = record {
  entry = entry;
  group = key_is;
  numbers = numbers;
  map = map_after;
  stands =
      subst (λ (added : List RecGroupEntry). Among entry (entries ++ added)) (sym last.added)
      (among_behind entries (middle.added ++ entry ∷ []) entry (among_last middle.added entry));
  more = so_far.more ++ entry ∷ [];
  plans = plans-joined entries before middle after so_far.more (entry ∷ []) so_far.plans last;
  led = λ e at. by e (among_either so_far.more (entry ∷ []) e at);
  alone = λ e at. own e (among_either so_far.more (entry ∷ []) e at);
}
  where
    own : (e : RecGroupEntry) → Among e so_far.more ⊎ Among e (entry ∷ []) → (e ≡ entry) ⊎ IsAlone e
    own e (inl at) =
        let told = so_far.led e at in
        inr (told.2, other-own told.1 told.2 told.4, told.5)
    own e (inr (inl is)) = inl is
    own e (inr (inr none)) = absurd none

    by : (e : RecGroupEntry) → Among e so_far.more ⊎ Among e (entry ∷ []) → (e.number ≡ entry.number) ⊎ Among (Some e.number) entry.trampolines
    by e (inl at) = inr (subst (Among (Some e.number)) (sym same) (so_far.led e at).0)
    by e (inr (inl is)) = inl (ap (λ (x : RecGroupEntry). x.number) is)
    by e (inr (inr none)) = absurd none
