-- A hold that is left keeps its type, while other holds end.
use Rattle.std.proofs.Common.{◌≡◌, ◌≢◌, ℕ, ◌<◌, ◌≤◌, ◌==◌, true, List, [], ◌∷◌, length, map, slice_get, Option, Some, None, IsSome, option_map, Result, Ok, Err, refl, sym, ap, subst, ◌∙◌, arith, Bool, false, eqb-true}
use Rattle.std.proofs.lemmas.Bool.{cond-true, eqb-false}
use Rattle.wt_env.proofs.lists.Members.{get_among}
use Rattle.wt_env.specs.declared.types.VMSharedTypeIndex.{VMSharedTypeIndex}
use Rattle.wt_tree.specs.Tree.{ClosedTree}
use Rattle.wt_model.proofs.trees.KnownTrees.{trees-located}
use Rattle.wt_model.specs.declared.refusal.Full.{Full}
use Rattle.wt_registry.specs.Registered.{RegisteredGroup, Registry}
use Rattle.wt_registry.specs.Reach.{here}
use Rattle.wt_registry.specs.Indices.{locate, number_of, closed_tree}
use Rattle.wt_registry.specs.Holds.{Hold, Collection, IsHeld, IsHolding, hold as held, held_at, times, root, rooted, rooted_after}
use Rattle.wt_registry.specs.Changes.{HoldChanges, ReleaseChanges}

-- ---- the index of a module's type is one that can be rooted

pub first_there : (indices : List VMSharedTypeIndex) → 0 < length indices → IsSome (slice_get indices 0)
first_there [] some = absurd (omega (arith, some))
first_there (i ∷ indices) some = refl

no_hold : (hold : Hold) → Some hold ≡ None → ⊥
no_hold hold h = absurd (cc)

abbrev answered : Option Hold × Registry → Result (Option Hold × Registry) Full
answered found = Ok found

pair_of : (found other : Option Hold × Registry) → answered found ≡ answered other → found ≡ other
pair_of found other h = cc

found_at : (registry : Registry) (party : ℕ) (index : VMSharedTypeIndex) (at : ℕ × ℕ) (after : Registry) → locate registry.made index ≡ Some at → root registry party index ≡ Ok (None, after) → ⊥
found_at registry party index at after is told = by (held registry party at.0) (sym (ap (rooted registry party index) is) ∙ told)
  where
    by : (made : Result Registry Full) → rooted_after registry.engine.number party index at.0 made ≡ Ok (None, after) → ⊥
    by (Ok more) h =
        let own : Hold = record { engine = registry.engine.number; index = index; number = at.0; party = party } in
        no_hold own (ap (λ (p : Option Hold × Registry). p.0) (pair_of (Some own, more) (None, after) h))
    by (Err full) h = absurd (cc)

pub root_found : (registry : Registry) (party k : ℕ) (indices : List VMSharedTypeIndex) (known : List ClosedTree) (index : VMSharedTypeIndex) (after : Registry)
    → map (closed_tree registry.made) indices ≡ map Some known → slice_get indices k ≡ Some index → root registry party index ≡ Ok (None, after) → ⊥
root_found registry party k indices known index after named is told =
    let at = trees-located registry.made indices known named index (get_among indices k index is) in
    found_at registry party index at.0 after at.1 told

pub located : (made : List RegisteredGroup) (index : VMSharedTypeIndex) (number : ℕ) → number_of made index ≡ Some number → IsSome (locate made index)
located made index number is = by (locate made index) is
  where
    by : (found : Option (ℕ × ℕ)) → option_map (λ at. at.0) found ≡ Some number → IsSome found
    by None h = absurd (cc)
    by (Some at) h = refl

-- ---- a hold after a release

same_number : (n : ℕ) → (n == n) ≡ true
same_number n = grind arith

once : (n : ℕ) → times n (n ∷ []) ≡ 1
once n = cond-true (n == n) 1 0 (same_number n)

after_release : (old new : Registry) (hold : Hold) (party : ℕ) (numbers : List ℕ) → ReleaseChanges old new party numbers → 1 ≤ held_at new.standings hold.party hold.number → IsHeld old hold → IsHeld new hold
after_release old new hold party numbers changes left before = record {
  engine = ap (λ e. e.number) changes.engine ∙ before.engine;
  party = subst (λ e. hold.party < e.limits.parties) (sym changes.engine) before.party;
  held = left;
  located = changes.removal.located hold.index hold.number hold.number (hold.party, left) here before.located;
}

-- A party that takes one more hold and then releases a module keeps that hold, whatever another party releases.
pub still_held : (start rooted mid end : Registry) (hold : Hold) (types : Collection) (taker giver other : ℕ) (numbers : List ℕ) → hold.party ≡ taker → types.party ≡ taker → giver ≡ taker → other ≢ taker
    → IsHolding start types → HoldChanges start rooted taker (hold.number ∷ []) → IsHeld rooted hold → ReleaseChanges rooted mid giver types.numbers → ReleaseChanges mid end other numbers → IsHeld end hold
still_held start rooted mid end hold types taker giver other numbers owner own same differ holding more held first second =
    let n = hold.number in
    let module_held : times n types.numbers ≤ held_at start.standings taker n =
    subst (λ (p : ℕ). times n types.numbers ≤ held_at start.standings p n) own (holding.held n) in
    let one_more = more.more n in
    let one = once n in
    let less = (subst (λ (p : ℕ). ReleaseChanges rooted mid p types.numbers) same first).less n in
    let left : 1 ≤ held_at mid.standings taker n = omega (arith, module_held, one_more, one, less) in
    let others = second.others taker n (λ e. differ (sym e)) in
    let end_left : 1 ≤ held_at end.standings taker n = subst (λ (count : ℕ). 1 ≤ count) (sym others) left in
    after_release mid end hold other numbers second (subst (λ (p : ℕ). 1 ≤ held_at end.standings p n) (sym owner) end_left)
    (after_release rooted mid hold giver types.numbers first (subst (λ (p : ℕ). 1 ≤ held_at mid.standings p n) (sym owner) left) held)

-- ---- a module's holds, while others begin and end

engine_less : (party : ℕ) (old new : Registry) → new.engine ≡ old.engine → party < old.engine.limits.parties → party < new.engine.limits.parties
engine_less party old new same within = subst (λ engine. party < engine.limits.parties) (sym same) within

-- more holds leave them
pub holding-more : (old new : Registry) (party : ℕ) (numbers : List ℕ) (types : Collection) → HoldChanges old new party numbers → IsHolding old types → IsHolding new types
holding-more old new party numbers types changes holding = record {
  engine = ap (λ engine. engine.number) changes.engine ∙ holding.engine;
  party = engine_less types.party old new changes.engine holding.party;
  held = λ n. by n (types.party == party) refl;
}
  where
    by : (n : ℕ) (b : Bool) → (types.party == party) ≡ b → times n types.numbers ≤ held_at new.standings types.party n
    by n true at =
        let same = eqb-true types.party party at in
        let before = subst (λ p. times n types.numbers ≤ held_at old.standings p n) same (holding.held n) in
        let more = changes.more n in
        subst (λ p. times n types.numbers ≤ held_at new.standings p n) (sym same) (omega (arith, before, more))
    by n false at = subst (λ count. times n types.numbers ≤ count) (sym (changes.others types.party n (eqb-false types.party party at))) (holding.held n)

-- and so does the end of another party's
pub holding-released : (old new : Registry) (party : ℕ) (numbers : List ℕ) (types : Collection) → types.party ≢ party → ReleaseChanges old new party numbers → IsHolding old types → IsHolding new types
holding-released old new party numbers types other changes holding = record {
  engine = ap (λ engine. engine.number) changes.engine ∙ holding.engine;
  party = engine_less types.party old new changes.engine holding.party;
  held = λ n. subst (λ count. times n types.numbers ≤ count) (sym (changes.others types.party n other)) (holding.held n);
}
