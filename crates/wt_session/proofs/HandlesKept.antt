-- A party's handles stay its holds, through a handle more, a handle less and a sweep; and a command leaves what
-- others hold.
use Rattle.std.proofs.Common.{◌≡◌, ◌≢◌, ℕ, ◌+◌, ◌<◌, ◌≤◌, ◌==◌, inl, inr, Bool, true, false, cond, List, [], ◌∷◌, ◌++◌, slice_get, slice_set, Some, refl, sym, ap, subst, ◌∙◌, arith}
use Rattle.wt_env.specs.Limits.{EngineParts}
use Rattle.wt_env.specs.declared.types.VMSharedTypeIndex.{VMSharedTypeIndex}
use Rattle.wt_registry.specs.Registered.{RegisteredGroup, Registry}
use Rattle.wt_registry.specs.Holds.{Hold, IsHeld, held_at}
use Rattle.wt_env.specs.Among.{Among}
use Rattle.wt_registry.specs.Indices.{number_of}
use Rattle.wt_registry.specs.Holds.{Collection, times}
use Rattle.wt_registry.specs.Sound.{IsSound}
use Rattle.wt_registry.specs.Changes.{HoldChanges, DropChanges, SweepChanges, ReleaseChanges}
use Rattle.wt_registry.specs.Reach.{here}
use Rattle.wt_registry.specs.Holds.{IsHolding}
use Rattle.wt_session.specs.declared.handle.Handle.{Handle}
use Rattle.wt_session.specs.declared.handle.Handle.TheVariants as handle
use Rattle.wt_session.specs.World.{numbers_held, held_in}
use Rattle.wt_session.specs.Session.{AreLocated, IsTypeHandle, IsModuleHandle, IsHandleOf, AreHandles, Keeps}
use Rattle.wt_env.proofs.lists.Members.{among_either}
use Rattle.wt_commands.proofs.Members.{among_one}
use Rattle.wt_session.proofs.Times.{among-times, times-pushed, times-ended, held-among, handle-times, among_set, got-among}

-- ---- a handle is a hold

type-of : (registry : Registry) (party : ℕ) (row : List Handle) (hold : Hold) → AreHandles registry party row → Among (handle.Type hold) row → IsTypeHandle registry party hold
type-of registry party row hold are at = are.each (handle.Type hold) at

module-of : (registry : Registry) (party : ℕ) (row : List Handle) (types : Collection) → AreHandles registry party row → Among (handle.Module types) row → IsModuleHandle registry party types
module-of registry party row types are at = are.each (handle.Module types) at

pub type-owner : (registry : Registry) (party : ℕ) (row : List Handle) (place : ℕ) (hold : Hold) → AreHandles registry party row → slice_get row place ≡ Some (handle.Type hold) → hold.party ≡ party
type-owner registry party row place hold are is = (type-of registry party row hold are (got-among row place (handle.Type hold) is)).owner

pub module-owner : (registry : Registry) (party : ℕ) (row : List Handle) (place : ℕ) (types : Collection) → AreHandles registry party row → slice_get row place ≡ Some (handle.Module types) → types.party ≡ party
module-owner registry party row place types are is = (module-of registry party row types are (got-among row place (handle.Module types) is)).owner

-- what a handle holds, its party holds
pub held-own : (registry : Registry) (party : ℕ) (row : List Handle) (own : Handle) (n : ℕ) → AreHandles registry party row → Among own row → Among n (numbers_held own) → 1 ≤ held_at registry.standings party n
held-own registry party row own n are at holds = subst (λ (m : ℕ). 1 ≤ m) (sym (are.counted n)) (among-times n (held_in row) (held-among row own n at holds))

pub got-held : (registry : Registry) (party : ℕ) (row : List Handle) (place : ℕ) (hold : Hold) → AreHandles registry party row → party < registry.engine.limits.parties → slice_get row place ≡ Some (handle.Type hold) → IsHeld registry hold
got-held registry party row place hold are below is =
    let at = got-among row place (handle.Type hold) is in
    let own = type-of registry party row hold are at in
    record {
      engine = own.engine;
      party = subst (λ (p : ℕ). p < registry.engine.limits.parties) (sym own.owner) below;
      held = subst (λ (p : ℕ). 1 ≤ held_at registry.standings p hold.number) (sym own.owner) (held-own registry party row (handle.Type hold) hold.number are at (inl refl));
      located = own.located;
    }

-- ---- handles stay handles

engine_number : (old new : Registry) → new.engine ≡ old.engine → new.engine.number ≡ old.engine.number
engine_number old new same = ap (λ (e : EngineParts). e.number) same

-- where the engine is the same, and what the handle holds has its indices
pub still-handle : (old new : Registry) (party : ℕ) (own : Handle) → new.engine ≡ old.engine
    → ((i : VMSharedTypeIndex) (n : ℕ) → Among n (numbers_held own) → number_of old.made i ≡ Some n → number_of new.made i ≡ Some n)
    → IsHandleOf old party own → IsHandleOf new party own
still-handle old new party (handle.Type hold) engine located is = record {
  engine = engine_number old new engine ∙ is.engine;
  owner = is.owner;
  located = located hold.index hold.number (inl refl) is.located;
}
still-handle old new party (handle.Owed number) engine located is = tt
still-handle old new party (handle.Module types) engine located is = record {
  engine = engine_number old new engine ∙ is.engine;
  owner = is.owner;
  located = λ i at. let found = is.located i at in (found.0, found.1, located i found.0 found.1 found.2);
}
still-handle old new party handle.Ended engine located is = tt

-- each handle, with one more
each-pushed : (registry : Registry) (party : ℕ) (row : List Handle) (new : Handle) → ((own : Handle) → Among own row → IsHandleOf registry party own) → IsHandleOf registry party new
    → (own : Handle) → Among own (row ++ new ∷ []) → IsHandleOf registry party own
each-pushed registry party row new each more own at = elim (among_either row (new ∷ []) own at) [
  | inl before ↦ each own before
  | inr last ↦ subst (IsHandleOf registry party) (sym (among_one own new last)) more
]

-- each handle, with another at one place
each-set : (registry : Registry) (party : ℕ) (row : List Handle) (place : ℕ) (new : Handle)
    → ((own : Handle) → Among own row → Among own (slice_set row place new) → IsHandleOf registry party own) → IsHandleOf registry party new
    → (own : Handle) → Among own (slice_set row place new) → IsHandleOf registry party own
each-set registry party row place new each other own at = elim (among_set row place new own at) [
  | inl there ↦ each own there at
  | inr same ↦ subst (IsHandleOf registry party) (sym same) other
]

-- ---- one handle more

keeps-pushed : (old new : Registry) (party : ℕ) (row : List Handle) (own : Handle) → AreHandles old party row → HoldChanges old new party (numbers_held own) → IsHandleOf new party own → IsSound new → Keeps old new party (row ++ own ∷ [])
keeps-pushed old new party row own are changes is sound = record {
  sound = λ before. sound;
  handles = record {
    counted = λ n. let counted = are.counted n in let more = changes.more n in let pushed = times-pushed n row own in omega (arith, counted, more, pushed);
    each = each-pushed new party row own (λ other at. still-handle old new party other changes.engine (λ i n holds found. changes.located i n found) (are.each other at)) is;
  };
  spares = record {
    engine = changes.engine;
    holds = λ p n differs. changes.others p n differs;
    located = λ i p n differs held at. changes.located i n at;
  };
}

pub keeps-more : (old new : Registry) (party : ℕ) (row : List Handle) (hold : Hold) → AreHandles old party row → HoldChanges old new party (hold.number ∷ []) → IsHeld new hold → hold.party ≡ party → IsSound new → Keeps old new party (row ++ handle.Type hold ∷ [])
keeps-more old new party row hold are changes held owner = keeps-pushed old new party row (handle.Type hold) are changes (record { engine = held.engine; owner = owner; located = held.located })

pub keeps-module : (old new : Registry) (party : ℕ) (row : List Handle) (types : Collection) → AreHandles old party row → HoldChanges old new party types.numbers → IsHolding new types → types.party ≡ party → AreLocated new.made types → IsSound new → Keeps old new party (row ++ handle.Module types ∷ [])
keeps-module old new party row types are changes holding owner located = keeps-pushed old new party row (handle.Module types) are changes (record { engine = holding.engine; owner = owner; located = located })

-- ---- nothing is changed

pub keeps-same : (registry : Registry) (party : ℕ) (row : List Handle) → AreHandles registry party row → Keeps registry registry party row
keeps-same registry party row are = record {
  sound = λ before. before;
  handles = are;
  spares = record { engine = refl; holds = λ p n differs. refl; located = λ i p n differs held at. at };
}

-- ---- one handle less

pub keeps-less : (old new : Registry) (party : ℕ) (row : List Handle) (place : ℕ) (hold : Hold) (ended : Handle) → AreHandles old party row → slice_get row place ≡ Some (handle.Type hold)
    → numbers_held ended ≡ [] → IsHandleOf new party ended → DropChanges old new party hold.number → IsSound new → Keeps old new party (slice_set row place ended)
keeps-less old new party row place hold ended are is none over changes sound = record {
  sound = λ before. sound;
  handles = record {
    counted = λ n. by n (hold.number == n) refl (times-ended n row place (handle.Type hold) ended is none);
    each = each-set new party row place ended
        (λ own at still. still-handle old new party own changes.engine (λ i n holds found. subst (λ (made : List RegisteredGroup). number_of made i ≡ Some n) (sym changes.made) found) (are.each own at))
        over;
  };
  spares = record {
    engine = changes.engine;
    holds = λ p n differs. changes.others p n (inl differs);
    located = λ i p n differs held at. subst (λ (made : List RegisteredGroup). number_of made i ≡ Some n) (sym changes.made) at;
  };
}
  where
    by : (n : ℕ) (b : Bool) → (hold.number == n) ≡ b → times n (held_in row) ≡ times n (held_in (slice_set row place ended)) + cond b 1 0
        → held_at new.standings party n ≡ times n (held_in (slice_set row place ended))
    by n true e left =
        let same : hold.number ≡ n = grind (arith, e) in
        let counted = are.counted n in
        let less = subst (λ (m : ℕ). held_at old.standings party m ≡ held_at new.standings party m + 1) same changes.less in
        omega (arith, counted, less, left)
    by n false e left =
        let differs : n ≢ hold.number = λ same. absurd (grind (arith, e, same)) in
        let counted = are.counted n in
        let still = changes.others party n (inr differs) in
        omega (arith, counted, still, left)

-- what is held after it as before is held after it
still-held : (old new : Registry) (party number : ℕ) → held_at new.standings party number ≡ held_at old.standings party number → 1 ≤ held_at old.standings party number → 1 ≤ held_at new.standings party number
still-held old new party number same held = subst (λ (m : ℕ). 1 ≤ m) (sym same) held

-- ---- a sweep

pub keeps-swept : (old new : Registry) (party : ℕ) (row : List Handle) (place number : ℕ) → AreHandles old party row → slice_get row place ≡ Some (handle.Owed number) → SweepChanges old new → IsSound new → Keeps old new party (slice_set row place handle.Ended)
keeps-swept old new party row place number are is changes sound = record {
  sound = λ before. sound;
  handles = record {
    counted = λ n.
        let left = times-ended n row place (handle.Owed number) handle.Ended is refl in
        let counted = are.counted n in
        let still = changes.holds party n in
        omega (arith, left, counted, still);
    each = each-set new party row place handle.Ended
        (λ own at still. still-handle old new party own changes.engine (λ i n holds found. changes.removal.located i n n (party, still-held old new party n (changes.holds party n) (held-own old party row own n are at holds)) here found) (are.each own at))
        tt;
  };
  spares = record {
    engine = changes.engine;
    holds = λ p n differs. changes.holds p n;
    located = λ i p n differs held at. changes.removal.located i n n (p, still-held old new p n (changes.holds p n) held) here at;
  };
}

-- ---- a module

pub module-held : (registry : Registry) (party : ℕ) (row : List Handle) (types : Collection) → AreHandles registry party row → party < registry.engine.limits.parties → Among (handle.Module types) row → IsHolding registry types
module-held registry party row types are below at =
    let own = module-of registry party row types are at in
    record {
      engine = own.engine;
      party = subst (λ (p : ℕ). p < registry.engine.limits.parties) (sym own.owner) below;
      held = λ n. subst (λ (p : ℕ). times n types.numbers ≤ held_at registry.standings p n) (sym own.owner)
          (subst (λ (held : ℕ). times n types.numbers ≤ held) (sym (are.counted n)) (handle-times n row (handle.Module types) at));
    }

pub keeps-released : (old new : Registry) (party : ℕ) (row : List Handle) (place : ℕ) (types : Collection) → AreHandles old party row → slice_get row place ≡ Some (handle.Module types) → ReleaseChanges old new party types.numbers → IsSound new → Keeps old new party (slice_set row place handle.Ended)
keeps-released old new party row place types are is changes sound = record {
  sound = λ before. sound;
  handles = record {
    counted = counted;
    each = each-set new party row place handle.Ended
        (λ own at still.
        still-handle old new party own changes.engine
        (λ i n holds found. changes.removal.located i n n (party, subst (λ (m : ℕ). 1 ≤ m) (sym (counted n)) (among-times n (held_in (slice_set row place handle.Ended)) (held-among (slice_set row place handle.Ended) own n still holds))) here found)
        (are.each own at))
        tt;
  };
  spares = record {
    engine = changes.engine;
    holds = λ p n differs. changes.others p n differs;
    located = λ i p n differs held at. changes.removal.located i n n (p, still-held old new p n (changes.others p n differs) held) here at;
  };
}
  where
    counted : (n : ℕ) → held_at new.standings party n ≡ times n (held_in (slice_set row place handle.Ended))
    counted n =
        let left = times-ended n row place (handle.Module types) handle.Ended is refl in
        let before = are.counted n in
        let less = changes.less n in
        omega (arith, left, before, less)
