-- The end of a hold, in the registry that the fields stand for.
use Rattle.std.proofs.Common.{◌≡◌, ℕ, ◌≤◌, ◌==◌, inl, inr, Bool, true, false, List, [], ◌∷◌, length, map, Option, Some, None, Vec, Global, vec_capacity, sym, ap, subst, ◌∙◌, arith}
use Rattle.std.proofs.lemmas.Bool.{or_left, or_right}
use Rattle.wt_env.specs.Limits.{EngineParts}
use Rattle.wt_keys.specs.declared.entry.RecGroupEntry.{RecGroupEntry}
use Rattle.wt_model.specs.declared.ever.EverRegistered.{EverRegistered}
use Rattle.wt_holds.specs.declared.inner.TypeRegistryInner.{TypeRegistryInner}
use Rattle.wt_holds.specs.Counts.{standings_of, references_at, AreTotals}
use Rattle.wt_holds.specs.References.{references}
use Rattle.wt_keys.specs.Entries.{made_by}
use Rattle.wt_holds.specs.Kept.{registry_at}
use Rattle.wt_keys.specs.Keys.{AreKeys}
use Rattle.wt_keys.specs.Keys.{AreShown}
use Rattle.wt_model.specs.Sound.{KeepRules, AreBelow}
use Rattle.wt_holds.specs.Kept.{AreKept}
use Rattle.wt_model.specs.Registered.{RegisteredGroup, GroupHolds}
use Rattle.wt_env.specs.Among.{Among}
use Rattle.wt_model.specs.Holds.{held_at, waits_at, change, is_registered}
use Rattle.wt_model.specs.Removal.{is_root, is_reached, fewer, now_waits, drop_hold}
use Rattle.wt_keys.proofs.AddedKeys.{names_older}
use Rattle.wt_env.proofs.lists.Mapped.{among_map, among_mapped}
use Rattle.wt_model.proofs.removal.Removing.{drop_answered, drop-stands}
use Rattle.wt_model.proofs.holds.Rooted.{held-stands, waits_at-stands}

-- ---- what is held is registered

number_is : (n m : ℕ) → n ≡ m → (n == m) ≡ true
number_is n m same = grind (arith, same)

any-number : (made : List RegisteredGroup) (m : RegisteredGroup) (number : ℕ) → Among m made → m.number ≡ number → is_registered made number ≡ true
any-number [] m number at same = absurd at
any-number (x ∷ made) m number (inl here) same = or_left (x.number == number) (is_registered made number) (number_is x.number number (ap (λ (y : RegisteredGroup). y.number) (sym here) ∙ same))
any-number (x ∷ made) m number (inr there) same = or_right (x.number == number) (is_registered made number) (any-number made m number there same)

pub held-registered : (made : List RegisteredGroup) (standings : List GroupHolds) (party number : ℕ) → map (λ s. s.number) standings ≡ map (λ m. m.number) made → 1 ≤ held_at standings party number
    → is_registered made number ≡ true
held-registered made standings party number numbers held =
    let own = held-stands standings party number held in
    let there : Among (own.0).number (map (λ m. m.number) made) =
    subst (λ list. Among (own.0).number list) numbers (among_mapped (λ (s : GroupHolds). s.number) standings own.0 own.1) in
    let named = among_map (λ (m : RegisteredGroup). m.number) made (own.0).number there in
    any-number made named.0 number named.1 (sym (own.3 ∙ named.2))

-- what waits is registered too
pub waits-registered : (made : List RegisteredGroup) (standings : List GroupHolds) (number : ℕ) → map (λ s. s.number) standings ≡ map (λ m. m.number) made → waits_at standings number ≡ true
    → is_registered made number ≡ true
waits-registered made standings number numbers waits =
    let own = waits_at-stands standings number waits in
    let there : Among (own.0).number (map (λ m. m.number) made) =
    subst (λ list. Among (own.0).number list) numbers (among_mapped (λ (s : GroupHolds). s.number) standings own.0 own.1) in
    let named = among_map (λ (m : RegisteredGroup). m.number) made (own.0).number there in
    any-number made named.0 number named.1 (sym (own.3 ∙ named.2))

-- ---- the registry after it

abbrev pub lessened : TypeRegistryInner → ℕ → ℕ → List GroupHolds
lessened groups party number = change number (fewer party) (standings_of groups.counts.items)

abbrev pub still_reached : TypeRegistryInner → ℕ → ℕ → Bool
still_reached groups party number = is_reached (made_by groups.entries) (is_root (lessened groups party number)) number

-- where the group is still reached
pub dropped-reached : (engine : EngineParts) (groups after : TypeRegistryInner) (party number : ℕ) → still_reached groups party number ≡ true
    → after.entries ≡ groups.entries → after.given ≡ groups.given → standings_of after.counts.items ≡ lessened groups party number
    → drop_hold (registry_at engine groups) party number ≡ (None, registry_at engine after)
dropped-reached engine groups after party number is entries given standings =
    ap (drop_answered (registry_at engine groups) party number) is
    ∙ sym (λ i. (None, record { engine = engine; made = made_by (entries i); given = given i; standings = standings i }))

-- where it isn't, so that it waits
pub dropped-waits : (engine : EngineParts) (groups after : TypeRegistryInner) (party number : ℕ) → still_reached groups party number ≡ false
    → after.entries ≡ groups.entries → after.given ≡ groups.given → standings_of after.counts.items ≡ change number now_waits (lessened groups party number)
    → drop_hold (registry_at engine groups) party number ≡ (Some number, registry_at engine after)
dropped-waits engine groups after party number is entries given standings =
    ap (drop_answered (registry_at engine groups) party number) is
    ∙ sym (λ i. (Some number, record { engine = engine; made = made_by (entries i); given = given i; standings = standings i }))

-- what is kept stays kept
pub drop-keeps : (engine : EngineParts) (groups after : TypeRegistryInner) (party number : ℕ) (debt : Option ℕ) → AreKept engine groups → 1 ≤ held_at (standings_of groups.counts.items) party number
    → after.entries ≡ groups.entries → after.given ≡ groups.given → after.stack ≡ groups.stack
    → ((n : ℕ) → references_at after.counts.items n ≡ references_at groups.counts.items n) → AreTotals after.counts.items
    → drop_hold (registry_at engine groups) party number ≡ (debt, registry_at engine after) → AreKept engine after
drop-keeps engine groups after party number debt kept held entries given stack references_same totals dropped = record {
  keys = subst (λ (es : List RecGroupEntry). AreKeys es after.given.numbers) (sym entries)
      (subst (λ (g : EverRegistered). AreKeys groups.entries g.numbers) (sym given) kept.keys);
  shown = subst (λ (es : List RecGroupEntry). AreShown es) (sym entries) kept.shown;
  rules = subst (λ (es : List RecGroupEntry). KeepRules (made_by es)) (sym entries) kept.rules;
  within = subst (λ (es : List RecGroupEntry). length es ≤ engine.limits.groups) (sym entries) kept.within;
  below = subst (λ (es : List RecGroupEntry). AreBelow engine.limits.types (made_by es)) (sym entries) kept.below;
  references = λ n. references_same n ∙ (kept.references n ∙ ap (λ (es : List RecGroupEntry). references (made_by es) n) (sym entries));
  totals = totals;
  stack = ap (λ (v : Vec ℕ Global). v.items) stack ∙ kept.stack;
  room = subst (λ (v : Vec ℕ Global). length after.entries ≤ vec_capacity v) (sym stack) (subst (λ (es : List RecGroupEntry). length es ≤ vec_capacity groups.stack) (sym entries) kept.room);
  holds = drop-stands (registry_at engine groups) (registry_at engine after) groups.given.numbers party number debt kept.keys.rising
      (names_older groups.entries groups.given.numbers kept.keys) kept.holds held dropped;
}
