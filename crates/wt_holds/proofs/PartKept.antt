-- Where what isn't reached is removed, what is kept stays kept.
use Rattle.std.proofs.Common.{◌≡◌, ℕ, Bool, [], List, length, sym, ap, subst, arith}
use Rattle.wt_env.specs.Limits.{EngineParts}
use Rattle.wt_keys.specs.declared.entry.RecGroupEntry.{RecGroupEntry}
use Rattle.wt_model.specs.declared.ever.EverRegistered.{EverRegistered}
use Rattle.wt_holds.specs.declared.inner.TypeRegistryInner.{TypeRegistryInner}
use Rattle.std.proofs.lemmas.List.{length-map}
use Rattle.wt_keys.specs.Entries.{made_of, made_by}
use Rattle.wt_holds.specs.Kept.{registry_at}
use Rattle.wt_keys.specs.Keys.{AreKeys}
use Rattle.wt_keys.specs.Keys.{AreShown}
use Rattle.wt_holds.specs.Kept.{AreKept, AreRemoving}
use Rattle.wt_holds.specs.Marks.{kept_entries}
use Rattle.wt_model.specs.Registered.{GroupHolds, Registry}
use Rattle.wt_model.specs.Removal.{reached_in, reached_part}
use Rattle.wt_model.specs.Sound.{AreBelow, KeepRules, HoldsInvariant}
use Rattle.wt_env.proofs.lists.Filtered.{filter_shorter}
use Rattle.wt_keys.proofs.AddedKeys.{names_older}
use Rattle.wt_holds.proofs.KeptKeys.{keys-kept, shown-kept}
use Rattle.wt_model.proofs.removal.KeptPart.{KeepsLed, led-named, below-kept, rules-kept}
use Rattle.wt_model.proofs.removal.Removing.{part-led}

-- the registry of the groups, with these counts
abbrev pub counted_as : EngineParts → TypeRegistryInner → List GroupHolds → Registry
counted_as engine groups standings = record (registry_at engine groups) { standings = standings }

pub part-keeps : (engine : EngineParts) (groups after : TypeRegistryInner) (standings : List GroupHolds) → AreKept engine groups
    → reached_part (counted_as engine groups standings) ≡ registry_at engine after
    → after.entries ≡ kept_entries (reached_in (counted_as engine groups standings)) groups.entries
    → AreRemoving after [] → after.stack.items ≡ []
    → HoldsInvariant engine (reached_part (counted_as engine groups standings)).made (reached_part (counted_as engine groups standings)).standings
    → AreKept engine after
part-keeps engine groups after standings kept part entries removed stack stands = record {
  keys = subst (λ (es : List RecGroupEntry). AreKeys es after.given.numbers) (sym entries)
      (subst (λ (g : EverRegistered). AreKeys (kept_entries keep old) g.numbers) given (keys-kept keep old groups.given.numbers kept.keys led));
  shown = subst AreShown (sym entries) (shown-kept keep old kept.shown);
  rules = subst (λ (r : Registry). KeepRules r.made) part (rules-kept keep (made_by old) (led-named keep (made_by old) led) kept.keys.located kept.rules);
  within =
      let few = filter_shorter (λ (e : RecGroupEntry). keep e.number) old in
      let same = ap length entries in
      let before = kept.within in
      omega (arith, few, same, before);
  below = subst (λ (r : Registry). AreBelow engine.limits.types r.made) part (below-kept keep (made_by old) engine.limits.types kept.below);
  references = λ n. let told = removed.falling.cascading.counted n in omega (arith, told);
  totals = removed.falling.totals;
  stack = stack;
  room = let within = removed.falling.within in let same = length-map after.entries made_of in omega (arith, within, same);
  holds = subst (λ (r : Registry). HoldsInvariant engine r.made r.standings) part stands;
}
  where
    old : List RecGroupEntry
    old = groups.entries

    keep : ℕ → Bool
    keep = reached_in (counted_as engine groups standings)

    given : groups.given ≡ after.given
    given = ap (λ (r : Registry). r.given) part

    led : KeepsLed keep (made_by old)
    led = part-led (counted_as engine groups standings) groups.given.numbers kept.keys.rising (names_older old groups.given.numbers kept.keys)
