-- What is kept true of the groups is what is true of every registry.
use Rattle.wt_env.specs.Limits.{EngineParts}
use Rattle.wt_model.specs.Sound.{IsSound}
use Rattle.wt_model.proofs.removal.Consistent.{consistent-sound}
use Rattle.wt_keys.proofs.AddedKeys.{one_index, names_older, indexed, name_types}
use Rattle.wt_keys.proofs.KeyTrampolines.{have_trampolines}
use Rattle.wt_holds.specs.declared.inner.TypeRegistryInner.{TypeRegistryInner}
use Rattle.wt_holds.specs.Kept.{AreKept, registry_at}

pub sound : (engine : EngineParts) (groups : TypeRegistryInner) → AreKept engine groups → IsSound (registry_at engine groups)
sound engine groups kept =
    consistent-sound (registry_at engine groups)
    (record {
      rising = kept.keys.rising;
      one_index = one_index groups.entries groups.given.numbers kept.keys;
      names_older = names_older groups.entries groups.given.numbers kept.keys;
      is_located = kept.keys.located;
      indexed = indexed groups.entries groups.given.numbers kept.keys;
      below = kept.below;
      name_types = name_types groups.entries groups.given.numbers kept.keys;
      rules = kept.rules;
      trampolines = have_trampolines groups.entries groups.given.numbers kept.keys;
      holds = kept.holds;
    })
