-- What is kept is ready for a removal, and what is ready is at rest.
use Rattle.std.proofs.Common.{ℕ, [], List, vec_capacity, sym, subst, arith}
use Rattle.std.proofs.lemmas.List.{length-map}
use Rattle.wt_env.specs.Limits.{EngineParts}
use Rattle.wt_model.specs.Removal.{is_root}
use Rattle.wt_keys.specs.Entries.{made_of, made_by}
use Rattle.wt_keys.proofs.AddedKeys.{names_older}
use Rattle.wt_holds.specs.declared.inner.TypeRegistryInner.{TypeRegistryInner}
use Rattle.wt_holds.specs.Counts.{standings_of, references_at}
use Rattle.wt_holds.specs.Kept.{AreKept, IsReady, Falling}
use Rattle.wt_holds.proofs.counts.Cascade.{rests}

pub ready : (engine : EngineParts) (groups : TypeRegistryInner) → AreKept engine groups → IsReady groups
ready engine groups kept = record {
  rising = kept.keys.rising;
  names_older = names_older groups.entries groups.given.numbers kept.keys;
  numbers = kept.holds.numbers;
  reached = kept.holds.reached;
  references = kept.references;
  totals = kept.totals;
  stack = kept.stack;
  room = kept.room;
}

pub at-rest : (groups : TypeRegistryInner) → IsReady groups → Falling (made_by groups.entries) groups.counts.items groups.stack.items (vec_capacity groups.stack) []
at-rest groups ready = subst (λ (stack : List ℕ). Falling (made_by groups.entries) groups.counts.items stack (vec_capacity groups.stack) []) (sym ready.stack)
    (record {
      totals = ready.totals;
      numbers = ready.numbers;
      within = let room = ready.room in let same = length-map groups.entries made_of in omega (arith, room, same);
      cascading = rests (made_by groups.entries) (is_root (standings_of groups.counts.items)) (references_at groups.counts.items) ready.references ready.reached;
    })
