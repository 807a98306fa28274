-- one more hold keeps what is kept
use Rattle.std.proofs.Common.{◌<◌, sym, subst, ◌∙◌}
use Rattle.wt_keys.specs.Entries.{made_by}
use Rattle.wt_model.specs.Registered.{Registry}
use Rattle.wt_keys.proofs.AddedKeys.{names_older}
use Rattle.wt_holds.proofs.HoldKept.{hold-keeps}
use Rattle.wt_registry.proofs.Soundness.{sound}
use Rattle.wt_holds.specs.Kept.{AreKept}
use Rattle.wt_registry.proofs.registry.TypeRegistry.hold.Goals as goal

kept : (c : goal.After-hold_one) → AreKept c.self.inside.engine (record c.self.inside.groups { counts = c.hold_one.new.counts })
kept c =
    let groups = c.self.inside.groups in
    let before = c.self.invariant.0 in
    record {
      keys = before.keys;
      shown = before.shown;
      rules = before.rules;
      within = before.within;
      references = λ n. c.hold_one.ensures.references n ∙ before.references n;
      totals = c.hold_one.ensures.totals;
      stack = before.stack;
      room = before.room;
      below = before.below;
      holds =
          hold-keeps c.hold_one.result c.self.inside.engine groups.given.numbers (made_by groups.entries) groups.counts.items c.hold_one.new.counts.items c.args.party c.args.number
          before.keys.rising (names_older groups.entries groups.given.numbers before.keys) before.holds
          (subst (λ (registry : Registry). c.args.party < registry.engine.limits.parties) (sym c.self.view_is) c.requires)
          c.hold_one.ensures.allowed c.hold_one.ensures.err;
    }

pub invariant_of-self : goal.invariant_of-self
invariant_of-self c = (kept c, c.self.invariant.1)

pub returns-clause-sound : goal.returns-clause-sound
returns-clause-sound c = sound c.self.inside.engine (record c.self.inside.groups { counts = c.hold_one.new.counts }) (kept c)
