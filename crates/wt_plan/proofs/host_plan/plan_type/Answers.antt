-- what a type of a host names has indices
use Rattle.std.proofs.Common.{◌++◌, sym, subst}
use Rattle.wt_rules.proofs.KnownHosts.{host-parts}
use Rattle.wt_model.specs.Indices.{closed_tree}
use Rattle.wt_keys.specs.Entries.{made_by}
use Rattle.wt_keys.specs.Keys.{KeyNamesTypes}
use Rattle.wt_plan.specs.Planned.{AreResolved}
use Rattle.wt_plan.proofs.HostReferences.{known-resolved, known-slots}
use Rattle.wt_plan.proofs.host_plan.plan_type.Goals as goal

pub plan_key-requires-clause-named : goal.plan_key-requires-clause-named
plan_key-requires-clause-named c =
    let made = made_by (c.args.entries.now ++ c.args.plan.now.added) in
    subst (AreResolved made) (sym c.in_ok-key.ensures) (known-resolved made c.args.ty (host-parts (closed_tree made) c.args.ty c.requires.host).known)

pub plan_key-requires-clause-slots : goal.plan_key-requires-clause-slots
plan_key-requires-clause-slots c =
    let made = made_by (c.args.entries.now ++ c.args.plan.now.added) in
    subst KeyNamesTypes (sym c.in_ok-key.ensures) (known-slots made c.args.ty (host-parts (closed_tree made) c.args.ty c.requires.host).known)
