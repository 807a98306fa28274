-- the plan of a module's groups, carried out
use Rattle.std.proofs.Common.{◌++◌, length, ap, sym, ◌∙◌, arith}
use Rattle.std.proofs.lemmas.List.{map-append}
use Rattle.wt_model.specs.Registered.{Registry}
use Rattle.wt_rules.specs.Rules.{total_members}
use Rattle.wt_model.specs.Indices.{closed_tree}
use Rattle.wt_keys.specs.Entries.{made_of, made_by}
use Rattle.wt_registry.proofs.CountedTypes.{length-typed}
use Rattle.wt_registry.proofs.FreeKept.{kept-free}
use Rattle.wt_registry.proofs.Soundness.{sound}
use Rattle.wt_registry.proofs.registry.TypeRegistry.register_module.Goals as goal

pub plan_groups-requires-clause-shown : goal.plan_groups-requires-clause-shown
plan_groups-requires-clause-shown c = c.self.invariant.0.shown

pub check_and_commit-requires-clause-shown : goal.check_and_commit-requires-clause-shown
check_and_commit-requires-clause-shown c = (c.in_ok-place.ensures.planned c.in_default.is).shown

pub check_and_commit-requires-clause-below : goal.check_and_commit-requires-clause-below
check_and_commit-requires-clause-below c =
    (c.in_ok-place.ensures.planned c.in_default.is).below

pub returns-in_err-numbers-clause-sound : goal.returns-in_err-numbers-clause-sound
returns-in_err-numbers-clause-sound c = sound c.self.inside.engine c.check_and_commit.new.groups c.check_and_commit.ensures.kept

pub returns-clause-sound : goal.returns-clause-sound
returns-clause-sound c = sound c.self.inside.engine c.check_and_commit.new.groups c.check_and_commit.ensures.kept

-- the module has few types, and the map as many indices
pub new-requires : goal.new-requires
new-requires c =
    let plan = c.plan_groups.new.plan in
    let planned = c.in_ok-place.ensures.planned c.in_default.is in
    let typed = length-typed (closed_tree (made_by (c.self.inside.groups.entries ++ plan.added))) plan.map.items c.as_slice-groups.result.now planned.named in
    let same = ap total_members c.as_slice-groups.ensures in
    let long = ap length c.in_ok-numbers.ensures.map in
    omega (arith, typed, same, long, c.requires.countable.few_members)

pub invariant_of-self-2 : goal.invariant_of-self-2
invariant_of-self-2 c = (
  c.check_and_commit.ensures.kept,
  kept-free c.self.inside.groups.entries c.plan_groups.new.plan.added (made_by c.check_and_commit.new.groups.entries) c.plan_groups.new.free c.keep_taken.new.self c.in_ok-place.ensures.free
      (sym (map-append made_of c.self.inside.groups.entries c.plan_groups.new.plan.added ∙ ap (λ (r : Registry). r.made) c.in_ok-numbers.ensures.ok)) c.keep_taken.ensures,
)
