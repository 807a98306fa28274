-- a new group comes behind the trampolines of its members, to which it leads
use Rattle.std.proofs.Common.{ℕ, List, [], ◌∷◌, ◌++◌, ap, subst, ◌∙◌}
use Rattle.wt_env.specs.declared.types.WasmSubType.{WasmSubType}
use Rattle.wt_env.specs.declared.types.WasmRecGroup.{WasmRecGroup}
use Rattle.wt_model.specs.Plan.{Plan, with_new}
use Rattle.wt_keys.specs.declared.entry.RecGroupEntry.{RecGroupEntry}
use Rattle.wt_keys.specs.Entries.{made_by}
use Rattle.wt_keys.proofs.ApartKeys.{new-apart}
use Rattle.wt_plan.specs.Planned.{AreResolved, PlansTrampolines}
use Rattle.wt_plan.proofs.GrownKeys.{named-grown, plans-keys}
use Rattle.wt_plan.proofs.Planning.{occurs-new, plans-entry}
use Rattle.wt_plan.proofs.PlannedTrampolines.{still-none, new-behind, new-led}
use Rattle.wt_plan.proofs.plan.plan_new.Goals as goal

pub new_entry-requires-clause-named : goal.new_entry-requires-clause-named
new_entry-requires-clause-named c =
    let entries = c.args.entries.now in
    let so_far = subst (λ (types : List WasmSubType). PlansTrampolines entries c.args.plan.now c.plan_trampolines.new.plan types c.in_ok-told.told) c.as_slice.ensures c.in_ok-told.ensures.planned in
    subst (λ (all : List RecGroupEntry). AreResolved (made_by all) c.args.key.types) (new-behind entries c.args.plan.now c.plan_trampolines.new.plan c.args.key.types c.in_ok-told.told so_far)
    (named-grown (entries ++ c.args.plan.now.added) so_far.more c.args.key.types c.requires.named)

pub new_entry-requires-clause-new : goal.new_entry-requires-clause-new
new_entry-requires-clause-new c =
    let entries = c.args.entries.now in
    let key = c.args.key in
    let so_far = subst (λ (types : List WasmSubType). PlansTrampolines entries c.args.plan.now c.plan_trampolines.new.plan types c.in_ok-told.told) c.as_slice.ensures c.in_ok-told.ensures.planned in
    still-none entries c.args.plan.now c.plan_trampolines.new.plan key c.in_ok-told.told so_far c.requires.new

pub new_entry-requires-clause-tell : goal.new_entry-requires-clause-tell
new_entry-requires-clause-tell c =
    let entries = c.args.entries.now in
    let so_far = subst (λ (types : List WasmSubType). PlansTrampolines entries c.args.plan.now c.plan_trampolines.new.plan types c.in_ok-told.told) c.as_slice.ensures c.in_ok-told.ensures.planned in
    so_far.tell

pub returns-clause-ok : goal.returns-clause-ok
returns-clause-ok c =
    let entries = c.args.entries.now in
    let types = c.args.key.types in
    let middle = c.plan_trampolines.new.plan in
    let entry = c.in_ok-entry.entry in
    let so_far = subst (λ (ts : List WasmSubType). PlansTrampolines entries c.args.plan.now middle ts c.in_ok-told.told) c.as_slice.ensures c.in_ok-told.ensures.planned in
    let next = c.in_ok-entry.ensures.made in
    ap (λ (p : Plan). with_new p types) so_far.planned
    ∙ occurs-new entries middle c.add_entry.new.plan types entry next
    c.in_ok-add_entry.ensures.added c.in_ok-add_entry.ensures.given
    (c.in_ok-add_entry.ensures.numbers ∙ c.in_ok-add_occurrence.ensures.numbers)
    (c.in_ok-add_entry.ensures.map ∙ c.in_ok-add_occurrence.ensures.map)

pub returns-clause-keys : goal.returns-clause-keys
returns-clause-keys c =
    let entries = c.args.entries.now in
    let middle = c.plan_trampolines.new.plan in
    let entry = c.in_ok-entry.entry in
    let new = c.in_ok-entry.ensures.key in
    plans-keys entries middle c.add_entry.new.plan (entry ∷ []) c.in_ok-told.ensures.planned.keys
    (plans-entry entries middle c.add_entry.new.plan entry new c.in_ok-entry.ensures.shown c.in_ok-add_entry.ensures.added c.in_ok-add_entry.ensures.given)

pub returns-clause-one : goal.returns-clause-one
returns-clause-one c =
    let entries = c.args.entries.now in
    let types = c.args.key.types in
    let middle = c.plan_trampolines.new.plan in
    let after = c.add_entry.new.plan in
    let entry = c.in_ok-entry.entry in
    let so_far = subst (λ (ts : List WasmSubType). PlansTrampolines entries c.args.plan.now middle ts c.in_ok-told.told) c.as_slice.ensures c.in_ok-told.ensures.planned in
    let new = c.in_ok-entry.ensures.key in
    let last = plans-entry entries middle after entry new c.in_ok-entry.ensures.shown c.in_ok-add_entry.ensures.added c.in_ok-add_entry.ensures.given in
    new-led entries c.args.plan.now middle after types c.in_ok-told.told entry so_far last
    (ap (λ (g : WasmRecGroup). g.types) c.in_ok-entry.ensures.group) c.in_ok-entry.ensures.trampolines
    (c.in_ok-add_entry.ensures.numbers ∙ c.in_ok-add_occurrence.ensures.numbers ∙ ap (λ (ns : List ℕ). ns ++ entry.number ∷ []) so_far.numbers)
    (c.in_ok-add_entry.ensures.map ∙ c.in_ok-add_occurrence.ensures.map ∙ ap (λ is. is ++ entry.shared_type_indices) so_far.map)

pub add_entry-requires : goal.add_entry-requires
add_entry-requires c =
    let middle = c.plan_trampolines.new.plan in
    new-apart c.args.entries.now middle.added middle.given.numbers c.in_ok-entry.entry c.in_ok-told.ensures.planned.keys c.in_ok-entry.ensures.key
