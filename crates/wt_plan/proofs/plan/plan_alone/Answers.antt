-- the group of a trampoline alone is found by its key, or it is the next one
use Rattle.std.proofs.Common.{◌++◌, List, [], ◌∷◌, ap, subst, sym, ◌∙◌}
use Rattle.wt_env.specs.declared.types.WasmSubType.{WasmSubType}
use Rattle.wt_env.specs.declared.types.WasmRecGroup.{WasmRecGroup}
use Rattle.wt_keys.specs.Entries.{made_by}
use Rattle.wt_keys.specs.Keys.{ResolvesTo, KeyNamesTypes}
use Rattle.wt_keys.proofs.ApartKeys.{new-apart}
use Rattle.wt_plan.proofs.HostKeys.{alone-slots}
use Rattle.wt_plan.proofs.GrownKeys.{plans-keys}
use Rattle.wt_plan.proofs.Planning.{plans-entry}
use Rattle.wt_plan.proofs.PlannedTrampolines.{own-names, alone-found-planned, alone-found, alone-new-planned, alone-new}
use Rattle.wt_plan.proofs.plan.plan_alone.Goals as goal

pub returns-in-Some-clause-ok : goal.returns-in-Some-clause-ok
returns-in-Some-clause-ok c =
    let plan = c.args.plan.now in
    let key : WasmRecGroup = c.in_ok-key.key in
    let is = sym c.in-Some.ensures in
    alone-found-planned c.args.entries.now plan c.args.member key c.in-Some.alone.now c.requires.own c.requires.keys c.in_ok-key.ensures is

pub returns-in-Some-clause-alone : goal.returns-in-Some-clause-alone
returns-in-Some-clause-alone c =
    let plan = c.args.plan.now in
    let key : WasmRecGroup = c.in_ok-key.key in
    let is = sym c.in-Some.ensures in
    alone-found c.args.entries.now plan c.args.member key c.in-Some.alone.now c.requires.own c.requires.keys c.in_ok-key.ensures is

pub new_entry-requires-clause-named : goal.new_entry-requires-clause-named
new_entry-requires-clause-named c =
    let made = made_by (c.args.entries.now ++ c.args.plan.now.added) in
    ([], subst (λ (types : List WasmSubType). ResolvesTo made types []) (sym c.in_ok-key.ensures) (own-names made c.args.member c.requires.own))

pub new_entry-requires-clause-slots : goal.new_entry-requires-clause-slots
new_entry-requires-clause-slots c = subst KeyNamesTypes (sym c.in_ok-key.ensures) (alone-slots c.args.member c.requires.own)

pub returns-clause-ok : goal.returns-clause-ok
returns-clause-ok c =
    let entries = c.args.entries.now in
    let plan = c.args.plan.now in
    let entry = c.in_ok-entry.entry in
    let key : WasmRecGroup = c.in_ok-key.key in
    let none = sym c.in_default.ensures in
    let next = c.in_ok-entry.ensures.made in
    alone-new-planned entries plan c.add_entry.new.plan c.args.member key entry c.requires.own c.requires.keys c.in_ok-key.ensures none next
    c.in_ok-add_entry.ensures.added c.in_ok-add_entry.ensures.given c.in_ok-add_entry.ensures.numbers c.in_ok-add_entry.ensures.map

pub returns-clause-keys : goal.returns-clause-keys
returns-clause-keys c =
    let entries = c.args.entries.now in
    let plan = c.args.plan.now in
    let entry = c.in_ok-entry.entry in
    let new = c.in_ok-entry.ensures.key in
    plans-keys entries plan c.add_entry.new.plan (entry ∷ []) c.requires.keys
    (plans-entry entries plan c.add_entry.new.plan entry new c.in_ok-entry.ensures.shown c.in_ok-add_entry.ensures.added c.in_ok-add_entry.ensures.given)

pub returns-clause-alone : goal.returns-clause-alone
returns-clause-alone c =
    let entries = c.args.entries.now in
    let plan = c.args.plan.now in
    let entry = c.in_ok-entry.entry in
    let new = c.in_ok-entry.ensures.key in
    let types = ap (λ (g : WasmRecGroup). g.types) c.in_ok-entry.ensures.group ∙ c.in_ok-key.ensures in
    alone-new entries plan c.add_entry.new.plan c.args.member entry c.requires.own (returns-clause-keys c) types
    (plans-entry entries plan c.add_entry.new.plan entry new c.in_ok-entry.ensures.shown c.in_ok-add_entry.ensures.added c.in_ok-add_entry.ensures.given)
    c.in_ok-add_entry.ensures.numbers c.in_ok-add_entry.ensures.map

pub add_entry-requires : goal.add_entry-requires
add_entry-requires c = new-apart c.args.entries.now c.args.plan.now.added c.args.plan.now.given.numbers c.in_ok-entry.entry c.requires.keys c.in_ok-entry.ensures.key
