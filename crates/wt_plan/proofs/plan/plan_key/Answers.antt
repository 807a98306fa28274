-- the search by keys is that of the definition, and a group that isn't there is new
use Rattle.std.proofs.Common.{[], ◌++◌, Result, Ok, Err, OnOk, refl, sym, ap, ◌∙◌}
use Rattle.std.proofs.lemmas.Result.{on_ok_weaker}
use Rattle.wt_env.specs.Equality.{rec_group_eq, rec_group_eq-exact}
use Rattle.wt_env.specs.declared.types.WasmRecGroup.{WasmRecGroup}
use Rattle.wt_env.proofs.lists.Members.{find-found}
use Rattle.wt_keys.specs.declared.entry.RecGroupEntry.{RecGroupEntry}
use Rattle.wt_plan.specs.declared.plan.Plan.{Plan as PlanFields}
use Rattle.wt_plan.proofs.GrownKeys.{plans-none}
use Rattle.wt_plan.proofs.Planning.{planned-found, planned-new}
use Rattle.wt_plan.proofs.plan.plan_key.Goals as goal

both_ok : {A E : Type 0} {P Q R : Type 0} (result : Result A E) → OnOk result P → OnOk result Q → (P → Q → R) → OnOk result R
both_ok (Ok x) p q f = f p q
both_ok (Err e) p q f = tt

pub returns-in-Some-clause-ok : goal.returns-in-Some-clause-ok
returns-in-Some-clause-ok c =
    let is = sym c.in-Some.ensures in
    let after : PlanFields = record { added = c.args.plan.now.added; given = c.args.plan.now.given; numbers = c.add_occurrence.new.numbers; map = c.add_occurrence.new.map } in
    both_ok c.add_occurrence.result c.add_occurrence.ensures.numbers c.add_occurrence.ensures.map
    (λ numbers map_after.
    planned-found c.args.entries.now c.args.plan.now after c.args.key c.in-Some.entry.now c.requires.keys c.requires.named is refl refl numbers map_after)

pub returns-in-Some-clause-one : goal.returns-in-Some-clause-one
returns-in-Some-clause-one c =
    let all = c.args.entries.now ++ c.args.plan.now.added in
    let after : PlanFields = record { added = c.args.plan.now.added; given = c.args.plan.now.given; numbers = c.add_occurrence.new.numbers; map = c.add_occurrence.new.map } in
    let is = sym c.in-Some.ensures in
    let found = find-found (λ (e : RecGroupEntry). rec_group_eq e.hash_consing_key c.args.key) all c.in-Some.entry.now is in
    both_ok c.add_occurrence.result c.add_occurrence.ensures.numbers c.add_occurrence.ensures.map
    (λ numbers map_after. record {
      entry = c.in-Some.entry.now;
      group = ap (λ (g : WasmRecGroup). g.types) (rec_group_eq-exact c.in-Some.entry.now.hash_consing_key c.args.key found.0);
      numbers = numbers;
      map = map_after;
      stands = found.1;
      more = [];
      plans = plans-none c.args.entries.now c.args.plan.now after refl refl;
      led = λ e at. absurd at;
      alone = λ e at. absurd at;
    })

pub plan_new-requires-clause-new : goal.plan_new-requires-clause-new
plan_new-requires-clause-new c = sym c.in_default.ensures

pub returns-clause-ok : goal.returns-clause-ok
returns-clause-ok c =
    on_ok_weaker c.plan_new.result
    (λ is. planned-new c.args.entries.now c.args.plan.now c.args.key c.requires.keys c.requires.named (sym c.in_default.ensures) ∙ is)
    c.plan_new.ensures.ok
