-- what was planned is carried out
use Rattle.std.proofs.Common.{◌≡◌, ℕ, ◌+◌, List, ◌++◌, get_or, Some, option_map, if◌then◌else◌, sym, ap, ◌∙◌, arith}
use Rattle.std.proofs.lemmas.Bool.{eq-eqb}
use Rattle.std.proofs.lemmas.List.{map-append}
use Rattle.wt_env.specs.declared.types.VMSharedTypeIndex.{VMSharedTypeIndex}
use Rattle.wt_model.specs.Registered.{RegisteredGroup, Registry}
use Rattle.wt_model.specs.Indices.{number_of}
use Rattle.wt_model.specs.Holds.{times}
use Rattle.wt_keys.specs.Entries.{made_of, made_by}
use Rattle.wt_plan.proofs.HostPlans.{host-occurs}
use Rattle.wt_registry.proofs.registered_type.commit_host.Goals as goal

pub check_and_commit-requires-clause-occurs : goal.check_and_commit-requires-clause-occurs
check_and_commit-requires-clause-occurs c = host-occurs c.args.groups.now.entries c.args.groups.now.given.numbers c.args.plan c.requires.plans

pub returns-clause-held : goal.returns-clause-held
returns-clause-held c =
    let plans = c.requires.plans in
    let done = c.in_ok-numbers.ensures in
    let entries = c.args.groups.now.entries in
    let i = c.index.result.now in
    let n = c.index-2.result.now in
    let numbers = done.numbers ∙ plans.numbers in
    let number : n ≡ plans.number = c.index-2.ensures ∙ ap (λ (ns : List ℕ). get_or ns 0 n) numbers in
    let index : i ≡ plans.index = c.index.ensures ∙ ap (λ (is : List VMSharedTypeIndex). get_or is 0 i) (done.map ∙ plans.map) in
    let once : times n c.in_ok-numbers.numbers.items ≡ 1 = ap (times n) numbers ∙ ap (λ b. if b then 0 + 1 else 0) (eq-eqb plans.number n (sym number)) in
    let made : made_by c.check_and_commit.new.groups.entries ≡ made_by (entries ++ c.args.plan.added) =
    sym (map-append made_of entries c.args.plan.added ∙ ap (λ (r : Registry). r.made) done.ok) in
    let more = done.changes.more n in
    record {
      engine = sym c.number.ensures;
      party = c.requires.party;
      held = omega (arith, more, once);
      located =
          ap (λ (groups : List RegisteredGroup). number_of groups i) made
          ∙ ap (number_of (made_by (entries ++ c.args.plan.added))) index
          ∙ ap (option_map (λ at. at.0)) plans.plans.located
          ∙ ap Some (sym number);
    }

pub returns-clause-made : goal.returns-clause-made
returns-clause-made c = sym (map-append made_of c.args.groups.now.entries c.args.plan.added ∙ ap (λ (r : Registry). r.made) c.in_ok-numbers.ensures.ok)
