-- A registration of one type of a host, or of an exception with its function type, by the plan that is carried out.
use Rattle.std.proofs.Common.{◌≡◌, ℕ, List, [], ◌∷◌, ◌++◌, map, Option, Some, None, option_map, Result, Ok, Err, IfOk, IfErr, OnOk, inr, refl, sym, ap, ◌∙◌}
use Rattle.std.specs.Option.{option_or}
use Rattle.wt_env.specs.Limits.{EngineParts}
use Rattle.wt_env.specs.declared.types.VMSharedTypeIndex.{VMSharedTypeIndex}
use Rattle.wt_model.specs.declared.refusal.BuildRefusal.{BuildRefusal}
use Rattle.wt_model.specs.declared.refusal.BuildRefusal.TheVariants as refusal
use Rattle.wt_model.specs.Registered.{RegisteredGroup, Registry}
use Rattle.wt_model.specs.Indices.{closed_tree}
use Rattle.wt_model.specs.Holds.{Hold}
use Rattle.wt_model.specs.Plan.{Plan, empty_plan}
use Rattle.wt_model.specs.Limits.{passed_limit}
use Rattle.wt_model.specs.Registration.{Registration, trees_of, registration_plan, rule_refusal, gc_refusal, registration_refusal, made_unless, hold_of, carried_out, register_one, IsRefusal}
use Rattle.wt_model.proofs.plan.Refusals.{by-limit}
use Rattle.wt_keys.specs.declared.entry.RecGroupEntry.{RecGroupEntry}
use Rattle.wt_keys.specs.Entries.{made_by}
use Rattle.wt_plan.specs.declared.plan.Plan.{Plan as PlanFields}
use Rattle.wt_plan.specs.Planned.{plan_of, AreNamed, nothing_planned}
use Rattle.wt_plan.proofs.Planning.{groups_of-joined}
use Rattle.wt_holds.specs.declared.inner.TypeRegistryInner.{TypeRegistryInner}
use Rattle.wt_holds.specs.Kept.{registry_at}

-- ---- before any limit

neither_some : {A : Type 0} (a b : Option A) → option_or a b ≡ None → (a ≡ None) × (b ≡ None)
neither_some None b is = (refl, is)
neither_some (Some x) b is = absurd (cc)

-- what is refused before limits is refused so
pub refused-before : (registry : Registry) (party : ℕ) (registration : Registration) (why : BuildRefusal) → Some why ≡ option_or (rule_refusal registry registration) (gc_refusal registry registration)
    → IsRefusal (registration_refusal registry party registration) why
refused-before registry party registration why is = inr (by (rule_refusal registry registration) (gc_refusal registry registration) is)
  where
    by : (a b : Option BuildRefusal) → Some why ≡ option_or a b → option_or a (option_or b (option_map refusal.Full (passed_limit registry party (registration_plan registry registration)))) ≡ Some why
    by (Some x) b is = sym is
    by None (Some x) is = sym is
    by None None is = absurd (cc)

-- ---- the plan

-- a plan that begins with the entries of a registry begins with that registry
pub planned-at : (from : Plan → Plan) (engine : EngineParts) (groups : TypeRegistryInner) (slice : List RecGroupEntry) (plan : PlanFields) (old : Registry) → slice ≡ groups.entries → registry_at engine groups ≡ old
    → from (nothing_planned slice groups.given) ≡ plan_of slice plan → from (empty_plan old) ≡ plan_of groups.entries plan
planned-at from engine groups slice plan old same view planned =
    ap (λ (r : Registry). from (empty_plan r)) (sym view)
    ∙ ap (λ (es : List RecGroupEntry). from (nothing_planned es groups.given)) (sym same)
    ∙ planned
    ∙ ap (λ (es : List RecGroupEntry). plan_of es plan) same

-- ---- what is answered

pub if_ok : {A E : Type 0} {P Q : A → Type 0} {R : Type 0} (result : Result A E) → OnOk result R → IfOk result P → ((a : A) → R → P a → Q a) → IfOk result Q
if_ok (Ok a) r p f = f a r p
if_ok (Err e) r p f = tt

pub both_ok : {A E : Type 0} (P Q : Type 0) (result : Result A E) → OnOk result P → OnOk result Q → OnOk result (P × Q)
both_ok P Q (Ok a) p q = (p, q)
both_ok P Q (Err e) p q = tt

pub if_err : {A E : Type 0} {P Q : E → Type 0} (result : Result A E) → IfErr result P → ((e : E) → P e → Q e) → IfErr result Q
if_err (Ok a) p f = tt
if_err (Err e) p f = f e p

module _ (engine : EngineParts) (groups : TypeRegistryInner) (plan : PlanFields) (old : Registry) (registration : Registration) (view : registry_at engine groups ≡ old)
    (planned : registration_plan old registration ≡ plan_of groups.entries plan) (clear : option_or (rule_refusal old registration) (gc_refusal old registration) ≡ None) (party owner : ℕ) (same : owner ≡ party) where
  -- a plan is refused with the limit that it would pass
  pub refusal-is : registration_refusal old party registration ≡ option_map refusal.Full (passed_limit (registry_at engine groups) owner (plan_of groups.entries plan))
  refusal-is =
      let none = neither_some (rule_refusal old registration) (gc_refusal old registration) clear in
      by-limit old party registration none.0 none.1
      ∙ (λ k. option_map refusal.Full (passed_limit (sym view k) (sym same k) (planned k)))

  -- and one that would pass none is accepted
  pub accepts : passed_limit (registry_at engine groups) owner (plan_of groups.entries plan) ≡ None → registration_refusal old party registration ≡ None
  accepts none = refusal-is ∙ ap (option_map refusal.Full) none

  pub registers : (after : Registry) (hold : Hold) → passed_limit (registry_at engine groups) owner (plan_of groups.entries plan) ≡ None → carried_out (registry_at engine groups) owner (plan_of groups.entries plan) ≡ after
      → hold_of engine.number owner (plan_of groups.entries plan) ≡ hold → register_one old party registration ≡ Ok (hold, after)
  registers after hold none carried is =
      (λ k. made_unless (accepts none k) (hold_of (sym view k).engine.number (sym same k) (planned k), carried_out (sym view k) (sym same k) (planned k)))
      ∙ (λ k. Ok (is k, carried k))

-- what was planned is registered by its closed trees
pub names : (engine : EngineParts) (groups new : TypeRegistryInner) (slice : List RecGroupEntry) (plan : PlanFields) (old : Registry) (registration : Registration) (owner : ℕ) (index : VMSharedTypeIndex)
    → slice ≡ groups.entries → registry_at engine groups ≡ old
    → AreNamed slice plan (trees_of (made_by slice) registration) → plan.map.items ≡ index ∷ []
    → carried_out (registry_at engine groups) owner (plan_of groups.entries plan) ≡ registry_at engine new
    → closed_tree (made_by new.entries) index ∷ [] ≡ map Some (trees_of old.made registration)
names engine groups new slice plan old registration owner index same view named map_is carried =
    ap (λ (made : List RegisteredGroup). closed_tree made index ∷ []) (sym made)
    ∙ ap (map (closed_tree (made_by (slice ++ plan.added)))) (sym map_is)
    ∙ named
    ∙ ap (λ (made : List RegisteredGroup). map Some (trees_of made registration)) (ap made_by same ∙ ap (λ (r : Registry). r.made) view)
  where
    made : made_by (slice ++ plan.added) ≡ made_by new.entries
    made =
        ap (λ (es : List RecGroupEntry). made_by (es ++ plan.added)) same
        ∙ sym (groups_of-joined groups.entries plan)
        ∙ ap (λ (r : Registry). r.made) carried
