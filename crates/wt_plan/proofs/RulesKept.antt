-- The rules that registered types keep, where groups are added.
use Rattle.std.proofs.Common.{◌≡◌, ℕ, zero, suc, ◌⊎◌, inl, inr, true, if◌then◌else◌, List, [], ◌∷◌, ◌++◌, slice_get, Option, Some, None, refl, sym, ap, subst, ◌∙◌, append_assoc}
use Rattle.std.specs.Prelude.{is_none}
use Rattle.std.specs.List.{list_any}
use Rattle.std.specs.Option.{option_or, option_and_then}
use Rattle.std.proofs.lemmas.Bool.{false≢true}
use Rattle.wt_env.specs.Among.{Among}
use Rattle.wt_env.specs.declared.types.Kind.{Kind}
use Rattle.wt_env.specs.declared.types.VMSharedTypeIndex.{VMSharedTypeIndex}
use Rattle.wt_env.specs.declared.types.EngineOrModuleTypeIndex.{EngineOrModuleTypeIndex}
use Rattle.wt_env.specs.declared.types.WasmCompositeInnerType.{WasmCompositeInnerType}
use Rattle.wt_env.specs.declared.types.WasmCompositeInnerType.TheVariants as shape
use Rattle.wt_env.specs.declared.types.WasmSubType.{WasmSubType}
use Rattle.wt_env.proofs.lists.Mapped.{among_map, among_mapped}
use Rattle.wt_env.proofs.lists.Members.{among_either, among_behind}
use Rattle.wt_tree.specs.Kinds.{kinded_refs}
use Rattle.wt_tree.specs.Trampoline.{is_own_trampoline, is_erased_shape, trampoline_tree}
use Rattle.wt_tree.specs.Tree.{Tree, ClosedTree}
use Rattle.wt_tree.specs.Subtyping.{tree_at}
use Rattle.wt_tree.proofs.Plain.{no_super, own_erased, map_sub_refs-own}
use Rattle.wt_rules.specs.declared.place.Rule.TheVariants as rule
use Rattle.wt_rules.specs.TypeRules.{names_other, broken_below, broken_supertype, exception_of, broken_exception, is_open, broken_by, broken_type}
use Rattle.wt_rules.proofs.ModuleReferences.{kinded_index}
use Rattle.wt_model.specs.Registered.{RegisteredGroup}
use Rattle.wt_model.specs.Trees.{trees}
use Rattle.wt_model.specs.Indices.{locate, closed_tree}
use Rattle.wt_model.specs.Describe.{tree_of}
use Rattle.wt_model.specs.Sound.{KeepRules}
use Rattle.wt_model.proofs.indices.Places.{IsAt, locate-at}
use Rattle.wt_model.proofs.trees.KnownTrees.{closed_tree-located}
use Rattle.wt_keys.specs.declared.entry.RecGroupEntry.{RecGroupEntry}
use Rattle.wt_keys.specs.Entries.{made_of, made_by}
use Rattle.wt_keys.specs.Keys.{AreKeys}
use Rattle.wt_keys.proofs.KeyTrees.{tree-of_key}
use Rattle.wt_plan.specs.declared.plan.Plan.{Plan as PlanFields}
use Rattle.wt_plan.specs.Planned.{AreResolved, AreNewKeys, IsAlone, PlansOne}
use Rattle.wt_plan.proofs.GrownKeys.{closed_tree-grown, tree_of-grown}
use Rattle.wt_plan.proofs.HostReferences.{known-resolved, host-shows}
use Rattle.wt_rules.specs.HostTypes.{is_host_type, host_breach}
use Rattle.wt_rules.proofs.KnownHosts.{host-parts, host-keeps}
use Rattle.wt_rules.proofs.ShownRules.{broken-of}
use Rattle.wt_rules.proofs.Unchanging.{no_index}
use Rattle.wt_plan.proofs.PlannedTrampolines.{own-tree}

-- ---- a trampoline alone

nothing : {A : Type 0} (xs : List A) → ((x : A) → Among x xs → ⊥) → xs ≡ []
nothing [] none = refl
nothing (x ∷ xs) none = absurd (none x (inl refl))

-- it refers to nothing, has no supertype and is no exception
own-keeps : (read : EngineOrModuleTypeIndex → ClosedTree) (m : WasmSubType) → is_own_trampoline m ≡ true → broken_by read m ≡ None
own-keeps read m own =
    (λ k. if list_any (λ (r : Kind × EngineOrModuleTypeIndex). names_other read r.0 r.1) (refs k) then Some rule.Kind else option_or (broken_supertype read m) (option_and_then (broken_exception read (is_open m)) (exception_of m.composite_type)))
    ∙ (λ k. option_or (super m.supertype (no_super m own) k) (exception m.composite_type (own_erased m own) k))
  where
    refs : kinded_refs m ≡ []
    refs = nothing (kinded_refs m) (λ r at. no_index m (λ f. map_sub_refs-own f m own) r.1 (kinded_index m r at))

    super : (s : Option EngineOrModuleTypeIndex) → is_none s ≡ true → option_and_then (λ (i : EngineOrModuleTypeIndex). broken_below read m (read i)) s ≡ None
    super None is = refl
    super (Some i) is = absurd (false≢true is)

    exception : (s : WasmCompositeInnerType) → is_erased_shape s ≡ true → option_and_then (broken_exception read (is_open m)) (exception_of s) ≡ None
    exception (shape.Func f) is = refl
    exception (shape.Struct s) is = absurd (false≢true is)
    exception (shape.Array a) is = absurd (false≢true is)
    exception (shape.Exn e) is = absurd (false≢true is)
    exception (shape.Cont c) is = absurd (false≢true is)

own-type : (m : WasmSubType) (place : ℕ) → is_own_trampoline m ≡ true → broken_type (record { tree = trampoline_tree m; place = place }) ≡ None
own-type m zero own = own-keeps (tree_at (trampoline_tree m)) m own
own-type m (suc place) own = refl

-- the types of a registered group of a trampoline alone break no rule
pub rules-alone : (entries : List RecGroupEntry) (top : ℕ) (entry : RecGroupEntry) (place : ℕ) → AreKeys entries top → Among entry entries → IsAlone entry
    → broken_type (record { tree = trees (made_by entries) entry.number; place = place }) ≡ None
rules-alone entries top entry place keys at alone =
    let tree = tree-of_key entries top entry keys at ∙ ap (tree_of (made_by entries)) alone.2 ∙ own-tree (made_by entries) alone.0 alone.1 in
    ap (λ (t : Tree). broken_type (record { tree = t; place = place })) tree ∙ own-type alone.0 place alone.1

-- ---- more groups

-- where none of the new types breaks a rule, none does
pub rules-grown : (all : List RecGroupEntry) (top : ℕ) (more : List RecGroupEntry) → AreKeys all top → AreNewKeys all top more → KeepRules (made_by all)
    → ((e : RecGroupEntry) (place : ℕ) (i : VMSharedTypeIndex) → Among e more → slice_get e.shared_type_indices place ≡ Some i → broken_type (record { tree = trees (made_by (all ++ more)) e.number; place = place }) ≡ None)
    → KeepRules (made_by (all ++ more))
rules-grown all top more keys new rules own i t is = by (among_either all more source.0 source.1)
  where
    found : (at : ℕ × ℕ) × (locate (made_by (all ++ more)) i ≡ Some at) × (t ≡ record { tree = trees (made_by (all ++ more)) at.0; place = at.1 })
    found = closed_tree-located (made_by (all ++ more)) i t is

    here : IsAt (made_by (all ++ more)) i found.0
    here = locate-at (made_by (all ++ more)) i found.0 found.1

    source : (e : RecGroupEntry) × Among e (all ++ more) × (here.group ≡ made_of e)
    source = among_map made_of (all ++ more) here.group here.among

    number : (source.0).number ≡ (found.0).0
    number = ap (λ (m : RegisteredGroup). m.number) (sym source.2) ∙ here.number

    place : slice_get (source.0).shared_type_indices (found.0).1 ≡ Some i
    place = ap (λ (m : RegisteredGroup). slice_get m.indices (found.0).1) (sym source.2) ∙ here.place

    by : Among source.0 all ⊎ Among source.0 more → broken_type t ≡ None
    by (inl old) =
        let at = keys.located (made_of source.0) (found.0).1 i (among_mapped made_of all source.0 old) place in
        rules i t (sym (closed_tree-grown all top more keys new i ((source.0).number, (found.0).1) at) ∙ is)
    by (inr fresh) =
        ap broken_type found.2
        ∙ ap (λ (n : ℕ). broken_type (record { tree = trees (made_by (all ++ more)) n; place = (found.0).1 })) (sym number)
        ∙ own source.0 (found.0).1 i fresh place

-- the same where one more group was planned, of which no type breaks a rule
pub rules-one : (entries : List RecGroupEntry) (before after : PlanFields) (types : List WasmSubType) → AreKeys (entries ++ before.added) before.given.numbers → AreKeys (entries ++ after.added) after.given.numbers
    → (one : PlansOne entries before after types) → KeepRules (made_by (entries ++ before.added))
    → ((place : ℕ) (i : VMSharedTypeIndex) → slice_get one.entry.shared_type_indices place ≡ Some i → broken_type (record { tree = trees (made_by (entries ++ after.added)) one.entry.number; place = place }) ≡ None)
    → KeepRules (made_by (entries ++ after.added))
rules-one entries before after types keys keys_after one rules own =
    subst (λ (es : List RecGroupEntry). KeepRules (made_by es)) joined
    (rules-grown (entries ++ before.added) before.given.numbers one.more keys one.plans.new rules
    (λ e place i at is.
    subst (λ (es : List RecGroupEntry). broken_type (record { tree = trees (made_by es) e.number; place = place }) ≡ None) (sym joined) (by e place i at is (one.alone e at))))
  where
    joined : (entries ++ before.added) ++ one.more ≡ entries ++ after.added
    joined = append_assoc entries before.added one.more ∙ ap (λ (added : List RecGroupEntry). entries ++ added) (sym one.plans.added)

    by : (e : RecGroupEntry) (place : ℕ) (i : VMSharedTypeIndex) → Among e one.more → slice_get e.shared_type_indices place ≡ Some i → (e ≡ one.entry) ⊎ IsAlone e
        → broken_type (record { tree = trees (made_by (entries ++ after.added)) e.number; place = place }) ≡ None
    by e place i at is (inl same) =
        ap (λ (x : RecGroupEntry). broken_type (record { tree = trees (made_by (entries ++ after.added)) x.number; place = place })) same
        ∙ own place i (ap (λ (x : RecGroupEntry). slice_get x.shared_type_indices place) (sym same) ∙ is)
    by e place i at is (inr alone) =
        let stands : Among e (entries ++ after.added) = subst (Among e) joined (among_behind (entries ++ before.added) one.more e at) in
        rules-alone (entries ++ after.added) after.given.numbers e place keys_after stands alone

-- and where it is that of one type of a host, which breaks nothing
host-type : (made : List RegisteredGroup) (ty : WasmSubType) (place : ℕ) → is_host_type (closed_tree made) ty ≡ true → host_breach (closed_tree made) ty ≡ None
    → broken_type (record { tree = tree_of made (ty ∷ []); place = place }) ≡ None
host-type made ty zero is none =
    sym (broken-of (closed_tree made) (record { tree = tree_of made (ty ∷ []); place = 0 }) ty (host-shows made ty (host-parts (closed_tree made) ty is).known))
    ∙ host-keeps (closed_tree made) ty is none
host-type made ty (suc place) is none = refl

pub rules-host : (entries : List RecGroupEntry) (before after : PlanFields) (ty : WasmSubType) → AreKeys (entries ++ before.added) before.given.numbers → AreKeys (entries ++ after.added) after.given.numbers
    → PlansOne entries before after (ty ∷ []) → is_host_type (closed_tree (made_by (entries ++ before.added))) ty ≡ true → host_breach (closed_tree (made_by (entries ++ before.added))) ty ≡ None
    → KeepRules (made_by (entries ++ before.added)) → KeepRules (made_by (entries ++ after.added))
rules-host entries before after ty keys keys_after one is none rules =
    rules-one entries before after (ty ∷ []) keys keys_after one rules
    (λ place i at. ap (λ (t : Tree). broken_type (record { tree = t; place = place })) tree ∙ host-type (made_by all) ty place is none)
  where
    all : List RecGroupEntry
    all = entries ++ before.added

    resolved : AreResolved (made_by all) (ty ∷ [])
    resolved = known-resolved (made_by all) ty (host-parts (closed_tree (made_by all)) ty is).known

    joined : all ++ one.more ≡ entries ++ after.added
    joined = append_assoc entries before.added one.more ∙ ap (λ (added : List RecGroupEntry). entries ++ added) (sym one.plans.added)

    tree : trees (made_by (entries ++ after.added)) one.entry.number ≡ tree_of (made_by all) (ty ∷ [])
    tree =
        tree-of_key (entries ++ after.added) after.given.numbers one.entry keys_after one.stands
        ∙ ap (tree_of (made_by (entries ++ after.added))) one.group
        ∙ ap (λ (es : List RecGroupEntry). tree_of (made_by es) (ty ∷ [])) (sym joined)
        ∙ tree_of-grown all before.given.numbers one.more keys one.plans.new (ty ∷ []) resolved.0 resolved.1
