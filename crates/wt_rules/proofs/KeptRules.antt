-- What follows where no rule is broken: no index in a type of a group is of a later group, a supertype is declared
-- before, and a type's shape matches that of its supertype.
use Rattle.std.proofs.Common.{◌≡◌, ℕ, zero, suc, ◌+◌, ◌<◌, ◌||◌, Bool, true, false, not, nat_lt, if◌then◌else◌, inl, inr, List, [], ◌∷◌, ◌++◌, length, slice_get, Option, Some, None, option_map, refl, ap, sym, ◌∙◌, arith}
use Rattle.std.specs.Prelude.{option_to_list}
use Rattle.std.specs.List.{list_any}
use Rattle.std.specs.Option.{option_or, option_map_or, option_and_then}
use Rattle.wt_env.specs.declared.types.ModuleInternedTypeIndex.{ModuleInternedTypeIndex}
use Rattle.wt_env.specs.declared.types.EngineOrModuleTypeIndex.{EngineOrModuleTypeIndex}
use Rattle.wt_env.specs.declared.types.EngineOrModuleTypeIndex.TheVariants as index
use Rattle.wt_env.specs.declared.types.WasmSubType.{WasmSubType}
use Rattle.wt_env.specs.declared.types.WasmRecGroup.{WasmRecGroup}
use Rattle.wt_env.specs.Among.{Among}
use Rattle.wt_env.proofs.lists.Found.{neither}
use Rattle.wt_env.proofs.lists.Members.{some_same}
use Rattle.wt_tree.specs.References.{super_refs, sub_refs}
use Rattle.wt_tree.specs.Kinds.{member_kind, kinded_shape, type_indices}
use Rattle.wt_tree.specs.Tree.{ClosedTree}
use Rattle.wt_tree.specs.Subtyping.{tree_at, member_at, supertype_of}
use Rattle.wt_tree.specs.Fit.{member_fits, tree_fits}
use Rattle.wt_rules.specs.declared.place.Rule.{Rule}
use Rattle.wt_rules.specs.declared.place.Rule.TheVariants as rule
use Rattle.wt_rules.specs.TypeRules.{kind_of_tree, is_other, breaks_kind, is_final_type, matches_shape, broken_below, broken_supertype, broken_as_exception, broken_by, broken_type}
use Rattle.wt_rules.specs.Rules.{total_members, is_forward, breaks_forward, breaks_super_order, broken_order, first_of, first_disorder, first_misnamed}
use Rattle.wt_rules.proofs.Referring.{any_by_parts}
use Rattle.wt_rules.proofs.ModuleReferences.{none_of, indices_by_parts}

-- ---- nothing is found

pub neither_some : {A : Type 0} (a b : Option A) → option_or a b ≡ None → (a ≡ None) × (b ≡ None)
neither_some None b is = (refl, is)
neither_some (Some x) b is = absurd (cc)

none_mapped : {A B : Type 0} (f : A → B) (o : Option A) → option_map f o ≡ None → o ≡ None
none_mapped f None is = refl
none_mapped f (Some x) is = absurd (cc)

-- where a rule is told first, neither it nor a later one is broken
not_told : {A : Type 0} (test : Bool) (x : A) (rest : Option A) → (if test then Some x else rest) ≡ None → (test ≡ false) × (rest ≡ None)
not_told true x rest is = absurd (cc)
not_told false x rest is = (refl, is)

-- ---- one by one

module _ {A : Type 0} (broken : ℕ → A → Option Rule) where
  -- none is found, so none of those that are left breaks a rule
  left_keep : (place : ℕ) (x : A) (xs : List A) → first_of broken place (x ∷ xs) ≡ None → (broken place x ≡ None) × (first_of broken (place + 1) xs ≡ None)
  left_keep place x xs none =
      let parts = neither_some (option_map (λ (which : Rule). (place, which)) (broken place x)) (first_of broken (place + 1) xs) none in
      (none_mapped (λ (which : Rule). (place, which)) (broken place x) parts.0, parts.1)

  -- the one at a place breaks none
  pub keeps_at : (place : ℕ) (xs : List A) → first_of broken place xs ≡ None → (n : ℕ) (x : A) → slice_get xs n ≡ Some x → broken (place + n) x ≡ None
  keeps_at place [] none n x is = absurd (cc)
  keeps_at place (y ∷ xs) none zero x is =
      let at : place + 0 ≡ place = omega arith in
      ap (λ (p : ℕ). broken p x) at ∙ ap (broken place) (sym (some_same is)) ∙ (left_keep place y xs none).0
  keeps_at place (y ∷ xs) none (suc n) x is =
      let at : place + suc n ≡ (place + 1) + n = omega arith in
      ap (λ (p : ℕ). broken p x) at ∙ keeps_at (place + 1) xs (left_keep place y xs none).1 n x is

  -- one of them breaks none, at its place
  pub keeps_among : (place : ℕ) (xs : List A) → first_of broken place xs ≡ None → (x : A) → Among x xs → (n : ℕ) × (broken n x ≡ None)
  keeps_among place [] none x at = absurd at
  keeps_among place (y ∷ xs) none x (inl same) = (place, ap (broken place) same ∙ (left_keep place y xs none).0)
  keeps_among place (y ∷ xs) none x (inr there) = keeps_among (place + 1) xs (left_keep place y xs none).1 x there

-- ---- the order of types

-- the types of a group keep the order, behind so many types of the module
pub record KeepOrder (start : ℕ) (types : List WasmSubType) : Type 0 where
  pub forward : (ty : WasmSubType) → Among ty types → breaks_forward (start + length types) ty ≡ false
  pub super_order : (place : ℕ) (ty : WasmSubType) → slice_get types place ≡ Some ty → breaks_super_order (start + place) ty ≡ false

order_kept : (end own : ℕ) (t : WasmSubType) → broken_order end own t ≡ None → (breaks_forward end t ≡ false) × (breaks_super_order own t ≡ false)
order_kept end own t none =
    let first = not_told (breaks_forward end t) rule.Forward (if breaks_super_order own t then Some rule.SuperOrder else None) none in
    (first.0, (not_told (breaks_super_order own t) rule.SuperOrder None first.1).0)

pub order-kept : (start : ℕ) (types : List WasmSubType) → first_disorder start types ≡ None → KeepOrder start types
order-kept start types none = record {
  forward = λ ty at.
      let kept = keeps_among (λ (place : ℕ). broken_order (start + length types) (start + place)) 0 types none ty at in
      (order_kept (start + length types) (start + kept.0) ty kept.1).0;
  super_order = λ place ty is.
      let at : 0 + place ≡ place = omega arith in
      ap (λ (n : ℕ). breaks_super_order (start + n) ty) (sym at)
      ∙ (order_kept (start + length types) (start + (0 + place)) ty (keeps_at (λ (p : ℕ). broken_order (start + length types) (start + p)) 0 types none place ty is)).1;
}

-- ---- no index is of a later group

super_same : (test : EngineOrModuleTypeIndex → Bool) → ((k : ℕ) → test (index.RecGroup k) ≡ false) → (super : Option EngineOrModuleTypeIndex)
    → list_any test (option_to_list super) ≡ list_any test (super_refs super)
super_same test own None = refl
super_same test own (Some (index.Engine i)) = refl
super_same test own (Some (index.Module i)) = refl
super_same test own (Some (index.RecGroup k)) = ap (λ b. b || false) (own k)

-- a test that no place within a group passes is one of the indices of a type, or of its references that leave a group
indices_same : (test : EngineOrModuleTypeIndex → Bool) → ((k : ℕ) → test (index.RecGroup k) ≡ false) → (t : WasmSubType) → list_any test (type_indices t) ≡ list_any test (sub_refs t)
indices_same test own t =
    indices_by_parts test t
    ∙ ap (λ b. b || list_any (λ reference. test reference.1) (kinded_shape t.composite_type)) (super_same test own t.supertype)
    ∙ sym (any_by_parts test own t)

is_within : (n end : ℕ) → not (nat_lt n end) ≡ false → n < end
is_within n end is = grind (arith, is)

-- a module index in a type that keeps the rule is below the end of the group
pub forward-kept : (end : ℕ) (t : WasmSubType) (j : ModuleInternedTypeIndex) → breaks_forward end t ≡ false → Among (index.Module j) (type_indices t) → j.0 < end
forward-kept end t j keeps at =
    is_within j.0 end (none_of (is_forward end) (type_indices t) (indices_same (is_forward end) (λ k. refl) t ∙ keeps) (index.Module j) at)

-- ---- a supertype is declared before

-- a supertype by module index is below the index of the type that declares it
pub super_order-kept : (own : ℕ) (t : WasmSubType) (j : ModuleInternedTypeIndex) → breaks_super_order own t ≡ false → t.supertype ≡ Some (index.Module j) → j.0 < own
super_order-kept own t j keeps is =
    let test : list_any (is_forward own) (super_refs t.supertype) ≡ false = keeps in
    let named : (not (nat_lt j.0 own) || false) ≡ false = ap (λ (super : Option EngineOrModuleTypeIndex). list_any (is_forward own) (super_refs super)) (sym is) ∙ test in
    is_within j.0 own (neither (not (nat_lt j.0 own)) false named).0

-- ---- what a type names

-- of types of which none breaks a rule, each breaks none
pub misnamed-kept : (trees : List ClosedTree) → first_misnamed trees ≡ None → (t : ClosedTree) → Among t trees → broken_type t ≡ None
misnamed-kept trees none t at = (keeps_among (λ (place : ℕ). broken_type) 0 trees none t at).1

-- where each breaks none, none is told
none_told : (place : ℕ) (trees : List ClosedTree) → ((t : ClosedTree) → Among t trees → broken_type t ≡ None) → first_of (λ (at : ℕ). broken_type) place trees ≡ None
none_told place [] keeps = refl
none_told place (t ∷ trees) keeps =
    let here = keeps t (inl refl) in
    let rest = none_told (place + 1) trees (λ u at. keeps u (inr at)) in
    λ k. option_or (option_map (λ (which : Rule). (place, which)) (here k)) (rest k)

pub misnamed-none : (trees : List ClosedTree) → ((t : ClosedTree) → Among t trees → broken_type t ≡ None) → first_misnamed trees ≡ None
misnamed-none trees keeps = none_told 0 trees keeps

-- where a type breaks no rule, its shape matches that of its supertype
below-kept : (ty : WasmSubType) (t s : ClosedTree) → broken_below (tree_at t.tree) ty s ≡ None → matches_shape (tree_at t.tree) ty s ≡ true
below-kept ty t s none =
    let kinds = not_told (is_final_type s) rule.SuperFinal _ none in
    let fits = not_told (is_other (member_kind ty) (kind_of_tree s)) rule.SuperKind _ kinds.1 in
    matched (matches_shape (tree_at t.tree) ty s) fits.1
  where
    matched : (test : Bool) → (if test then None else Some rule.SuperMismatch) ≡ None → test ≡ true
    matched true is = refl
    matched false is = absurd (cc)

pub fits-kept : (t s : ClosedTree) → broken_type t ≡ None → supertype_of t ≡ Some s → tree_fits t s ≡ true
fits-kept t s none declared = by (member_at t) refl none declared
  where
    fits : (a : WasmSubType) (found : Option WasmSubType) → option_map_or (λ (other : WasmSubType). member_fits t s (Some a) (Some other)) found false ≡ true → member_fits t s (Some a) found ≡ true
    fits a None is = is
    fits a (Some other) is = is

    below : (ty : WasmSubType) (super : Option EngineOrModuleTypeIndex) → option_and_then (λ (i : EngineOrModuleTypeIndex). broken_below (tree_at t.tree) ty (tree_at t.tree i)) super ≡ None
        → option_map (tree_at t.tree) super ≡ Some s → broken_below (tree_at t.tree) ty s ≡ None
    below ty None is declares = absurd (cc)
    below ty (Some i) is declares = ap (broken_below (tree_at t.tree) ty) (sym (some_same declares)) ∙ is

    by : (found : Option WasmSubType) → member_at t ≡ found → option_and_then (broken_by (tree_at t.tree)) found ≡ None
        → option_and_then (λ (ty : WasmSubType). option_map (tree_at t.tree) ty.supertype) found ≡ Some s → tree_fits t s ≡ true
    by None is keeps declares = absurd (cc)
    by (Some ty) is keeps declares =
        let kinds = not_told (breaks_kind (tree_at t.tree) ty) rule.Kind _ keeps in
        let super = (neither_some (broken_supertype (tree_at t.tree) ty) (broken_as_exception (tree_at t.tree) ty) kinds.1).0 in
        ap (λ (here : Option WasmSubType). member_fits t s here (member_at s)) is
        ∙ fits ty (member_at s) (below-kept ty t s (below ty ty.supertype super declares))

-- ---- the members of all groups

pub total_members-more : (groups : List WasmRecGroup) (group : WasmRecGroup) → total_members (groups ++ group ∷ []) ≡ total_members groups + length group.types
total_members-more [] group = omega arith
total_members-more (g ∷ groups) group = let rest = total_members-more groups group in omega (arith, rest)
