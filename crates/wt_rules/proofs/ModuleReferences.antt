-- Whether each type index in a module's types is a module index, and what follows for the references that leave a
-- group: none is by engine index, since a place within the group doesn't leave it.
use Rattle.std.proofs.Common.{◌≡◌, ◌↔◌, ◌||◌, Bool, true, false, not, IsTrue, List, [], ◌∷◌, map, Option, Some, None, inl, inr, refl, ap, sym, subst, ◌∙◌}
use Rattle.std.specs.Prelude.{option_to_list}
use Rattle.std.specs.List.{list_any, flat_map}
use Rattle.std.proofs.lemmas.Bool.{false≢true}
use Rattle.std.proofs.lemmas.List.Folds.{list_any-append}
use Rattle.wt_env.specs.declared.types.EngineOrModuleTypeIndex.{EngineOrModuleTypeIndex}
use Rattle.wt_env.specs.declared.types.EngineOrModuleTypeIndex.TheVariants as index
use Rattle.wt_env.specs.declared.types.Kind.{Kind}
use Rattle.wt_env.specs.declared.types.WasmSubType.{WasmSubType}
use Rattle.wt_env.specs.declared.types.WasmRecGroup.{WasmRecGroup}
use Rattle.wt_env.specs.Among.{Among}
use Rattle.wt_env.proofs.lists.Mapped.{among_mapped}
use Rattle.wt_env.proofs.lists.Members.{among_before, among_behind}
use Rattle.wt_tree.specs.References.{index_refs, super_refs, sub_refs, group_refs}
use Rattle.wt_tree.proofs.Changing.{map_group_refs-none}
use Rattle.wt_tree.proofs.LeftReferences.{group_refs-left}
use Rattle.wt_tree.specs.Kinds.{kinded_shape, kinded_refs, indices_of, type_indices}
use Rattle.wt_rules.specs.Rules.{is_module_index, AreModuleTypes}
use Rattle.wt_rules.proofs.Referring.{any_flat_map, any_by_parts}

-- ---- what leaves a group

-- a reference by engine index
abbrev is_engine_index : EngineOrModuleTypeIndex → Bool
is_engine_index (index.Engine i) = true
is_engine_index (index.Module i) = false
is_engine_index (index.RecGroup k) = false

abbrev pub is_foreign : EngineOrModuleTypeIndex → Bool
is_foreign i = not (is_module_index i)

-- each leaves the group by itself
refs_leave : (types : List WasmSubType) → group_refs types ≡ flat_map index_refs (group_refs types)
refs_leave types = ap group_refs (sym (map_group_refs-none types)) ∙ group_refs-left (λ i. i) (λ k. refl) types

foreign_engine : (i : EngineOrModuleTypeIndex) → list_any is_foreign (index_refs i) ≡ is_engine_index i
foreign_engine (index.Engine i) = refl
foreign_engine (index.Module i) = refl
foreign_engine (index.RecGroup k) = refl

any_same : (refs : List EngineOrModuleTypeIndex) → list_any (λ i. list_any is_foreign (index_refs i)) refs ≡ list_any is_engine_index refs
any_same [] = refl
any_same (i ∷ refs) = let here = foreign_engine i in let rest = any_same refs in λ t. here t || rest t

any_engine : (types : List WasmSubType) → list_any (λ t. list_any is_engine_index (sub_refs t)) types ≡ list_any is_engine_index (group_refs types)
any_engine [] = refl
any_engine (t ∷ types) =
    ap (λ b. list_any is_engine_index (sub_refs t) || b) (any_engine types)
    ∙ sym (list_any-append is_engine_index (sub_refs t) (group_refs types))

abbrev names_engine : WasmRecGroup → Bool
names_engine group = list_any (λ t. list_any is_engine_index (sub_refs t)) group.types

-- whether one that leaves the group isn't by module index
any_foreign : (group : WasmRecGroup) → names_engine group ≡ list_any is_foreign (group_refs group.types)
any_foreign group =
    any_engine group.types
    ∙ sym (any_same (group_refs group.types))
    ∙ sym (any_flat_map is_foreign index_refs (group_refs group.types))
    ∙ sym (ap (list_any is_foreign) (refs_leave group.types))

-- ---- none of a list is, and each of it isn't

either : (a b : Bool) → (a || b) ≡ false → (a ≡ false) × (b ≡ false)
either true b is = absurd (false≢true (sym is))
either false b is = (refl, is)

pub none_of : {A : Type 0} (test : A → Bool) (xs : List A) → list_any test xs ≡ false → (x : A) → Among x xs → test x ≡ false
none_of test [] none x at = absurd at
none_of test (y ∷ xs) none x (inl same) = ap test same ∙ (either (test y) (list_any test xs) none).0
none_of test (y ∷ xs) none x (inr later) = none_of test xs (either (test y) (list_any test xs) none).1 x later

none_among : {A : Type 0} (test : A → Bool) (xs : List A) → ((x : A) → Among x xs → test x ≡ false) → list_any test xs ≡ false
none_among test [] none = refl
none_among test (x ∷ xs) none =
    let here = none x (inl refl) in
    let rest = none_among test xs (λ y at. none y (inr at)) in
    λ t. here t || rest t

not_foreign : (i : EngineOrModuleTypeIndex) → is_foreign i ≡ false → is_module_index i ≡ true
not_foreign (index.Engine i) is = absurd (false≢true (sym is))
not_foreign (index.Module i) is = refl
not_foreign (index.RecGroup k) is = absurd (false≢true (sym is))

module_engine : (i : EngineOrModuleTypeIndex) → is_module_index i ≡ true → is_engine_index i ≡ false
module_engine (index.Engine i) is = absurd (false≢true is)
module_engine (index.Module i) is = refl
module_engine (index.RecGroup k) is = absurd (false≢true is)

-- ---- the indices of a type

super_same : (super : Option EngineOrModuleTypeIndex) → list_any is_engine_index (option_to_list super) ≡ list_any is_engine_index (super_refs super)
super_same None = refl
super_same (Some (index.Engine i)) = refl
super_same (Some (index.Module i)) = refl
super_same (Some (index.RecGroup k)) = refl

any_mapped : {A B : Type 0} (test : B → Bool) (f : A → B) (xs : List A) → list_any test (map f xs) ≡ list_any (λ x. test (f x)) xs
any_mapped test f [] = refl
any_mapped test f (x ∷ xs) = ap (λ b. test (f x) || b) (any_mapped test f xs)

-- a test of the indices of a type, part by part
pub indices_by_parts : (test : EngineOrModuleTypeIndex → Bool) (t : WasmSubType)
    → list_any test (type_indices t) ≡ (list_any test (option_to_list t.supertype) || list_any (λ reference. test reference.1) (kinded_shape t.composite_type))
indices_by_parts test t =
    list_any-append test (option_to_list t.supertype) (map (λ reference. reference.1) (kinded_shape t.composite_type))
    ∙ ap (λ b. list_any test (option_to_list t.supertype) || b) (any_mapped test (λ (reference : Kind × EngineOrModuleTypeIndex). reference.1) (kinded_shape t.composite_type))

indices_engine : (t : WasmSubType) → list_any is_engine_index (type_indices t) ≡ list_any is_engine_index (sub_refs t)
indices_engine t =
    indices_by_parts is_engine_index t
    ∙ ap (λ b. b || list_any (λ reference. is_engine_index reference.1) (kinded_shape t.composite_type)) (super_same t.supertype)
    ∙ sym (any_by_parts is_engine_index (λ k. refl) t)

-- a supertype is one of them
pub super_index : (t : WasmSubType) (i : EngineOrModuleTypeIndex) → t.supertype ≡ Some i → Among i (type_indices t)
super_index t i is = among_before (option_to_list t.supertype) (indices_of (kinded_refs t)) i (subst (λ (super : Option EngineOrModuleTypeIndex). Among i (option_to_list super)) (sym is) (inl refl))

-- and so is what a reference names
pub kinded_index : (t : WasmSubType) (reference : Kind × EngineOrModuleTypeIndex) → Among reference (kinded_refs t) → Among reference.1 (type_indices t)
kinded_index t reference at =
    among_behind (option_to_list t.supertype) (indices_of (kinded_refs t)) reference.1 (among_mapped (λ (r : Kind × EngineOrModuleTypeIndex). r.1) (kinded_refs t) reference at)

-- ---- a module

abbrev pub has_foreign : WasmRecGroup → Bool
has_foreign group = list_any (λ ty. list_any is_foreign (type_indices ty)) group.types

-- the references of a module's types that leave a group are module indices
pub leaving-module : (groups : List WasmRecGroup) → AreModuleTypes groups → (group : WasmRecGroup) (i : EngineOrModuleTypeIndex) → Among group groups → Among i (group_refs group.types) → is_module_index i ≡ true
leaving-module groups only group i at there =
    let none : names_engine group ≡ false =
    none_among (λ t. list_any is_engine_index (sub_refs t)) group.types (λ ty in_group.
    sym (indices_engine ty) ∙ none_among is_engine_index (type_indices ty) (λ j in_type. module_engine j (only.by_index group ty j at in_group in_type))) in
    not_foreign i (none_of is_foreign (group_refs group.types) (sym (any_foreign group) ∙ none) i there)

no_foreign : (groups : List WasmRecGroup) → AreModuleTypes groups → list_any has_foreign groups ≡ false
no_foreign groups only =
    none_among has_foreign groups (λ group at. none_among (λ ty. list_any is_foreign (type_indices ty)) group.types (λ ty in_group.
    none_among is_foreign (type_indices ty) (λ i in_type. ap not (only.by_index group ty i at in_group in_type))))

module_only : (groups : List WasmRecGroup) → list_any has_foreign groups ≡ false → AreModuleTypes groups
module_only groups none = record {
  by_index = λ group ty i at in_group in_type.
      let here = none_of has_foreign groups none group at in
      let mine = none_of (λ t. list_any is_foreign (type_indices t)) group.types here ty in_group in
      not_foreign i (none_of is_foreign (type_indices ty) mine i in_type);
}

not_true : (b : Bool) → IsTrue (not b) → b ≡ false
not_true true is = absurd (false≢true is)
not_true false is = refl

not_false : (b : Bool) → b ≡ false → IsTrue (not b)
not_false b is = ap not is

pub module_types : (groups shown : List WasmRecGroup) (foreign : Bool) → shown ≡ groups → foreign ≡ list_any has_foreign shown → IsTrue (not foreign) ↔ AreModuleTypes groups
module_types groups shown foreign same is =
    let all = is ∙ ap (list_any has_foreign) same in
    (λ none. module_only groups (sym all ∙ not_true foreign none), λ only. not_false foreign (all ∙ no_foreign groups only))
