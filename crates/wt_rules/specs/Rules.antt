-- The rules that the recursion groups of a module keep (WebAssembly 3.0, "Recursive Types", "Heap Types" and "Matching";
-- a kind for each concrete reference, exceptions and continuations after wasmtime). The references of a module
-- are Module indices, which count the members of all groups from 0.
use Rattle.std.specs.Prelude.{◌≡◌, ℕ, ◌+◌, ◌<◌, ◌^◌, List, [], ◌∷◌, ◌++◌, length, Bool, true, false, not, nat_lt, if◌then◌else◌, Option, Some, None, option_map}
use Rattle.std.specs.List.{list_all, list_any}
use Rattle.std.specs.Option.{option_or}
use Rattle.wt_env.specs.declared.types.EngineOrModuleTypeIndex.{EngineOrModuleTypeIndex}
use Rattle.wt_env.specs.declared.types.EngineOrModuleTypeIndex.TheVariants as index
use Rattle.wt_env.specs.declared.types.Kind.{Kind}
use Rattle.wt_env.specs.declared.types.Kind.TheVariants as kind
use Rattle.wt_env.specs.declared.types.WasmSubType.{WasmSubType}
use Rattle.wt_env.specs.declared.types.WasmRecGroup.{WasmRecGroup}
use Rattle.wt_env.specs.Among.{Among}
use Rattle.wt_tree.specs.Kinds.{member_kind, kind_eq, type_indices}
use Rattle.wt_tree.specs.References.{super_refs, sub_refs}
use Rattle.wt_tree.specs.Tree.{ClosedTree}
use Rattle.wt_tree.specs.ModuleTree.{group_tree, members_from}
use Rattle.wt_rules.specs.declared.place.Place.{Place}
use Rattle.wt_rules.specs.declared.place.Place.TheVariants as place
use Rattle.wt_rules.specs.declared.place.Rule.{Rule}
use Rattle.wt_rules.specs.declared.place.Rule.TheVariants as rule
use Rattle.wt_rules.specs.TypeRules.{broken_type}

-- ---- the members of a module

-- how many members the groups have together
abbrev pub total_members : List WasmRecGroup → ℕ
total_members [] = 0
total_members (group ∷ rest) = length group.types + total_members rest

-- the groups, and the members of all of them, are few enough for the indices of a module
pub record AreCountable (groups : List WasmRecGroup) : Type 0 where
  pub few_groups : length groups < 2 ^ 32
  pub few_members : total_members groups < 2 ^ 32

-- ---- a type refers to none that is after its group

-- whether an index isn't below this bound
abbrev pub is_forward : ℕ → EngineOrModuleTypeIndex → Bool
is_forward end (index.Engine i) = false
is_forward end (index.Module i) = not (nat_lt i.0 end)
is_forward end (index.RecGroup k) = false

-- the bound is the end of the type's group, which is the number of members up to and with it
abbrev pub breaks_forward : ℕ → WasmSubType → Bool
breaks_forward end t = list_any (is_forward end) (sub_refs t)

-- ---- a type's supertype is declared before it

-- the bound is the type's own index, which is the number of members before it
abbrev pub breaks_super_order : ℕ → WasmSubType → Bool
breaks_super_order own t = list_any (is_forward own) (super_refs t.supertype)

-- ---- the first rule that is broken

-- the first rule on the order of types that a type breaks, by the end of its group and its own index
abbrev pub broken_order : ℕ → ℕ → WasmSubType → Option Rule
broken_order end own t =
    if breaks_forward end t then Some rule.Forward
    else if breaks_super_order own t then Some rule.SuperOrder
    else None

-- The first of some things that breaks a rule, by its place, and which; the first of them has this place.
abbrev pub first_of : {A : Type 0} → (ℕ → A → Option Rule) → ℕ → List A → Option (ℕ × Rule)
first_of broken place [] = None
first_of broken place (x ∷ xs) =
    option_or
    (option_map (λ which. (place, which)) (broken place x))
    (first_of broken (place + 1) xs)

-- the first member of a group that breaks a rule on the order of types, behind so many types of the module
abbrev pub first_disorder : ℕ → List WasmSubType → Option (ℕ × Rule)
first_disorder start members = first_of (λ place. broken_order (start + length members) (start + place)) 0 members

-- the first of some types that breaks a rule on what it names
abbrev pub first_misnamed : List ClosedTree → Option (ℕ × Rule)
first_misnamed trees = first_of (λ place. broken_type) 0 trees

-- the closed trees of a group's types, behind those that are known
abbrev pub group_trees : List ClosedTree → WasmRecGroup → List ClosedTree
group_trees known group = members_from (group_tree known group.types) 0 (length group.types)

-- The first member of a group that breaks a rule, and which, behind the types that are known: what its types name is
-- looked at where the whole group keeps the order.
abbrev pub broken_in : List ClosedTree → WasmRecGroup → Option (ℕ × Rule)
broken_in known group = option_or (first_disorder (length known) group.types) (first_misnamed (group_trees known group))

abbrev pub placed_in : ℕ → ℕ × Rule → Place × Rule
placed_in number broken = (place.Member number broken.0, broken.1)

-- The same of the groups from the one with this number on, behind the types that are known.
abbrev pub first_broken_from : ℕ → List ClosedTree → List WasmRecGroup → Option (Place × Rule)
first_broken_from number known [] = None
first_broken_from number known (group ∷ rest) =
    option_or
    (option_map (placed_in number) (broken_in known group))
    (first_broken_from (number + 1) (known ++ group_trees known group) rest)

-- The first member of a module that breaks a rule of its groups, by its group and its place there, and which.
abbrev pub first_broken : List WasmRecGroup → Option (Place × Rule)
first_broken groups = first_broken_from 0 [] groups

-- ---- an engine that has functions only

abbrev pub is_function_kind : Kind → Bool
is_function_kind found = kind_eq kind.Func found

abbrev pub is_function : WasmSubType → Bool
is_function t = is_function_kind (member_kind t)

-- whether every member of every group is a function
abbrev pub are_functions : List WasmRecGroup → Bool
are_functions groups = list_all (λ group. list_all is_function group.types) groups

-- a reference by module index
abbrev pub is_module_index : EngineOrModuleTypeIndex → Bool
is_module_index (index.Engine i) = false
is_module_index (index.Module i) = true
is_module_index (index.RecGroup k) = false

-- each type index that stands in a module's types, supertypes included, is a module index
pub record AreModuleTypes (groups : List WasmRecGroup) : Type 0 where
  pub by_index : (group : WasmRecGroup) (ty : WasmSubType) (i : EngineOrModuleTypeIndex)
      → Among group groups → Among ty group.types → Among i (type_indices ty) → is_module_index i ≡ true
