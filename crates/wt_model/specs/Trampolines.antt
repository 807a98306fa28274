-- The trampolines of registered groups: which group is the trampoline of a member.
use Rattle.std.specs.Prelude.{◌≡◌, ℕ, List, [], ◌∷◌, map, slice_get, Option, Some, None, option_map, option_and_then}
use Rattle.std.specs.List.{filter_map}
use Rattle.wt_env.specs.Among.{Among}
use Rattle.wt_env.specs.declared.types.WasmSubType.{WasmSubType}
use Rattle.wt_env.specs.declared.types.VMSharedTypeIndex.{VMSharedTypeIndex}
use Rattle.wt_tree.specs.Tree.{ClosedTree}
use Rattle.wt_tree.specs.Trampoline.{trampoline_tree, trampoline_alone, other_trampoline, trampoline}
use Rattle.wt_model.specs.Registered.{RegisteredGroup}
use Rattle.wt_model.specs.Describe.{find_tree}
use Rattle.wt_model.specs.Indices.{closed_tree}

-- the registration number of the group that is this trampoline alone, if it is registered
abbrev pub trampoline_number : List RegisteredGroup → WasmSubType → Option ℕ
trampoline_number made member = option_map (λ m. m.number) (find_tree made (trampoline_tree member))

-- of each of these members that is a function and not its own trampoline, the number of its trampoline's group
abbrev pub trampoline_numbers : List RegisteredGroup → List WasmSubType → List (Option ℕ)
trampoline_numbers made members = map (λ ty. option_and_then (trampoline_number made) (other_trampoline ty)) members

-- a registered group has this number, and is this trampoline alone
abbrev pub IsTrampoline : List RegisteredGroup → WasmSubType → ℕ → Type 0
IsTrampoline made member number = (g : RegisteredGroup) × Among g made × (g.number ≡ number) × (g.description ≡ trampoline_alone member)

-- what is told of a member: nothing where it is its own trampoline or no function, else the group of its trampoline
abbrev pub TellsTrampoline : List RegisteredGroup → Option WasmSubType → Option ℕ → Type 0
TellsTrampoline made None None = Unit {0}
TellsTrampoline made None (Some number) = ⊥
TellsTrampoline made (Some member) None = ⊥
TellsTrampoline made (Some member) (Some number) = IsTrampoline made member number

-- the same of each member, in order
abbrev pub TellTrampolines : List RegisteredGroup → List WasmSubType → List (Option ℕ) → Type 0
TellTrampolines made [] [] = Unit {0}
TellTrampolines made [] (told ∷ rest) = ⊥
TellTrampolines made (ty ∷ members) [] = ⊥
TellTrampolines made (ty ∷ members) (told ∷ rest) = TellsTrampoline made (other_trampoline ty) told × TellTrampolines made members rest

-- of each registered group, the trampoline of each member that is a function is the member itself, or a registered
-- group of its own, to which an edge leads
abbrev pub HaveTrampolines : List RegisteredGroup → Type 0
HaveTrampolines made = (a : RegisteredGroup) → Among a made → TellTrampolines made a.description.members a.trampolines

-- ---- the trampoline of an index

-- the index of the registered type that has this closed tree
abbrev pub index_of : List RegisteredGroup → ClosedTree → Option VMSharedTypeIndex
index_of made closed = option_and_then (λ g. slice_get g.indices closed.place) (find_tree made closed.tree)

-- The index of the trampoline of the function type that has this index: the one whose closed tree is the
-- trampoline of its closed tree.
abbrev pub trampoline_index : List RegisteredGroup → VMSharedTypeIndex → Option VMSharedTypeIndex
trampoline_index made i = option_and_then (index_of made) (option_and_then trampoline (closed_tree made i))

-- the index of the trampoline of each function type among these, in order
abbrev pub trampolines_of : List RegisteredGroup → List VMSharedTypeIndex → List VMSharedTypeIndex
trampolines_of made indices = filter_map (trampoline_index made) indices
