-- Trampolines: the erased form of a function type, by which a caller that knows nothing of its references enters it
-- (after wasmtime's environment).
use Rattle.std.specs.Prelude.{Bool, true, false, ◌&&◌, is_none, [], ◌∷◌, slice_get, if◌then◌else◌, Option, Some, None, option_map, option_and_then}
use Rattle.wt_env.specs.Erasure.{erase, is_erased}
use Rattle.wt_env.specs.declared.types.WasmFuncType.{WasmFuncType}
use Rattle.wt_env.specs.declared.types.WasmCompositeInnerType.{WasmCompositeInnerType}
use Rattle.wt_env.specs.declared.types.WasmCompositeInnerType.TheVariants as shape
use Rattle.wt_env.specs.declared.types.WasmSubType.{WasmSubType}
use Rattle.wt_tree.specs.Tree.{Tree, ClosedTree, Description, group, none, members_of}

-- the one member of the group of a function type's trampoline: final, with no supertype, and erased
abbrev pub trampoline_member : WasmFuncType → WasmSubType
trampoline_member f = record { is_final = true; supertype = None; composite_type = shape.Func (erase f) }

-- the tree of that group
abbrev pub trampoline_tree : WasmSubType → Tree
trampoline_tree member = group (member ∷ []) none

-- its description
abbrev pub trampoline_alone : WasmSubType → Description
trampoline_alone member = record { members = member ∷ []; outer = [] }

-- that member, for a function
abbrev pub trampoline_of_shape : WasmCompositeInnerType → Option WasmSubType
trampoline_of_shape (shape.Func f) = Some (trampoline_member f)
trampoline_of_shape (shape.Struct s) = None
trampoline_of_shape (shape.Array a) = None
trampoline_of_shape (shape.Exn e) = None
trampoline_of_shape (shape.Cont c) = None

abbrev pub is_erased_shape : WasmCompositeInnerType → Bool
is_erased_shape (shape.Func f) = is_erased f
is_erased_shape (shape.Struct s) = false
is_erased_shape (shape.Array a) = false
is_erased_shape (shape.Exn e) = false
is_erased_shape (shape.Cont c) = false

-- whether a sub type is its own trampoline: a final function with no supertype that is erased already
abbrev pub is_own_trampoline : WasmSubType → Bool
is_own_trampoline t = t.is_final && is_none t.supertype && is_erased_shape t.composite_type

-- the trampoline of a function that isn't its own, as the member of a group of its own
abbrev pub other_trampoline : WasmSubType → Option WasmSubType
other_trampoline t = if is_own_trampoline t then None else trampoline_of_shape t.composite_type

-- the trampoline of a closed tree, whose member this is: itself, or the first member of the trampoline's own group
abbrev pub trampoline_at : ClosedTree → WasmSubType → Option ClosedTree
trampoline_at tree t =
    if is_own_trampoline t then Some tree
    else option_map (λ member. record { tree = trampoline_tree member; place = 0 }) (trampoline_of_shape t.composite_type)

-- The trampoline of a function type, as closed trees; another type has none.
abbrev pub trampoline : ClosedTree → Option ClosedTree
trampoline tree = option_and_then (trampoline_at tree) (slice_get (members_of tree.tree) tree.place)
