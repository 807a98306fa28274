-- Indices: what an index names, and which ones new types get.
use Rattle.std.specs.Prelude.{◌≡◌, ℕ, zero, suc, ◌+◌, ◌==◌, List, [], ◌∷◌, length, map, slice_get, Bool, false, if◌then◌else◌, Option, Some, None, option_map}
use Rattle.std.specs.List.{flat_map, list_any, position_from}
use Rattle.wt_env.specs.Among.{Among}
use Rattle.wt_env.specs.declared.types.VMSharedTypeIndex.{VMSharedTypeIndex}
use Rattle.wt_tree.specs.Tree.{ClosedTree}
use Rattle.wt_model.specs.Registered.{RegisteredGroup}
use Rattle.wt_model.specs.Trees.{trees}

-- the place of an index in a list
abbrev pub place_in : VMSharedTypeIndex → List VMSharedTypeIndex → Option ℕ
place_in i indices = position_from (λ j. j.0 == i.0) 0 indices

abbrev pub located_here : ℕ → Option ℕ → Option (ℕ × ℕ) → Option (ℕ × ℕ)
located_here number (Some place) later = Some (number, place)
located_here number None later = later

-- the registration number and the place of the type that has this index
abbrev pub locate : List RegisteredGroup → VMSharedTypeIndex → Option (ℕ × ℕ)
locate [] i = None
locate (made ∷ rest) i = located_here made.number (place_in i made.indices) (locate rest i)

-- the registration number of the type that has this index
abbrev pub number_of : List RegisteredGroup → VMSharedTypeIndex → Option ℕ
number_of made i = option_map (λ at. at.0) (locate made i)

-- the closed tree of the type that has this index
abbrev pub closed_tree : List RegisteredGroup → VMSharedTypeIndex → Option ClosedTree
closed_tree made i = option_map (λ at. record { tree = trees made at.0; place = at.1 }) (locate made i)

-- ---- new indices

-- the indices of all registered types, as numbers
abbrev pub used : List RegisteredGroup → List ℕ
used made = flat_map (λ m. map (λ i. i.0) m.indices) made

abbrev pub is_used : List ℕ → ℕ → Bool
is_used indices k = list_any (λ j. j == k) indices

abbrev pub first_free : ℕ → ℕ → List ℕ → ℕ
first_free zero k indices = k
first_free (suc more) k indices = if is_used indices k then first_free more (k + 1) indices else k

-- the smallest number that isn't there: among the first length + 1 numbers one isn't
abbrev pub smallest_free : List ℕ → ℕ
smallest_free indices = first_free (length indices) 0 indices

-- the n smallest indices that aren't there, in order
abbrev pub assign_shared_type_indices : ℕ → List ℕ → List VMSharedTypeIndex
assign_shared_type_indices zero indices = []
assign_shared_type_indices (suc n) indices = record { 0 = smallest_free indices } ∷ assign_shared_type_indices n (smallest_free indices ∷ indices)

-- none of the indices is used
abbrev pub AreUnused : List ℕ → List VMSharedTypeIndex → Type 0
AreUnused numbers indices = (i : VMSharedTypeIndex) → Among i indices → is_used numbers i.0 ≡ false

-- the indices differ from each other
abbrev pub AreDistinct : List VMSharedTypeIndex → Type 0
AreDistinct indices = (j k : ℕ) (i : VMSharedTypeIndex) → slice_get indices j ≡ Some i → slice_get indices k ≡ Some i → j ≡ k
