-- What is left of a list of which some items are marked.
use Rattle.std.specs.Prelude.{List, [], ◌∷◌, Bool, if◌then◌else◌}

-- those that are marked, in order
abbrev pub marked_items : {A : Type 0} → List Bool → List A → List A
marked_items [] items = []
marked_items (mark ∷ marks) [] = []
marked_items (mark ∷ marks) (item ∷ items) = if mark then item ∷ marked_items marks items else marked_items marks items
