-- What a group names is named still where more groups are registered.
use Rattle.std.proofs.Common.{ℕ, List, ◌++◌}
use Rattle.wt_env.proofs.lists.Members.{among_before}
use Rattle.wt_tree.specs.Tree.{Description}
use Rattle.wt_model.specs.Registered.{RegisteredGroup}
use Rattle.wt_model.specs.NamedTypes.{HasPlace, NamesTypes}

has_place-before : (made more : List RegisteredGroup) (at : ℕ × ℕ) → HasPlace made at → HasPlace (made ++ more) at
has_place-before made more at has = (has.0, among_before made more has.0 has.1, has.2, has.3)

pub names_types-before : (made more : List RegisteredGroup) (described : Description) → NamesTypes made described → NamesTypes (made ++ more) described
names_types-before made more described names = record {
  outer = λ at there. has_place-before made more at (names.outer at there);
  slots = names.slots;
  supertypes = names.supertypes;
}
