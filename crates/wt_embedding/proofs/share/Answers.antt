-- the second registration leaves the closed trees of the first, and one closed tree has one index; the second
-- party's hold keeps the type
use Rattle.std.proofs.Common.{◌≢◌, ℕ, ◌<◌, List, [], ◌∷◌, length, slice_get, Option, Ok, refl, sym, ap, subst, ◌∙◌, arith}
use Rattle.std.specs.Prelude.{IsSome}
use Rattle.wt_env.specs.declared.types.VMSharedTypeIndex.{VMSharedTypeIndex}
use Rattle.wt_tree.specs.ModuleTree.{module_trees}
use Rattle.wt_env.proofs.lists.Members.{some_same}
use Rattle.wt_registry.specs.Registered.{Registry}
use Rattle.wt_registry.specs.Holds.{Hold}
use Rattle.wt_registry.specs.Changes.{HoldChanges, DropChanges, ReleaseChanges}
use Rattle.wt_registry.specs.Indices.{number_of}
use Rattle.wt_embedding.proofs.OneIndex.{same_indices, as_many}
use Rattle.wt_embedding.proofs.NothingHeld.{owed}
use Rattle.wt_embedding.proofs.StillHeld.{first_there, root_found, located, still_held, holding-more, holding-released}
use Rattle.wt_embedding.proofs.share.Goals as goal
use Rattle.wt_embedding.proofs.share.Goals.{in-Some, in-None}

pub unwrap-left_index-requires : goal.unwrap-left_index-requires
unwrap-left_index-requires c =
    let left = c.in_ok-left.left in
    let count = as_many c.register_module.new.self.made left.map c.in_ok-types.types.groups c.in_ok-left.ensures.named in
    let members = c.in_ok-types.ensures.members in
    let some : 0 < length left.map = omega (arith, count, members) in
    subst IsSome (sym c.shared_type.ensures) (first_there left.map some)

pub unwrap-right_index-requires : goal.unwrap-right_index-requires
unwrap-right_index-requires c =
    let right = c.in-Ok.right in
    let count = as_many c.register_module-2.new.self.made right.map c.in_ok-types.types.groups c.in-Ok.ensures.named in
    let members = c.in_ok-types.ensures.members in
    let some : 0 < length right.map = omega (arith, count, members) in
    subst IsSome (sym c.shared_type-2.ensures) (first_there right.map some)

pub unreachable-requires : goal.unreachable-requires
unreachable-requires c =
    let after = c.try_root.new.registry in
    let told = c.in-Ok-None.ensures.ok ∙ ap (λ (found : Option Hold). Ok (found, after)) c.in-Ok-None.field-0-is in
    root_found c.register_module-2.new.self c.register_module-2.new.party 0 c.in-Ok.right.map (module_trees [] c.in_ok-types.types.groups) c.unwrap-right_index.result after
    c.in-Ok.ensures.named (sym c.shared_type-2.ensures ∙ c.unwrap-right_index.ensures) told

pub release-requires-clause-held : goal.release-requires-clause-held
release-requires-clause-held c =
    let hold = c.in-Ok-Some.hold in
    holding-more c.register_module-2.new.self c.try_root.new.registry c.register_module-2.new.party (hold.number ∷ []) c.in-Ok.right
    (c.in-Ok-Some.ensures.changes hold c.in-Ok-Some.field-0-is) c.in-Ok.ensures.holding

pub release-requires-2-clause-held : goal.release-requires-2-clause-held
release-requires-2-clause-held c =
    let hold = c.in-Ok-Some.hold in
    let left = c.in_ok-left.left in
    let both = holding-more c.register_module.new.self c.register_module-2.new.self c.new-second.result c.in-Ok.right.numbers left c.in-Ok.ensures.changes c.in_ok-left.ensures.holding in
    let rooted = holding-more c.register_module-2.new.self c.try_root.new.registry c.register_module-2.new.party (hold.number ∷ []) left (c.in-Ok-Some.ensures.changes hold c.in-Ok-Some.field-0-is) both in
    let other : left.party ≢ c.try_root.new.party = λ same.
    absurd (omega (arith, same, c.in_ok-left.ensures.owner, c.try_root.ensures.party, c.new-first.ensures, c.register_module-2.ensures.party, c.new-second.ensures)) in
    holding-released c.try_root.new.registry c.release.new.self c.try_root.new.party c.in-Ok.right.numbers left other c.release.ensures.changes rooted

pub decref-requires-clause-held : goal.decref-requires-clause-held
decref-requires-clause-held c =
    let hold = c.in-Ok-Some.hold in
    let found = c.in-Ok-Some.field-0-is in
    let differ : c.register_module.new.party ≢ c.register_module-2.new.party = λ same.
    absurd (omega (arith, same, c.register_module.ensures.party, c.new-first.ensures, c.register_module-2.ensures.party, c.new-second.ensures)) in
    still_held c.register_module-2.new.self c.try_root.new.registry c.release.new.self c.release-2.new.self hold c.in-Ok.right
    c.register_module-2.new.party c.try_root.new.party c.register_module.new.party c.in_ok-left.left.numbers
    (c.in-Ok-Some.ensures.owner hold found) (c.in-Ok.ensures.owner ∙ sym c.register_module-2.ensures.party) c.try_root.ensures.party differ
    c.in-Ok.ensures.holding (c.in-Ok-Some.ensures.changes hold found) (c.in-Ok-Some.ensures.held hold found) c.release.ensures.changes c.release-2.ensures.changes

pub returns-clause-one_index : goal.returns-clause-one_index
returns-clause-one_index c =
    let left = c.in_ok-left.left in
    let right = c.in-Ok.right in
    let same = same_indices c.register_module.new.self c.register_module-2.new.self c.new-second.result right.numbers left.map right.map (module_trees [] c.in_ok-types.types.groups)
    c.in-Ok.ensures.changes c.register_module-2.ensures.sound c.in_ok-left.ensures.named c.in-Ok.ensures.named in
    some_same
    (sym c.unwrap-left_index.ensures ∙ c.shared_type.ensures ∙ ap (λ (indices : List VMSharedTypeIndex). slice_get indices 0) same
    ∙ sym c.shared_type-2.ensures ∙ c.unwrap-right_index.ensures)

pub returns-clause-stays : goal.returns-clause-stays
returns-clause-stays c =
    let hold = c.in-Ok-Some.hold in
    let found = c.in-Ok-Some.field-0-is in
    let differ : c.register_module.new.party ≢ c.register_module-2.new.party = λ same.
    absurd (omega (arith, same, c.register_module.ensures.party, c.new-first.ensures, c.register_module-2.ensures.party, c.new-second.ensures)) in
    let held = still_held c.register_module-2.new.self c.try_root.new.registry c.release.new.self c.release-2.new.self hold c.in-Ok.right
    c.register_module-2.new.party c.try_root.new.party c.register_module.new.party c.in_ok-left.left.numbers
    (c.in-Ok-Some.ensures.owner hold found) (c.in-Ok.ensures.owner ∙ sym c.register_module-2.ensures.party) c.try_root.ensures.party differ
    c.in-Ok.ensures.holding (c.in-Ok-Some.ensures.changes hold found) (c.in-Ok-Some.ensures.held hold found) c.release.ensures.changes c.release-2.ensures.changes in
    c.contains-stays.ensures.registered.1
    (located c.release-2.new.self.made c.index.result hold.number (ap (number_of c.release-2.new.self.made) c.index.ensures ∙ held.located))

pub returns-clause-owed : goal.returns-clause-owed
returns-clause-owed c =
    let start = c.new-registry.result in
    let one = c.register_module.new.self in
    let both = c.register_module-2.new.self in
    let rooted = c.try_root.new.registry in
    let mid = c.release.new.self in
    let kept = c.release-2.new.self in
    let lefts = c.in_ok-left.left.numbers in
    let rights = c.in-Ok.right.numbers in
    let number = c.in-Ok-Some.hold.number in
    let is_second = c.register_module-2.ensures.party ∙ c.new-second.ensures in
    let still_second = c.try_root.ensures.party ∙ is_second in
    let settled = owed start one both rooted mid kept c.decref.new.registry 0 1 number lefts rights (λ same. absurd (omega (arith, same)))
    (ap (λ (registry : Registry). registry.standings) c.new-registry.ensures.empty)
    (subst (λ (party : ℕ). HoldChanges start one party lefts) c.new-first.ensures c.in_ok-left.ensures.changes)
    (subst (λ (party : ℕ). HoldChanges one both party rights) c.new-second.ensures c.in-Ok.ensures.changes)
    (subst (λ (party : ℕ). HoldChanges both rooted party (number ∷ [])) is_second (c.in-Ok-Some.ensures.changes c.in-Ok-Some.hold c.in-Ok-Some.field-0-is))
    (subst (λ (party : ℕ). ReleaseChanges rooted mid party rights) still_second c.release.ensures.changes)
    (subst (λ (party : ℕ). ReleaseChanges mid kept party lefts) (c.register_module.ensures.party ∙ c.new-first.ensures) c.release-2.ensures.changes)
    (subst (λ (party : ℕ). DropChanges kept c.decref.new.registry party number) (c.release.ensures.same_party ∙ still_second) c.decref.ensures.changes)
    c.decref.result c.decref.ensures.settled in
    elim c.match-decref.branch [
      | in-Some w ↦ subst IsSome (sym w.swept-is) refl
      | in-None w ↦ subst IsSome (sym w.swept-is) (subst IsSome w.in-None.is settled)
    ]
