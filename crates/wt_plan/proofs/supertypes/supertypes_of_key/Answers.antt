-- what the next member declares has a list, and its own is behind that
use Rattle.std.proofs.Common.{◌≡◌, ◌+◌, List, [], ◌∷◌, ◌++◌, length, take, slice_get, Some, refl, sym, ap, subst, ◌∙◌}
use Rattle.std.proofs.lemmas.List.{take_more}
use Rattle.std.proofs.lemmas.Option.{slice_get_read}
use Rattle.wt_env.specs.declared.types.VMSharedTypeIndex.{VMSharedTypeIndex}
use Rattle.wt_env.specs.declared.types.WasmSubType.{WasmSubType}
use Rattle.wt_keys.specs.Entries.{made_by}
use Rattle.wt_keys.specs.SupertypeChains.{FollowsSupertype, FollowSupertypes}
use Rattle.wt_plan.proofs.KeySupertypes.{has_list, follow-pushed, lists-so_far}
use Rattle.wt_plan.proofs.supertypes.supertypes_of_key.Goals as goal

pub list_of_member-requires-clause-declared : goal.list_of_member-requires-clause-declared
list_of_member-requires-clause-declared c =
    let types = c.args.types.now in
    let place = c.loop-member.member-index in
    let member = c.member-item.result in
    let stands : slice_get types place ≡ Some member = slice_get_read types (length types) place member refl c.loop-member-test.true c.member-item.is in
    has_list (made_by (c.args.entries.now ++ c.args.added.now)) types place member c.requires.named c.requires.slots stands (length c.as_slice-earlier.result.now)
    (ap length c.as_slice-earlier.ensures ∙ lists-so_far (c.args.entries.now ++ c.args.added.now) c.args.indices.now types place c.loop-member.lists c.loop-member.invariant c.loop-member-test.true)

pub loop-member-preserved : goal.loop-member-preserved
loop-member-preserved c =
    let all = c.args.entries.now ++ c.args.added.now in
    let indices = c.args.indices.now in
    let types = c.args.types.now in
    let place = c.loop-member.member-index in
    let member = c.member-item.result in
    let lists = c.loop-member.lists in
    let list = c.in_ok-list.list in
    let follows = subst (λ (ls : List (List VMSharedTypeIndex)). FollowsSupertype all indices ls member.supertype list) c.as_slice-earlier.ensures c.in_ok-list.ensures in
    let one = follow-pushed all indices (take place types) member lists list c.loop-member.invariant follows in
    let more : take place types ++ member ∷ [] ≡ take (place + 1) types = ap (λ (m : WasmSubType). take place types ++ m ∷ []) c.member-item.is ∙ sym (take_more types place member c.loop-member-test.true) in
    subst (λ (ts : List WasmSubType). FollowSupertypes all indices ts c.push.new.self) more
    (subst (λ (ls : List (List VMSharedTypeIndex)). FollowSupertypes all indices (take place types ++ member ∷ []) ls) (sym c.in_ok-push.ensures.ok) one)
