-- the next number and the smallest free indices make a new entry
use Rattle.std.proofs.Common.{◌+◌, ◌<◌, ◌++◌, length, sym, ap, subst, ◌∙◌}
use Rattle.wt_tree.specs.MapRefs.{map_group_refs}
use Rattle.wt_keys.specs.declared.entry.RecGroupEntry.{RecGroupEntry}
use Rattle.wt_model.specs.Indices.{used, assign_shared_type_indices}
use Rattle.wt_keys.specs.Entries.{made_by}
use Rattle.wt_keys.specs.Keys.{ResolvesTo, own_shown}
use Rattle.wt_keys.specs.SupertypeChains.{FollowSupertypes}
use Rattle.wt_plan.proofs.Checked.{checked_value}
use Rattle.wt_plan.proofs.FreeIndices.{free-pushed}
use Rattle.wt_keys.proofs.NewKeys.{new_key, new_made}
use Rattle.wt_model.proofs.Trampolines.{tell-numbered}
use Rattle.wt_model.proofs.indices.FreshIndices.{length-assign_shared_type_indices}
use Rattle.wt_plan.proofs.plan.new_entry.Goals as goal

-- there is an index for each member
pub supertypes_of_key-requires-clause-indices : goal.supertypes_of_key-requires-clause-indices
supertypes_of_key-requires-clause-indices c =
    let all = c.args.entries.now ++ c.args.added.now in
    ap length (c.as_slice-own.ensures ∙ c.in_ok-indices.ensures.indices (used (made_by (c.args.entries.now ++ c.args.added.now))) c.requires.free)
    ∙ length-assign_shared_type_indices c.len.result (used (made_by all))
    ∙ c.len.ensures
    ∙ ap length (sym c.as_slice-4.ensures)

pub returns-clause-key : goal.returns-clause-key
returns-clause-key c =
    let all = c.args.entries.now ++ c.args.added.now in
    let entry : RecGroupEntry = record { number = c.in_ok-number.number; hash_consing_key = c.args.key; runtime_types = c.in_ok-shown.shown; outer = c.in_ok-outer.outer; trampolines = c.args.trampolines; supertypes = c.in_ok-supertypes.supertypes; shared_type_indices = c.in_ok-indices.indices } in
    let number = checked_value c.checked_add.result (c.args.numbers + 1 < 18446744073709551616) (c.args.numbers + 1) entry.number c.checked_add.ensures c.in_ok-number.ensures.ok_part in
    let names = subst (λ types. ResolvesTo (made_by all) types entry.outer) c.as_slice.ensures c.in_ok-outer.ensures in
    let indices = c.in_ok-indices.ensures.indices (used (made_by all)) c.requires.free ∙ ap (λ n. assign_shared_type_indices n (used (made_by all))) c.len.ensures in
    let tell = tell-numbered (made_by all) c.args.key.types c.args.trampolines c.requires.tell in
    let follow : FollowSupertypes all entry.shared_type_indices entry.hash_consing_key.types entry.supertypes =
    subst (λ types. FollowSupertypes all entry.shared_type_indices types entry.supertypes) c.as_slice-4.ensures
    (subst (λ own. FollowSupertypes all own c.as_slice-4.result.now entry.supertypes) c.as_slice-own.ensures c.in_ok-supertypes.ensures) in
    new_key all c.args.numbers entry number names c.requires.keys tell indices c.requires.slots c.requires.new follow

pub returns-clause-made : goal.returns-clause-made
returns-clause-made c =
    let all = c.args.entries.now ++ c.args.added.now in
    let entry : RecGroupEntry = record { number = c.in_ok-number.number; hash_consing_key = c.args.key; runtime_types = c.in_ok-shown.shown; outer = c.in_ok-outer.outer; trampolines = c.args.trampolines; supertypes = c.in_ok-supertypes.supertypes; shared_type_indices = c.in_ok-indices.indices } in
    let number = checked_value c.checked_add.result (c.args.numbers + 1 < 18446744073709551616) (c.args.numbers + 1) entry.number c.checked_add.ensures c.in_ok-number.ensures.ok_part in
    let names = subst (λ types. ResolvesTo (made_by all) types entry.outer) c.as_slice.ensures c.in_ok-outer.ensures in
    let indices = c.in_ok-indices.ensures.indices (used (made_by all)) c.requires.free ∙ ap (λ n. assign_shared_type_indices n (used (made_by all))) c.len.ensures in
    let tell = tell-numbered (made_by all) c.args.key.types c.args.trampolines c.requires.tell in
    new_made all c.args.numbers entry number names c.requires.keys tell indices

pub returns-clause-shown : goal.returns-clause-shown
returns-clause-shown c =
    c.in_ok-shown.ensures ∙ (λ t. map_group_refs (own_shown (c.as_slice-2.ensures t)) (c.as_slice-3.ensures t))

pub returns-clause-free : goal.returns-clause-free
returns-clause-free c =
    let entry : RecGroupEntry = record { number = c.in_ok-number.number; hash_consing_key = c.args.key; runtime_types = c.in_ok-shown.shown; outer = c.in_ok-outer.outer; trampolines = c.args.trampolines; supertypes = c.in_ok-supertypes.supertypes; shared_type_indices = c.in_ok-indices.indices } in
    free-pushed c.args.entries.now c.args.added.now entry c.assign_shared_type_indices.new.self (c.in_ok-indices.ensures.left (used (made_by (c.args.entries.now ++ c.args.added.now))) c.requires.free)
