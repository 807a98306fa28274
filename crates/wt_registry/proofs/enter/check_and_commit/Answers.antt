-- what passes no limit has room, and keeps what is kept
use Rattle.std.proofs.Common.{◌≡◌, ℕ, ◌+◌, ◌<◌, ◌≤◌, ◌^◌, ◌⊎◌, inl, inr, false, Option, List, ◌++◌, length, map, Vec, Global, vec_capacity, option_map, refl, sym, ap, subst, ◌∙◌, arith}
use Rattle.wt_env.specs.Among.{Among}
use Rattle.wt_env.specs.Limits.{EngineParts}
use Rattle.wt_env.proofs.lists.Mapped.{among_mapped}
use Rattle.wt_env.proofs.lists.Members.{among_either}
use Rattle.wt_model.specs.declared.refusal.Full.{Full}
use Rattle.wt_model.specs.declared.refusal.BuildRefusal.TheVariants as refusal
use Rattle.wt_model.specs.Holds.{held_at, hold_each}
use Rattle.wt_model.specs.Limits.{references_of, passed_limit}
use Rattle.wt_model.specs.Plan.{groups_of}
use Rattle.wt_model.specs.Registration.{new_holds, stop_waiting_each}
use Rattle.wt_model.specs.Changes.{HoldChanges}
use Rattle.wt_model.specs.Registered.{Registry}
use Rattle.wt_model.proofs.plan.StopWaiting.{held_at-stop_waiting_each}
use Rattle.wt_model.proofs.plan.CarriedOut.{new_sized, new-calm}
use Rattle.wt_model.proofs.plan.Gaining.{carried-changes}
use Rattle.wt_model.proofs.plan.HoldsWanted.{held_at-with_new}
use Rattle.wt_keys.specs.declared.entry.RecGroupEntry.{RecGroupEntry}
use Rattle.wt_keys.specs.Entries.{made_of, made_by}
use Rattle.wt_keys.specs.Filed.{AreApart}
use Rattle.wt_keys.proofs.ApartKeys.{keys-apart}
use Rattle.wt_plan.specs.declared.plan.Plan.{Plan as PlanFields}
use Rattle.wt_plan.specs.Planned.{plan_of}
use Rattle.wt_holds.specs.declared.hold_counts.HoldCounts.{HoldCounts}
use Rattle.wt_holds.specs.declared.inner.TypeRegistryInner.{TypeRegistryInner}
use Rattle.wt_holds.specs.Counts.{standing_of, standings_of, references_at, total_at, AreTotals}
use Rattle.wt_holds.specs.Kept.{AreKept, registry_at, registry_of}
use Rattle.wt_holds.proofs.Counted.{HavePlaces, has_place}
use Rattle.wt_registry.proofs.KeptGroups.{kept-same, groups_within, references_within, room-left, can-carry, carried-at, kept-carried}
use Rattle.std.specs.List.{flat_map}
use Rattle.std.proofs.lemmas.List.{length-append, length-map}
use Rattle.wt_model.specs.Reach.{edges}
use Rattle.wt_keys.proofs.AddedKeys.{names_older}
use Rattle.wt_plan.proofs.Planning.{groups_of-joined}
use Rattle.wt_holds.specs.References.{references}
use Rattle.wt_registry.specs.LeadsTo.{CanLead}
use Rattle.wt_registry.proofs.Tallied.{total-bounded, row-behind, can-lead}
use Rattle.wt_registry.proofs.enter.check_and_commit.Goals as goal

-- what was found, by the lists that were read, is the first limit that would be passed
found_is : (engine : EngineParts) (groups : TypeRegistryInner) (read : List RecGroupEntry) (told : List HoldCounts) (plan : PlanFields) (party : ℕ) (found : Option Full) → read ≡ groups.entries → told ≡ groups.counts.items
    → found ≡ passed_limit (registry_of engine read plan.given (standings_of told)) party (plan_of read plan) → passed_limit (registry_at engine groups) party (plan_of groups.entries plan) ≡ found
found_is engine groups read told plan party found same equal is =
    (λ i. passed_limit (registry_of engine ((sym same) i) plan.given (standings_of ((sym equal) i))) party (plan_of ((sym same) i) plan)) ∙ sym is

places : (engine : EngineParts) (groups : TypeRegistryInner) (party : ℕ) → AreKept engine groups → party < engine.limits.parties → HavePlaces party groups.counts.items
places engine groups party kept within = has_place engine groups.counts.items party kept.holds.counted within

-- the rows stand for what keeps the new groups
rows_are : (engine : EngineParts) (parties : ℕ) (rows : List HoldCounts) (added read : List RecGroupEntry) → parties ≡ engine.limits.parties → read ≡ added
    → ((e : EngineParts) → e.limits.parties ≡ parties → standings_of rows ≡ map (new_holds e) (made_by read)) → standings_of rows ≡ map (new_holds engine) (made_by added)
rows_are engine parties rows added read same equal are = are engine (sym same) ∙ ap (λ es. map (new_holds engine) (made_by es)) equal

calm : (engine : EngineParts) (rows : List HoldCounts) (added : List RecGroupEntry) → standings_of rows ≡ map (new_holds engine) (made_by added) → (count : HoldCounts) → Among count rows → count.waits ≡ false
calm engine rows added are count at = new-calm engine (made_by added) (standing_of count) (subst (Among (standing_of count)) are (among_mapped standing_of rows count at))

all_places : (engine : EngineParts) (counts stood rows : List HoldCounts) (added : List RecGroupEntry) (party : ℕ) → party < engine.limits.parties → stood ≡ counts → HavePlaces party counts
    → standings_of rows ≡ map (new_holds engine) (made_by added) → HavePlaces party (stood ++ rows)
all_places engine counts stood rows added party within same old are count at = by (among_either stood rows count at)
  where
    by : Among count stood ⊎ Among count rows → party < length count.holds.items
    by (inl there) = old count (subst (Among count) same there)
    by (inr new) =
        let long = (new_sized engine (made_by added) (standing_of count) (subst (Among (standing_of count)) are (among_mapped standing_of rows count new))).parties in
        omega (arith, long, within)

held_then : (engine : EngineParts) (counts stood rows : List HoldCounts) (added : List RecGroupEntry) (party number : ℕ) → stood ≡ counts → standings_of rows ≡ map (new_holds engine) (made_by added)
    → held_at (stop_waiting_each (made_by added) (standings_of stood) ++ standings_of rows) party number ≡ held_at (standings_of counts) party number
held_then engine counts stood rows added party number same are =
    (λ i. held_at (stop_waiting_each (made_by added) (standings_of (same i)) ++ are i) party number)
    ∙ held_at-with_new engine (stop_waiting_each (made_by added) (standings_of counts)) (made_by added) party number
    ∙ held_at-stop_waiting_each (made_by added) (standings_of counts) party number

pub passed_limit-requires : goal.passed_limit-requires
passed_limit-requires c = record {
  parties = subst (HavePlaces c.args.party) (sym c.as_slice-2.ensures.value) (places c.args.engine.now c.args.groups.now c.args.party c.requires.kept c.requires.party);
}

pub returns-in-Some-clause-refused : goal.returns-in-Some-clause-refused
returns-in-Some-clause-refused c =
    inr (ap (option_map refusal.Full)
    (found_is c.args.engine.now c.args.groups.now c.as_slice.result.now c.as_slice-2.result.now c.args.plan c.args.party c.in_ok-found.found c.as_slice.ensures c.as_slice-2.ensures.value c.in_ok-found.ensures
    ∙ c.in-Some.is))

pub returns-in_err-reserve_counts-clause-kept : goal.returns-in_err-reserve_counts-clause-kept
returns-in_err-reserve_counts-clause-kept c =
    kept-same c.args.engine.now c.args.groups.now c.reserve_counts.new.groups c.requires.kept c.reserve_counts.ensures.entries c.reserve_counts.ensures.counts c.reserve_counts.ensures.stack c.reserve_counts.ensures.capacity c.reserve_counts.ensures.given

pub returns-in_err-insert_entries-clause-kept : goal.returns-in_err-insert_entries-clause-kept
returns-in_err-insert_entries-clause-kept c =
    subst (AreKept c.args.engine.now) (sym c.in_err-insert_entries.ensures.err)
    (kept-same c.args.engine.now c.args.groups.now c.reserve_counts.new.groups c.requires.kept c.reserve_counts.ensures.entries c.reserve_counts.ensures.counts c.reserve_counts.ensures.stack c.reserve_counts.ensures.capacity c.reserve_counts.ensures.given)

new_rows : (c : goal.After-insert_entries-arg-1) → standings_of c.in_ok-rows.rows.items ≡ map (new_holds c.args.engine.now) (made_by c.args.plan.added)
new_rows c =
    rows_are c.args.engine.now c.limits.result.parties c.in_ok-rows.rows.items c.args.plan.added c.as_slice-3.result.now (ap (λ l. l.parties) c.limits.ensures.value) c.as_slice-3.ensures
    c.in_ok-rows.ensures.counts

pub insert_entries-requires-clause-apart : goal.insert_entries-requires-clause-apart
insert_entries-requires-clause-apart c =
    subst (λ (entries : List RecGroupEntry). AreApart (entries ++ c.args.plan.added)) (sym c.reserve_counts.ensures.entries)
    (keys-apart (c.args.groups.now.entries ++ c.args.plan.added) c.args.plan.given.numbers c.requires.keys)

pub insert_entries-requires-clause-calm : goal.insert_entries-requires-clause-calm
insert_entries-requires-clause-calm c = calm c.args.engine.now c.in_ok-rows.rows.items c.args.plan.added (new_rows c)

pub insert_entries-requires-clause-parties : goal.insert_entries-requires-clause-parties
insert_entries-requires-clause-parties c =
    let engine = c.args.engine.now in
    all_places engine c.args.groups.now.counts.items c.reserve_counts.new.groups.counts.items c.in_ok-rows.rows.items c.args.plan.added c.args.party c.requires.party c.reserve_counts.ensures.counts
    (places engine c.args.groups.now c.args.party c.requires.kept c.requires.party) (new_rows c)

pub insert_entries-requires-clause-room : goal.insert_entries-requires-clause-room
insert_entries-requires-clause-room c = λ number.
    let engine = c.args.engine.now in
    let groups = c.args.groups.now in
    let party = c.args.party in
    let none = found_is engine groups c.as_slice.result.now c.as_slice-2.result.now c.args.plan party c.in_ok-found.found c.as_slice.ensures c.as_slice-2.ensures.value c.in_ok-found.ensures ∙ c.in_default.is in
    let room = room-left (registry_at engine groups) party (plan_of groups.entries c.args.plan) c.requires.kept.holds.counted none number in
    let held = held_then engine groups.counts.items c.reserve_counts.new.groups.counts.items c.in_ok-rows.rows.items c.args.plan.added party number c.reserve_counts.ensures.counts (new_rows c) in
    let bound : c.limits.result.holds ≡ engine.limits.holds = ap (λ l. l.holds) c.limits.ensures.value in
    let greatest : c.limits.result.holds ≤ 2 ^ 30 = (c.limits.ensures.valid).holds in
    omega (arith, room, held, bound, greatest)

pub reserve_counts-requires : goal.reserve_counts-requires
reserve_counts-requires c =
    let engine = c.args.engine.now in
    let groups = c.args.groups.now in
    let none = found_is engine groups c.as_slice.result.now c.as_slice-2.result.now c.args.plan c.args.party c.in_ok-found.found c.as_slice.ensures c.as_slice-2.ensures.value c.in_ok-found.ensures ∙ c.in_default.is in
    let grouped = groups_within (registry_at engine groups) c.args.party (plan_of groups.entries c.args.plan) none in
    let many : length (groups_of (plan_of groups.entries c.args.plan)) ≡ length groups.entries + length c.args.plan.added =
    ap length (groups_of-joined groups.entries c.args.plan) ∙ length-map (groups.entries ++ c.args.plan.added) made_of ∙ length-append groups.entries c.args.plan.added in
    let bound : c.limits.result.groups ≡ engine.limits.groups = ap (λ l. l.groups) c.limits.ensures.value in
    let greatest : c.limits.result.groups ≤ 2 ^ 24 = (c.limits.ensures.valid).groups in
    omega (arith, grouped, many, bound, greatest, c.len.ensures)

pub insert_entries-requires-clause-leads : goal.insert_entries-requires-clause-leads
insert_entries-requires-clause-leads c =
    let engine = c.args.engine.now in
    let groups = c.args.groups.now in
    let none = found_is engine groups c.as_slice.result.now c.as_slice-2.result.now c.args.plan c.args.party c.in_ok-found.found c.as_slice.ensures c.as_slice-2.ensures.value c.in_ok-found.ensures ∙ c.in_default.is in
    let referred = references_within (registry_at engine groups) c.args.party (plan_of groups.entries c.args.plan) none in
    let joined = ap references_of (groups_of-joined groups.entries c.args.plan) in
    let bound : c.limits.result.references ≡ engine.limits.references = ap (λ l. l.references) c.limits.ensures.value in
    let greatest : c.limits.result.references ≤ 2 ^ 30 = (c.limits.ensures.valid).references in
    subst (λ (counts : List HoldCounts). CanLead (counts ++ c.in_ok-rows.rows.items) (flat_map (λ (e : RecGroupEntry). edges (made_of e)) c.args.plan.added)) (sym c.reserve_counts.ensures.counts)
    (can-lead engine groups.entries c.args.plan.added groups.counts.items c.in_ok-rows.rows.items (names_older (groups.entries ++ c.args.plan.added) c.args.plan.given.numbers c.requires.keys) c.requires.kept.holds.numbers
    (new_rows c) c.in_ok-rows.ensures.fresh c.requires.kept.references (omega (arith, referred, joined, bound, greatest)))

pub insert_entries-requires-clause-total : goal.insert_entries-requires-clause-total
insert_entries-requires-clause-total c = λ number.
    let engine = c.args.engine.now in
    let groups = c.args.groups.now in
    let none = found_is engine groups c.as_slice.result.now c.as_slice-2.result.now c.args.plan c.args.party c.in_ok-found.found c.as_slice.ensures c.as_slice-2.ensures.value c.in_ok-found.ensures ∙ c.in_default.is in
    let room = room-left (registry_at engine groups) c.args.party (plan_of groups.entries c.args.plan) c.requires.kept.holds.counted none number in
    let holds : c.limits.result.holds ≡ engine.limits.holds = ap (λ l. l.holds) c.limits.ensures.value in
    let greatest : c.limits.result.holds ≤ 2 ^ 30 = (c.limits.ensures.valid).holds in
    let parties : c.limits.result.parties ≡ engine.limits.parties = ap (λ l. l.parties) c.limits.ensures.value in
    let most : c.limits.result.parties ≤ 1024 = (c.limits.ensures.valid).parties in
    let bounded = total-bounded engine groups.counts.items number (omega (arith, parties, most)) (omega (arith, holds, greatest)) c.requires.kept.holds.counted c.requires.kept.totals in
    let same =
    row-behind (λ (x : HoldCounts). x.total) c.reserve_counts.new.groups.counts.items c.in_ok-rows.rows.items number (λ x at. (c.in_ok-rows.ensures.fresh x at).total)
    ∙ ap (λ (counts : List HoldCounts). total_at counts number) c.reserve_counts.ensures.counts in
    omega (arith, room, holds, greatest, bounded, same)

pub returns-clause-accepted : goal.returns-clause-accepted
returns-clause-accepted c =
    found_is c.args.engine.now c.args.groups.now c.as_slice.result.now c.as_slice-2.result.now c.args.plan c.args.party c.in_ok-found.found c.as_slice.ensures c.as_slice-2.ensures.value c.in_ok-found.ensures
    ∙ c.in_default.is

-- ---- what is entered

counted : (engine : EngineParts) (parties party : ℕ) (numbers : List ℕ) (rows stood counts after : List HoldCounts) (added read : List RecGroupEntry) → stood ≡ counts → parties ≡ engine.limits.parties → read ≡ added
    → ((e : EngineParts) → e.limits.parties ≡ parties → standings_of rows ≡ map (new_holds e) (made_by read))
    → standings_of after ≡ hold_each party numbers (stop_waiting_each (made_by added) (standings_of stood) ++ standings_of rows)
    → standings_of after ≡ hold_each party numbers (stop_waiting_each (made_by added) (standings_of counts) ++ map (new_holds engine) (made_by added))
counted engine parties party numbers rows stood counts after added read same equal all are is =
    let rows_stand = rows_are engine parties rows added read equal all are in
    is ∙ (λ i. hold_each party numbers (stop_waiting_each (made_by added) (standings_of (same i)) ++ rows_stand i))

pub returns-clause-ok : goal.returns-clause-ok
returns-clause-ok c =
    let entered = c.in_ok-insert_entries.ensures.entries ∙ ap (λ es. es ++ c.args.plan.added) c.reserve_counts.ensures.entries in
    let stand =
    counted c.args.engine.now c.limits.result.parties c.args.party c.args.plan.numbers.items c.in_ok-rows.rows.items c.reserve_counts.new.groups.counts.items c.args.groups.now.counts.items
    c.insert_entries.new.groups.counts.items c.args.plan.added c.as_slice-3.result.now c.reserve_counts.ensures.counts (ap (λ l. l.parties) c.limits.ensures.value) c.as_slice-3.ensures
    c.in_ok-rows.ensures.counts c.in_ok-insert_entries.ensures.counts in
    carried-at c.args.engine.now c.args.groups.now c.args.plan c.args.party c.requires.kept c.requires.party c.requires.keys c.requires.occurs (returns-clause-accepted c) c.insert_entries.new.groups
    entered c.in_ok-insert_entries.ensures.given stand

pub returns-clause-kept : goal.returns-clause-kept
returns-clause-kept c =
    let entered = c.in_ok-insert_entries.ensures.entries ∙ ap (λ es. es ++ c.args.plan.added) c.reserve_counts.ensures.entries in
    let stand =
    counted c.args.engine.now c.limits.result.parties c.args.party c.args.plan.numbers.items c.in_ok-rows.rows.items c.reserve_counts.new.groups.counts.items c.args.groups.now.counts.items
    c.insert_entries.new.groups.counts.items c.args.plan.added c.as_slice-3.result.now c.reserve_counts.ensures.counts (ap (λ l. l.parties) c.limits.ensures.value) c.as_slice-3.ensures
    c.in_ok-rows.ensures.counts c.in_ok-insert_entries.ensures.counts in
    kept-carried c.args.engine.now c.args.groups.now c.args.plan c.args.party c.requires.kept c.requires.party c.requires.keys c.requires.occurs (returns-clause-accepted c) c.insert_entries.new.groups
    entered c.in_ok-insert_entries.ensures.given stand
    c.requires.rules c.requires.shown c.requires.below
    (λ n. c.in_ok-insert_entries.ensures.references n
    ∙ ap (λ t. t + references (made_by c.args.plan.added) n)
    (row-behind (λ (x : HoldCounts). x.references) c.reserve_counts.new.groups.counts.items c.in_ok-rows.rows.items n (λ x at. (c.in_ok-rows.ensures.fresh x at).references)
    ∙ ap (λ (counts : List HoldCounts). references_at counts n) c.reserve_counts.ensures.counts))
    (c.in_ok-insert_entries.ensures.totals (subst AreTotals (sym c.reserve_counts.ensures.counts) c.requires.kept.totals))
    (ap (λ (v : Vec ℕ Global). v.items) c.in_ok-insert_entries.ensures.stack ∙ (c.reserve_counts.ensures.stack ∙ c.requires.kept.stack))
    (subst (λ (v : Vec ℕ Global). length c.args.groups.now.entries + length c.args.plan.added ≤ vec_capacity v) (sym c.in_ok-insert_entries.ensures.stack)
    (subst (λ n. length c.args.groups.now.entries + n ≤ vec_capacity c.reserve_counts.new.groups.stack) c.len.ensures c.in_ok-reserve_counts.ensures.stack_room))

pub returns-clause-changes : goal.returns-clause-changes
returns-clause-changes c =
    let engine = c.args.engine.now in
    let groups = c.args.groups.now in
    let plan = c.args.plan in
    subst (HoldChanges (registry_at engine groups) (registry_at engine c.insert_entries.new.groups) c.args.party) (sym c.in_ok-insert_entries.ensures.numbers)
    (subst (λ (new : Registry). HoldChanges (registry_at engine groups) new c.args.party plan.numbers.items) (returns-clause-ok c)
    (carried-changes (registry_at engine groups) c.args.party (plan_of groups.entries plan) refl
    (can-carry engine groups plan c.args.party c.requires.kept c.requires.party c.requires.keys c.requires.occurs (returns-clause-accepted c))))
