-- the new counts don't wait, so what is called are the others
use Rattle.std.proofs.Common.{◌≡◌, ℕ, ◌+◌, ◌<◌, false, List, ◌++◌, length, drop, refl, sym, ap, subst, ◌∙◌, arith}
use Rattle.std.proofs.lemmas.List.{map-append, drop_at}
use Rattle.wt_holds.specs.declared.hold_counts.HoldCounts.{HoldCounts}
use Rattle.wt_keys.specs.declared.entry.RecGroupEntry.{RecGroupEntry}
use Rattle.wt_model.specs.Registered.{GroupHolds}
use Rattle.wt_env.specs.Among.{Among}
use Rattle.wt_model.specs.Holds.{held_at}
use Rattle.wt_holds.specs.Counts.{standing_of, standings_of, references_at, total_at, AreTotals}
use Rattle.wt_model.specs.Holds.{times, hold_each}
use Rattle.wt_keys.specs.Entries.{made_of, made_by}
use Rattle.wt_model.specs.Registration.{stop_waiting_each}
use Rattle.wt_env.proofs.lists.Mapped.{among_map}
use Rattle.wt_model.proofs.plan.StopWaiting.{stop_waiting_each-joined, holds-stop_waiting_each}
use Rattle.wt_holds.proofs.Counted.{HavePlaces, places_stand, stand_places}
use Rattle.std.specs.List.{flat_map}
use Rattle.wt_model.specs.Reach.{edges}
use Rattle.wt_registry.specs.LeadsTo.{CanLead, LeadsTo}
use Rattle.wt_registry.proofs.Leading.{edges-stop, edges-references}
use Rattle.wt_registry.proofs.Tallied.{totals-behind}
use Rattle.wt_registry.proofs.enter.insert_entries.Goals as goal

calm : (rows : List HoldCounts) → ((count : HoldCounts) → Among count rows → count.waits ≡ false) → (s : GroupHolds) → Among s (standings_of rows) → s.waits ≡ false
calm rows each s at = let found = among_map standing_of rows s at in ap (λ (x : GroupHolds). x.waits) found.2 ∙ each found.0 found.1

stood : (counts rows moved after : List HoldCounts) (added read : List RecGroupEntry) → moved ≡ counts ++ rows → read ≡ added → standings_of after ≡ stop_waiting_each (made_by read) (standings_of moved)
    → ((count : HoldCounts) → Among count rows → count.waits ≡ false) → standings_of after ≡ stop_waiting_each (made_by added) (standings_of counts) ++ standings_of rows
stood counts rows moved after added read moves same is quiet =
    is
    ∙ (λ i. stop_waiting_each (made_by (same i)) (standings_of (moves i)))
    ∙ ap (stop_waiting_each (made_by added)) (map-append standing_of counts rows)
    ∙ stop_waiting_each-joined (made_by added) (standings_of counts) (standings_of rows) (calm rows quiet)

placed : (party : ℕ) (counts moved after : List HoldCounts) (read : List RecGroupEntry) → moved ≡ counts → standings_of after ≡ stop_waiting_each (made_by read) (standings_of moved) → HavePlaces party counts → HavePlaces party after
placed party counts moved after read same is places =
    let before = places_stand party moved (subst (HavePlaces party) (sym same) places) in
    stand_places party after (λ s at. holds-stop_waiting_each (λ holds. party < length holds) (made_by read) (standings_of moved) before s (subst (Among s) is at))

-- what stands behind those before is what was added
new_behind : (entries added joined read : List RecGroupEntry) (before : ℕ) → joined ≡ entries ++ added → before ≡ length entries → read ≡ drop before joined → read ≡ added
new_behind entries added joined read before joins at is =
    is ∙ (λ i. drop (at i) (joins i)) ∙ drop_at entries added (length entries) refl

stopped : (moved after : List HoldCounts) (read : List RecGroupEntry) → LeadsTo moved after (flat_map (λ e. edges (made_of e)) read) → standings_of after ≡ stop_waiting_each (made_by read) (standings_of moved)
stopped moved after read leads = leads.standings ∙ edges-stop read (standings_of moved)

pub lead_to_each-requires : goal.lead_to_each-requires
lead_to_each-requires c =
    let added = (new_behind c.args.groups.now.entries c.args.plan.added c.append.new.self c.behind.result.now c.len-before.result c.in_ok-append.ensures.ok c.len-before.ensures c.behind.ensures) in
    subst (λ (counts : List HoldCounts). CanLead counts (flat_map (λ (e : RecGroupEntry). edges (made_of e)) c.behind.result.now)) (sym c.move_all.ensures)
    (subst (λ (read : List RecGroupEntry). CanLead (c.args.groups.now.counts.items ++ c.args.rows.items) (flat_map (λ (e : RecGroupEntry). edges (made_of e)) read)) (sym added) c.requires.leads)

pub hold_each-requires-clause-total : goal.hold_each-requires-clause-total
hold_each-requires-clause-total c = λ number.
    let same = c.lead_to_each.ensures.more number ∙ ap (λ (counts : List HoldCounts). total_at counts number) c.move_all.ensures in
    let more = ap (times number) c.as_slice.ensures.value in
    let room = c.requires.total number in
    omega (arith, same, more, room)

pub returns-clause-references : goal.returns-clause-references
returns-clause-references c = λ n.
    let added = (new_behind c.args.groups.now.entries c.args.plan.added c.append.new.self c.behind.result.now c.len-before.result c.in_ok-append.ensures.ok c.len-before.ensures c.behind.ensures) in
    c.hold_each.ensures.references n
    ∙ c.lead_to_each.ensures.references n
    ∙ (λ i. references_at (c.move_all.ensures i) n + times n (flat_map (λ (e : RecGroupEntry). edges (made_of e)) (added i)))
    ∙ ap (λ t. references_at (c.args.groups.now.counts.items ++ c.args.rows.items) n + t) (edges-references c.args.plan.added n)

pub returns-clause-totals : goal.returns-clause-totals
returns-clause-totals c = λ are.
    c.hold_each.ensures.totals (c.lead_to_each.ensures.totals
    (subst AreTotals (sym c.move_all.ensures) (totals-behind c.args.groups.now.counts.items c.args.rows.items c.requires.fresh are)))

pub hold_each-requires-clause-parties : goal.hold_each-requires-clause-parties
hold_each-requires-clause-parties c =
    placed c.args.party (c.args.groups.now.counts.items ++ c.args.rows.items) c.move_all.new.items.items c.lead_to_each.new.counts.items c.behind.result.now c.move_all.ensures (stopped c.move_all.new.items.items c.lead_to_each.new.counts.items c.behind.result.now c.lead_to_each.ensures) c.requires.parties

pub hold_each-requires-clause-room : goal.hold_each-requires-clause-room
hold_each-requires-clause-room c = λ number.
    let counts = stood c.args.groups.now.counts.items c.args.rows.items c.move_all.new.items.items c.lead_to_each.new.counts.items c.args.plan.added c.behind.result.now c.move_all.ensures (new_behind c.args.groups.now.entries c.args.plan.added c.append.new.self c.behind.result.now c.len-before.result c.in_ok-append.ensures.ok c.len-before.ensures c.behind.ensures) (stopped c.move_all.new.items.items c.lead_to_each.new.counts.items c.behind.result.now c.lead_to_each.ensures) c.requires.calm in
    let held = ap (λ standings. held_at standings c.args.party number) counts in
    let more = ap (times number) c.as_slice.ensures.value in
    let room = c.requires.room number in
    omega (arith, held, more, room)

pub returns-clause-counts : goal.returns-clause-counts
returns-clause-counts c =
    let counts = stood c.args.groups.now.counts.items c.args.rows.items c.move_all.new.items.items c.lead_to_each.new.counts.items c.args.plan.added c.behind.result.now c.move_all.ensures (new_behind c.args.groups.now.entries c.args.plan.added c.append.new.self c.behind.result.now c.len-before.result c.in_ok-append.ensures.ok c.len-before.ensures c.behind.ensures) (stopped c.move_all.new.items.items c.lead_to_each.new.counts.items c.behind.result.now c.lead_to_each.ensures) c.requires.calm in
    let numbers = c.as_slice.ensures.value in
    c.hold_each.ensures.standings ∙ (λ i. hold_each c.args.party (numbers i) (counts i))
