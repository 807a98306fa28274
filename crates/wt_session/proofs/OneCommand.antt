-- One command of a party, from its own handles to the session.
use Rattle.std.proofs.Common.{◌≡◌, ℕ, ◌<◌, ◌≤◌, List, [], length, get_or, slice_set, Result, Ok, Err, OnErr, sym, ap, subst, ◌∙◌, arith}
use Rattle.wt_registry.specs.Registered.{Registry}
use Rattle.wt_commands.specs.declared.command.Command.{Command}
use Rattle.wt_session.specs.declared.counts.ObjectCounts.{ObjectCounts}
use Rattle.wt_session.specs.declared.handle.Handle.{Handle}
use Rattle.wt_session.specs.declared.reply.Reply.{Reply}
use Rattle.wt_session.specs.declared.party_handles.PartyHandles.{PartyHandles}
use Rattle.wt_session.specs.World.{row_of}
use Rattle.wt_commands.specs.Commands.{party_of}
use Rattle.wt_session.specs.Run.{PartyOutcome, counted, party_outcome, counts_after, with_outcome, done_by}
use Rattle.wt_session.specs.Session.{rows_of, padded, world_of, AreHandles, IsKept, Keeps}
use Rattle.wt_session.proofs.Padding.{kept-padded, read_row, set_row, length-rows, own-row, kept-set, world-row, outcome-world, same-world, row_of-padded, none-past}
use Rattle.wt_session.proofs.Places.{set-own}

-- ---- a party without handles

pub unheld-done : (registry : Registry) (counts : ObjectCounts) (rows : List (List Handle)) (party : ℕ) (command : Command) (told : Reply) → party ≡ party_of command
    → party_outcome registry [] command ≡ record { reply = told; registry = registry; row = [] } → party < registry.engine.limits.parties → length rows ≤ party → IsKept registry rows
    → done_by (world_of registry counts rows) command ≡ (told, world_of registry (counts_after told counts) rows)
unheld-done registry counts rows party command told by outcome below past kept =
    let none : row_of party (padded registry.engine.limits.parties rows) ≡ [] = row_of-padded registry.engine.limits.parties party rows ∙ none-past rows party past in
    ap (λ (p : ℕ). with_outcome (world_of registry counts rows) p (counted counts (party_outcome registry (row_of p (padded registry.engine.limits.parties rows)) command))) (sym by)
    ∙ ap (λ (row : List Handle). with_outcome (world_of registry counts rows) party (counted counts (party_outcome registry row command))) none
    ∙ ap (λ (own : PartyOutcome). with_outcome (world_of registry counts rows) party (counted counts own)) outcome
    ∙ ap (λ (row : List Handle). with_outcome (world_of registry counts rows) party (counted counts (record { reply = told; registry = registry; row = row }))) (sym none)
    ∙ same-world registry counts rows party told below kept.parties

-- ---- rows up to the party

pub kept-grown : (registry : Registry) (rows grown : List PartyHandles) (party : ℕ) → party < registry.engine.limits.parties → IsKept registry (rows_of rows)
    → ((parties : ℕ) → party < parties → length rows ≤ parties → length grown ≤ parties)
    → ((parties : ℕ) → party < parties → length rows ≤ parties → padded parties (rows_of grown) ≡ padded parties (rows_of rows))
    → IsKept registry (rows_of grown)
kept-grown registry rows grown party below kept within same =
    let parties = registry.engine.limits.parties in
    let fits : length rows ≤ parties = omega (arith, length-rows rows, kept.parties) in
    kept-padded registry (rows_of rows) (rows_of grown) (same parties below fits) (omega (arith, length-rows grown, within parties below fits)) kept

pub world-grown : (registry : Registry) (counts : ObjectCounts) (rows grown : List PartyHandles) (party : ℕ) → party < registry.engine.limits.parties → IsKept registry (rows_of rows)
    → ((parties : ℕ) → party < parties → length rows ≤ parties → padded parties (rows_of grown) ≡ padded parties (rows_of rows))
    → world_of registry counts (rows_of rows) ≡ world_of registry counts (rows_of grown)
world-grown registry counts rows grown party below kept same =
    let parties = registry.engine.limits.parties in
    let fits : length rows ≤ parties = omega (arith, length-rows rows, kept.parties) in
    ap (λ (handles : List (List Handle)). record { registry = registry; handles = handles; counts = counts }) (sym (same parties below fits))

-- ---- the row at its place

-- it is the one that the party had before there were rows up to it
pub grown-row : (registry : Registry) (rows grown : List PartyHandles) (party : ℕ) (row : PartyHandles) → party < registry.engine.limits.parties → IsKept registry (rows_of rows)
    → ((parties : ℕ) → party < parties → length rows ≤ parties → padded parties (rows_of grown) ≡ padded parties (rows_of rows))
    → party < length grown → row ≡ get_or grown party row → row.handles.items ≡ row_of party (rows_of rows)
grown-row registry rows grown party row below kept same within is =
    let parties = registry.engine.limits.parties in
    let fits : length rows ≤ parties = omega (arith, length-rows rows, kept.parties) in
    sym (own-row (rows_of grown) party row.handles.items (read_row grown party row within is))
    ∙ sym (row_of-padded parties party (rows_of grown))
    ∙ ap (row_of party) (same parties below fits)
    ∙ row_of-padded parties party (rows_of rows)

pub own-handles : (registry : Registry) (rows : List PartyHandles) (party : ℕ) (row : PartyHandles) → IsKept registry (rows_of rows) → party < length rows → row ≡ get_or rows party row → AreHandles registry party row.handles.items
own-handles registry rows party row kept within is =
    subst (AreHandles registry party) (own-row (rows_of rows) party row.handles.items (read_row rows party row within is)) (kept.handles party)

-- the row that was written keeps what is kept
pub kept-written : (old new : Registry) (rows : List PartyHandles) (party number : ℕ) (row after : PartyHandles) → IsKept old (rows_of rows) → party < length rows → row ≡ get_or rows party row
    → number ≡ party → Keeps old new number after.handles.items → IsKept new (rows_of (slice_set rows party after))
kept-written old new rows party number row after kept within is same keeps =
    subst (IsKept new) (sym (set_row rows party after))
    (kept-set old new (rows_of rows) party row.handles.items after.handles.items (read_row rows party row within is) kept
    (subst (λ (p : ℕ). Keeps old new p after.handles.items) same keeps))

pub on-err : {A E P : Type 0} (result : Result A E) → P → OnErr result P
on-err (Ok x) p = tt
on-err (Err e) p = p

-- a row that is as it was changes no world
pub world-same : (old new : Registry) (counts : ObjectCounts) (rows : List PartyHandles) (party : ℕ) (row after : PartyHandles) → party < length rows → row ≡ get_or rows party row
    → (new ≡ old) × (after.handles.items ≡ row.handles.items) → world_of new counts (rows_of (slice_set rows party after)) ≡ world_of old counts (rows_of rows)
world-same old new counts rows party row after within is undone =
    let read = read_row rows party row within is in
    let same = set_row rows party after ∙ ap (slice_set (rows_of rows) party) undone.1 ∙ set-own (rows_of rows) party row.handles.items read in
    λ i. world_of (undone.0 i) counts (same i)

-- the outcome on the party's row is the session's step
pub done-written : (old new : Registry) (counts : ObjectCounts) (rows : List PartyHandles) (party : ℕ) (row after : PartyHandles) (command : Command) (told : Reply) → party < length rows → row ≡ get_or rows party row
    → party ≡ party_of command → new.engine ≡ old.engine
    → party_outcome old row.handles.items command ≡ record { reply = told; registry = new; row = after.handles.items }
    → done_by (world_of old counts (rows_of rows)) command ≡ (told, world_of new (counts_after told counts) (rows_of (slice_set rows party after)))
done-written old new counts rows party row after command told within is by engine done =
    let read = read_row rows party row within is in
    ap (λ (p : ℕ). with_outcome (world_of old counts (rows_of rows)) p (counted counts (party_outcome old (row_of p (padded old.engine.limits.parties (rows_of rows))) command))) (sym by)
    ∙ ap (λ (own : List Handle). with_outcome (world_of old counts (rows_of rows)) party (counted counts (party_outcome old own command))) (world-row old (rows_of rows) party row.handles.items read)
    ∙ ap (λ (own : PartyOutcome). with_outcome (world_of old counts (rows_of rows)) party (counted counts own)) done
    ∙ outcome-world old new counts (rows_of rows) party row.handles.items after.handles.items told read engine
    ∙ ap (λ (all : List (List Handle)). (told, world_of new (counts_after told counts) all)) (sym (set_row rows party after))
