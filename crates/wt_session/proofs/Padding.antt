-- Rows of handles: rows without handles change nothing, and a row is read and changed at its place.
use Rattle.std.proofs.Common.{◌≡◌, ◌≢◌, ℕ, zero, suc, ◌+◌, ◌-◌, ◌<◌, ◌≤◌, ◌==◌, Bool, true, false, List, [], ◌∷◌, ◌++◌, length, replicate, get_or, slice_get, slice_set, Some, refl, sym, ap, subst, ◌∙◌, arith, length-set}
use Rattle.std.proofs.lemmas.List.{append_assoc, length-append, length-map, map-append, map-set}
use Rattle.wt_env.specs.Limits.{EngineParts}
use Rattle.wt_registry.specs.Registered.{Registry}
use Rattle.wt_session.specs.declared.counts.ObjectCounts.{ObjectCounts}
use Rattle.wt_session.specs.declared.handle.Handle.{Handle}
use Rattle.wt_session.specs.declared.party_handles.PartyHandles.{PartyHandles}
use Rattle.wt_session.specs.declared.reply.Reply.{Reply}
use Rattle.wt_session.specs.World.{row_of}
use Rattle.wt_session.specs.Run.{counts_after, counted, with_outcome}
use Rattle.wt_session.specs.Session.{rows_of, padded, world_of, AreHandles, IsKept, Keeps}
use Rattle.wt_session.proofs.HandlesKept.{held-own, still-handle}

-- ---- one row more, without handles

padded_more : (parties : ℕ) (rows : List (List Handle)) → length rows < parties → padded parties (rows ++ [] ∷ []) ≡ padded parties rows
padded_more parties rows below =
    let long : length (rows ++ [] ∷ []) ≡ length rows + 1 = length-append rows ([] ∷ []) in
    let less : suc (parties - length (rows ++ [] ∷ [])) ≡ parties - length rows = omega (arith, long, below) in
    append_assoc rows ([] ∷ []) (replicate (parties - length (rows ++ [] ∷ [])) [])
    ∙ ap (λ (n : ℕ). rows ++ replicate n []) less

pub length-rows : (rows : List PartyHandles) → length (rows_of rows) ≡ length rows
length-rows rows = length-map rows (λ (row : PartyHandles). row.handles.items)

pub padded-pushed : (parties : ℕ) (rows rows' : List PartyHandles) (row : PartyHandles) → rows' ≡ rows ++ row ∷ [] → row.handles.items ≡ [] → length rows < parties
    → padded parties (rows_of rows') ≡ padded parties (rows_of rows)
padded-pushed parties rows rows' row pushed none below =
    ap (λ (all : List PartyHandles). padded parties (rows_of all)) pushed
    ∙ ap (padded parties) (map-append (λ (r : PartyHandles). r.handles.items) rows (row ∷ []))
    ∙ ap (λ (own : List Handle). padded parties (rows_of rows ++ own ∷ [])) none
    ∙ padded_more parties (rows_of rows) (omega (arith, length-rows rows, below))

-- ---- a party's handles are the same

none-there : (parties party : ℕ) → row_of party (replicate parties []) ≡ []
none-there zero party = refl
none-there (suc parties) zero = refl
none-there (suc parties) (suc party) = none-there parties party

pub row_of-padded : (parties party : ℕ) (rows : List (List Handle)) → row_of party (padded parties rows) ≡ row_of party rows
row_of-padded parties party rows = past party rows (parties - length rows)
  where
    past : (p : ℕ) (rows : List (List Handle)) (more : ℕ) → row_of p (rows ++ replicate more []) ≡ row_of p rows
    past p [] more = none-there more p
    past zero (row ∷ rows) more = refl
    past (suc p) (row ∷ rows) more = past p rows more

pub none-past : (rows : List (List Handle)) (party : ℕ) → length rows ≤ party → row_of party rows ≡ []
none-past [] party past = refl
none-past (row ∷ rows) zero past = absurd (omega (arith, past))
none-past (row ∷ rows) (suc party) past = none-past rows party (omega (arith, past))

pub kept-padded : (registry : Registry) (rows rows' : List (List Handle)) → padded registry.engine.limits.parties rows' ≡ padded registry.engine.limits.parties rows
    → length rows' ≤ registry.engine.limits.parties → IsKept registry rows → IsKept registry rows'
kept-padded registry rows rows' same within kept =
    let parties = registry.engine.limits.parties in
    record {
      sound = kept.sound;
      parties = within;
      handles = λ party. subst (AreHandles registry party) (sym (row_of-padded parties party rows) ∙ ap (row_of party) (sym same) ∙ row_of-padded parties party rows') (kept.handles party);
    }

-- ---- the row at a place

pub read_row : (rows : List PartyHandles) (party : ℕ) (row : PartyHandles) → party < length rows → row ≡ get_or rows party row → slice_get (rows_of rows) party ≡ Some row.handles.items
read_row [] party row within is = absurd (omega arith)
read_row (r ∷ rows) zero row within is = ap (λ (own : PartyHandles). Some own.handles.items) (sym is)
read_row (r ∷ rows) (suc party) row within is = read_row rows party row (omega arith) is

pub set_row : (rows : List PartyHandles) (party : ℕ) (row : PartyHandles) → rows_of (slice_set rows party row) ≡ slice_set (rows_of rows) party row.handles.items
set_row rows party row = map-set (λ (r : PartyHandles). r.handles.items) rows party row

same_row : (row row' : List Handle) → Some row ≡ Some row' → row ≡ row'
same_row row row' h = cc

row_of-row : (rows tail : List (List Handle)) (party : ℕ) (row : List Handle) → slice_get rows party ≡ Some row → row_of party (rows ++ tail) ≡ row
row_of-row [] tail party row is = absurd (cc)
row_of-row (r ∷ rows) tail zero row is = same_row r row is
row_of-row (r ∷ rows) tail (suc party) row is = row_of-row rows tail party row is

pub own-row : (rows : List (List Handle)) (party : ℕ) (row : List Handle) → slice_get rows party ≡ Some row → row_of party rows ≡ row
own-row [] party row is = absurd (cc)
own-row (r ∷ rows) zero row is = same_row r row is
own-row (r ∷ rows) (suc party) row is = own-row rows party row is

own-set : (rows : List (List Handle)) (party : ℕ) (row row' : List Handle) → slice_get rows party ≡ Some row → row_of party (slice_set rows party row') ≡ row'
own-set [] party row row' is = absurd (cc)
own-set (r ∷ rows) zero row row' is = refl
own-set (r ∷ rows) (suc party) row row' is = own-set rows party row row' is

other-set : (rows : List (List Handle)) (party p : ℕ) (row' : List Handle) → p ≢ party → row_of p (slice_set rows party row') ≡ row_of p rows
other-set [] party p row' differs = refl
other-set (r ∷ rows) zero zero row' differs = absurd (differs refl)
other-set (r ∷ rows) zero (suc p) row' differs = refl
other-set (r ∷ rows) (suc party) zero row' differs = refl
other-set (r ∷ rows) (suc party) (suc p) row' differs = other-set rows party p row' (λ same. differs (ap (λ (n : ℕ). suc n) same))

-- ---- a command on one row keeps all

others-kept : (old new : Registry) (party p : ℕ) (own row : List Handle) → Keeps old new party own → p ≢ party → AreHandles old p row → AreHandles new p row
others-kept old new party p own row keeps differs are = record {
  counted = λ n. keeps.spares.holds p n differs ∙ are.counted n;
  each = λ h at.
      still-handle old new p h keeps.spares.engine (λ i n holds found. keeps.spares.located i p n differs (held-own old p row h n are at holds) found) (are.each h at);
}

pub kept-set : (old new : Registry) (rows : List (List Handle)) (party : ℕ) (row row' : List Handle) → slice_get rows party ≡ Some row → IsKept old rows → Keeps old new party row' → IsKept new (slice_set rows party row')
kept-set old new rows party row row' is kept keeps = record {
  sound = keeps.sound kept.sound;
  parties = subst (λ e. length (slice_set rows party row') ≤ e.limits.parties) (sym keeps.spares.engine) (omega (arith, length-set rows party row', kept.parties));
  handles = λ p. by p (p == party) refl;
}
  where
    by : (p : ℕ) (b : Bool) → (p == party) ≡ b → AreHandles new p (row_of p (slice_set rows party row'))
    by p true e =
        let same : p ≡ party = grind (arith, e) in
        subst (λ (q : ℕ). AreHandles new q (row_of q (slice_set rows party row'))) (sym same)
        (subst (AreHandles new party) (sym (own-set rows party row row' is)) keeps.handles)
    by p false e =
        let differs : p ≢ party = λ same. absurd (grind (arith, e, same)) in
        subst (AreHandles new p) (sym (other-set rows party p row' differs)) (others-kept old new party p row' (row_of p rows) keeps differs (kept.handles p))

-- ---- the step that it is

set-past : (rows tail : List (List Handle)) (party : ℕ) (row row' : List Handle) → slice_get rows party ≡ Some row → slice_set (rows ++ tail) party row' ≡ slice_set rows party row' ++ tail
set-past [] tail party row row' is = absurd (cc)
set-past (r ∷ rows) tail zero row row' is = refl
set-past (r ∷ rows) tail (suc party) row row' is = ap (λ (rest : List (List Handle)). r ∷ rest) (set-past rows tail party row row' is)

padded_set : (parties : ℕ) (rows : List (List Handle)) (party : ℕ) (row row' : List Handle) → slice_get rows party ≡ Some row → slice_set (padded parties rows) party row' ≡ padded parties (slice_set rows party row')
padded_set parties rows party row row' is =
    set-past rows (replicate (parties - length rows) []) party row row' is
    ∙ ap (λ (n : ℕ). slice_set rows party row' ++ replicate (parties - n) []) (sym (length-set rows party row'))

-- the party's row is that of the session
pub world-row : (registry : Registry) (rows : List (List Handle)) (party : ℕ) (row : List Handle) → slice_get rows party ≡ Some row → row_of party (padded registry.engine.limits.parties rows) ≡ row
world-row registry rows party row is = row_of-row rows (replicate (registry.engine.limits.parties - length rows) []) party row is

pub outcome-world : (old new : Registry) (counts : ObjectCounts) (rows : List (List Handle)) (party : ℕ) (row row' : List Handle) (told : Reply) → slice_get rows party ≡ Some row → new.engine ≡ old.engine
    → with_outcome (world_of old counts rows) party (counted counts (record { reply = told; registry = new; row = row' })) ≡ (told, world_of new (counts_after told counts) (slice_set rows party row'))
outcome-world old new counts rows party row row' told is engine = λ i. (
  told,
  record {
    registry = new;
    handles = (padded_set old.engine.limits.parties rows party row row' is ∙ ap (λ (e : EngineParts). padded e.limits.parties (slice_set rows party row')) (sym engine)) i;
    counts = counts_after told counts;
  },
)

-- a command of a party without handles that leaves the registry changes nothing but what was made so far
pub same-world : (registry : Registry) (counts : ObjectCounts) (rows : List (List Handle)) (party : ℕ) (told : Reply) → party < registry.engine.limits.parties → length rows ≤ registry.engine.limits.parties
    → with_outcome (world_of registry counts rows) party (counted counts (record { reply = told; registry = registry; row = row_of party (padded registry.engine.limits.parties rows) }))
    ≡ (told, world_of registry (counts_after told counts) rows)
same-world registry counts rows party told below within =
    let parties = registry.engine.limits.parties in
    let long : party < length (padded parties rows) = omega (arith, length-append rows (replicate (parties - length rows) []), length-none (parties - length rows), below, within) in
    λ i. (told, record { registry = registry; handles = set-own (padded parties rows) party long i; counts = counts_after told counts })
  where
    no_handles : List Handle
    no_handles = []

    length-none : (n : ℕ) → length (replicate n no_handles) ≡ n
    length-none zero = refl
    length-none (suc n) = ap (λ (m : ℕ). suc m) (length-none n)

    set-own : (all : List (List Handle)) (p : ℕ) → p < length all → slice_set all p (row_of p all) ≡ all
    set-own [] p there = absurd (omega arith)
    set-own (r ∷ all) zero there = refl
    set-own (r ∷ all) (suc p) there = ap (λ (rest : List (List Handle)). r ∷ rest) (set-own all p (omega arith))
