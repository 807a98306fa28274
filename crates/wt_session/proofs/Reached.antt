-- What handles hold is what the registry counts, so that the registered groups are those reached from handles.
use Rattle.std.proofs.Common.{◌≡◌, ℕ, zero, suc, ◌-◌, ◌≤◌, inl, inr, List, [], ◌∷◌, ◌++◌, length, replicate, refl, sym, ap, subst, ◌∙◌}
use Rattle.std.specs.List.{flat_map}
use Rattle.std.proofs.lemmas.Grind.{flat_map-append}
use Rattle.std.proofs.lemmas.List.{append-nil}
use Rattle.wt_registry.specs.Registered.{Registry}
use Rattle.wt_env.specs.Among.{Among}
use Rattle.wt_registry.specs.Holds.{held_at, waiting}
use Rattle.wt_registry.specs.Sound.{IsRoot}
use Rattle.wt_session.specs.declared.counts.ObjectCounts.{ObjectCounts}
use Rattle.wt_session.specs.declared.handle.Handle.{Handle}
use Rattle.wt_session.specs.World.{held_in, holds, row_of, HasExactlyReached}
use Rattle.wt_session.specs.Session.{padded, world_of, IsKept}
use Rattle.wt_env.proofs.lists.Members.{among_before, among_behind, among_either}
use Rattle.wt_session.proofs.Times.{among-times, times-among}

abbrev held_rows : List (List Handle) → List ℕ
held_rows rows = flat_map held_in rows

-- ---- rows without handles hold nothing

none_held : (parties : ℕ) → held_rows (replicate parties []) ≡ []
none_held zero = refl
none_held (suc parties) = none_held parties

pub held-padded : (parties : ℕ) (rows : List (List Handle)) → held_rows (padded parties rows) ≡ held_rows rows
held-padded parties rows =
    flat_map-append held_in rows (replicate (parties - length rows) [])
    ∙ ap (λ (none : List ℕ). held_rows rows ++ none) (none_held (parties - length rows))
    ∙ append-nil (held_rows rows)

-- ---- what a party holds

row-holds : (rows : List (List Handle)) (party number : ℕ) → Among number (held_in (row_of party rows)) → Among number (held_rows rows)
row-holds [] party number at = absurd at
row-holds (row ∷ rows) zero number at = among_before (held_in row) (held_rows rows) number at
row-holds (row ∷ rows) (suc party) number at = among_behind (held_in row) (held_rows rows) number (row-holds rows party number at)

holds-row : (rows : List (List Handle)) (number : ℕ) → Among number (held_rows rows) → (party : ℕ) × Among number (held_in (row_of party rows))
holds-row [] number at = absurd at
holds-row (row ∷ rows) number at = elim (among_either (held_in row) (held_rows rows) number at) [
  | inl mine ↦ (0, mine)
  | inr others ↦ later (holds-row rows number others)
]
  where
    later : (party : ℕ) × Among number (held_in (row_of party rows)) → (party : ℕ) × Among number (held_in (row_of party (row ∷ rows)))
    later found = (suc found.0, found.1)

-- ---- the roots of the registry are those of the session

root-reached : (registry : Registry) (counts : ObjectCounts) (rows : List (List Handle)) → IsKept registry rows → (root : ℕ) → IsRoot registry root → Among root (holds (world_of registry counts rows) ++ waiting registry.standings)
root-reached registry counts rows kept root (inl held) =
    let counted = (kept.handles held.0).counted root in
    let mine = times-among root (held_in (row_of held.0 rows)) (subst (λ (n : ℕ). 1 ≤ n) counted held.1) in
    among_before (holds (world_of registry counts rows)) (waiting registry.standings) root
    (subst (Among root) (sym (held-padded registry.engine.limits.parties rows)) (row-holds rows held.0 root mine))
root-reached registry counts rows kept root (inr waits) = among_behind (holds (world_of registry counts rows)) (waiting registry.standings) root waits

reached-root : (registry : Registry) (counts : ObjectCounts) (rows : List (List Handle)) → IsKept registry rows → (root : ℕ) → Among root (holds (world_of registry counts rows) ++ waiting registry.standings) → IsRoot registry root
reached-root registry counts rows kept root at =
    elim (among_either (holds (world_of registry counts rows)) (waiting registry.standings) root at) [
      | inl held ↦ inl (counted (holds-row rows root (subst (Among root) (held-padded registry.engine.limits.parties rows) held)))
      | inr waits ↦ inr waits
    ]
  where
    counted : (party : ℕ) × Among root (held_in (row_of party rows)) → (party : ℕ) × (1 ≤ held_at registry.standings party root)
    counted found = (found.0, subst (λ (n : ℕ). 1 ≤ n) (sym ((kept.handles found.0).counted root)) (among-times root (held_in (row_of found.0 rows)) found.1))

pub reached : (registry : Registry) (counts : ObjectCounts) (rows : List (List Handle)) → IsKept registry rows → HasExactlyReached (world_of registry counts rows)
reached registry counts rows kept = record {
  in_order = kept.sound.rising;
  every = λ group at.
      let from = kept.sound.reached.every group at in
      (from.0, root-reached registry counts rows kept from.0 from.1, from.2);
  only = λ number from. kept.sound.reached.only from.0 number (reached-root registry counts rows kept from.0 from.1) from.2;
}
