-- Where the stack is empty, each group is reached.
use Rattle.std.proofs.Common.{◌≡◌, ℕ, true, List, [], ◌∷◌, length, map, refl, sym, ap, subst, ◌∙◌, arith}
use Rattle.wt_env.specs.Among.{Among}
use Rattle.wt_env.specs.Limits.{EngineParts}
use Rattle.wt_env.proofs.lists.Mapped.{among_map, among_mapped}
use Rattle.wt_model.specs.declared.ever.EverRegistered.{EverRegistered}
use Rattle.wt_model.specs.Registered.{RegisteredGroup, GroupHolds}
use Rattle.wt_model.specs.Removal.{is_root, is_reached, reached_part, kept_standings}
use Rattle.wt_model.specs.Sound.{IsRising, NamesOlder}
use Rattle.wt_keys.specs.declared.entry.RecGroupEntry.{RecGroupEntry}
use Rattle.wt_keys.specs.Entries.{made_of, made_by}
use Rattle.wt_keys.proofs.Removed.{filter-all}
use Rattle.wt_holds.specs.declared.hold_counts.HoldCounts.{HoldCounts}
use Rattle.wt_holds.specs.Counts.{standings_of, references_at}
use Rattle.wt_holds.specs.Marks.{kept_entries}
use Rattle.wt_holds.specs.Kept.{Falling, registry_of}
use Rattle.wt_holds.proofs.marks.Marked.{made-kept}
use Rattle.wt_holds.proofs.counts.Cascade.{rested}

pub no-items : (xs : List ℕ) → length xs ≡ 0 → xs ≡ []
no-items [] none = refl
no-items (x ∷ xs) none = absurd (omega (arith, none))

module _ (top : ℕ) (entries : List RecGroupEntry) (counts : List HoldCounts) (room : ℕ) (rising : IsRising 0 (made_by entries) top) (older : NamesOlder (made_by entries))
    (is : Falling (made_by entries) counts [] room []) where
  reached : (m : RegisteredGroup) → Among m (made_by entries) → is_reached (made_by entries) (is_root (standings_of counts)) m.number ≡ true
  reached = rested top (made_by entries) (is_root (standings_of counts)) (references_at counts) rising older is.cascading

  pub entries-stay : kept_entries (is_reached (made_by entries) (is_root (standings_of counts))) entries ≡ entries
  entries-stay = filter-all (λ (e : RecGroupEntry). is_reached (made_by entries) (is_root (standings_of counts)) e.number) entries (λ e at. reached (made_of e) (among_mapped made_of entries e at))

  pub standings-stay : kept_standings (is_reached (made_by entries) (is_root (standings_of counts))) (standings_of counts) ≡ standings_of counts
  standings-stay = filter-all (λ (s : GroupHolds). is_reached (made_by entries) (is_root (standings_of counts)) s.number) (standings_of counts) (λ s at.
      let there : Among s.number (map (λ (m : RegisteredGroup). m.number) (made_by entries)) = subst (Among s.number) is.numbers (among_mapped (λ (t : GroupHolds). t.number) (standings_of counts) s at) in
      let named = among_map (λ (m : RegisteredGroup). m.number) (made_by entries) s.number there in
      subst (λ n. is_reached (made_by entries) (is_root (standings_of counts)) n ≡ true) (sym named.2) (reached named.0 named.1))

  -- so that it is the reached part of what it came from
  pub is-part : (engine : EngineParts) (old : List RecGroupEntry) (counted : List HoldCounts) (given now : EverRegistered) → now ≡ given
      → kept_entries (is_reached (made_by entries) (is_root (standings_of counts))) entries ≡ kept_entries (is_reached (made_by old) (is_root (standings_of counted))) old
      → kept_standings (is_reached (made_by entries) (is_root (standings_of counts))) (standings_of counts) ≡ kept_standings (is_reached (made_by old) (is_root (standings_of counted))) (standings_of counted)
      → reached_part (registry_of engine old given (standings_of counted)) ≡ registry_of engine entries now (standings_of counts)
  is-part engine old counted given now same kept stand =
      let made = sym (made-kept (is_reached (made_by old) (is_root (standings_of counted))) old) ∙ ap made_by (sym kept ∙ entries-stay) in
      let standings = sym stand ∙ standings-stay in
      λ i. record { engine = engine; made = made i; given = sym same i; standings = standings i }
