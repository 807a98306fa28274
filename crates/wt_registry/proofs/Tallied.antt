-- How large counts get, and the counts of new groups behind others.
use Rattle.std.proofs.Common.{◌≡◌, ℕ, zero, suc, ◌+◌, ◌*◌, ◌<◌, ◌≤◌, ◌==◌, ◌⊎◌, Bool, true, false, cond, inl, inr, List, [], ◌∷◌, ◌++◌, length, map, sum, slice_index, take, get_or, replicate, refl, sym, ap, subst, ◌∙◌, arith}
use Rattle.std.proofs.lemmas.List.{map-append, take_more}
use Rattle.std.proofs.lemmas.List.Sums.{sum_by-cons}
use Rattle.wt_env.specs.Among.{Among}
use Rattle.wt_env.specs.Limits.{EngineParts}
use Rattle.wt_env.proofs.lists.Mapped.{among_mapped}
use Rattle.wt_env.proofs.lists.Members.{among_pushed, among_either, among_before, among_behind}
use Rattle.wt_model.specs.Registered.{RegisteredGroup, GroupHolds}
use Rattle.wt_model.specs.Reach.{edges}
use Rattle.wt_model.specs.Holds.{times}
use Rattle.wt_model.specs.Limits.{references_of}
use Rattle.wt_model.specs.Registration.{new_holds}
use Rattle.wt_model.specs.Sound.{AreCounted, NamesOlder}
use Rattle.wt_keys.specs.declared.entry.RecGroupEntry.{RecGroupEntry}
use Rattle.wt_keys.specs.Entries.{made_of, made_by}
use Rattle.wt_holds.specs.declared.hold_counts.HoldCounts.{HoldCounts}
use Rattle.wt_holds.specs.Counts.{standing_of, standings_of, row_has, references_at, total_at, AreTotals}
use Rattle.wt_holds.specs.References.{references}
use Rattle.std.specs.List.{flat_map}
use Rattle.wt_registry.specs.LeadsTo.{IsFresh, CanLead}
use Rattle.wt_registry.proofs.Leading.{edges-among, edges-references}

-- ---- totals

sum-bounded : (holds : List ℕ) → ((k : ℕ) → slice_index holds k ≤ 1073741824) → sum holds ≤ length holds * 1073741824
sum-bounded [] each = omega arith
sum-bounded (h ∷ holds) each =
    let first = sum_by-cons (λ x. x) h holds in
    let here = each 0 in
    let rest = sum-bounded holds (λ k. each (suc k)) in
    omega (arith, first, here, rest)

pub total-bounded : (engine : EngineParts) (counts : List HoldCounts) (number : ℕ) → engine.limits.parties ≤ 1024 → engine.limits.holds ≤ 1073741824 → AreCounted engine (standings_of counts) → AreTotals counts
    → total_at counts number ≤ 1099511627776
total-bounded engine [] number parties holds are totals = omega arith
total-bounded engine (c ∷ counts) number parties holds are totals =
    by (c.number == number) (total-bounded engine counts number parties holds (record { parties = λ s at. are.parties s (inr at); bounded = λ s p at. are.bounded s p (inr at) }) (λ x at. totals x (inr at)))
  where
    own : c.total ≤ 1099511627776
    own =
        let told = totals c (inl refl) in
        let long = are.parties (standing_of c) (inl refl) in
        let most = sum-bounded c.holds.items (λ k. let bound = are.bounded (standing_of c) k (inl refl) in omega (arith, bound, holds)) in
        omega (arith, told, long, most, parties)

    by : (b : Bool) → total_at counts number ≤ 1099511627776 → cond b c.total (total_at counts number) ≤ 1099511627776
    by true later = own
    by false later = later

pub sum-zeros : (n : ℕ) → sum (replicate n 0) ≡ 0
sum-zeros zero = refl
sum-zeros (suc n) = let first = sum_by-cons (λ x. x) 0 (replicate n 0) in let rest = sum-zeros n in omega (arith, first, rest)

-- ---- new counts behind others

row-zeros : (f : HoldCounts → ℕ) (rows : List HoldCounts) (n : ℕ) → ((c : HoldCounts) → Among c rows → f c ≡ 0) → row_has f 0 rows n ≡ 0
row-zeros f [] n each = refl
row-zeros f (c ∷ rows) n each = by (c.number == n) (row-zeros f rows n (λ x at. each x (inr at)))
  where
    by : (b : Bool) → row_has f 0 rows n ≡ 0 → cond b (f c) (row_has f 0 rows n) ≡ 0
    by true later = each c (inl refl)
    by false later = later

pub row-behind : (f : HoldCounts → ℕ) (counts rows : List HoldCounts) (n : ℕ) → ((c : HoldCounts) → Among c rows → f c ≡ 0) → row_has f 0 (counts ++ rows) n ≡ row_has f 0 counts n
row-behind f [] rows n each = row-zeros f rows n each
row-behind f (c ∷ counts) rows n each = ap (cond (c.number == n) (f c)) (row-behind f counts rows n each)

pub totals-behind : (counts rows : List HoldCounts) → ((c : HoldCounts) → Among c rows → IsFresh c) → AreTotals counts → AreTotals (counts ++ rows)
totals-behind counts rows fresh are c at = by (among_either counts rows c at)
  where
    by : Among c counts ⊎ Among c rows → c.total ≡ sum c.holds.items
    by (inl there) = are c there
    by (inr new) = (fresh c new).total ∙ sym (fresh c new).none

-- ---- references

times-length : (n : ℕ) (xs : List ℕ) → times n xs ≤ length xs
times-length n [] = omega arith
times-length n (x ∷ xs) = by (x == n) (times-length n xs)
  where
    by : (b : Bool) → times n xs ≤ length xs → cond b (times n xs + 1) (times n xs) ≤ length (x ∷ xs)
    by true later = omega (arith, later)
    by false later = omega (arith, later)

references-bounded : (made : List RegisteredGroup) (n : ℕ) → references made n ≤ references_of made
references-bounded [] n = omega arith
references-bounded (g ∷ made) n = let here = times-length n (edges g) in let rest = references-bounded made n in omega (arith, here, rest)

pub references-append : (made more : List RegisteredGroup) (n : ℕ) → references (made ++ more) n ≡ references made n + references more n
references-append [] more n = omega arith
references-append (g ∷ made) more n = let rest = references-append made more n in omega (arith, rest)

-- the new groups' edges lead to what stands, and there is room for so many references
pub can-lead : (engine : EngineParts) (entries added : List RecGroupEntry) (counts rows : List HoldCounts) → NamesOlder (made_by (entries ++ added)) → map (λ s. s.number) (standings_of counts) ≡ map (λ m. m.number) (made_by entries)
    → standings_of rows ≡ map (new_holds engine) (made_by added) → ((c : HoldCounts) → Among c rows → IsFresh c) → ((n : ℕ) → references_at counts n ≡ references (made_by entries) n)
    → references_of (made_by (entries ++ added)) ≤ 1073741824 → CanLead (counts ++ rows) (flat_map (λ entry. edges (made_of entry)) added)
can-lead engine entries added counts rows older numbers new fresh told within = record {
  stand = λ n at.
      let leads = edges-among added n at in
      let named = older (made_of leads.0) n (among_mapped made_of (entries ++ added) leads.0 (among_behind entries added leads.0 leads.1)) leads.2 in
      stands n named.1 (among_either (made_by entries) (made_by added) named.1 (subst (Among named.1) (map-append made_of entries added) named.2)) named.3;
  room = λ n.
      let same = row-behind (λ c. c.references) counts rows n (λ c at. (fresh c at).references) in
      let more = edges-references added n in
      let all = ap (λ made. references made n) (map-append made_of entries added) ∙ references-append (made_by entries) (made_by added) n in
      let most = references-bounded (made_by (entries ++ added)) n in
      let own = told n in
      omega (arith, same, more, all, most, own, within);
}
  where
    row_numbers : (made : List RegisteredGroup) → map (λ (s : GroupHolds). s.number) (map (new_holds engine) made) ≡ map (λ (m : RegisteredGroup). m.number) made
    row_numbers [] = refl
    row_numbers (g ∷ made) = ap (λ ns. g.number ∷ ns) (row_numbers made)

    stands : (n : ℕ) (b : RegisteredGroup) → Among b (made_by entries) ⊎ Among b (made_by added) → b.number ≡ n → Among n (map (λ s. s.number) (standings_of (counts ++ rows)))
    stands n b where_it same =
        subst (Among n) (sym (ap (map (λ (s : GroupHolds). s.number)) (map-append standing_of counts rows) ∙ map-append (λ (s : GroupHolds). s.number) (standings_of counts) (standings_of rows)))
        (by where_it)
      where
        by : Among b (made_by entries) ⊎ Among b (made_by added) → Among n (map (λ (s : GroupHolds). s.number) (standings_of counts) ++ map (λ (s : GroupHolds). s.number) (standings_of rows))
        by (inl there) =
            among_before (map (λ (s : GroupHolds). s.number) (standings_of counts)) (map (λ (s : GroupHolds). s.number) (standings_of rows)) n
            (subst (Among n) (sym numbers) (subst (λ k. Among k (map (λ (m : RegisteredGroup). m.number) (made_by entries))) same (among_mapped (λ (m : RegisteredGroup). m.number) (made_by entries) b there)))
        by (inr there) =
            among_behind (map (λ (s : GroupHolds). s.number) (standings_of counts)) (map (λ (s : GroupHolds). s.number) (standings_of rows)) n
            (subst (Among n) (sym (ap (map (λ (s : GroupHolds). s.number)) new ∙ row_numbers (made_by added)))
            (subst (λ k. Among k (map (λ (m : RegisteredGroup). m.number) (made_by added))) same (among_mapped (λ (m : RegisteredGroup). m.number) (made_by added) b there)))

-- one more of them
pub fresh-pushed : (counts after : List HoldCounts) (c : HoldCounts) → after ≡ counts ++ c ∷ [] → ((x : HoldCounts) → Among x counts → IsFresh x) → IsFresh c → (x : HoldCounts) → Among x after → IsFresh x
fresh-pushed counts after c is fresh own x at = by (among_pushed counts c x (subst (Among x) is at))
  where
    by : Among x counts ⊎ (x ≡ c) → IsFresh x
    by (inl there) = fresh x there
    by (inr same) = subst IsFresh (sym same) own

pub rows-turn : (engine : EngineParts) (added : List RecGroupEntry) (k : ℕ) (e : RecGroupEntry) (counts after : List HoldCounts) (c : HoldCounts) → k < length added → e ≡ get_or added k e → after ≡ counts ++ c ∷ []
    → standings_of counts ≡ map (new_holds engine) (made_by (take k added)) → standing_of c ≡ new_holds engine (made_of e) → standings_of after ≡ map (new_holds engine) (made_by (take (k + 1) added))
rows-turn engine added k e counts after c below at is before own =
    ap standings_of is
    ∙ map-append standing_of counts (c ∷ [])
    ∙ (λ i. before i ++ own i ∷ [])
    ∙ sym (
    ap (λ (es : List RecGroupEntry). map (new_holds engine) (made_by es)) (take_more added k e below ∙ ap (λ (x : RecGroupEntry). take k added ++ x ∷ []) (sym at))
    ∙ ap (map (new_holds engine)) (map-append made_of (take k added) (e ∷ []))
    ∙ map-append (new_holds engine) (made_by (take k added)) (made_of e ∷ []))
