-- One step of a removal, in what the fields hold.
use Rattle.std.proofs.Common.{◌≡◌, ℕ, ◌+◌, ◌-◌, ◌≤◌, ◌==◌, Bool, true, false, cond, not, ◌&&◌, ◌||◌, inl, inr, List, [], ◌∷◌, ◌++◌, length, map, Some, None, refl, sym, ap, subst, ◌∙◌, arith}
use Rattle.std.specs.List.{find, filter}
use Rattle.std.proofs.lemmas.Bool.{false≢true, or_right, eqb-true}
use Rattle.std.proofs.lemmas.List.{length-map}
use Rattle.wt_env.specs.Among.{Among}
use Rattle.wt_env.proofs.lists.Mapped.{among_mapped}
use Rattle.wt_env.proofs.lists.Members.{find-found, find-none}
use Rattle.wt_model.specs.Registered.{RegisteredGroup, GroupHolds}
use Rattle.wt_model.specs.Reach.{edges}
use Rattle.wt_model.specs.Holds.{is_held, waits_at, change, is_registered}
use Rattle.wt_model.specs.Removal.{is_root, is_reached, kept_made, kept_standings}
use Rattle.wt_model.specs.Sound.{IsRising, NamesOlder}
use Rattle.wt_model.proofs.holds.Looked.{numbers-change, root-other, numbers-kept}
use Rattle.wt_keys.specs.declared.entry.RecGroupEntry.{RecGroupEntry}
use Rattle.wt_keys.specs.Entries.{made_of, made_by}
use Rattle.wt_holds.specs.declared.hold_counts.HoldCounts.{HoldCounts}
use Rattle.wt_holds.specs.Counts.{standings_of, references_at, AreTotals}
use Rattle.wt_holds.specs.References.{pushed_if, Cascading}
use Rattle.wt_holds.specs.Marks.{kept_entries}
use Rattle.wt_holds.specs.Kept.{Falling}
use Rattle.wt_holds.proofs.marks.Marked.{made-kept}
use Rattle.wt_holds.proofs.counts.Cascade.{Due, stack-room, lowered, ended}
use Rattle.wt_holds.proofs.counts.Popped.{but, popped, popped-due, rising-popped, older-popped, kept-popped, root-popped, length-without}

pub falls-room : (made : List RegisteredGroup) (counts : List HoldCounts) (stack : List ℕ) (room : ℕ) (pending : List ℕ) → Falling made counts stack room pending → length stack ≤ room
falls-room made counts stack room pending is =
    let short = stack-room made (is_root (standings_of counts)) (references_at counts) stack pending is.cascading in
    let within = is.within in
    omega (arith, short, within)

-- whether nothing keeps a group
abbrev pub is_free : List HoldCounts → ℕ → Bool
is_free counts n = (references_at counts n == 0) && not (is_root (standings_of counts) n)

module _ (made : List RegisteredGroup) (counts after : List HoldCounts) (stack : List ℕ) (room n : ℕ) where
  pub falls-lowered : (rest : List ℕ) → standings_of after ≡ standings_of counts → ((k : ℕ) → references_at after k ≡ cond (n == k) (references_at counts k - 1) (references_at counts k))
      → (AreTotals counts → AreTotals after) → Falling made counts stack room (n ∷ rest) → Falling made after (stack ++ pushed_if (is_free after n) n) room rest
  falls-lowered rest same lowers totals is = record {
    totals = totals is.totals;
    numbers = ap (map (λ (s : GroupHolds). s.number)) same ∙ is.numbers;
    within = is.within;
    cascading =
        subst (λ (standings : List GroupHolds). Cascading made (is_root standings) (references_at after) (stack ++ pushed_if (is_free after n) n) rest) (sym same)
        (lowered made (is_root (standings_of counts)) (references_at counts) (references_at after) stack n rest (is_free after n) lowers
        (ap (λ (standings : List GroupHolds). (references_at after n == 0) && not (is_root standings n)) same) is.cascading);
  }

  -- so many as fit
  pub lowered-room : (rest : List ℕ) → standings_of after ≡ standings_of counts → ((k : ℕ) → references_at after k ≡ cond (n == k) (references_at counts k - 1) (references_at counts k))
      → (AreTotals counts → AreTotals after) → Falling made counts stack room (n ∷ rest) → length (stack ++ pushed_if (is_free after n) n) ≤ room
  lowered-room rest same lowers totals is = falls-room made after (stack ++ pushed_if (is_free after n) n) room rest (falls-lowered rest same lowers totals is)

  -- what kept it ends
  pub falls-ended : (g : GroupHolds → GroupHolds) → ((s : GroupHolds) → (g s).number ≡ s.number) → is_root (standings_of counts) n ≡ true → is_registered made n ≡ true
      → standings_of after ≡ change n g (standings_of counts) → ((k : ℕ) → references_at after k ≡ references_at counts k) → AreTotals after
      → Falling made counts stack room [] → Falling made after (stack ++ pushed_if (is_free after n) n) room []
  falls-ended g same root stands changed equal totals is = record {
    totals = totals;
    numbers = ap (map (λ (s : GroupHolds). s.number)) changed ∙ (numbers-change n g (standings_of counts) same ∙ is.numbers);
    within = is.within;
    cascading =
        subst (λ (count : ℕ → ℕ). Cascading made (is_root (standings_of after)) count (stack ++ pushed_if (is_free after n) n) []) (λ i k. sym (equal k) i)
        (ended made (is_root (standings_of counts)) (is_root (standings_of after)) (references_at counts) stack n [] (is_free after n) root stands
        (λ k other. ap (λ (standings : List GroupHolds). is_root standings k) changed ∙ root-other n g (standings_of counts) k same other)
        (ap (λ c. (c == 0) && not (is_root (standings_of after) n)) (equal n)) is.cascading);
  }

  pub ended-room : (g : GroupHolds → GroupHolds) → ((s : GroupHolds) → (g s).number ≡ s.number) → is_root (standings_of counts) n ≡ true → is_registered made n ≡ true
      → standings_of after ≡ change n g (standings_of counts) → ((k : ℕ) → references_at after k ≡ references_at counts k) → AreTotals after
      → Falling made counts stack room [] → length (stack ++ pushed_if (is_free after n) n) ≤ room
  ended-room g same root stands changed equal totals is = falls-room made after (stack ++ pushed_if (is_free after n) n) room [] (falls-ended g same root stands changed equal totals is)

-- what waits is a root
pub waits-rooted : (standings : List GroupHolds) (n : ℕ) → waits_at standings n ≡ true → is_root standings n ≡ true
waits-rooted [] n waits = waits
waits-rooted (s ∷ standings) n waits = by (s.number == n) waits (waits-rooted standings n)
  where
    by : (b : Bool) → cond b s.waits (waits_at standings n) ≡ true → (waits_at standings n ≡ true → is_root standings n ≡ true) → cond b (is_held s.holds || s.waits) (is_root standings n) ≡ true
    by true own later = or_right (is_held s.holds) s.waits own
    by false there later = later there

-- ---- a group is taken away

module _ (top : ℕ) (entries : List RecGroupEntry) (counts : List HoldCounts) (stack : List ℕ) (room n : ℕ) (rising : IsRising 0 (made_by entries) top) (older : NamesOlder (made_by entries))
    (is : Falling (made_by entries) counts (stack ++ n ∷ []) room []) where
  abbrev made : List RegisteredGroup
  made = made_by entries

  abbrev root : ℕ → Bool
  root = is_root (standings_of counts)

  due : Due made root (references_at counts) n
  due = popped-due top made root (references_at counts) stack n rising older is.cascading

  pub never-missing : find (λ e. e.number == n) entries ≡ None → ⊥
  never-missing none = false≢true (sym (unregistered entries (λ e at. find-none (λ (x : RecGroupEntry). x.number == n) entries none e at)) ∙ due.registered)
    where
      unregistered : (list : List RecGroupEntry) → ((e : RecGroupEntry) → Among e list → (e.number == n) ≡ false) → is_registered (made_by list) n ≡ false
      unregistered [] each = refl
      unregistered (e ∷ list) each = ap (λ b. b || is_registered (made_by list) n) (each e (inl refl)) ∙ unregistered list (λ x at. each x (inr at))

  module _ (entry : RecGroupEntry) (found : Some entry ≡ find (λ e. e.number == n) entries) (left : List RecGroupEntry) (is_left : left ≡ filter (λ e. not (e.number == n)) entries) where
    passes : ((entry.number == n) ≡ true) × Among entry entries
    passes = find-found (λ (x : RecGroupEntry). x.number == n) entries entry (sym found)

    own : entry.number ≡ n
    own = eqb-true entry.number n passes.0

    there : Among (made_of entry) made
    there = among_mapped made_of entries entry passes.1

    pub made-left : made_by left ≡ kept_made (but n) made
    made-left = ap made_by is_left ∙ made-kept (but n) entries

    pub shorter : length left + 1 ≡ length entries
    shorter =
        let without = length-without top n 0 made (made_of entry) rising there own in
        let before = length-map entries made_of in
        let after = length-map left made_of in
        let same = ap length made-left in
        omega (arith, without, before, after, same)

    pub rising-left : IsRising 0 (made_by left) top
    rising-left = subst (λ (list : List RegisteredGroup). IsRising 0 list top) (sym made-left) (rising-popped top made root (references_at counts) stack n rising older is.cascading)

    pub older-left : NamesOlder (made_by left)
    older-left = subst NamesOlder (sym made-left) (older-popped top made root (references_at counts) stack n rising older is.cascading)

    module _ (after : List HoldCounts) (standings : standings_of after ≡ kept_standings (but n) (standings_of counts)) where
      same_roots : (k : ℕ) → is_root (standings_of after) k ≡ root k
      same_roots k = ap (λ (list : List GroupHolds). is_root list k) standings ∙ root-popped (standings_of counts) n due.unrooted k

      pub falls-popped : ((k : ℕ) → references_at after k ≡ cond (n == k) 0 (references_at counts k)) → AreTotals after → Falling (made_by left) after stack room (edges (made_of entry))
      falls-popped lowers totals =
          subst (λ (list : List RegisteredGroup). Falling list after stack room (edges (made_of entry))) (sym made-left)
          (record {
            totals = totals;
            numbers = ap (map (λ (s : GroupHolds). s.number)) standings ∙ numbers-kept (but n) made (standings_of counts) is.numbers;
            within =
                let within = is.within in
                let without = length-without top n 0 made (made_of entry) rising there own in
                omega (arith, within, without);
            cascading = popped top made root (references_at counts) stack n rising older is.cascading (made_of entry) (is_root (standings_of after)) (references_at after) there own same_roots lowers;
          })

      -- what is kept is the same
      pub kept-left : kept_entries (is_reached (made_by left) (is_root (standings_of after))) left ≡ kept_entries (is_reached made root) entries
      kept-left =
          (λ i. kept_entries (is_reached (made-left i) (is_root (standings_of after))) (is_left i))
          ∙ kept-popped top made root (references_at counts) stack n rising older is.cascading (λ (e : RecGroupEntry). e.number) entries (is_root (standings_of after)) same_roots

      pub kept-standing : kept_standings (is_reached (made_by left) (is_root (standings_of after))) (standings_of after) ≡ kept_standings (is_reached made root) (standings_of counts)
      kept-standing =
          ap (λ (list : List RegisteredGroup). kept_standings (is_reached list (is_root (standings_of after))) (standings_of after)) made-left
          ∙ ap (kept_standings (is_reached (kept_made (but n) made) (is_root (standings_of after)))) standings
          ∙ kept-popped top made root (references_at counts) stack n rising older is.cascading (λ (s : GroupHolds). s.number) (standings_of counts) (is_root (standings_of after)) same_roots
