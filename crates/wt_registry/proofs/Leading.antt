-- References that are raised one after another.
use Rattle.std.proofs.Common.{◌≡◌, ℕ, ◌+◌, ◌<◌, ◌⊎◌, inl, inr, List, [], ◌∷◌, ◌++◌, length, map, take, drop, get_or, Option, Some, None, refl, sym, ap, subst, ◌∙◌, arith}
use Rattle.std.specs.List.{flat_map, filter_map}
use Rattle.std.specs.Option.{option_to_list}
use Rattle.std.proofs.lemmas.List.{append-nil, append_assoc, take_more, take-append-drop}
use Rattle.std.proofs.lemmas.List.Concat.{flat_map-append}
use Rattle.wt_env.specs.Among.{Among}
use Rattle.wt_env.proofs.lists.Members.{among_before, among_behind, among_either}
use Rattle.wt_model.specs.Registered.{GroupHolds}
use Rattle.wt_model.specs.Reach.{edges}
use Rattle.wt_model.specs.Holds.{times, change, no_longer, stop_waiting}
use Rattle.wt_model.specs.Registration.{stop_waiting_each}
use Rattle.wt_model.proofs.holds.Looked.{numbers-change}
use Rattle.wt_keys.specs.declared.entry.RecGroupEntry.{RecGroupEntry}
use Rattle.wt_keys.specs.Entries.{made_of, made_by}
use Rattle.wt_holds.specs.declared.hold_counts.HoldCounts.{HoldCounts}
use Rattle.wt_holds.specs.Counts.{standings_of}
use Rattle.wt_holds.specs.References.{references}
use Rattle.wt_holds.proofs.counts.Times.{times-append}
use Rattle.wt_registry.specs.LeadsTo.{CanLead, LeadsTo}
use Rattle.wt_registry.proofs.StoppedWaiting.{stop_waiting-append}

pub leads-none : (counts : List HoldCounts) → LeadsTo counts counts []
leads-none counts = record { standings = refl; references = λ n. omega arith; more = λ n. refl; totals = λ are. are }

pub leads-joined : (a b c : List HoldCounts) (xs ys : List ℕ) → LeadsTo a b xs → LeadsTo b c ys → LeadsTo a c (xs ++ ys)
leads-joined a b c xs ys first second = record {
  standings = second.standings ∙ ap (stop_waiting ys) first.standings ∙ sym (stop_waiting-append xs ys (standings_of a));
  references = λ n. let one = first.references n in let two = second.references n in let all = times-append n xs ys in omega (arith, one, two, all);
  more = λ n. second.more n ∙ first.more n;
  totals = λ are. second.totals (first.totals are);
}

numbers-stop : (numbers : List ℕ) (standings : List GroupHolds) → map (λ s. s.number) (stop_waiting numbers standings) ≡ map (λ s. s.number) standings
numbers-stop [] standings = refl
numbers-stop (n ∷ numbers) standings = numbers-stop numbers (change n no_longer standings) ∙ numbers-change n no_longer standings (λ s. refl)

-- what comes next can be led to still
pub can-next : (a b : List HoldCounts) (all before next rest : List ℕ) → all ≡ before ++ (next ++ rest) → CanLead a all → LeadsTo a b before → CanLead b next
can-next a b all before next rest split can led = record {
  stand = λ n at.
      subst (Among n) (sym (ap (map (λ (s : GroupHolds). s.number)) led.standings ∙ numbers-stop before (standings_of a)))
      (can.stand n (subst (Among n) (sym split) (among_behind before (next ++ rest) n (among_before next rest n at))));
  room = λ n.
      let room = can.room n in
      let same = ap (times n) split ∙ times-append n before (next ++ rest) in
      let more = times-append n next rest in
      let told = led.references n in
      omega (arith, room, same, more, told);
}

module _ {A : Type 0} (f : A → List ℕ) (xs : List A) (k : ℕ) (d : A) (below : k < length xs) where
  flat-one : (x : A) → flat_map f (x ∷ []) ≡ f x
  flat-one x = append-nil (f x)

  pub flat-more : flat_map f (take (k + 1) xs) ≡ flat_map f (take k xs) ++ f (get_or xs k d)
  flat-more = ap (flat_map f) (take_more xs k d below) ∙ flat_map-append f (take k xs) (get_or xs k d ∷ []) ∙ ap (λ ys. flat_map f (take k xs) ++ ys) (flat-one (get_or xs k d))

  pub flat-split : flat_map f xs ≡ flat_map f (take k xs) ++ (f (get_or xs k d) ++ flat_map f (drop (k + 1) xs))
  flat-split =
      ap (flat_map f) (sym (take-append-drop (k + 1) xs))
      ∙ flat_map-append f (take (k + 1) xs) (drop (k + 1) xs)
      ∙ ap (λ ys. ys ++ flat_map f (drop (k + 1) xs)) flat-more
      ∙ append_assoc (flat_map f (take k xs)) (f (get_or xs k d)) (flat_map f (drop (k + 1) xs))

  -- a turn of a loop
  pub can-turn : (a b : List HoldCounts) → CanLead a (flat_map f xs) → LeadsTo a b (flat_map f (take k xs)) → CanLead b (f (get_or xs k d))
  can-turn a b can led = can-next a b (flat_map f xs) (flat_map f (take k xs)) (f (get_or xs k d)) (flat_map f (drop (k + 1) xs)) flat-split can led

  pub leads-turn : (a b c : List HoldCounts) → LeadsTo a b (flat_map f (take k xs)) → LeadsTo b c (f (get_or xs k d)) → LeadsTo a c (flat_map f (take (k + 1) xs))
  leads-turn a b c first second = subst (LeadsTo a c) (sym flat-more) (leads-joined a b c (flat_map f (take k xs)) (f (get_or xs k d)) first second)

-- ---- the edges of entries

named-flat : (references : List (ℕ × ℕ)) → map (λ r. r.0) references ≡ flat_map (λ r. r.0 ∷ []) references
named-flat [] = refl
named-flat (r ∷ references) = ap (λ ns. r.0 ∷ ns) (named-flat references) ∙ sym (flat_map-append (λ (s : ℕ × ℕ). s.0 ∷ []) (r ∷ []) references)

told-flat : (trampolines : List (Option ℕ)) → filter_map (λ t. t) trampolines ≡ flat_map (λ t. option_to_list t) trampolines
told-flat [] = refl
told-flat (Some n ∷ trampolines) = ap (λ ns. n ∷ ns) (told-flat trampolines) ∙ sym (flat_map-append (λ (t : Option ℕ). option_to_list t) (Some n ∷ []) trampolines)
told-flat (None ∷ trampolines) = told-flat trampolines ∙ sym (flat_map-append (λ (t : Option ℕ). option_to_list t) (None ∷ []) trampolines)

pub edges-flat : (entry : RecGroupEntry) → edges (made_of entry) ≡ flat_map (λ r. r.0 ∷ []) entry.outer ++ flat_map (λ t. option_to_list t) entry.trampolines
edges-flat entry = λ i. named-flat entry.outer i ++ told-flat entry.trampolines i

flat-first : (entry : RecGroupEntry) (entries : List RecGroupEntry) → flat_map (λ e. edges (made_of e)) (entry ∷ entries) ≡ edges (made_of entry) ++ flat_map (λ e. edges (made_of e)) entries
flat-first entry entries =
    flat_map-append (λ (e : RecGroupEntry). edges (made_of e)) (entry ∷ []) entries ∙ ap (λ ns. ns ++ flat_map (λ (e : RecGroupEntry). edges (made_of e)) entries) (append-nil (edges (made_of entry)))

pub edges-stop : (entries : List RecGroupEntry) (standings : List GroupHolds) → stop_waiting (flat_map (λ e. edges (made_of e)) entries) standings ≡ stop_waiting_each (made_by entries) standings
edges-stop [] standings = refl
edges-stop (entry ∷ entries) standings =
    ap (λ ns. stop_waiting ns standings) (flat-first entry entries)
    ∙ stop_waiting-append (edges (made_of entry)) (flat_map (λ (e : RecGroupEntry). edges (made_of e)) entries) standings
    ∙ edges-stop entries (stop_waiting (edges (made_of entry)) standings)

pub edges-references : (entries : List RecGroupEntry) (n : ℕ) → times n (flat_map (λ e. edges (made_of e)) entries) ≡ references (made_by entries) n
edges-references [] n = refl
edges-references (entry ∷ entries) n =
    ap (times n) (flat-first entry entries)
    ∙ times-append n (edges (made_of entry)) (flat_map (λ (e : RecGroupEntry). edges (made_of e)) entries)
    ∙ ap (λ t. times n (edges (made_of entry)) + t) (edges-references entries n)

pub edges-among : (entries : List RecGroupEntry) (n : ℕ) → Among n (flat_map (λ e. edges (made_of e)) entries) → (entry : RecGroupEntry) × Among entry entries × Among n (edges (made_of entry))
edges-among [] n at = absurd at
edges-among (entry ∷ entries) n at = by (among_either (edges (made_of entry)) (flat_map (λ (e : RecGroupEntry). edges (made_of e)) entries) n (subst (Among n) (flat-first entry entries) at)) (edges-among entries n)
  where
    by : Among n (edges (made_of entry)) ⊎ Among n (flat_map (λ (e : RecGroupEntry). edges (made_of e)) entries)
        → (Among n (flat_map (λ (e : RecGroupEntry). edges (made_of e)) entries) → (e : RecGroupEntry) × Among e entries × Among n (edges (made_of e)))
        → (e : RecGroupEntry) × Among e (entry ∷ entries) × Among n (edges (made_of e))
    by (inl here) later = (entry, inl refl, here)
    by (inr there) later = let found = later there in (found.0, inr found.1, found.2)
