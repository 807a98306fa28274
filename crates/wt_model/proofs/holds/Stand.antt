-- What keeps the groups, apart from what they reach: a change of one group's counts that makes no root keeps it.
use Rattle.std.proofs.Common.{◌≡◌, ◌≢◌, ℕ, zero, suc, ◌-◌, ◌≤◌, ◌⊎◌, inl, inr, true, false, List, [], ◌∷◌, length, map, slice_index, slice_set, refl, sym, ap, ◌∙◌, subst, arith, length-set}
use Rattle.std.proofs.lemmas.Bool.{false≢true}
use Rattle.wt_env.specs.Limits.{EngineParts}
use Rattle.wt_model.specs.Registered.{RegisteredGroup, GroupHolds}
use Rattle.wt_env.specs.Among.{Among}
use Rattle.wt_model.specs.Holds.{is_held, change}
use Rattle.wt_model.specs.Reach.{Reach}
use Rattle.wt_model.specs.Removal.{is_rooted, is_root, fewer, fewer_of}
use Rattle.wt_model.specs.Sound.{HoldsInvariant}
use Rattle.wt_model.specs.Holds.{no_longer}
use Rattle.wt_model.proofs.holds.Looked.{among-changed, numbers-change, root-less, rooted-fewer, rooted-no_longer}

pub record Stand (engine : EngineParts) (made : List RegisteredGroup) (standings : List GroupHolds) : Type 0 where
  pub numbers : map (λ s. s.number) standings ≡ map (λ m. m.number) made
  pub parties : (s : GroupHolds) → Among s standings → length s.holds ≡ engine.limits.parties
  pub bounded : (s : GroupHolds) (party : ℕ) → Among s standings → slice_index s.holds party ≤ engine.limits.holds
  pub unheld : (s : GroupHolds) → Among s standings → s.waits ≡ true → is_held s.holds ≡ false
  pub alone : (s : GroupHolds) (root : ℕ) → Among s standings → s.waits ≡ true → root ≢ s.number → is_root standings root ≡ true → Reach made root s.number → ⊥

pub stand : (engine : EngineParts) (made : List RegisteredGroup) (standings : List GroupHolds) → HoldsInvariant engine made standings → Stand engine made standings
stand engine made standings are = record { numbers = are.numbers; parties = are.counted.parties; bounded = are.counted.bounded; unheld = are.unheld; alone = are.alone }

-- the counts of one group
pub record IsSized (engine : EngineParts) (s : GroupHolds) : Type 0 where
  pub parties : length s.holds ≡ engine.limits.parties
  pub bounded : (party : ℕ) → slice_index s.holds party ≤ engine.limits.holds

pub sized : (engine : EngineParts) (made : List RegisteredGroup) (standings : List GroupHolds) → Stand engine made standings → (s : GroupHolds) → Among s standings → IsSized engine s
sized engine made standings are s at = record { parties = are.parties s at; bounded = λ party. are.bounded s party at }

pub sized-changed : (engine : EngineParts) (number : ℕ) (g : GroupHolds → GroupHolds) (standings : List GroupHolds)
    → ((s : GroupHolds) → Among s standings → IsSized engine s)
    → ((s : GroupHolds) → Among s standings → s.number ≡ number → IsSized engine s → IsSized engine (g s))
    → (s : GroupHolds) → Among s (change number g standings) → IsSized engine s
sized-changed engine number g standings each changed s at = by (among-changed number g standings s at)
  where
    by : Among s standings ⊎ ((t : GroupHolds) × Among t standings × (t.number ≡ number) × (s ≡ g t)) → IsSized engine s
    by (inl there) = each s there
    by (inr found) = subst (IsSized engine) (sym found.3) (changed found.0 found.1 found.2 (each found.0 found.1))

-- what waits after a change after which the changed one doesn't
pub still_there : (number : ℕ) (g : GroupHolds → GroupHolds) (standings : List GroupHolds) → ((s : GroupHolds) → (g s).waits ≡ false)
    → (s : GroupHolds) → Among s (change number g standings) → s.waits ≡ true → Among s standings
still_there number g standings quiet s at waits = by (among-changed number g standings s at)
  where
    by : Among s standings ⊎ ((t : GroupHolds) × Among t standings × (t.number ≡ number) × (s ≡ g t)) → Among s standings
    by (inl there) = there
    by (inr found) = absurd (false≢true (sym (quiet found.0) ∙ (ap (λ (x : GroupHolds). x.waits) (sym found.3) ∙ waits)))

-- a change that makes no root, after which the changed one doesn't wait
stand-less : (engine : EngineParts) (made : List RegisteredGroup) (standings : List GroupHolds) (number : ℕ) (g : GroupHolds → GroupHolds)
    → ((s : GroupHolds) → (g s).number ≡ s.number) → ((s : GroupHolds) → IsSized engine s → IsSized engine (g s)) → ((s : GroupHolds) → (g s).waits ≡ false)
    → ((s : GroupHolds) → is_rooted (g s) ≡ true → is_rooted s ≡ true)
    → Stand engine made standings → Stand engine made (change number g standings)
stand-less engine made standings number g same each quiet less are = record {
  numbers = numbers-change number g standings same ∙ are.numbers;
  parties = λ s at. (sizes s at).parties;
  bounded = λ s party at. (sizes s at).bounded party;
  unheld = λ s at waits. are.unheld s (still_there number g standings quiet s at waits) waits;
  alone = λ s root at waits other is reach. are.alone s root (still_there number g standings quiet s at waits) waits other (root-less number g standings root same less is) reach;
}
  where
    sizes : (s : GroupHolds) → Among s (change number g standings) → IsSized engine s
    sizes = sized-changed engine number g standings (sized engine made standings are) (λ s at own. each s)

pub bounded-set : (holds : List ℕ) (party n p bound : ℕ) → n ≤ bound → slice_index holds p ≤ bound → slice_index (slice_set holds party n) p ≤ bound
bounded-set [] party n p bound within before = before
bounded-set (count ∷ holds) zero n zero bound within before = within
bounded-set (count ∷ holds) zero n (suc p) bound within before = before
bounded-set (count ∷ holds) (suc party) n zero bound within before = before
bounded-set (count ∷ holds) (suc party) n (suc p) bound within before = bounded-set holds party n p bound within before

sized-fewer : (engine : EngineParts) (party : ℕ) (s : GroupHolds) → IsSized engine s → IsSized engine (fewer party s)
sized-fewer engine party s is =
    let before : slice_index s.holds party ≤ engine.limits.holds = is.bounded party in
    let less : slice_index s.holds party - 1 ≤ engine.limits.holds = omega (arith, before) in
    record {
      parties = length-set s.holds party (slice_index s.holds party - 1) ∙ is.parties;
      bounded = λ p. bounded-set s.holds party (slice_index s.holds party - 1) p engine.limits.holds less (is.bounded p);
    }

pub stand-fewer : (engine : EngineParts) (made : List RegisteredGroup) (standings : List GroupHolds) (party number : ℕ) → Stand engine made standings → Stand engine made (change number (fewer party) standings)
stand-fewer engine made standings party number are =
    stand-less engine made standings number (fewer party) (λ s. refl) (sized-fewer engine party) (λ s. refl) (rooted-fewer party) are

pub stand-no_longer : (engine : EngineParts) (made : List RegisteredGroup) (standings : List GroupHolds) (number : ℕ) → Stand engine made standings → Stand engine made (change number no_longer standings)
stand-no_longer engine made standings number are =
    stand-less engine made standings number no_longer (λ s. refl) (λ s is. record { parties = is.parties; bounded = is.bounded }) (λ s. refl) rooted-no_longer are

pub stand-fewer_of : (engine : EngineParts) (made : List RegisteredGroup) (standings : List GroupHolds) (party : ℕ) (numbers : List ℕ) → Stand engine made standings → Stand engine made (fewer_of party numbers standings)
stand-fewer_of engine made standings party [] are = are
stand-fewer_of engine made standings party (number ∷ numbers) are =
    stand-fewer_of engine made (change number (fewer party) standings) party numbers (stand-fewer engine made standings party number are)
