-- The marks of the groups that are held or wait, as one pass over the counts makes them.
use Rattle.std.proofs.Common.{◌≡◌, ℕ, inl, inr, Bool, List, [], ◌∷◌, map, refl, sym, ap, ◌∙◌}
use Rattle.std.proofs.lemmas.Simd.{map-map}
use Rattle.wt_holds.specs.declared.hold_counts.HoldCounts.{HoldCounts}
use Rattle.wt_model.specs.Registered.{RegisteredGroup, GroupHolds}
use Rattle.wt_env.specs.Among.{Among}
use Rattle.wt_model.specs.Sound.{IsRising}
use Rattle.wt_model.specs.Removal.{is_rooted, is_root}
use Rattle.wt_holds.specs.Marks.{marked}
use Rattle.wt_holds.specs.Counts.{standings_of}
use Rattle.wt_holds.proofs.marks.Marked.{marks-numbers}
use Rattle.wt_model.proofs.holds.Rooted.{rise_with, root-at}

-- whether each is held or waits
abbrev pub rooted_marks : List HoldCounts → List Bool
rooted_marks counts = map is_rooted (standings_of counts)

-- ---- by the groups' numbers

map-agree : (f g : GroupHolds → Bool) (standings : List GroupHolds) → ((s : GroupHolds) → Among s standings → f s ≡ g s) → map f standings ≡ map g standings
map-agree f g [] same = refl
map-agree f g (s ∷ standings) same =
    let first = same s (inl refl) in
    let rest = map-agree f g standings (λ t at. same t (inr at)) in
    λ i. first i ∷ rest i

-- they are what is told of each group's number
pub rooted-marked : (top : ℕ) (made : List RegisteredGroup) (standings : List GroupHolds) → IsRising 0 made top → map (λ s. s.number) standings ≡ map (λ m. m.number) made
    → map is_rooted standings ≡ marked (is_root standings) made
rooted-marked top made standings rising numbers =
    map-agree is_rooted (λ s. is_root standings s.number) standings (λ s at. sym (root-at 0 standings s (rise_with top made standings rising numbers) at))
    ∙ (sym (map-map (is_root standings) (λ (s : GroupHolds). s.number) standings)
    ∙ (ap (map (is_root standings)) numbers ∙ sym (marks-numbers (is_root standings) made)))
