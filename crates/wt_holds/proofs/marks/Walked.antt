-- One pass over the groups, from the newest on, marks what is reached.
use Rattle.std.proofs.Common.{◌≡◌, ℕ, suc, inl, inr, Bool, true, false, ◌||◌, ◌&&◌, List, [], ◌∷◌, length, refl, sym, ap, ◌∙◌}
use Rattle.std.proofs.lemmas.Bool.{false≢true}
use Rattle.wt_model.specs.Registered.{RegisteredGroup}
use Rattle.wt_env.specs.Among.{Among}
use Rattle.wt_model.specs.Sound.{IsRising, NamesOlder}
use Rattle.wt_model.specs.Reach.{leads_to}
use Rattle.wt_model.specs.Removal.{is_reached}
use Rattle.wt_holds.specs.Marks.{marked, marked_leads}
use Rattle.wt_model.proofs.holds.Leads.{Fall, fall, above_low, not_led}

-- the marks after the pass, where these are the marks before
abbrev pub walked : List RegisteredGroup → List Bool → List Bool
walked [] marks = marks
walked (made ∷ rest) [] = []
walked (made ∷ rest) (mark ∷ marks) = (mark || marked_leads rest (walked rest marks) made.number) ∷ walked rest marks

pub length-walked : (made : List RegisteredGroup) (marks : List Bool) → length (walked made marks) ≡ length marks
length-walked [] marks = refl
length-walked (m ∷ made) [] = refl
length-walked (m ∷ made) (mark ∷ marks) = ap suc (length-walked made marks)

-- ---- what it marks

reordered : (r nb nm w : Bool) → ((r || nb) || (nm && w)) ≡ (r || ((w && nm) || nb))
reordered true nb nm w = refl
reordered false true true true = refl
reordered false true true false = refl
reordered false true false true = refl
reordered false true false false = refl
reordered false false true true = refl
reordered false false true false = refl
reordered false false false true = refl
reordered false false false false = refl

or_nothing : (r : Bool) → r ≡ (r || false)
or_nothing true = refl
or_nothing false = refl

-- what is reached is a root, or a group that the pass marks leads to it
reached-walked : (made : List RegisteredGroup) (root : ℕ → Bool) (number : ℕ) → is_reached made root number ≡ (root number || marked_leads made (walked made (marked root made)) number)
reached-walked [] root number = or_nothing (root number)
reached-walked (m ∷ made) root number =
    let own = reached-walked made root m.number in
    let here = reached-walked made root number in
    let by : Bool = marked_leads made (walked made (marked root made)) number in
    (λ i. here i || (leads_to m number && own i))
    ∙ reordered (root number) by (leads_to m number) (root m.number || marked_leads made (walked made (marked root made)) m.number)

marked-agree : (f g : ℕ → Bool) (made : List RegisteredGroup) → ((m : RegisteredGroup) → Among m made → f m.number ≡ g m.number) → marked f made ≡ marked g made
marked-agree f g [] same = refl
marked-agree f g (m ∷ made) same =
    let first = same m (inl refl) in
    let rest = marked-agree f g made (λ n at. same n (inr at)) in
    λ i. first i ∷ rest i

nothing_more : (a b : Bool) → a ≡ (a || (b && a))
nothing_more true b = refl
nothing_more false true = refl
nothing_more false false = refl

not_second : (a b c : Bool) → b ≡ false → a ≡ (a || (b && c))
not_second true b c e = refl
not_second false true c e = absurd (false≢true (sym e))
not_second false false c e = refl

walked-from : (low top : ℕ) (made : List RegisteredGroup) (root : ℕ → Bool) → IsRising low made top → Fall made → walked made (marked root made) ≡ marked (is_reached made root) made
walked-from low top [] root rising falls = refl
walked-from low top (x ∷ made) root rising falls =
    let first : (root x.number || marked_leads made (walked made (marked root made)) x.number) ≡ is_reached (x ∷ made) root x.number =
    sym (reached-walked made root x.number) ∙ nothing_more (is_reached made root x.number) (leads_to x x.number) in
    let rest = walked-from x.number top made root rising.1 (λ a r at. falls a r (inr at)) in
    let same : marked (is_reached made root) made ≡ marked (is_reached (x ∷ made) root) made =
    marked-agree (is_reached made root) (is_reached (x ∷ made) root) made
    (λ m at. not_second (is_reached made root m.number) (leads_to x m.number) (is_reached made root x.number) (not_led (x ∷ made) x m.number falls (inl refl) (above_low x.number top made m rising.1 at))) in
    λ i. first i ∷ (rest ∙ same) i

pub walked-reached : (top : ℕ) (made : List RegisteredGroup) (root : ℕ → Bool) → IsRising 0 made top → NamesOlder made → walked made (marked root made) ≡ marked (is_reached made root) made
walked-reached top made root rising older = walked-from 0 top made root rising (fall made older)
