-- After a hold has ended, the group is reached exactly where something keeps it still.
use Rattle.std.proofs.Common.{◌≡◌, ℕ, zero, suc, ◌≤◌, ◌==◌, Bool, true, false, not, ◌&&◌, List, refl, sym, ◌∙◌, arith}
use Rattle.std.proofs.lemmas.Bool.{false≢true}
use Rattle.wt_model.specs.Removal.{is_root, fewer}
use Rattle.wt_model.proofs.holds.Leads.{root-reached}
use Rattle.wt_model.proofs.holds.Looked.{root-other}
use Rattle.wt_keys.specs.Entries.{made_by}
use Rattle.wt_holds.specs.declared.hold_counts.HoldCounts.{HoldCounts}
use Rattle.wt_holds.specs.declared.inner.TypeRegistryInner.{TypeRegistryInner}
use Rattle.wt_holds.specs.Counts.{standings_of, references_at}
use Rattle.wt_holds.specs.References.{references}
use Rattle.wt_holds.specs.Kept.{IsReady}
use Rattle.wt_holds.proofs.Ending.{lessened, still_reached}
use Rattle.wt_holds.proofs.counts.Falls.{is_free}
use Rattle.wt_holds.proofs.counts.Times.{same_number}
use Rattle.wt_holds.proofs.counts.Cascade.{unreached, still-reached}

module _ (groups : TypeRegistryInner) (ready : IsReady groups) (party number : ℕ) (after : List HoldCounts) (standings : standings_of after ≡ lessened groups party number)
    (same : (n : ℕ) → references_at after n ≡ references_at groups.counts.items n) where
  free-is : is_free after number ≡ ((references (made_by groups.entries) number == 0) && not (is_root (lessened groups party number) number))
  free-is = λ i. ((same number ∙ ready.references number) i == 0) && not (is_root (standings i) number)

  both : (a c : Bool) → (a && not c) ≡ true → (a ≡ true) × (c ≡ false)
  both true false h = (refl, refl)
  both true true h = absurd (false≢true h)
  both false c h = absurd (false≢true h)

  pub free-unreached : is_free after number ≡ true → still_reached groups party number ≡ false
  free-unreached free =
      let parts = both (references (made_by groups.entries) number == 0) (is_root (lessened groups party number) number) (sym free-is ∙ free) in
      unreached (made_by groups.entries) (is_root (lessened groups party number)) number (same_number (references (made_by groups.entries) number) 0 parts.0) parts.1

  pub kept-reached : is_free after number ≡ false → still_reached groups party number ≡ true
  kept-reached free = by (references (made_by groups.entries) number) refl (is_root (lessened groups party number) number) refl (sym free-is ∙ free)
    where
      some : 1 ≤ references (made_by groups.entries) number → still_reached groups party number ≡ true
      some more =
          still-reached groups.given.numbers (made_by groups.entries) (is_root (standings_of groups.counts.items)) (is_root (lessened groups party number)) number ready.rising ready.names_older ready.reached
          (λ k other. root-other number (fewer party) (standings_of groups.counts.items) k (λ s. refl) other) more

      by : (r : ℕ) → references (made_by groups.entries) number ≡ r → (b : Bool) → is_root (lessened groups party number) number ≡ b → ((r == 0) && not b) ≡ false → still_reached groups party number ≡ true
      by r e true f h = root-reached (made_by groups.entries) (is_root (lessened groups party number)) number f
      by zero e false f h = absurd (false≢true (sym h))
      by (suc r) e false f h = some (omega (arith, e))
