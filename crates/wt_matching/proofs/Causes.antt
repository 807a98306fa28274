-- Of two answers in order: an Err of the first is the answer, and an Ok of it leaves the second.
use Rattle.std.proofs.Common.{◌≡◌, Bool, true, false, Option, Some, None, refl, sym, ap}
use Rattle.std.proofs.lemmas.Bool.{false≢true}
use Rattle.std.specs.Prelude.{Result, Ok, Err}
use Rattle.wt_matching.specs.declared.unfit.Unfit.{Unfit}
use Rattle.wt_matching.specs.Import.{answer, first_of}

abbrev is_ok : Result (Unit {0}) Unfit → Bool
is_ok (Ok u) = true
is_ok (Err cause) = false

pub first_told : (a b : Option Unfit) (cause : Unfit) → answer a ≡ Err cause → answer (first_of a b) ≡ Err cause
first_told (Some found) b cause told = told
first_told None b cause told = absurd (false≢true (sym (ap is_ok told)))

pub second_told : (a b : Option Unfit) (u : Unit {0}) → answer a ≡ Ok u → answer (first_of a b) ≡ answer b
second_told (Some found) b u told = absurd (false≢true (ap is_ok told))
second_told None b u told = refl

-- for `#[tactic(auto, using(..))]`
pub ruleset in_order = (first_told, second_told)
