-- What is true of a value that is there is true of the borrow of it.
use Rattle.std.proofs.Common.{◌≡◌, Bor, Option, Some, None, IfSome, refl, ap, sym}
use Rattle.std.specs.Prelude.{is_some}
use Rattle.std.specs.Option.{option_copied}

pub if_borrowed : {X : Type 0} (P : X → Type 0) (found : Option (Bor X)) (held : Option X) → option_copied found ≡ held → ((x : X) → held ≡ Some x → P x) → IfSome found (λ b. P b.now)
if_borrowed P None held copied each = tt
if_borrowed P (Some b) held copied each = each b.now (sym copied)

pub is_borrowed : {X : Type 0} (found : Option (Bor X)) (held : Option X) → option_copied found ≡ held → is_some found ≡ is_some held
is_borrowed None held copied = ap is_some copied
is_borrowed (Some b) held copied = ap is_some copied

-- what is true of each value that it may be
pub if_told : {X : Type 0} {P : X → Type 0} (found : Option X) → ((x : X) → found ≡ Some x → P x) → IfSome found P
if_told None each = tt
if_told (Some x) each = each x refl
