-- A list that is changed at one place, and what stands at a place of a party's handles.
use Rattle.std.proofs.Common.{◌≡◌, ℕ, zero, suc, List, [], ◌∷◌, slice_get, slice_set, Option, Some, None, refl, sym, ap}
use Rattle.wt_registry.specs.Holds.{Hold}
use Rattle.wt_registry.specs.Holds.{Collection}
use Rattle.wt_session.specs.declared.handle.Handle.{Handle}
use Rattle.wt_session.specs.declared.handle.Handle.TheVariants as handle
use Rattle.wt_session.specs.World.{type_in, type_at, debt_in, debt_at, module_in, module_at}

pub set-twice : {A : Type 0} (xs : List A) (place : ℕ) (x y : A) → slice_set (slice_set xs place x) place y ≡ slice_set xs place y
set-twice [] place x y = refl
set-twice (z ∷ xs) zero x y = refl
set-twice (z ∷ xs) (suc place) x y = ap (λ rest. z ∷ rest) (set-twice xs place x y)

same_some : {A : Type 0} (x y : A) → Some x ≡ Some y → x ≡ y
same_some x y h = cc

pub set-own : {A : Type 0} (xs : List A) (place : ℕ) (x : A) → slice_get xs place ≡ Some x → slice_set xs place x ≡ xs
set-own [] place x is = refl
set-own (z ∷ xs) zero x is = ap (λ first. first ∷ xs) (sym (same_some z x is))
set-own (z ∷ xs) (suc place) x is = ap (λ rest. z ∷ rest) (set-own xs place x is)

none-some : {A : Type 0} (x : A) → None ≡ Some x → ⊥
none-some x h = absurd (cc)

pub type-got : (row : List Handle) (place : ℕ) (hold : Hold) → type_at row place ≡ Some hold → slice_get row place ≡ Some (handle.Type hold)
type-got row place hold at = by (slice_get row place) at
  where
    by : (got : Option Handle) → type_in got ≡ Some hold → got ≡ Some (handle.Type hold)
    by (Some (handle.Type other)) is = ap (λ (h : Hold). Some (handle.Type h)) (same_some other hold is)
    by other is = absurd (none-some hold is)

pub module-got : (row : List Handle) (place : ℕ) (types : Collection) → module_at row place ≡ Some types → slice_get row place ≡ Some (handle.Module types)
module-got row place types at = by (slice_get row place) at
  where
    by : (got : Option Handle) → module_in got ≡ Some types → got ≡ Some (handle.Module types)
    by (Some (handle.Module other)) is = ap (λ (t : Collection). Some (handle.Module t)) (same_some other types is)
    by other is = absurd (none-some types is)

pub no-type : (row : List Handle) (place : ℕ) (h : Handle) → slice_get row place ≡ Some h → ((hold : Hold) → h ≡ handle.Type hold → ⊥) → type_at row place ≡ None
no-type row place (handle.Type hold) is not = absurd (not hold refl)
no-type row place other is not = ap type_in is

pub no-debt : (row : List Handle) (place : ℕ) (h : Handle) → slice_get row place ≡ Some h → ((number : ℕ) → h ≡ handle.Owed number → ⊥) → debt_at row place ≡ None
no-debt row place (handle.Owed number) is not = absurd (not number refl)
no-debt row place other is not = ap debt_in is

pub no-module : (row : List Handle) (place : ℕ) (h : Handle) → slice_get row place ≡ Some h → ((types : Collection) → h ≡ handle.Module types → ⊥) → module_at row place ≡ None
no-module row place (handle.Module types) is not = absurd (not types refl)
no-module row place other is not = ap module_in is
