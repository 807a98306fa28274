-- Each index that a party names by a handle is that of a registered group, which the party holds.
use Rattle.std.proofs.Common.{◌≡◌, ℕ, inl, IsSome, List, slice_get, Option, Some, None, option_map, refl, sym, subst}
use Rattle.std.proofs.lemmas.Option.{option_and_then_some}
use Rattle.wt_env.specs.Among.{Among}
use Rattle.wt_env.specs.declared.types.VMSharedTypeIndex.{VMSharedTypeIndex}
use Rattle.wt_env.proofs.lists.Members.{some_same, get_among}
use Rattle.wt_registry.specs.Registered.{Registry}
use Rattle.wt_registry.specs.Indices.{locate, number_of}
use Rattle.wt_registry.specs.Holds.{Hold, Collection}
use Rattle.wt_commands.specs.declared.command.NamedType.{NamedType}
use Rattle.wt_commands.specs.declared.command.NamedType.TheVariants as named
use Rattle.wt_session.specs.declared.counts.ObjectCounts.{ObjectCounts}
use Rattle.wt_session.specs.declared.handle.Handle.{Handle}
use Rattle.wt_session.specs.declared.handle.Handle.TheVariants as handle
use Rattle.wt_session.specs.World.{held_in, type_at, module_at, index_named, HoldsNamedTypes, row_of}
use Rattle.wt_session.specs.Session.{IsTypeHandle, IsModuleHandle, AreHandles, IsKept, world_of}
use Rattle.wt_session.proofs.Padding.{row_of-padded}
use Rattle.wt_session.proofs.Places.{type-got, module-got}
use Rattle.wt_session.proofs.Times.{held-among, got-among}

abbrev IsHeldIn : Registry → VMSharedTypeIndex → List Handle → Type 0
IsHeldIn registry i row = (number : ℕ) × Among number (held_in row) × (number_of registry.made i ≡ Some number)

by-handle : (registry : Registry) (party : ℕ) (row : List Handle) (place : ℕ) (i : VMSharedTypeIndex) → AreHandles registry party row → option_map (λ (hold : Hold). hold.index) (type_at row place) ≡ Some i → IsHeldIn registry i row
by-handle registry party row place i are is = by (type_at row place) refl is
  where
    by : (hold : Option Hold) → type_at row place ≡ hold → option_map (λ (hold : Hold). hold.index) hold ≡ Some i → IsHeldIn registry i row
    by None at none = absurd (cc)
    by (Some hold) at same =
        let among = got-among row place (handle.Type hold) (type-got row place hold at) in
        let own : IsTypeHandle registry party hold = are.each (handle.Type hold) among in
        (hold.number, held-among row (handle.Type hold) hold.number among (inl refl), subst (λ (j : VMSharedTypeIndex). number_of registry.made j ≡ Some hold.number) (some_same same) own.located)

by-module : (registry : Registry) (party : ℕ) (row : List Handle) (place ty : ℕ) (i : VMSharedTypeIndex) → AreHandles registry party row → index_named row (named.OfModule place ty) ≡ Some i → IsHeldIn registry i row
by-module registry party row place ty i are is = option_and_then_some (λ (types : Collection). slice_get types.map ty) (module_at row place) i is there
  where
    there : (types : Collection) → module_at row place ≡ Some types → slice_get types.map ty ≡ Some i → IsHeldIn registry i row
    there types at got =
        let among = got-among row place (handle.Module types) (module-got row place types at) in
        let own : IsModuleHandle registry party types = are.each (handle.Module types) among in
        let found = own.located i (get_among types.map ty i got) in
        (found.0, held-among row (handle.Module types) found.0 among found.1, found.2)

named-in_row : (registry : Registry) (party : ℕ) (row : List Handle) (ty : NamedType) (i : VMSharedTypeIndex) → AreHandles registry party row → index_named row ty ≡ Some i → IsHeldIn registry i row
named-in_row registry party row (named.Handle place) i are is = by-handle registry party row place i are is
named-in_row registry party row (named.OfModule place ty) i are is = by-module registry party row place ty i are is

-- an index that a party names is that of a registered type
pub named-located : (registry : Registry) (party : ℕ) (row : List Handle) (ty : NamedType) (i : VMSharedTypeIndex) → AreHandles registry party row → index_named row ty ≡ Some i → IsSome (locate registry.made i)
named-located registry party row ty i are is =
    let held = named-in_row registry party row ty i are is in
    by held.0 (locate registry.made i) held.2
  where
    by : (number : ℕ) (at : Option (ℕ × ℕ)) → option_map (λ at. at.0) at ≡ Some number → IsSome at
    by number (Some at) told = refl
    by number None told = absurd (cc)

pub named-held : (registry : Registry) (counts : ObjectCounts) (rows : List (List Handle)) → IsKept registry rows → HoldsNamedTypes (world_of registry counts rows)
named-held registry counts rows kept party ty i is =
    let same = row_of-padded registry.engine.limits.parties party rows in
    subst (IsHeldIn registry i) (sym same)
    (named-in_row registry party (row_of party rows) ty i (kept.handles party) (subst (λ (row : List Handle). index_named row ty ≡ Some i) same is))
