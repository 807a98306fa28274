-- A hold of the type of an index is there where the index names a registered type.
use Rattle.std.proofs.Common.{◌≡◌, ℕ, true, false, Option, Some, None, Result, Ok, Err, IsSome, is_some, option_map, refl, ap, sym}
use Rattle.std.specs.Option.{option_map_or}
use Rattle.std.proofs.lemmas.Bool.{false≢true}
use Rattle.wt_env.specs.declared.types.VMSharedTypeIndex.{VMSharedTypeIndex}
use Rattle.wt_env.specs.declared.types.Kind.{Kind}
use Rattle.wt_env.specs.declared.types.WasmSubType.{WasmSubType}
use Rattle.wt_tree.specs.Tree.{ClosedTree}
use Rattle.wt_tree.specs.Kinds.{kind_eq, member_kind}
use Rattle.wt_model.specs.declared.refusal.Full.{Full}
use Rattle.wt_model.specs.Registered.{Registry}
use Rattle.wt_model.specs.Indices.{locate}
use Rattle.wt_model.specs.Trees.{trees}
use Rattle.wt_model.specs.Holds.{Hold, hold, root, rooted, rooted_after}
use Rattle.wt_model.specs.Shown.{sub_type_at}
use Rattle.wt_model.specs.Sound.{IsSound}
use Rattle.wt_model.proofs.subtyping.ShownTypes.{sound-shows}
use Rattle.wt_core.specs.CoreTypes.{IsOfKind}

-- the index of a type of a kind is that of a registered type
located : (registry : Registry) → IsSound registry → (kind : Kind) (i : VMSharedTypeIndex) → IsOfKind registry.made kind i → IsSome (locate registry.made i)
located registry sound kind i is = by (sub_type_at registry.made i) refl is
  where
    there : (found : Option (ℕ × ℕ)) (t : ClosedTree) → option_map (λ at. record { tree = trees registry.made at.0; place = at.1 }) found ≡ Some t → IsSome found
    there None t none = absurd (cc)
    there (Some at) t some = refl

    by : (found : Option WasmSubType) → sub_type_at registry.made i ≡ found → option_map_or (λ (ty : WasmSubType). kind_eq (member_kind ty) kind) found false ≡ true → IsSome (locate registry.made i)
    by None none is = absurd (false≢true is)
    by (Some ty) shown is =
        let here = sound-shows registry sound i ty shown in
        there (locate registry.made i) here.0 here.1

abbrev rooted_hold : Result (Option Hold × Registry) Full → Option Hold
rooted_hold (Ok made) = made.0
rooted_hold (Err full) = None

pub rooted-some : (registry after : Registry) (party : ℕ) (kind : Kind) (i : VMSharedTypeIndex) (found : Option Hold) → IsSound registry → IsOfKind registry.made kind i
    → root registry party i ≡ Ok (found, after) → IsSome found
rooted-some registry after party kind i found sound is rooted-is = by (locate registry.made i) (located registry sound kind i is) rooted-is
  where
    held : (at : ℕ × ℕ) (holds : Result Registry Full) → rooted_after registry.engine.number party i at.0 holds ≡ Ok (found, after) → IsSome found
    held at (Ok next) same = ap is_some (sym (ap rooted_hold same))
    held at (Err full) same = absurd (cc)

    by : (place : Option (ℕ × ℕ)) → IsSome place → rooted registry party i place ≡ Ok (found, after) → IsSome found
    by None none same = absurd (false≢true none)
    by (Some at) some same = held at (hold registry party at.0) same
