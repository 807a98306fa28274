-- A registered type is of the kind of the type data of which it was built.
use Rattle.std.proofs.Common.{◌≡◌, ℕ, [], ◌∷◌, map, true, false, Option, Some, refl, ap, sym, ◌∙◌}
use Rattle.std.specs.Prelude.{List}
use Rattle.std.specs.Option.{option_map_or}
use Rattle.wt_env.specs.declared.types.VMSharedTypeIndex.{VMSharedTypeIndex}
use Rattle.wt_env.specs.declared.types.Kind.{Kind}
use Rattle.wt_env.specs.declared.types.Kind.TheVariants as kind
use Rattle.wt_env.specs.declared.types.WasmCompositeInnerType.{WasmCompositeInnerType}
use Rattle.wt_env.specs.declared.types.WasmCompositeInnerType.TheVariants as shape
use Rattle.wt_env.specs.declared.types.WasmValType.{WasmValType}
use Rattle.wt_env.specs.declared.types.WasmSubType.{WasmSubType}
use Rattle.wt_env.proofs.lists.Members.{first_same, some_same}
use Rattle.wt_tree.specs.Tree.{ClosedTree}
use Rattle.wt_tree.specs.References.{number_shape}
use Rattle.wt_tree.specs.Kinds.{kind_of, member_kind, kind_eq}
use Rattle.wt_rules.specs.TypeRules.{kind_of_tree}
use Rattle.wt_rules.proofs.ShownRules.{kind-shown}
use Rattle.wt_model.specs.Registered.{RegisteredGroup, Registry}
use Rattle.wt_model.specs.Describe.{tree_of}
use Rattle.wt_model.specs.Indices.{closed_tree}
use Rattle.wt_model.specs.Shown.{sub_type_at}
use Rattle.wt_model.specs.Sound.{IsSound}
use Rattle.wt_model.specs.HostExceptions.{exception_tree}
use Rattle.wt_model.specs.Registration.{host_type, host_exception, trees_of}
use Rattle.wt_model.proofs.subtyping.ShownTypes.{sound-shows}
use Rattle.wt_core.specs.CoreTypes.{IsOfKind}

kind_of-numbered : (n : ℕ) (s : WasmCompositeInnerType) → kind_of (number_shape n s) ≡ kind_of s
kind_of-numbered n (shape.Func f) = refl
kind_of-numbered n (shape.Struct s) = refl
kind_of-numbered n (shape.Array a) = refl
kind_of-numbered n (shape.Exn e) = refl
kind_of-numbered n (shape.Cont c) = refl

kind_eq-refl : (k : Kind) → kind_eq k k ≡ true
kind_eq-refl kind.Func = refl
kind_eq-refl kind.Struct = refl
kind_eq-refl kind.Array = refl
kind_eq-refl kind.Exn = refl
kind_eq-refl kind.Cont = refl

-- the type that has this closed tree
pub kind-told : (registry : Registry) → IsSound registry → (shown : WasmSubType) (i : VMSharedTypeIndex) (t : ClosedTree) (k : Kind) → sub_type_at registry.made i ≡ Some shown → closed_tree registry.made i ≡ Some t → kind_of_tree t ≡ Some k
    → IsOfKind registry.made k i
kind-told registry sound shown i t k is named told =
    let here = sound-shows registry sound i shown is in
    let same : here.0 ≡ t = some_same (sym here.1 ∙ named) in
    let kinds : Some (member_kind shown) ≡ Some k = sym (kind-shown (closed_tree registry.made) here.0 shown here.2) ∙ ap kind_of_tree same ∙ told in
    ap (λ (found : Option WasmSubType). option_map_or (λ (x : WasmSubType). kind_eq (member_kind x) k) found false) is
    ∙ ap (λ (found : Kind). kind_eq found k) (some_same kinds)
    ∙ kind_eq-refl k

pub kind-built : (registry : Registry) → IsSound registry → (made : List RegisteredGroup) (ty shown : WasmSubType) (i : VMSharedTypeIndex) → sub_type_at registry.made i ≡ Some shown
    → closed_tree registry.made i ∷ [] ≡ map Some (trees_of made (host_type ty)) → IsOfKind registry.made (member_kind ty) i
kind-built registry sound made ty shown i is named =
    kind-told registry sound shown i (record { tree = tree_of made (ty ∷ []); place = 0 }) (member_kind ty) is (first_same named) (ap Some (kind_of-numbered _ ty.composite_type))

-- an exception with its function type
pub kind-exception : (registry : Registry) → IsSound registry → (made : List RegisteredGroup) (fields : List WasmValType) (shown : WasmSubType) (i : VMSharedTypeIndex) → sub_type_at registry.made i ≡ Some shown
    → closed_tree registry.made i ∷ [] ≡ map Some (trees_of made (host_exception fields)) → IsOfKind registry.made kind.Exn i
kind-exception registry sound made fields shown i is named =
    kind-told registry sound shown i (record { tree = exception_tree made fields; place = 0 }) kind.Exn is (first_same named) refl
