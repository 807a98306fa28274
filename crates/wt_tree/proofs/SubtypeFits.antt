-- Where the shape of each closed tree fits that of its declared supertype, the shape of each fits that of any that
-- declared steps lead to.
use Rattle.std.proofs.Common.{◌≡◌, Bool, true, ◌++◌, Option, Some, None, refl, sym, ap, subst, ◌∙◌}
use Rattle.std.specs.Prelude.{is_some, option_to_list}
use Rattle.std.proofs.lemmas.Bool.{false≢true}
use Rattle.wt_env.specs.Among.{Among}
use Rattle.wt_env.specs.declared.types.VMSharedTypeIndex.{VMSharedTypeIndex}
use Rattle.wt_env.specs.declared.types.EngineOrModuleTypeIndex.{EngineOrModuleTypeIndex}
use Rattle.wt_env.specs.declared.types.WasmSubType.{WasmSubType}
use Rattle.wt_env.proofs.lists.Members.{some_same, among_behind}
use Rattle.wt_tree.specs.Tree.{ClosedTree}
use Rattle.wt_tree.specs.Kinds.{kinded_refs, kinded_shape, indices_of}
use Rattle.wt_tree.specs.Subtyping.{tree_at, member_at, Sub, same, step, IsTypeMap, TellsSteps}
use Rattle.wt_tree.specs.Fit.{shape_fits, member_fits, tree_fits, named_by, Shows, ShowsAt, StepsFit, TellsFit}
use Rattle.wt_tree.proofs.FitOrder.{shape_fits-refl, shape_fits-trans}
use Rattle.wt_tree.proofs.FitReading.{Side, shape-changed}
use Rattle.wt_tree.proofs.ToldSteps.{tree-known}

-- a closed tree with a member fits itself
own-fits : (s : ClosedTree) (found : Option WasmSubType) → is_some found ≡ true → member_fits s s found found ≡ true
own-fits s (Some a) some = shape_fits-refl (tree_at s.tree) a.composite_type
own-fits s None none = absurd (false≢true none)

-- what fits has members on both sides
fits-second : (s t : ClosedTree) (here there : Option WasmSubType) → member_fits s t here there ≡ true → is_some there ≡ true
fits-second s t (Some a) (Some b) h = refl
fits-second s t (Some a) None h = absurd (false≢true h)
fits-second s t None there h = absurd (false≢true h)

fits-trans : (s t u : ClosedTree) (a b c : Option WasmSubType) → member_fits s t a b ≡ true → member_fits t u b c ≡ true → member_fits s u a c ≡ true
fits-trans s t u (Some a) (Some b) (Some c) h k = shape_fits-trans (tree_at s.tree) (tree_at t.tree) (tree_at u.tree) a.composite_type b.composite_type c.composite_type h k
fits-trans s t u (Some a) (Some b) None h k = absurd (false≢true k)
fits-trans s t u (Some a) None c h k = absurd (false≢true h)
fits-trans s t u None b c h k = absurd (false≢true h)

module _ (types : VMSharedTypeIndex → Option ClosedTree) (is_map : IsTypeMap types) (fit : StepsFit types) where
  pub subtype-fits : {s t : ClosedTree} → Sub s t → (i : VMSharedTypeIndex) → types i ≡ Some s → is_some (member_at s) ≡ true → tree_fits s t ≡ true
  subtype-fits (same t) i is member = own-fits t (member_at t) member
  subtype-fits (step s t u declared rest) i is member =
      let first = fit i s t is declared in
      let next = is_map.supertypes i s t is declared in
      let further = subtype-fits rest next.0 next.1 (fits-second s t (member_at s) (member_at t) first) in
      fits-trans s t u (member_at s) (member_at t) (member_at u) first further

-- ---- the shapes that are shown

module _ (types : VMSharedTypeIndex → Option ClosedTree) where
  abbrev shown_side : (t : ClosedTree) (ty : WasmSubType) → Shows types t ty → Side
  shown_side t ty shows = record { change = shows.shown; read = named_by types; read_before = tree_at t.tree }

  -- a shape's type indices are among those of the type
  in_shape : (ty : WasmSubType) (i : EngineOrModuleTypeIndex) → Among i (indices_of (kinded_shape ty.composite_type)) → Among i (option_to_list ty.supertype ++ indices_of (kinded_refs ty))
  in_shape ty i at = among_behind (option_to_list ty.supertype) (indices_of (kinded_refs ty)) i at

  -- two shapes fit as they are shown where their closed trees do
  pub shown-fits : (s t : ClosedTree) (a b : WasmSubType) → Shows types s a → Shows types t b
      → shape_fits (named_by types) (named_by types) a.composite_type b.composite_type ≡ tree_fits s t
  shown-fits s t a b here there =
      (λ k. shape_fits (named_by types) (named_by types) (here.is_shown k).composite_type (there.is_shown k).composite_type)
      ∙ shape-changed (shown_side s a here) (shown_side t b there) here.member.composite_type there.member.composite_type
      (λ i at. here.names i (in_shape here.member i at)) (λ i at. there.names i (in_shape there.member i at))
      ∙ λ k. member_fits s t (sym here.stands k) (sym there.stands k)

  -- the same of what indices show
  pub shown-told : (i j : VMSharedTypeIndex) (a b : WasmSubType) → ShowsAt types i a → ShowsAt types j b → (told : Bool)
      → told ≡ shape_fits (named_by types) (named_by types) a.composite_type b.composite_type → TellsFit types i j told
  shown-told i j a b here there told is s t s-is t-is =
      let same-s = some_same (sym here.1 ∙ s-is) in
      let same-t = some_same (sym there.1 ∙ t-is) in
      is ∙ shown-fits here.0 there.0 a b here.2 there.2 ∙ λ k. tree_fits (same-s k) (same-t k)

  pub shown-member : (i : VMSharedTypeIndex) (a : WasmSubType) → ShowsAt types i a → (s : ClosedTree) → types i ≡ Some s → is_some (member_at s) ≡ true
  shown-member i a here s is =
      subst (λ (t : ClosedTree). is_some (member_at t) ≡ true) (some_same (sym here.1 ∙ is)) (ap is_some here.2.stands)

-- a type's shape fits that of each type that it is below
pub told-fits : (types : VMSharedTypeIndex → Option ClosedTree) → IsTypeMap types → StepsFit types → (i j : VMSharedTypeIndex) → is_some (types i) ≡ true → is_some (types j) ≡ true
    → ((s : ClosedTree) → types i ≡ Some s → is_some (member_at s) ≡ true)
    → (steps fits : Bool) → TellsSteps types i j steps → TellsFit types i j fits → steps ≡ true → fits ≡ true
told-fits types is_map fit i j known-i known-j member steps fits tells-steps tells-fits lead =
    let s = tree-known types i known-i in
    let t = tree-known types j known-j in
    tells-fits s.0 t.0 s.1 t.1 ∙ subtype-fits types is_map fit ((tells-steps s.0 t.0 s.1 t.1).0 lead) i s.1 (member s.0 s.1)
