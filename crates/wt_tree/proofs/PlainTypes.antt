-- The closed trees of a plain list: each entry has its own, the supertype of each is that of an earlier entry, and the
-- entries show what is in their trees.
use Rattle.std.specs.Prelude.{is_some}
use Rattle.std.proofs.Common.{◌≡◌, ℕ, zero, suc, ◌+◌, ◌-◌, ◌<◌, ◌≤◌, ◌⊎◌, Bool, true, false, nat_lt, if◌then◌else◌, List, [], ◌∷◌, ◌++◌, length, slice_get, Option, Some, None, option_map, unwrap_or, inl, inr, refl, sym, ap, subst, ◌∙◌, arith}
use Rattle.std.proofs.lemmas.Bool.{false≢true}
use Rattle.std.proofs.lemmas.Option.{slice_get_within}
use Rattle.std.proofs.lemmas.List.{append_assoc, length-append}
use Rattle.wt_env.specs.Among.{Among}
use Rattle.wt_env.proofs.lists.Members.{first_same, some_same, get_among, same_test}
use Rattle.wt_env.specs.declared.types.VMSharedTypeIndex.{VMSharedTypeIndex}
use Rattle.wt_env.specs.declared.types.ModuleInternedTypeIndex.{ModuleInternedTypeIndex}
use Rattle.wt_env.specs.declared.types.EngineOrModuleTypeIndex.{EngineOrModuleTypeIndex}
use Rattle.wt_env.specs.declared.types.EngineOrModuleTypeIndex.TheVariants as index
use Rattle.wt_env.specs.declared.types.WasmSubType.{WasmSubType}
use Rattle.wt_env.proofs.lists.Mapped.{among_map, among_mapped}
use Rattle.wt_tree.specs.Tree.{ClosedTree, no_tree}
use Rattle.wt_tree.specs.References.{index_refs, super_refs, shape_refs, group_refs, number_index, number_sub}
use Rattle.wt_tree.specs.MapRefs.{LeavesOwn, leaves_group, map_shape_refs, map_sub_refs, fill_index}
use Rattle.wt_tree.specs.Kinds.{type_indices}
use Rattle.wt_tree.specs.Subtyping.{outer_at, tree_at, supertype_of, rank, IsTypeMap}
use Rattle.wt_tree.specs.Fit.{named_by, IsKnown, Shows, ShowsAt}
use Rattle.wt_tree.specs.PlainTypes.{own_entry, entry_tree, outer_of, entry_group, closed_entry, plain_trees, plain_types, IsBefore, ArePlain}
use Rattle.wt_tree.proofs.ChangedIndices.{sub_type-same}
use Rattle.wt_tree.proofs.ChangedKinds.{type_indices-changed}
use Rattle.wt_tree.proofs.Changing.{map_sub_refs-over, map_sub_refs-none}
use Rattle.wt_tree.proofs.Leaving.{leaves_own, number_sub-over}
use Rattle.wt_tree.proofs.LeftReferences.{among_flat_map, group_refs-left}
use Rattle.wt_tree.proofs.Numbering.{refill_group}
use Rattle.wt_tree.proofs.Slots.{rank-slot}

-- ---- lists

get_before : {A : Type 0} (xs more : List A) (k : ℕ) (x : A) → slice_get xs k ≡ Some x → slice_get (xs ++ more) k ≡ Some x
get_before [] more k x is = absurd (cc)
get_before (y ∷ ys) more zero x is = is
get_before (y ∷ ys) more (suc k) x is = get_before ys more k x is

get_here : {A : Type 0} (xs : List A) (x : A) (more : List A) → slice_get (xs ++ x ∷ more) (length xs) ≡ Some x
get_here [] x more = refl
get_here (y ∷ ys) x more = get_here ys x more

append_nil : {A : Type 0} (xs : List A) → xs ≡ xs ++ []
append_nil [] = refl
append_nil (x ∷ xs) = ap (λ rest. x ∷ rest) (append_nil xs)

-- ---- one entry after the other

-- what is known stays, and more comes behind
grown : (known : List ClosedTree) (types : List WasmSubType) → (more : List ClosedTree) × (plain_trees known types ≡ known ++ more)
grown known [] = ([], append_nil known)
grown known (ty ∷ rest) =
    let later = grown (known ++ closed_entry known ty ∷ []) rest in
    (closed_entry known ty ∷ later.0, later.1 ∙ append_assoc known (closed_entry known ty ∷ []) later.0)

length-trees : (known : List ClosedTree) (types : List WasmSubType) → length (plain_trees known types) ≡ length known + length types
length-trees known [] = omega arith
length-trees known (ty ∷ rest) =
    let later : length (plain_trees (known ++ closed_entry known ty ∷ []) rest) ≡ length (known ++ closed_entry known ty ∷ []) + length rest = length-trees (known ++ closed_entry known ty ∷ []) rest in
    let one : length (known ++ closed_entry known ty ∷ []) ≡ length known + 1 = length-append known (closed_entry known ty ∷ []) in
    omega (arith, later, one)

-- an entry among the closed trees: those before it, and those behind
record Stands (known : List ClosedTree) (types : List WasmSubType) (place : ℕ) (ty : WasmSubType) : Type 0 where
  before : List ClosedTree
  behind : List ClosedTree
  whole : plain_trees known types ≡ before ++ closed_entry before ty ∷ behind
  long : length before ≡ length known + place

stands : (known : List ClosedTree) (types : List WasmSubType) (place : ℕ) (ty : WasmSubType) → slice_get types place ≡ Some ty → Stands known types place ty
stands known [] place ty is = absurd (cc)
stands known (x ∷ rest) zero ty is =
    let more = grown known (x ∷ rest) in
    let later = grown (known ++ closed_entry known x ∷ []) rest in
    let whole = later.1 ∙ append_assoc known (closed_entry known x ∷ []) later.0 in
    subst (Stands known (x ∷ rest) zero) (some_same is) (record { before = known; behind = later.0; whole = whole; long = omega arith })
stands known (x ∷ rest) (suc place) ty is =
    let one : length (known ++ closed_entry known x ∷ []) ≡ length known + 1 = length-append known (closed_entry known x ∷ []) in
    let later = stands (known ++ closed_entry known x ∷ []) rest place ty is in
    let long : length later.before ≡ length (known ++ closed_entry known x ∷ []) + place = later.long in
    record { before = later.before; behind = later.behind; whole = later.whole; long = omega (arith, one, long) }

-- what is at a place that there is
get_within : {A : Type 0} (xs : List A) (k : ℕ) → k < length xs → (x : A) × (slice_get xs k ≡ Some x)
get_within [] k below = absurd (omega (arith, below))
get_within (x ∷ xs) zero below = (x, refl)
get_within (x ∷ xs) (suc k) below = let within : k < length xs = omega (arith, below) in get_within xs k within

-- ---- what a numbered type has

-- every reference but those to a place of the group is numbered, so none by an engine index is left
abbrev slotted : EngineOrModuleTypeIndex → EngineOrModuleTypeIndex
slotted (index.Engine i) = index.Module (record { 0 = 0 })
slotted (index.Module n) = index.Module n
slotted (index.RecGroup k) = index.RecGroup k

slotted-leaves : LeavesOwn slotted
slotted-leaves = leaves_own slotted (λ k. refl) leaving
  where
    leaving : (i : EngineOrModuleTypeIndex) → leaves_group i ≡ true → leaves_group (slotted i) ≡ true
    leaving (index.Engine i) leaves = refl
    leaving (index.Module n) leaves = refl
    leaving (index.RecGroup k) leaves = absurd (false≢true leaves)

never_engine : (x : VMSharedTypeIndex) (i : EngineOrModuleTypeIndex) → index.Engine x ≡ slotted i → ⊥
never_engine x (index.Engine i) same = absurd (cc)
never_engine x (index.Module n) same = absurd (cc)
never_engine x (index.RecGroup k) same = absurd (cc)

-- a numbered type, filled in, is the type
filled : (ty : WasmSubType) → map_sub_refs (fill_index (group_refs (ty ∷ []))) (number_sub 0 ty) ≡ ty
filled ty = first_same (refill_group (ty ∷ []))

-- what a type index of a numbered type is filled with is one of the type
filled-among : (ty : WasmSubType) (i : EngineOrModuleTypeIndex) → Among i (type_indices (number_sub 0 ty)) → Among (fill_index (group_refs (ty ∷ [])) i) (type_indices ty)
filled-among ty i at =
    let fill = fill_index (group_refs (ty ∷ [])) in
    subst (λ (t : WasmSubType). Among (fill i) (type_indices t)) (filled ty)
    (subst (Among (fill i)) (sym (type_indices-changed fill (number_sub 0 ty))) (among_mapped fill (type_indices (number_sub 0 ty)) i at))

numbered-engine : (ty : WasmSubType) (x : VMSharedTypeIndex) → Among (index.Engine x) (type_indices (number_sub 0 ty)) → ⊥
numbered-engine ty x at =
    let other = map_sub_refs slotted ty in
    let there = filled-among other (index.Engine x) (subst (λ (t : WasmSubType). Among (index.Engine x) (type_indices t)) (sym (number_sub-over slotted slotted-leaves 0 ty)) at) in
    let from = among_map slotted (type_indices ty) (index.Engine x) (subst (Among (index.Engine x)) (type_indices-changed slotted ty) there) in
    never_engine x from.0 from.2

-- ---- the slots of an entry

-- a slot holds the closed tree of the earlier entry that the reference names
slot-holds : (known : List ClosedTree) (refs : List EngineOrModuleTypeIndex) (n : ℕ) (r : EngineOrModuleTypeIndex) → slice_get refs n ≡ Some r → outer_at (outer_of known refs) n ≡ entry_tree known r
slot-holds known [] n r is = absurd (cc)
slot-holds known (i ∷ rest) zero r is = ap (entry_tree known) (some_same is)
slot-holds known (i ∷ rest) (suc n) r is = slot-holds known rest n r is

-- no reference that leaves a group is to a place of it
leaving-no_place : (i : EngineOrModuleTypeIndex) (k : ℕ) → Among (index.RecGroup k) (index_refs i) → ⊥
leaving-no_place (index.Engine i) k (inl same) = absurd (cc)
leaving-no_place (index.Engine i) k (inr none) = none
leaving-no_place (index.Module n) k (inl same) = absurd (cc)
leaving-no_place (index.Module n) k (inr none) = none
leaving-no_place (index.RecGroup j) k none = none

entry-leaving : (before : ℕ) (ty : WasmSubType) (k : ℕ) → Among (index.RecGroup k) (group_refs (entry_group before ty)) → ⊥
entry-leaving before ty k at =
    let found = among_flat_map (λ i. index_refs (own_entry before i)) (group_refs (ty ∷ [])) (index.RecGroup k)
    (subst (Among (index.RecGroup k)) (group_refs-left (own_entry before) (λ j. refl) (ty ∷ [])) at) in
    leaving-no_place (own_entry before found.0) k found.2

-- ---- an entry's own index

-- the index of an entry that a place names, and an earlier entry's own
abbrev index_back : ℕ → EngineOrModuleTypeIndex → EngineOrModuleTypeIndex
index_back before (index.Engine i) = index.Engine i
index_back before (index.Module n) = index.Module n
index_back before (index.RecGroup k) = index.Engine (record { 0 = before + k })

own-earlier : (before : ℕ) (j : VMSharedTypeIndex) → j.0 < before → own_entry before (index.Engine j) ≡ index.Engine j
own-earlier before j below =
    let test : nat_lt j.0 before ≡ true = grind (arith, below) in
    ap (λ (b : Bool). if b then index.Engine j else index.RecGroup (j.0 - before)) test

own-itself : (before : ℕ) (j : VMSharedTypeIndex) → j.0 ≡ before → own_entry before (index.Engine j) ≡ index.RecGroup 0
own-itself before j same =
    let test : nat_lt j.0 before ≡ false = grind (arith, same) in
    let first : j.0 - before ≡ 0 = omega (arith, same) in
    ap (λ (b : Bool). if b then index.Engine j else index.RecGroup (j.0 - before)) test ∙ ap index.RecGroup first

-- an index that an entry may name is before it or itself
earlier-or-own : (n m : ℕ) → n < m + 1 → (n < m) ⊎ (n ≡ m)
earlier-or-own n m below = by (nat_lt n m) refl
  where
    by : (b : Bool) → nat_lt n m ≡ b → (n < m) ⊎ (n ≡ m)
    by true e = let less : n < m = grind (arith, e) in inl less
    by false e = let past : m ≤ n = grind (arith, e) in let same : n ≡ m = omega (arith, past, below) in inr same

own-back : (before : ℕ) (i : EngineOrModuleTypeIndex) → IsBefore (before + 1) i → index_back before (own_entry before i) ≡ i
own-back before (index.Module n) not = absurd not
own-back before (index.RecGroup k) not = absurd not
own-back before (index.Engine j) below = by (earlier-or-own j.0 before below)
  where
    by : (j.0 < before) ⊎ (j.0 ≡ before) → index_back before (own_entry before (index.Engine j)) ≡ index.Engine j
    by (inl less) = ap (index_back before) (own-earlier before j less)
    by (inr same) =
        let number : before + 0 ≡ j.0 = omega (arith, same) in
        ap (index_back before) (own-itself before j same) ∙ λ k. index.Engine (record { 0 = number k })

-- ---- a whole list

module _ (types : List WasmSubType) (plain : ArePlain types) where
  abbrev trees : List ClosedTree
  trees = plain_trees [] types

  -- an entry with its closed tree, and the trees before it
  record Entry (place : ℕ) : Type 0 where
    ty : WasmSubType
    at : slice_get types place ≡ Some ty
    before : List ClosedTree
    long : length before ≡ place
    tree : slice_get trees place ≡ Some (closed_entry before ty)
    earlier : (j : ℕ) (t : ClosedTree) → slice_get before j ≡ Some t → slice_get trees j ≡ Some t

  entry : (place : ℕ) (ty : WasmSubType) → slice_get types place ≡ Some ty → Entry place
  entry place ty at =
      let here = stands [] types place ty at in
      let long : length here.before ≡ place = let told = here.long in omega (arith, told) in
      record {
        ty = ty;
        at = at;
        before = here.before;
        long = long;
        tree = ap (λ (l : List ClosedTree). slice_get l place) here.whole
            ∙ subst (λ (n : ℕ). slice_get (here.before ++ closed_entry here.before ty ∷ here.behind) n ≡ Some (closed_entry here.before ty)) long
            (get_here here.before (closed_entry here.before ty) here.behind);
        earlier = λ j t is. ap (λ (l : List ClosedTree). slice_get l j) here.whole ∙ get_before here.before (closed_entry here.before ty ∷ here.behind) j t is;
      }

  -- each closed tree is that of an entry
  entry-of : (place : ℕ) (t : ClosedTree) → slice_get trees place ≡ Some t → (e : Entry place) × (t ≡ closed_entry e.before e.ty)
  entry-of place t is =
      let there : place < length trees = slice_get_within trees place t is in
      let many : length trees ≡ length types = let told = length-trees [] types in omega (arith, told) in
      let within : place < length types = omega (arith, there, many) in
      let found = get_within types place within in
      let e = entry place found.0 found.1 in
      (e, some_same (sym is ∙ e.tree))

  -- the closed tree of an earlier entry
  earlier-tree : {place : ℕ} (e : Entry place) (j : VMSharedTypeIndex) → j.0 < place → plain_types types j ≡ Some (entry_tree e.before (index.Engine j))
  earlier-tree e j below =
      let within : j.0 < length e.before = let long = e.long in omega (arith, below, long) in
      let found = get_within e.before j.0 within in
      e.earlier j.0 found.0 found.1 ∙ ap Some (ap (λ (x : Option ClosedTree). unwrap_or x no_tree) (sym found.1))

  -- what an entry declares is in the first slot
  first-slot : (before : List ClosedTree) (ty : WasmSubType) (j : VMSharedTypeIndex) → option_map (own_entry (length before)) ty.supertype ≡ Some (index.Engine j)
      → tree_at (closed_entry before ty).tree (index.Module (record { 0 = 0 })) ≡ entry_tree before (index.Engine j)
  first-slot before ty j own =
      ap (λ (found : Option EngineOrModuleTypeIndex). outer_at (outer_of before ((super_refs found ++ shape_refs (map_shape_refs (own_entry (length before)) ty.composite_type)) ++ [])) 0) own

  -- the supertype of an entry is an earlier entry's closed tree, in a slot
  record Below (place : ℕ) (e : Entry place) (s : ClosedTree) : Type 0 where
    sup : VMSharedTypeIndex
    is : plain_types types sup ≡ Some s
    slot : tree_at (closed_entry e.before e.ty).tree (index.Module (record { 0 = 0 })) ≡ s

  below : {place : ℕ} (e : Entry place) (s : ClosedTree) → supertype_of (closed_entry e.before e.ty) ≡ Some s → Below place e s
  below {place} e s declared = by e.ty.supertype refl declared
    where
      own : EngineOrModuleTypeIndex → EngineOrModuleTypeIndex
      own = own_entry (length e.before)

      named : (i : EngineOrModuleTypeIndex) → e.ty.supertype ≡ Some i → IsBefore place i
          → option_map (tree_at (closed_entry e.before e.ty).tree) (option_map (number_index 0) (option_map (own_entry (length e.before)) (Some i))) ≡ Some s → Below place e s
      named (index.Module n) is not found = absurd not
      named (index.RecGroup k) is not found = absurd not
      named (index.Engine j) is less found =
          let within : j.0 < length e.before = let long = e.long in omega (arith, less, long) in
          let same = own-earlier (length e.before) j within in
          let slot = first-slot e.before e.ty j (ap (option_map (own_entry (length e.before))) is ∙ ap Some same) in
          let holds = some_same (sym (ap (λ (i : EngineOrModuleTypeIndex). Some (tree_at (closed_entry e.before e.ty).tree (number_index 0 i))) same) ∙ found) in
          record { sup = j; is = earlier-tree e j less ∙ ap Some (sym slot ∙ holds); slot = holds }

      by : (found : Option EngineOrModuleTypeIndex) → e.ty.supertype ≡ found
          → option_map (tree_at (closed_entry e.before e.ty).tree) (option_map (number_index 0) (option_map (own_entry (length e.before)) found)) ≡ Some s → Below place e s
      by None is none = absurd (cc)
      by (Some i) is found = named i is (plain.supertypes place e.ty i e.at is) found

  pub plain-map : IsTypeMap (plain_types types)
  plain-map = record {
    one_index = λ i j t is-i is-j. let same = plain.apart i.0 j.0 t is-i is-j in λ k. record { 0 = same k };
    lower = λ i t s is declared.
        let found = entry-of i.0 t is in
        let e = found.0 in
        let lead = below e s (ap supertype_of (sym found.1) ∙ declared) in
        subst (λ (x : ClosedTree). rank s < rank x) (sym found.1)
        (subst (λ (x : ClosedTree). rank x < rank (closed_entry e.before e.ty)) lead.slot (rank-slot (closed_entry e.before e.ty) (record { 0 = 0 }) (omega arith)));
    supertypes = λ i t s is declared.
        let found = entry-of i.0 t is in
        let lead = below found.0 s (ap supertype_of (sym found.1) ∙ declared) in
        (lead.sup, lead.is);
  }

  -- ---- what an entry shows

  -- an index that an entry may name has a closed tree
  named-known : {place : ℕ} (e : Entry place) (i : EngineOrModuleTypeIndex) → IsBefore (place + 1) i → IsKnown (plain_types types) i
  named-known e (index.Module n) not = not
  named-known e (index.RecGroup k) not = not
  named-known {place} e (index.Engine j) less =
      let many : length trees ≡ length types = let told = length-trees [] types in omega (arith, told) in
      let there : place < length types = slice_get_within types place e.ty e.at in
      let within : j.0 < length trees = omega (arith, less, many, there) in
      ap is_some ((get_within trees j.0 within).1)

  module _ {place : ℕ} (e : Entry place) where
    abbrev own_type : WasmSubType
    own_type = map_sub_refs (own_entry (length e.before)) e.ty

    abbrev fill : EngineOrModuleTypeIndex → EngineOrModuleTypeIndex
    fill = fill_index (group_refs (own_type ∷ []))

    abbrev shown : EngineOrModuleTypeIndex → EngineOrModuleTypeIndex
    shown i = index_back (length e.before) (fill i)

    within-own : (i : EngineOrModuleTypeIndex) → Among i (type_indices e.ty) → IsBefore (length e.before + 1) i
    within-own i at = subst (λ (n : ℕ). IsBefore (n + 1) i) (sym e.long) (plain.names place e.ty i e.at at)

    shows-again : e.ty ≡ map_sub_refs shown (number_sub 0 own_type)
    shows-again =
        sym (map_sub_refs-none e.ty)
        ∙ sym (sub_type-same (λ i. index_back (length e.before) (own_entry (length e.before) i)) (λ i. i) e.ty (λ i at. own-back (length e.before) i (within-own i at)))
        ∙ sym (map_sub_refs-over (index_back (length e.before)) (own_entry (length e.before)) e.ty)
        ∙ ap (map_sub_refs (index_back (length e.before))) (sym (filled own_type))
        ∙ map_sub_refs-over (index_back (length e.before)) fill (number_sub 0 own_type)

    -- the entry itself
    named-own : (k : ℕ) → k ≡ 0 → named_by (plain_types types) (index.Engine (record { 0 = length e.before + k })) ≡ tree_at (closed_entry e.before e.ty).tree (index.RecGroup k)
    named-own k first =
        let number : length e.before + k ≡ place = let long = e.long in omega (arith, long, first) in
        ap (λ (n : ℕ). unwrap_or (slice_get trees n) no_tree) number
        ∙ ap (λ (x : Option ClosedTree). unwrap_or x no_tree) e.tree
        ∙ ap (λ (n : ℕ). tree_at (closed_entry e.before e.ty).tree (index.RecGroup n)) (sym first)

    -- an earlier entry
    named-earlier : (j : VMSharedTypeIndex) → j.0 < length e.before → named_by (plain_types types) (index.Engine j) ≡ entry_tree e.before (index.Engine j)
    named-earlier j below =
        let less : j.0 < place = let long = e.long in omega (arith, below, long) in
        ap (λ (x : Option ClosedTree). unwrap_or x no_tree) (earlier-tree e j less)

    -- what an index in the numbered entry is filled with
    filled-with : (i : EngineOrModuleTypeIndex) → Among i (type_indices (number_sub 0 own_type)) → (j : VMSharedTypeIndex) × ((j.0 < length e.before) ⊎ (j.0 ≡ length e.before)) × (fill i ≡ own_entry (length e.before) (index.Engine j))
    filled-with i at =
        let from = among_map (own_entry (length e.before)) (type_indices e.ty) (fill i)
        (subst (Among (fill i)) (type_indices-changed (own_entry (length e.before)) e.ty) (filled-among own_type i at)) in
        by from.0 (within-own from.0 from.1) from.2
      where
        by : (q : EngineOrModuleTypeIndex) → IsBefore (length e.before + 1) q → fill i ≡ own_entry (length e.before) q
            → (j : VMSharedTypeIndex) × ((j.0 < length e.before) ⊎ (j.0 ≡ length e.before)) × (fill i ≡ own_entry (length e.before) (index.Engine j))
        by (index.Module n) not is = absurd not
        by (index.RecGroup k) not is = absurd not
        by (index.Engine j) less is = (j, earlier-or-own j.0 (length e.before) less, is)

    slot-named : (n : ModuleInternedTypeIndex) (j : VMSharedTypeIndex) → (j.0 < length e.before) ⊎ (j.0 ≡ length e.before) → (found : Option EngineOrModuleTypeIndex)
        → slice_get (group_refs (own_type ∷ [])) n.0 ≡ found → unwrap_or found (index.Module n) ≡ own_entry (length e.before) (index.Engine j)
        → named_by (plain_types types) (index_back (length e.before) (unwrap_or found (index.Module n))) ≡ outer_at (outer_of e.before (group_refs (own_type ∷ []))) n.0
    slot-named n j (inl below) (Some q) at is =
        let same = is ∙ own-earlier (length e.before) j below in
        ap (λ (r : EngineOrModuleTypeIndex). named_by (plain_types types) (index_back (length e.before) r)) same
        ∙ named-earlier j below
        ∙ ap (entry_tree e.before) (sym same)
        ∙ sym (slot-holds e.before (group_refs (own_type ∷ [])) n.0 q at)
    slot-named n j (inr same) (Some q) at is =
        absurd (entry-leaving (length e.before) e.ty 0
        (subst (λ (r : EngineOrModuleTypeIndex). Among r (group_refs (own_type ∷ []))) (is ∙ own-itself (length e.before) j same) (get_among (group_refs (own_type ∷ [])) n.0 q at)))
    slot-named n j (inl below) None at is = absurd (other (is ∙ own-earlier (length e.before) j below))
      where
        other : index.Module n ≡ index.Engine j → ⊥
        other same = absurd (cc)
    slot-named n j (inr same) None at is = absurd (other (is ∙ own-itself (length e.before) j same))
      where
        other : index.Module n ≡ index.RecGroup 0 → ⊥
        other same = absurd (cc)

    place-named : (k : ℕ) (j : VMSharedTypeIndex) → (j.0 < length e.before) ⊎ (j.0 ≡ length e.before) → index.RecGroup k ≡ own_entry (length e.before) (index.Engine j)
        → named_by (plain_types types) (index_back (length e.before) (index.RecGroup k)) ≡ tree_at (closed_entry e.before e.ty).tree (index.RecGroup k)
    place-named k j (inl below) is = absurd (other (is ∙ own-earlier (length e.before) j below))
      where
        other : index.RecGroup k ≡ index.Engine j → ⊥
        other same = absurd (cc)
    place-named k j (inr same) is = named-own k (first (is ∙ own-itself (length e.before) j same))
      where
        first : index.RecGroup k ≡ index.RecGroup 0 → k ≡ 0
        first same = cc

    names-same : (i : EngineOrModuleTypeIndex) → Among i (type_indices (number_sub 0 own_type)) → named_by (plain_types types) (shown i) ≡ tree_at (closed_entry e.before e.ty).tree i
    names-same (index.Engine x) at = absurd (numbered-engine own_type x at)
    names-same (index.Module n) at =
        let filling = filled-with (index.Module n) at in
        slot-named n filling.0 filling.1 (slice_get (group_refs (own_type ∷ [])) n.0) refl filling.2
    names-same (index.RecGroup k) at =
        let filling = filled-with (index.RecGroup k) at in
        place-named k filling.0 filling.1 filling.2

    entry-shows : Shows (plain_types types) (closed_entry e.before e.ty) e.ty
    entry-shows = record {
      member = number_sub 0 own_type;
      stands = refl;
      shown = shown;
      is_shown = shows-again;
      names = names-same;
      known = record { each = λ i at. named-known e i (plain.names place e.ty i e.at at) };
    }

  -- each entry shows what is in its closed tree
  pub plain-shows : (i : VMSharedTypeIndex) (ty : WasmSubType) → slice_get types i.0 ≡ Some ty → ShowsAt (plain_types types) i ty
  unfolding entry
  plain-shows i ty at =
      let e = entry i.0 ty at in
      (closed_entry e.before ty, e.tree, entry-shows e)

  -- an index has a closed tree exactly where there is such an entry
  pub plain-there : (i : VMSharedTypeIndex) → is_some (slice_get types i.0) ≡ is_some (plain_types types i)
  plain-there i = same_test (is_some (slice_get types i.0)) (is_some (plain_types types i)) there back
    where
      many : length (plain_trees [] types) ≡ length types
      many = let told = length-trees [] types in omega (arith, told)

      there : is_some (slice_get types i.0) ≡ true → is_some (plain_types types i) ≡ true
      there some = by (slice_get types i.0) refl some
        where
          by : (found : Option WasmSubType) → slice_get types i.0 ≡ found → is_some found ≡ true → is_some (plain_types types i) ≡ true
          by None e none = absurd (false≢true none)
          by (Some ty) e found =
              let within : i.0 < length types = slice_get_within types i.0 ty e in
              let inside : i.0 < length (plain_trees [] types) = let same = many in omega (arith, within, same) in
              ap is_some ((get_within (plain_trees [] types) i.0 inside).1)

      back : is_some (plain_types types i) ≡ true → is_some (slice_get types i.0) ≡ true
      back some = by (slice_get (plain_trees [] types) i.0) refl some
        where
          by : (found : Option ClosedTree) → slice_get (plain_trees [] types) i.0 ≡ found → is_some found ≡ true → is_some (slice_get types i.0) ≡ true
          by None e none = absurd (false≢true none)
          by (Some t) e found =
              let within : i.0 < length (plain_trees [] types) = slice_get_within (plain_trees [] types) i.0 t e in
              let inside : i.0 < length types = let same = many in omega (arith, within, same) in
              ap is_some ((get_within types i.0 inside).1)
