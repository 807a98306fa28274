-- Lists of declared supertypes: where types have indices, one type is reached from another exactly where it is at the
-- place of the other's list that is the length of its own.
use Rattle.std.proofs.Common.{◌≡◌, ◌⊎◌, inl, inr, ℕ, zero, suc, true, List, [], ◌∷◌, ◌++◌, length, slice_get, reverse, Option, Some, None, is_some, unwrap_or, refl, sym, ap, subst, ◌∙◌, arith}
use Rattle.std.proofs.lemmas.Bool.{false≢true, eq-eqb}
use Rattle.std.proofs.lemmas.List.{reverse-append, reverse-reverse, length-reverse}
use Rattle.wt_env.specs.Among.{Among}
use Rattle.wt_env.specs.declared.types.VMSharedTypeIndex.{VMSharedTypeIndex}
use Rattle.wt_env.specs.declared.types.EngineOrModuleTypeIndex.TheVariants as index
use Rattle.wt_env.proofs.lists.Members.{some_same, same_test, get_among, among_pushed}
use Rattle.wt_tree.specs.Tree.{ClosedTree, no_tree}
use Rattle.wt_tree.specs.Subtyping.{supertype_of, Sub, same, step, is_sub, IsTypeMap}
use Rattle.wt_tree.specs.Fit.{named_by}
use Rattle.wt_tree.proofs.Subtyping.{is_sub-exact}
use Rattle.wt_model.proofs.indices.Places.{same_index}
use Rattle.wt_keys.specs.SupertypeChains.{IsSupertypeChain, is_index}

-- ---- places of lists

-- what was pushed stands at the end
pub pushed-at : {A : Type 0} (xs : List A) (x : A) (n : ℕ) → n ≡ length xs → slice_get (xs ++ x ∷ []) n ≡ Some x
pushed-at [] x zero is = refl
pushed-at [] x (suc n) is = absurd (omega (arith, is))
pushed-at (y ∷ ys) x zero is = absurd (omega (arith, is))
pushed-at (y ∷ ys) x (suc n) is = pushed-at ys x n (omega (arith, is))

-- and the others stand where they did
pub kept-at : {A : Type 0} (xs more : List A) (n : ℕ) (x : A) → slice_get xs n ≡ Some x → slice_get (xs ++ more) n ≡ Some x
kept-at [] more n x is = absurd (cc)
kept-at (y ∷ ys) more zero x is = is
kept-at (y ∷ ys) more (suc n) x is = kept-at ys more n x is

reversed-among : {A : Type 0} (xs : List A) (x : A) → Among x (reverse xs) → Among x xs
reversed-among {A} [] x at = at
reversed-among {A} (y ∷ ys) x at = by (λ before. reversed-among ys x before) (among_pushed (reverse ys) y x (subst (Among x) (reverse-append (y ∷ []) ys) at))
  where
    by : (Among x (reverse ys) → Among x ys) → Among x (reverse ys) ⊎ (x ≡ y) → Among x (y ∷ ys)
    by earlier (inl before) = inr (earlier before)
    by earlier (inr is) = inl is

-- ---- between types with indices

module _ (types : VMSharedTypeIndex → Option ClosedTree) (map : IsTypeMap types) where
  -- a closed tree has one list
  one_chain : (t : ClosedTree) (xs ys : List VMSharedTypeIndex) → IsSupertypeChain types t xs → IsSupertypeChain types t ys → xs ≡ ys
  one_chain t [] [] first second = refl
  one_chain t [] (j ∷ ys) first second = absurd (false≢true (ap is_some (sym first ∙ second.1)))
  one_chain t (i ∷ xs) [] first second = absurd (false≢true (ap is_some (sym second ∙ first.1)))
  one_chain t (i ∷ xs) (j ∷ ys) first second =
      let tree : second.0 ≡ first.0 = some_same (sym second.1 ∙ first.1) in
      let here : i ≡ j = map.one_index i j first.0 first.2 (second.2 ∙ ap Some tree) in
      let rest = one_chain first.0 xs ys first.3 (subst (λ (s : ClosedTree). IsSupertypeChain types s ys) tree second.3) in
      λ k. here k ∷ rest k

  -- declared steps lead to each type of the list
  listed-sub : (t b : ClosedTree) (j : VMSharedTypeIndex) (xs : List VMSharedTypeIndex) → types j ≡ Some b → IsSupertypeChain types t xs → Among j xs → Sub t b
  listed-sub t b j [] is chain at = absurd at
  listed-sub t b j (k ∷ xs) is chain (inl here) =
      let tree : chain.0 ≡ b = some_same (sym chain.2 ∙ ap types (sym here) ∙ is) in
      step t chain.0 b chain.1 (subst (Sub chain.0) tree (same chain.0))
  listed-sub t b j (k ∷ xs) is chain (inr later) = step t chain.0 b chain.1 (listed-sub chain.0 b j xs is chain.3 later)

  -- and each type to which they lead is the same, or is at the place that is the length of its list
  sub-listed : {a b : ClosedTree} → Sub a b → (i j : VMSharedTypeIndex) (xs ys : List VMSharedTypeIndex) → types i ≡ Some a → types j ≡ Some b
      → IsSupertypeChain types a xs → IsSupertypeChain types b ys → (i ≡ j) ⊎ (slice_get (reverse xs) (length ys) ≡ Some j)
  sub-listed (same t) i j xs ys first second below above = inl (map.one_index i j t first second)
  sub-listed (step s t u declared rest) i j [] ys first second below above = absurd (false≢true (ap is_some (sym below ∙ declared)))
  sub-listed (step s t u declared rest) i j (k ∷ xs) ys first second below above = inr (by (sub-listed rest k j xs ys known second chain above))
    where
      tree : below.0 ≡ t
      tree = some_same (sym below.1 ∙ declared)

      known : types k ≡ Some t
      known = below.2 ∙ ap Some tree

      chain : IsSupertypeChain types t xs
      chain = subst (λ (v : ClosedTree). IsSupertypeChain types v xs) tree below.3

      by : (k ≡ j) ⊎ (slice_get (reverse xs) (length ys) ≡ Some j) → slice_get (reverse (k ∷ xs)) (length ys) ≡ Some j
      by (inl is) =
          let end : t ≡ u = some_same (sym known ∙ ap types is ∙ second) in
          let lists : ys ≡ xs = one_chain u ys xs above (subst (λ (v : ClosedTree). IsSupertypeChain types v xs) end chain) in
          let long : length ys ≡ length (reverse xs) = ap length lists ∙ sym (length-reverse xs) in
          ap (λ (l : List VMSharedTypeIndex). slice_get l (length ys)) (reverse-append (k ∷ []) xs)
          ∙ pushed-at (reverse xs) k (length ys) long
          ∙ ap Some is
      by (inr stands) =
          ap (λ (l : List VMSharedTypeIndex). slice_get l (length ys)) (reverse-append (k ∷ []) xs)
          ∙ kept-at (reverse xs) (k ∷ []) (length ys) j stands

  -- ---- the test of a place

  place-tells : (i j : VMSharedTypeIndex) (a b : ClosedTree) (xs ys : List VMSharedTypeIndex) → types i ≡ Some a → types j ≡ Some b → (i ≡ j → ⊥)
      → IsSupertypeChain types a xs → IsSupertypeChain types b ys → is_index (slice_get (reverse xs) (length ys)) j ≡ is_sub a b
  place-tells i j a b xs ys first second differ below above = same_test (is_index (slice_get (reverse xs) (length ys)) j) (is_sub a b) there back
    where
      read : (found : Option VMSharedTypeIndex) → slice_get (reverse xs) (length ys) ≡ found → is_index found j ≡ true → Sub a b
      read None stands is = absurd (false≢true is)
      read (Some k) stands is =
          let here : k ≡ j = same_index j k is in
          listed-sub a b j xs second below (reversed-among xs j (get_among (reverse xs) (length ys) j (stands ∙ ap Some here)))

      there : is_index (slice_get (reverse xs) (length ys)) j ≡ true → is_sub a b ≡ true
      there is = (is_sub-exact types map i a b first).1 (read (slice_get (reverse xs) (length ys)) refl is)

      by : (i ≡ j) ⊎ (slice_get (reverse xs) (length ys) ≡ Some j) → is_index (slice_get (reverse xs) (length ys)) j ≡ true
      by (inl equal) = absurd (differ equal)
      by (inr stands) = ap (λ (found : Option VMSharedTypeIndex). is_index found j) stands ∙ eq-eqb j.0 j.0 refl

      back : is_sub a b ≡ true → is_index (slice_get (reverse xs) (length ys)) j ≡ true
      back is = by (sub-listed ((is_sub-exact types map i a b first).0 is) i j xs ys first second below above)

  -- where lists are told from the last supertype on, and the indices differ, one place tells whether steps lead there
  pub lists-tell : (i j : VMSharedTypeIndex) (a b : ClosedTree) (below above : List VMSharedTypeIndex) → types i ≡ Some a → types j ≡ Some b → (i ≡ j → ⊥)
      → IsSupertypeChain types a (reverse below) → IsSupertypeChain types b (reverse above)
      → is_index (slice_get below (length above)) j ≡ is_sub (named_by types (index.Engine i)) (named_by types (index.Engine j))
  lists-tell i j a b below above first second differ one other =
      (λ t. is_index (slice_get (sym (reverse-reverse below) t) (sym (length-reverse above) t)) j)
      ∙ place-tells i j a b (reverse below) (reverse above) first second differ one other
      ∙ sym (λ t. is_sub (unwrap_or (first t) no_tree) (unwrap_or (second t) no_tree))

-- ---- other types with indices

-- where types keep their indices, lists stay
pub chain-grown : (types more : VMSharedTypeIndex → Option ClosedTree) → ((i : VMSharedTypeIndex) (t : ClosedTree) → types i ≡ Some t → more i ≡ Some t)
    → (t : ClosedTree) (xs : List VMSharedTypeIndex) → IsSupertypeChain types t xs → IsSupertypeChain more t xs
chain-grown types more still t [] chain = chain
chain-grown types more still t (j ∷ xs) chain = (chain.0, chain.1, still j chain.0 chain.2, chain-grown types more still chain.0 xs chain.3)

-- and so they do where fewer types have indices, with their supertypes
pub chain-kept : (types fewer : VMSharedTypeIndex → Option ClosedTree) → IsTypeMap types → IsTypeMap fewer → ((i : VMSharedTypeIndex) (t : ClosedTree) → fewer i ≡ Some t → types i ≡ Some t)
    → (t : ClosedTree) (i : VMSharedTypeIndex) (xs : List VMSharedTypeIndex) → fewer i ≡ Some t → IsSupertypeChain types t xs → IsSupertypeChain fewer t xs
chain-kept types fewer all map from t i [] is chain = chain
chain-kept types fewer all map from t i (j ∷ xs) is chain =
    let found = map.supertypes i t chain.0 is chain.1 in
    let here : found.0 ≡ j = all.one_index found.0 j chain.0 (from found.0 chain.0 found.1) chain.2 in
    let there : fewer j ≡ Some chain.0 = ap fewer (sym here) ∙ found.1 in
    (chain.0, chain.1, there, chain-kept types fewer all map from chain.0 j xs there chain.3)

-- the list of a supertype, and behind it that supertype
pub chain-behind : (types : VMSharedTypeIndex → Option ClosedTree) (t s : ClosedTree) (i : VMSharedTypeIndex) (xs : List VMSharedTypeIndex) → supertype_of t ≡ Some s → types i ≡ Some s
    → IsSupertypeChain types s (reverse xs) → IsSupertypeChain types t (reverse (xs ++ i ∷ []))
chain-behind types t s i xs declared is chain = subst (IsSupertypeChain types t) (sym (reverse-append xs (i ∷ []))) (s, declared, is, chain)
