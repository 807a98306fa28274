-- Where trees tell apart the numbers that two descriptions name, the tree that a description closes to
-- tells the descriptions apart.
use Rattle.std.proofs.Common.{◌≡◌, ℕ, List, [], ◌∷◌, inl, inr, refl}
use Rattle.wt_env.specs.declared.types.WasmSubType.{WasmSubType}
use Rattle.wt_env.specs.Among.{Among}
use Rattle.wt_tree.specs.Tree.{Description, Tree, Outer, group, outer, close_outer, close}

group-injective : (a b : List WasmSubType) (x y : Outer) → group a x ≡ group b y → (a ≡ b) × (x ≡ y)
group-injective a b x y same = let members : a ≡ b = cc in let leaving : x ≡ y = cc in (members, leaving)

outer-injective : (s t : Tree) (j k : ℕ) (x y : Outer) → outer s j x ≡ outer t k y → (s ≡ t) × (j ≡ k) × (x ≡ y)
outer-injective s t j k x y same =
    let tree : s ≡ t = cc in
    let place : j ≡ k = cc in
    let rest : x ≡ y = cc in
    (tree, place, rest)

module _ (trees : ℕ → Tree) where
  outer-closed : (xs ys : List (ℕ × ℕ)) → close_outer trees xs ≡ close_outer trees ys
      → ((r s : ℕ × ℕ) → Among r xs → Among s ys → trees r.0 ≡ trees s.0 → r.0 ≡ s.0) → xs ≡ ys
  outer-closed [] [] same apart = refl
  outer-closed [] (y ∷ ys) same apart = absurd (cc)
  outer-closed (x ∷ xs) [] same apart = absurd (cc)
  outer-closed (x ∷ xs) (y ∷ ys) same apart =
      let parts = outer-injective (trees x.0) (trees y.0) x.1 y.1 (close_outer trees xs) (close_outer trees ys) same in
      let number = apart x y (inl refl) (inl refl) parts.0 in
      let rest = outer-closed xs ys parts.2 (λ r s at there. apart r s (inr at) (inr there)) in
      λ i. (number i, parts.1 i) ∷ rest i

  -- equal trees are of equal descriptions
  pub close-injective : (a b : Description) → close trees a ≡ close trees b
      → ((r s : ℕ × ℕ) → Among r a.outer → Among s b.outer → trees r.0 ≡ trees s.0 → r.0 ≡ s.0) → a ≡ b
  close-injective a b same apart =
      let parts = group-injective a.members b.members (close_outer trees a.outer) (close_outer trees b.outer) same in
      let references = outer-closed a.outer b.outer parts.1 apart in
      λ i. record { members = parts.0 i; outer = references i }

outer-agree : (known new : ℕ → Tree) (xs : List (ℕ × ℕ)) → ((r : ℕ × ℕ) → Among r xs → known r.0 ≡ new r.0) → close_outer known xs ≡ close_outer new xs
outer-agree known new [] same = refl
outer-agree known new (x ∷ xs) same =
    let first = same x (inl refl) in
    let rest = outer-agree known new xs (λ r at. same r (inr at)) in
    λ i. outer (first i) x.1 (rest i)

-- a description closes to one tree by any trees that agree on the numbers that it names
pub close-agree : (known new : ℕ → Tree) (d : Description) → ((r : ℕ × ℕ) → Among r d.outer → known r.0 ≡ new r.0) → close known d ≡ close new d
close-agree known new d same = let leaving = outer-agree known new d.outer same in λ i. group d.members (leaving i)
