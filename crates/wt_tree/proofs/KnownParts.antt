-- The type indices of a part of a type have closed trees where those of the whole do.
use Rattle.std.proofs.Common.{◌≡◌, ℕ, zero, suc, ◌<◌, List, [], ◌∷◌, ◌++◌, length, get_or, inl, inr, Option, sym, subst, arith}
use Rattle.std.specs.List.{flat_map}
use Rattle.wt_env.specs.Among.{Among}
use Rattle.wt_env.specs.declared.types.VMSharedTypeIndex.{VMSharedTypeIndex}
use Rattle.wt_env.specs.declared.types.EngineOrModuleTypeIndex.{EngineOrModuleTypeIndex}
use Rattle.wt_env.specs.declared.types.Kind.{Kind}
use Rattle.wt_tree.specs.Tree.{ClosedTree}
use Rattle.wt_env.specs.declared.types.WasmValType.{WasmValType}
use Rattle.wt_env.specs.declared.types.WasmFuncType.{WasmFuncType}
use Rattle.wt_env.specs.declared.types.WasmCompositeInnerType.{WasmCompositeInnerType}
use Rattle.wt_env.specs.declared.types.WasmCompositeInnerType.TheVariants as shape
use Rattle.wt_tree.specs.Kinds.{kinded_vals, kinded_shape, indices_of}
use Rattle.wt_tree.specs.Fit.{AreKnown}

pub among_first : (xs ys : List (Kind × EngineOrModuleTypeIndex)) (i : EngineOrModuleTypeIndex) → Among i (indices_of xs) → Among i (indices_of (xs ++ ys))
among_first [] ys i at = absurd at
among_first (x ∷ xs) ys i (inl same) = inl same
among_first (x ∷ xs) ys i (inr later) = inr (among_first xs ys i later)

pub among_second : (xs ys : List (Kind × EngineOrModuleTypeIndex)) (i : EngineOrModuleTypeIndex) → Among i (indices_of ys) → Among i (indices_of (xs ++ ys))
among_second [] ys i at = at
among_second (x ∷ xs) ys i at = inr (among_second xs ys i at)

-- those of the element at a place
among_at : {A : Type 0} (f : A → List (Kind × EngineOrModuleTypeIndex)) (xs : List A) (k : ℕ) (d : A) → k < length xs
    → (i : EngineOrModuleTypeIndex) → Among i (indices_of (f (get_or xs k d))) → Among i (indices_of (flat_map f xs))
among_at f [] k d below i at = absurd (omega (arith, below))
among_at f (x ∷ xs) zero d below i at = among_first (f x) (flat_map f xs) i at
among_at f (x ∷ xs) (suc k) d below i at =
    let within : k < length xs = omega (arith, below) in
    among_second (f x) (flat_map f xs) i (among_at f xs k d within i at)

module _ (types : VMSharedTypeIndex → Option ClosedTree) where
  pub known-first : (xs ys : List (Kind × EngineOrModuleTypeIndex)) → AreKnown types (indices_of (xs ++ ys)) → AreKnown types (indices_of xs)
  known-first xs ys known = record { each = λ i at. known.each i (among_first xs ys i at) }

  pub known-second : (xs ys : List (Kind × EngineOrModuleTypeIndex)) → AreKnown types (indices_of (xs ++ ys)) → AreKnown types (indices_of ys)
  known-second xs ys known = record { each = λ i at. known.each i (among_second xs ys i at) }

  pub known-at : {A : Type 0} (f : A → List (Kind × EngineOrModuleTypeIndex)) (xs : List A) (k : ℕ) (d : A) → AreKnown types (indices_of (flat_map f xs)) → k < length xs
      → AreKnown types (indices_of (f (get_or xs k d)))
  known-at f xs k d known below = record { each = λ i at. known.each i (among_at f xs k d below i at) }

  -- those of what a function takes and gives
  pub known-params : (s : WasmCompositeInnerType) (f : WasmFuncType) (vs : List WasmValType) → AreKnown types (indices_of (kinded_shape s)) → s ≡ shape.Func f → vs ≡ f.params
      → AreKnown types (indices_of (kinded_vals vs))
  known-params s f vs known is same =
      subst (λ (params : List WasmValType). AreKnown types (indices_of (kinded_vals params))) (sym same)
      (known-first (kinded_vals f.params) (kinded_vals f.results) (subst (λ (t : WasmCompositeInnerType). AreKnown types (indices_of (kinded_shape t))) is known))

  pub known-results : (s : WasmCompositeInnerType) (f : WasmFuncType) (vs : List WasmValType) → AreKnown types (indices_of (kinded_shape s)) → s ≡ shape.Func f → vs ≡ f.results
      → AreKnown types (indices_of (kinded_vals vs))
  known-results s f vs known is same =
      subst (λ (results : List WasmValType). AreKnown types (indices_of (kinded_vals results))) (sym same)
      (known-second (kinded_vals f.params) (kinded_vals f.results) (subst (λ (t : WasmCompositeInnerType). AreKnown types (indices_of (kinded_shape t))) is known))

-- where there is no type index, each has a closed tree
pub known_none : (types : VMSharedTypeIndex → Option ClosedTree) (references : List (Kind × EngineOrModuleTypeIndex)) → references ≡ [] → AreKnown types (indices_of references)
known_none types references none = subst (λ (found : List (Kind × EngineOrModuleTypeIndex)). AreKnown types (indices_of found)) (sym none) (record { each = λ i at. absurd at })
