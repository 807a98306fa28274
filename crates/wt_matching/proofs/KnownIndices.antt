-- Type indices that have closed trees, alone in a list, and none.
use Rattle.std.proofs.Common.{[], ◌∷◌, inl, inr, refl, sym, subst, Option}
use Rattle.wt_env.specs.Among.{Among}
use Rattle.wt_env.specs.declared.types.VMSharedTypeIndex.{VMSharedTypeIndex}
use Rattle.wt_env.specs.declared.types.EngineOrModuleTypeIndex.{EngineOrModuleTypeIndex}
use Rattle.wt_tree.specs.Tree.{ClosedTree}
use Rattle.wt_tree.specs.Fit.{IsKnown, AreKnown}

-- the only one of a list
pub known_only : (types : VMSharedTypeIndex → Option ClosedTree) (i : EngineOrModuleTypeIndex) → AreKnown types (i ∷ []) → IsKnown types i
known_only types i known = known.each i (inl refl)

-- a list of one
pub known_one : (types : VMSharedTypeIndex → Option ClosedTree) (i : EngineOrModuleTypeIndex) → IsKnown types i → AreKnown types (i ∷ [])
known_one types i known = record { each = each }
  where
    each : (j : EngineOrModuleTypeIndex) → Among j (i ∷ []) → IsKnown types j
    each j (inl same) = subst (IsKnown types) (sym same) known
    each j (inr later) = absurd later

-- a list of none
pub known_none : (types : VMSharedTypeIndex → Option ClosedTree) → AreKnown types []
known_none types = record { each = λ i at. absurd at }

-- for `#[tactic(auto, using(..))]`
pub ruleset both_ways = (known_only, known_one)
