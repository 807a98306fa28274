-- none so far breaks a rule on what it names
use Rattle.std.proofs.Common.{◌≡◌, drop, map}
use Rattle.wt_env.specs.declared.types.EngineOrModuleTypeIndex.TheVariants as index
use Rattle.wt_tree.specs.Fit.{named_by}
use Rattle.wt_rules.specs.TypeRules.{broken_type}
use Rattle.wt_rules.specs.Rules.{first_of, first_misnamed}
use Rattle.wt_rules.proofs.type_rules.first_misnamed.Given as goal

abbrev pub invariant-loop-place : goal.invariant-loop-place
invariant-loop-place g l =
    first_of (λ place. broken_type) l.place (map (λ i. named_by (g.T.Supers.types l.types) (index.Engine i)) (drop l.place l.indices))
    ≡ first_misnamed (map (λ i. named_by (g.T.Supers.types l.types) (index.Engine i)) l.indices)
