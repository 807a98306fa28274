-- the index that is looked at is registered, and its answer is that of the first; its closed tree falls in rank
use Rattle.std.proofs.Common.{◌≡◌, IsSome}
use Rattle.wt_env.specs.declared.types.EngineOrModuleTypeIndex.TheVariants as index
use Rattle.wt_tree.specs.Subtyping.{rank}
use Rattle.wt_tree.specs.Fit.{named_by}
use Rattle.wt_model.specs.Indices.{locate, closed_tree}
use Rattle.wt_model.specs.Subtyping.{is_subtype_index}
use Rattle.wt_keys.specs.Entries.{made_by}
use Rattle.wt_keys.proofs.plain.is_subtype_by_steps.Given as goal

abbrev pub invariant-loop-sup : goal.invariant-loop-sup
invariant-loop-sup l = IsSome (locate (made_by l.entries) l.current) × (is_subtype_index (made_by l.entries) l.current l.sup ≡ is_subtype_index (made_by l.entries) l.fn.sub l.sup)

abbrev pub decreases-loop-sup : goal.decreases-loop-sup
decreases-loop-sup l = rank (named_by (closed_tree (made_by l.entries)) (index.Engine l.current))
