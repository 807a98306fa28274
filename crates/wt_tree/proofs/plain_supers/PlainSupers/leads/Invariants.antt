-- The index that is looked at has a closed tree, and its answer is that of the first; its closed tree falls in rank.
use Rattle.std.proofs.Common.{◌≡◌, IsSome}
use Rattle.wt_env.specs.declared.types.EngineOrModuleTypeIndex.TheVariants as index
use Rattle.wt_tree.specs.Subtyping.{rank, is_sub}
use Rattle.wt_tree.specs.Fit.{named_by}
use Rattle.wt_tree.specs.PlainTypes.{plain_types}
use Rattle.wt_tree.proofs.plain_supers.PlainSupers.leads.Given as goal

abbrev pub invariant-loop-sup : goal.invariant-loop-sup
invariant-loop-sup l = record {
  known : IsSome (plain_types l.self l.current);
  answer :
      is_sub (named_by (plain_types l.self) (index.Engine l.current)) (named_by (plain_types l.self) (index.Engine l.sup))
      ≡ is_sub (named_by (plain_types l.self) (index.Engine l.fn.sub)) (named_by (plain_types l.self) (index.Engine l.sup));
}

abbrev pub decreases-loop-sup : goal.decreases-loop-sup
decreases-loop-sup l = rank (named_by (plain_types l.self) (index.Engine l.current))
