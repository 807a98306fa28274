-- Matches of heap types follow on each other.
use Rattle.wt_heap_laws.proofs.ChainedMatches.{heap-chained}
use Rattle.wt_heap_laws.proofs.laws.heap_transitive.Goals as goal

pub returns-clause-law : goal.returns-clause-law
returns-clause-law g c =
    heap-chained (g.S.Supers.types c.args.supers.now) c.args.first.now c.args.second.now c.args.third.now c.matches.result c.matches-2.result c.matches-3.result
    c.matches.ensures c.matches-2.ensures c.matches-3.ensures
