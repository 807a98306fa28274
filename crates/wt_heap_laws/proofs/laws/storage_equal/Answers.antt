-- Two storage types that match each other have equal contents, and each matches itself.
use Rattle.std.proofs.Common.{◌≡◌, true, sym, subst, ◌∙◌}
use Rattle.wt_tree.specs.Fit.{named_by}
use Rattle.wt_tree.proofs.FitOrder.{storage_fits-refl}
use Rattle.wt_tree.proofs.TreeEquality.{both}
use Rattle.wt_heap.specs.declared.storage_type.StorageType.{StorageType}
use Rattle.wt_heap.specs.Matches.{storage_matches, both_ways}
use Rattle.wt_heap.specs.ToWasm.{storage_to_wasm}
use Rattle.wt_heap_laws.proofs.EqualTypes.{storage-same}
use Rattle.wt_heap_laws.proofs.laws.storage_equal.Goals as goal

pub returns-clause-law : goal.returns-clause-law
returns-clause-law g c =
    let types = g.S.Supers.types c.args.supers.now in
    let own = storage_fits-refl (named_by types) (storage_to_wasm c.args.first.now) in (
      λ equal. storage-same types c.requires.map c.args.first.now c.args.second.now c.requires.first c.requires.second c.requires.one_engine (sym c.eq.ensures ∙ equal),
      λ same. c.eq.ensures ∙ subst (λ (t : StorageType). both_ways (storage_matches types) c.args.first.now t ≡ true) same (both own own),
    )
