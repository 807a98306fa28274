-- Matches follow on each other, as they are answered.
use Rattle.std.proofs.Common.{◌≡◌, Bool, true, Option, sym, ◌∙◌}
use Rattle.wt_env.specs.declared.types.VMSharedTypeIndex.{VMSharedTypeIndex}
use Rattle.wt_tree.specs.Tree.{ClosedTree}
use Rattle.wt_tree.specs.Fit.{named_by}
use Rattle.wt_tree.proofs.FitOrder.{heap_fits-trans, ref_fits-trans}
use Rattle.wt_heap.specs.declared.heap_type.HeapType.{HeapType}
use Rattle.wt_heap.specs.declared.ref_type.RefType.{RefType}
use Rattle.wt_heap.specs.Matches.{heap_matches, ref_matches}
use Rattle.wt_heap.specs.ToWasm.{heap_to_wasm, ref_to_wasm}

module _ (types : VMSharedTypeIndex → Option ClosedTree) where
  pub heap-chained : (a b c : HeapType) (here next joined : Bool) → here ≡ heap_matches types a b → next ≡ heap_matches types b c → joined ≡ heap_matches types a c
      → here ≡ true → next ≡ true → joined ≡ true
  heap-chained a b c here next joined is-here is-next is-joined h n =
      is-joined ∙ heap_fits-trans (named_by types) (named_by types) (named_by types) (heap_to_wasm a) (heap_to_wasm b) (heap_to_wasm c) (sym is-here ∙ h) (sym is-next ∙ n)

  pub ref-chained : (a b c : RefType) (here next joined : Bool) → here ≡ ref_matches types a b → next ≡ ref_matches types b c → joined ≡ ref_matches types a c
      → here ≡ true → next ≡ true → joined ≡ true
  ref-chained a b c here next joined is-here is-next is-joined h n =
      is-joined ∙ ref_fits-trans (named_by types) (named_by types) (named_by types) (ref_to_wasm a) (ref_to_wasm b) (ref_to_wasm c) (sym is-here ∙ h) (sym is-next ∙ n)
