-- Two field types that match each other have equal contents, and each matches itself.
use Rattle.std.proofs.Common.{◌≡◌, true, sym, subst, ◌∙◌}
use Rattle.wt_tree.specs.Fit.{named_by}
use Rattle.wt_tree.proofs.FitOrder.{field_fits-refl}
use Rattle.wt_tree.proofs.TreeEquality.{both}
use Rattle.wt_heap.specs.declared.field_type.FieldType.{FieldType}
use Rattle.wt_heap.specs.Matches.{field_matches, both_ways}
use Rattle.wt_heap.specs.ToWasm.{field_to_wasm}
use Rattle.wt_heap_laws.proofs.EqualTypes.{field-same}
use Rattle.wt_heap_laws.proofs.laws.field_equal.Goals as goal

pub returns-clause-law : goal.returns-clause-law
returns-clause-law g c =
    let types = g.S.Supers.types c.args.supers.now in
    let own = field_fits-refl (named_by types) (field_to_wasm c.args.first.now) in (
      λ equal. field-same types c.requires.map c.args.first.now c.args.second.now c.requires.first c.requires.second c.requires.one_engine (sym c.eq.ensures ∙ equal),
      λ same. c.eq.ensures ∙ subst (λ (t : FieldType). both_ways (field_matches types) c.args.first.now t ≡ true) same (both own own),
    )
