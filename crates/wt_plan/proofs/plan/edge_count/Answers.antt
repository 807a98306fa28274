-- the references that leave, and the trampolines that are told
use Rattle.std.proofs.Common.{◌+◌, ◌<◌, ◌∙◌, ap, sym, List, ℕ, Option, count_by, is_some}
use Rattle.wt_plan.proofs.Checked.{checked_value}
use Rattle.wt_plan.proofs.CountedEdges.{edges-counted}
use Rattle.wt_plan.proofs.plan.edge_count.Goals as goal

pub returns : goal.returns
returns c =
    let references = c.len-references.result in
    let told = c.told_count-trampolines.result in
    let value = checked_value c.checked_add.result (references + told < 18446744073709551616) (references + told) c.in_ok-count.count c.checked_add.ensures c.in_ok-count.ensures.ok_part in
    let first = c.len-references.ensures in
    let second = c.told_count-trampolines.ensures ∙ ap (λ (ts : List (Option ℕ)). count_by (λ one. is_some one) ts) c.as_slice.ensures in
    value ∙ (λ i. first i + second i) ∙ sym (edges-counted c.args.entry.now)
