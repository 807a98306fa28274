-- an index is used where an entry is found that has it
use Rattle.std.proofs.Common.{is_some, sym, ap, ◌∙◌}
use Rattle.wt_model.specs.Indices.{used, is_used}
use Rattle.wt_model.proofs.trees.KnownTrees.{is_some-map}
use Rattle.wt_keys.specs.Entries.{made_by}
use Rattle.wt_keys.proofs.UsedIndices.{found-used}
use Rattle.wt_keys.proofs.entries.RecGroupEntries.is_used.Goals as goal

pub returns : goal.returns
returns c =
    c.is_some.ensures
    ∙ sym (is_some-map (λ entry. entry.now) c.find_index.result)
    ∙ ap is_some c.find_index.ensures
    ∙ found-used c.new.result c.args.self.now
    ∙ ap (is_used (used (made_by c.args.self.now))) c.new.ensures
