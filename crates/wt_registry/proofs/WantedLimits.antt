-- What entries and those that are added to them want of the limits, by sums.
use Rattle.std.proofs.Common.{◌≡◌, ℕ, ◌+◌, List, [], ◌∷◌, ◌++◌, length, sym, ◌∙◌}
use Rattle.std.proofs.lemmas.List.{length-append, length-map}
use Rattle.wt_env.specs.declared.limits.EngineLimits.{EngineLimits}
use Rattle.wt_env.specs.declared.limits.Limit.TheVariants.{Groups, Types, References, Ever}
use Rattle.wt_keys.specs.declared.entry.RecGroupEntry.{RecGroupEntry}
use Rattle.wt_model.specs.declared.refusal.Full.{Full}
use Rattle.wt_model.specs.Indices.{used}
use Rattle.wt_keys.specs.Entries.{made_of, made_by}
use Rattle.wt_model.specs.Limits.{references_of, wanted_of}
use Rattle.wt_registry.proofs.Sums.{types-append, references-append}

-- what so many groups, types, references and numbers want of the limits
abbrev pub wanted_by : EngineLimits → ℕ → ℕ → ℕ → ℕ → List Full
wanted_by limits groups types references numbers =
    record { limit = Groups; bound = limits.groups; wanted = groups }
    ∷ record { limit = Types; bound = limits.types; wanted = types }
    ∷ record { limit = References; bound = limits.references; wanted = references }
    ∷ record { limit = Ever; bound = limits.ever; wanted = numbers }
    ∷ []

pub wanted_of-sums : (limits : EngineLimits) (entries added : List RecGroupEntry) (groups types references numbers : ℕ)
    → groups ≡ length entries + length added
    → types ≡ length (used (made_by entries)) + length (used (made_by added))
    → references ≡ references_of (made_by entries) + references_of (made_by added)
    → wanted_by limits groups types references numbers ≡ wanted_of limits (made_by (entries ++ added)) numbers
wanted_of-sums limits entries added groups types references numbers so_many typed refer =
    let grouped : groups ≡ length (made_by (entries ++ added)) = so_many ∙ sym (length-map (entries ++ added) made_of ∙ length-append entries added) in
    let counted : types ≡ length (used (made_by (entries ++ added))) = typed ∙ sym (types-append entries added) in
    let referred : references ≡ references_of (made_by (entries ++ added)) = refer ∙ sym (references-append entries added) in
    (λ i. wanted_by limits (grouped i) (counted i) (referred i) numbers)
