-- first what references name, then the trampolines
use Rattle.std.proofs.Common.{ℕ, ◌++◌, ◌∷◌, [], List, Option, sym, ap, subst, ◌∙◌}
use Rattle.std.proofs.lemmas.List.{append-nil}
use Rattle.std.specs.List.{flat_map}
use Rattle.std.specs.Option.{option_to_list}
use Rattle.wt_registry.specs.LeadsTo.{CanLead, LeadsTo}
use Rattle.wt_registry.proofs.Leading.{can-next, leads-none, leads-joined, edges-flat}
use Rattle.wt_registry.proofs.enter.lead_to_edges.Goals as goal

abbrev named : List (ℕ × ℕ) → List ℕ
named references = flat_map (λ r. r.0 ∷ []) references

abbrev told : List (Option ℕ) → List ℕ
told trampolines = flat_map (λ t. option_to_list t) trampolines

pub lead_to_named-requires : goal.lead_to_named-requires
lead_to_named-requires c =
    let entry = c.args.entry.now in
    subst (λ (references : List (ℕ × ℕ)). CanLead c.args.counts.now.items (named references)) (sym c.as_slice.ensures)
    (can-next c.args.counts.now.items c.args.counts.now.items _ [] (named entry.outer) (told entry.trampolines) (edges-flat entry) c.requires (leads-none c.args.counts.now.items))

pub lead_to_trampolines-requires : goal.lead_to_trampolines-requires
lead_to_trampolines-requires c =
    let entry = c.args.entry.now in
    subst (λ (trampolines : List (Option ℕ)). CanLead c.lead_to_named.new.counts.items (told trampolines)) (sym c.as_slice-2.ensures)
    (can-next c.args.counts.now.items c.lead_to_named.new.counts.items _ (named entry.outer) (told entry.trampolines) []
    (edges-flat entry ∙ ap (λ ns. named entry.outer ++ ns) (sym (append-nil (told entry.trampolines)))) c.requires
    (subst (λ (references : List (ℕ × ℕ)). LeadsTo c.args.counts.now.items c.lead_to_named.new.counts.items (named references)) c.as_slice.ensures c.lead_to_named.ensures))

pub returns : goal.returns
returns c =
    let entry = c.args.entry.now in
    subst (LeadsTo c.args.counts.now.items c.lead_to_trampolines.new.counts.items) (sym (edges-flat entry))
    (leads-joined c.args.counts.now.items c.lead_to_named.new.counts.items c.lead_to_trampolines.new.counts.items (named entry.outer) (told entry.trampolines)
    (subst (λ (references : List (ℕ × ℕ)). LeadsTo c.args.counts.now.items c.lead_to_named.new.counts.items (named references)) c.as_slice.ensures c.lead_to_named.ensures)
    (subst (λ (trampolines : List (Option ℕ)). LeadsTo c.lead_to_named.new.counts.items c.lead_to_trampolines.new.counts.items (told trampolines)) c.as_slice-2.ensures c.lead_to_trampolines.ensures))
