-- first what references name, then the trampolines
use Rattle.std.proofs.Common.{ℕ, ◌++◌, [], List, Option, map, vec_capacity, sym, ap, subst, ◌∙◌}
use Rattle.wt_holds.specs.Kept.{Falling}
use Rattle.wt_holds.proofs.counts.Told.{told_of, edges-split}
use Rattle.wt_holds.proofs.removal.lower_edges.Goals as goal

pub lower_named-requires : goal.lower_named-requires
lower_named-requires c =
    let entry = c.args.entry.now in (
      c.requires.0,
      told_of entry.trampolines ++ [],
      subst (λ (pending : List ℕ). Falling c.requires.0 c.args.counts.now.items c.args.stack.now.items (vec_capacity c.args.stack.now) pending)
          (edges-split entry ∙ sym (ap (λ (references : List (ℕ × ℕ)). map (λ (reference : ℕ × ℕ). reference.0) references ++ (told_of entry.trampolines ++ [])) c.as_slice.ensures)) c.requires.1,
    )

pub lower_trampolines-requires : goal.lower_trampolines-requires
lower_trampolines-requires c =
    let then_told : Falling c.requires.0 c.lower_named.new.counts.items c.lower_named.new.stack.items (vec_capacity c.lower_named.new.stack) (told_of c.as_slice-2.result.now ++ []) =
    let entry = c.args.entry.now in
    subst (λ (trampolines : List (Option ℕ)). Falling c.requires.0 c.lower_named.new.counts.items c.lower_named.new.stack.items (vec_capacity c.lower_named.new.stack) (told_of trampolines ++ [])) (sym c.as_slice-2.ensures)
    (c.lower_named.ensures.falls c.requires.0 (told_of entry.trampolines ++ [])
    (subst (λ (pending : List ℕ). Falling c.requires.0 c.args.counts.now.items c.args.stack.now.items (vec_capacity c.args.stack.now) pending)
    (edges-split entry ∙ sym (ap (λ (references : List (ℕ × ℕ)). map (λ (reference : ℕ × ℕ). reference.0) references ++ (told_of entry.trampolines ++ [])) c.as_slice.ensures)) c.requires.1)) in
    (c.requires.0, [], then_told)

pub returns-clause-falls : goal.returns-clause-falls
returns-clause-falls c = λ made is.
    let then_told : Falling made c.lower_named.new.counts.items c.lower_named.new.stack.items (vec_capacity c.lower_named.new.stack) (told_of c.as_slice-2.result.now ++ []) =
    let entry = c.args.entry.now in
    subst (λ (trampolines : List (Option ℕ)). Falling made c.lower_named.new.counts.items c.lower_named.new.stack.items (vec_capacity c.lower_named.new.stack) (told_of trampolines ++ [])) (sym c.as_slice-2.ensures)
    (c.lower_named.ensures.falls made (told_of entry.trampolines ++ [])
    (subst (λ (pending : List ℕ). Falling made c.args.counts.now.items c.args.stack.now.items (vec_capacity c.args.stack.now) pending)
    (edges-split entry ∙ sym (ap (λ (references : List (ℕ × ℕ)). map (λ (reference : ℕ × ℕ). reference.0) references ++ (told_of entry.trampolines ++ [])) c.as_slice.ensures)) is)) in
    c.lower_trampolines.ensures.falls made [] then_told
