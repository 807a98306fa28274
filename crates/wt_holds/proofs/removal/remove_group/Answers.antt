-- the group's counts and its entry leave, and then its edges are lowered
use Rattle.std.proofs.Common.{◌||◌, not, List, map, vec_capacity, sym, ap, subst, ◌∙◌}
use Rattle.wt_env.specs.Among.{Among}
use Rattle.wt_env.specs.declared.types.VMSharedTypeIndex.{VMSharedTypeIndex}
use Rattle.wt_model.specs.Indices.{used, is_used}
use Rattle.wt_indices.specs.Free.{is_free_before}
use Rattle.wt_keys.specs.declared.entry.RecGroupEntry.{RecGroupEntry}
use Rattle.wt_keys.proofs.ApartKeys.{numbers-rise}
use Rattle.wt_holds.specs.GivenBack.{AreDifferent, AreSeparate}
use Rattle.wt_holds.proofs.GivenBack.{different-found, used-found-in, separate-removed, free-removed, found-parts}
use Rattle.wt_keys.specs.Entries.{made_by}
use Rattle.wt_model.proofs.holds.Rooted.{rise_with}
use Rattle.wt_holds.specs.Counts.{standings_of}
use Rattle.wt_holds.proofs.counts.Falls.{never-missing, shorter, rising-left, older-left, falls-popped, kept-left, kept-standing}
use Rattle.wt_holds.proofs.removal.remove_group.Goals as goal

pub remove_row-requires : goal.remove_row-requires
remove_row-requires c =
    let groups = c.args.groups.now in
    rise_with groups.given.numbers (made_by groups.entries) (standings_of groups.counts.items) c.requires.removing.rising c.requires.removing.falling.numbers

pub lower_edges-requires : goal.lower_edges-requires
lower_edges-requires c =
    let groups = c.args.groups.now in (
      made_by c.remove.new.self,
      falls-popped groups.given.numbers groups.entries groups.counts.items groups.stack.items (vec_capacity groups.stack) c.args.number c.requires.removing.rising c.requires.removing.names_older c.requires.removing.falling
          c.in-Some.entry c.in-Some.ensures.removed c.remove.new.self c.remove.ensures.left c.remove_row.new.counts.items c.remove_row.ensures.standings c.remove_row.ensures.references (c.remove_row.ensures.totals c.requires.removing.falling.totals),
    )

pub unreachable-requires : goal.unreachable-requires
unreachable-requires c =
    let groups = c.args.groups.now in
    never-missing groups.given.numbers groups.entries groups.counts.items groups.stack.items (vec_capacity groups.stack) c.args.number c.requires.removing.rising c.requires.removing.names_older c.requires.removing.falling (sym c.in-None.ensures.removed)

pub returns-clause-removing : goal.returns-clause-removing
returns-clause-removing c =
    let groups = c.args.groups.now in
    record {
      rising = rising-left groups.given.numbers groups.entries groups.counts.items groups.stack.items (vec_capacity groups.stack) c.args.number c.requires.removing.rising c.requires.removing.names_older c.requires.removing.falling
          c.in-Some.entry c.in-Some.ensures.removed c.remove.new.self c.remove.ensures.left;
      names_older = older-left groups.given.numbers groups.entries groups.counts.items groups.stack.items (vec_capacity groups.stack) c.args.number c.requires.removing.rising c.requires.removing.names_older c.requires.removing.falling
          c.in-Some.entry c.in-Some.ensures.removed c.remove.new.self c.remove.ensures.left;
      falling =
          c.lower_edges.ensures.falls (made_by c.remove.new.self)
          (falls-popped groups.given.numbers groups.entries groups.counts.items groups.stack.items (vec_capacity groups.stack) c.args.number c.requires.removing.rising c.requires.removing.names_older c.requires.removing.falling
          c.in-Some.entry c.in-Some.ensures.removed c.remove.new.self c.remove.ensures.left c.remove_row.new.counts.items c.remove_row.ensures.standings c.remove_row.ensures.references (c.remove_row.ensures.totals c.requires.removing.falling.totals));
    }

pub returns-clause-shorter : goal.returns-clause-shorter
returns-clause-shorter c =
    let groups = c.args.groups.now in
    shorter groups.given.numbers groups.entries groups.counts.items groups.stack.items (vec_capacity groups.stack) c.args.number c.requires.removing.rising c.requires.removing.names_older c.requires.removing.falling c.in-Some.entry c.in-Some.ensures.removed c.remove.new.self c.remove.ensures.left

pub returns-clause-entries : goal.returns-clause-entries
returns-clause-entries c =
    let groups = c.args.groups.now in
    kept-left groups.given.numbers groups.entries groups.counts.items groups.stack.items (vec_capacity groups.stack) c.args.number c.requires.removing.rising c.requires.removing.names_older c.requires.removing.falling
    c.in-Some.entry c.in-Some.ensures.removed c.remove.new.self c.remove.ensures.left c.lower_edges.new.counts.items (c.lower_edges.ensures.standings ∙ c.remove_row.ensures.standings)

pub returns-clause-standings : goal.returns-clause-standings
returns-clause-standings c =
    let groups = c.args.groups.now in
    kept-standing groups.given.numbers groups.entries groups.counts.items groups.stack.items (vec_capacity groups.stack) c.args.number c.requires.removing.rising c.requires.removing.names_older c.requires.removing.falling
    c.in-Some.entry c.in-Some.ensures.removed c.remove.new.self c.remove.ensures.left c.lower_edges.new.counts.items (c.lower_edges.ensures.standings ∙ c.remove_row.ensures.standings)

pub give_back_indices-requires-clause-different : goal.give_back_indices-requires-clause-different
give_back_indices-requires-clause-different c =
    let entries : List RecGroupEntry = c.args.groups.now.entries in
    let found = found-parts c.args.number entries c.in-Some.entry (sym c.in-Some.ensures.removed) in
    subst AreDifferent (sym c.as_slice.ensures) (different-found c.in-Some.entry entries c.requires.separate found.1)

pub give_back_indices-requires-clause-used : goal.give_back_indices-requires-clause-used
give_back_indices-requires-clause-used c i at =
    let entries : List RecGroupEntry = c.args.groups.now.entries in
    let found = found-parts c.args.number entries c.in-Some.entry (sym c.in-Some.ensures.removed) in
    c.requires.free i.0 ∙ ap not (used-found-in i c.in-Some.entry entries found.1 (subst (λ (xs : List VMSharedTypeIndex). Among i xs) c.as_slice.ensures at))

pub returns-clause-separate : goal.returns-clause-separate
returns-clause-separate c = subst AreSeparate (sym c.remove.ensures.left) (separate-removed c.args.number c.args.groups.now.entries c.requires.separate)

pub returns-clause-free : goal.returns-clause-free
returns-clause-free c k =
    let entries : List RecGroupEntry = c.args.groups.now.entries in
    let found = found-parts c.args.number entries c.in-Some.entry (sym c.in-Some.ensures.removed) in
    c.give_back_indices.ensures k
    ∙ ap (λ (xs : List VMSharedTypeIndex). is_used (map (λ i. i.0) xs) k || is_free_before c.args.free.now k) c.as_slice.ensures
    ∙ ap (λ b. is_used (map (λ (i : VMSharedTypeIndex). i.0) c.in-Some.entry.shared_type_indices) k || b) (c.requires.free k)
    ∙ free-removed 0 c.args.number k entries c.in-Some.entry (numbers-rise 0 c.args.groups.now.given.numbers entries c.requires.removing.rising) c.requires.separate found.1 found.0
    ∙ ap (λ (es : List RecGroupEntry). not (is_used (used (made_by es)) k)) (sym c.remove.ensures.left)
