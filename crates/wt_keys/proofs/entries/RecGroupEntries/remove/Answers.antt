-- the entry at the place of the number leaves, and what is told of the others stays
use Rattle.std.proofs.Common.{◌≡◌, ◌==◌, nat_eq, not, List, None, sym, ap, subst, ◌∙◌}
use Rattle.std.specs.HashMap.{get}
use Rattle.std.specs.List.{find, filter}
use Rattle.wt_env.specs.Among.{Among}
use Rattle.wt_env.specs.Equality.{rec_group_eq}
use Rattle.wt_keys.specs.declared.entry.RecGroupEntry.{RecGroupEntry}
use Rattle.wt_keys.specs.Filed.{AreApart, IsFiled}
use Rattle.wt_keys.proofs.Removed.{taken-out, none-filter, left-filed}
use Rattle.wt_keys.proofs.entries.RecGroupEntries.remove.Goals as goal

pub invariant_of-self : goal.invariant_of-self
invariant_of-self c =
    let entries = c.self.inside.entries.items in
    let out = taken-out entries c.as_slice.result.now c.args.number c.in-Some.place c.index.result.now c.self.invariant.0.rising c.as_slice.ensures.value c.in-Some.ensures.found c.in-Some.ensures.within c.index.ensures in
    let Before = λ (e : RecGroupEntry). IsFiled (get rec_group_eq c.self.inside.files.by_key) (get nat_eq c.self.inside.files.by_index) e in
    let After = λ (e : RecGroupEntry). IsFiled (get rec_group_eq c.unfile.new.files.by_key) (get nat_eq c.unfile.new.files.by_index) e in
    subst (λ (items : List RecGroupEntry). AreApart items × ((e : RecGroupEntry) → Among e items → After e)) (sym (c.remove.ensures.items ∙ out.left))
    (left-filed entries c.args.number c.index.result.now Before After out.number out.among c.self.invariant.0 c.unfile.ensures c.self.invariant.1)

pub returns-in-Some-clause-removed : goal.returns-in-Some-clause-removed
returns-in-Some-clause-removed c =
    let entries = c.self.inside.entries.items in
    let out = taken-out entries c.as_slice.result.now c.args.number c.in-Some.place c.remove.result c.self.invariant.0.rising c.as_slice.ensures.value c.in-Some.ensures.found c.in-Some.ensures.within c.remove.ensures.value in
    out.found ∙ ap (λ (es : List RecGroupEntry). find (λ e. e.number == c.args.number) es) c.self.view_is

pub returns-in-Some-clause-left : goal.returns-in-Some-clause-left
returns-in-Some-clause-left c =
    let entries = c.self.inside.entries.items in
    let out = taken-out entries c.as_slice.result.now c.args.number c.in-Some.place c.remove.result c.self.invariant.0.rising c.as_slice.ensures.value c.in-Some.ensures.found c.in-Some.ensures.within c.remove.ensures.value in
    c.remove.ensures.items ∙ (out.left ∙ ap (λ (es : List RecGroupEntry). filter (λ e. not (e.number == c.args.number)) es) c.self.view_is)

pub returns-in-None-clause-left : goal.returns-in-None-clause-left
returns-in-None-clause-left c =
    let same = c.as_slice.ensures.value ∙ c.self.view_is in
    none-filter c.args.self.now c.args.number (sym (subst (λ (es : List RecGroupEntry). None ≡ find (λ e. e.number == c.args.number) es) same c.in-None.ensures.found))
