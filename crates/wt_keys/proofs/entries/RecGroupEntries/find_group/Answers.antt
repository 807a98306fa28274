-- the number that is told at the key is that of the entry that has it
use Rattle.std.proofs.Common.{◌≡◌, true, List, ◌==◌, sym, ap, ◌∙◌}
use Rattle.std.specs.List.{find}
use Rattle.std.specs.HashMap.{get}
use Rattle.wt_env.specs.Among.{Among}
use Rattle.wt_env.specs.Equality.{rec_group_eq, rec_group_eq-exact}
use Rattle.wt_keys.specs.declared.entry.RecGroupEntry.{RecGroupEntry}
use Rattle.wt_keys.specs.Filed.{passing}
use Rattle.wt_keys.proofs.Looking.{looked, looked-none}
use Rattle.wt_keys.proofs.entries.RecGroupEntries.find_group.Goals as goal

pub returns-in-Some : goal.returns-in-Some
returns-in-Some c =
    let groups = c.self.inside in
    let key = c.args.key.now in
    let n = c.in-Some.number.now in
    let told = get rec_group_eq groups.files.by_key key in
    let test = λ (e : RecGroupEntry). rec_group_eq e.hash_consing_key key in
    let tells = λ (e : RecGroupEntry) (at : Among e groups.entries.items) (passes : test e ≡ true).
    ap (get rec_group_eq groups.files.by_key) (sym (rec_group_eq-exact e.hash_consing_key key passes)) ∙ (c.self.invariant.1 e at).key in
    c.entry_with_key.ensures
    ∙ ap (λ (es : List RecGroupEntry). passing test (find (λ e. e.number == n) es)) c.as_slice.ensures.value
    ∙ looked groups.entries.items c.self.invariant.0.rising test told tells n (sym c.in-Some.ensures.value)
    ∙ ap (λ (es : List RecGroupEntry). find test es) c.self.view_is

pub returns-in-None : goal.returns-in-None
returns-in-None c =
    let groups = c.self.inside in
    let key = c.args.key.now in
    let told = get rec_group_eq groups.files.by_key key in
    let test = λ (e : RecGroupEntry). rec_group_eq e.hash_consing_key key in
    let tells = λ (e : RecGroupEntry) (at : Among e groups.entries.items) (passes : test e ≡ true).
    ap (get rec_group_eq groups.files.by_key) (sym (rec_group_eq-exact e.hash_consing_key key passes)) ∙ (c.self.invariant.1 e at).key in
    sym (looked-none groups.entries.items c.self.invariant.0.rising test told tells (sym c.in-None.ensures.value))
    ∙ ap (λ (es : List RecGroupEntry). find test es) c.self.view_is
