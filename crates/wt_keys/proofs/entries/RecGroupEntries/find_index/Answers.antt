-- the number that is told at the index is that of the entry that has it
use Rattle.std.proofs.Common.{◌≡◌, true, List, Some, None, is_some, nat_eq, ◌==◌, sym, ap, ◌∙◌}
use Rattle.std.specs.List.{find}
use Rattle.std.specs.HashMap.{get}
use Rattle.wt_env.specs.Among.{Among}
use Rattle.wt_model.specs.Indices.{place_in}
use Rattle.wt_keys.specs.declared.entry.RecGroupEntry.{RecGroupEntry}
use Rattle.wt_keys.specs.Filed.{passing}
use Rattle.wt_keys.proofs.Looking.{looked, looked-none, place_in-among}
use Rattle.wt_keys.proofs.entries.RecGroupEntries.find_index.Goals as goal

pub returns-in-Some : goal.returns-in-Some
returns-in-Some c =
    let groups = c.self.inside in
    let i = c.args.index in
    let n = c.in-Some.number.now in
    let told = get nat_eq groups.files.by_index i.0 in
    let test = λ (e : RecGroupEntry). is_some (place_in i e.shared_type_indices) in
    let tells = λ (e : RecGroupEntry) (at : Among e groups.entries.items) (passes : test e ≡ true). (c.self.invariant.1 e at).indices i (place_in-among i 0 e.shared_type_indices passes) in
    let is : told ≡ Some n = ap (get nat_eq groups.files.by_index) (sym c.bits.ensures) ∙ sym c.in-Some.ensures.value in
    c.entry_with_index.ensures
    ∙ ap (λ (es : List RecGroupEntry). passing test (find (λ e. e.number == n) es)) c.as_slice.ensures.value
    ∙ looked groups.entries.items c.self.invariant.0.rising test told tells n is
    ∙ ap (λ (es : List RecGroupEntry). find test es) c.self.view_is

pub returns-in-None : goal.returns-in-None
returns-in-None c =
    let groups = c.self.inside in
    let i = c.args.index in
    let told = get nat_eq groups.files.by_index i.0 in
    let test = λ (e : RecGroupEntry). is_some (place_in i e.shared_type_indices) in
    let tells = λ (e : RecGroupEntry) (at : Among e groups.entries.items) (passes : test e ≡ true). (c.self.invariant.1 e at).indices i (place_in-among i 0 e.shared_type_indices passes) in
    let none : told ≡ None = ap (get nat_eq groups.files.by_index) (sym c.bits.ensures) ∙ sym c.in-None.ensures.value in
    sym (looked-none groups.entries.items c.self.invariant.0.rising test told tells none)
    ∙ ap (λ (es : List RecGroupEntry). find test es) c.self.view_is
