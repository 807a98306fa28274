-- where nothing is on the stack any more, each group is reached
use Rattle.std.proofs.Common.{◌≡◌, ℕ, List, [], vec_capacity, sym, subst, ◌∙◌, arith}
use Rattle.wt_keys.specs.Entries.{made_by}
use Rattle.wt_holds.specs.Kept.{Falling}
use Rattle.wt_holds.proofs.counts.Emptied.{no-items, entries-stay, is-part}
use Rattle.wt_holds.proofs.removal.remove_pushed.Goals as goal

pub returns-clause-part : goal.returns-clause-part
returns-clause-part c = λ engine.
    let groups = c.loop-number.groups in
    let old = c.args.groups.now in
    let empty : groups.stack.items ≡ [] = no-items groups.stack.items (omega (arith, groups.stack.ok.0, c.in_default.ensures.cases.0)) in
    let is : Falling (made_by groups.entries) groups.counts.items [] (vec_capacity groups.stack) [] =
    subst (λ (stack : List ℕ). Falling (made_by groups.entries) groups.counts.items stack (vec_capacity groups.stack) []) empty c.loop-number.invariant.removing.falling in
    is-part groups.given.numbers groups.entries groups.counts.items (vec_capacity groups.stack) c.loop-number.invariant.removing.rising c.loop-number.invariant.removing.names_older is
    engine old.entries old.counts.items old.given groups.given c.loop-number.invariant.given c.loop-number.invariant.entries c.loop-number.invariant.standings

pub returns-clause-entries : goal.returns-clause-entries
returns-clause-entries c =
    let groups = c.loop-number.groups in
    let empty : groups.stack.items ≡ [] = no-items groups.stack.items (omega (arith, groups.stack.ok.0, c.in_default.ensures.cases.0)) in
    let is : Falling (made_by groups.entries) groups.counts.items [] (vec_capacity groups.stack) [] =
    subst (λ (stack : List ℕ). Falling (made_by groups.entries) groups.counts.items stack (vec_capacity groups.stack) []) empty c.loop-number.invariant.removing.falling in
    sym (entries-stay groups.given.numbers groups.entries groups.counts.items (vec_capacity groups.stack) c.loop-number.invariant.removing.rising c.loop-number.invariant.removing.names_older is)
    ∙ c.loop-number.invariant.entries
