-- what is left is what the definition leaves: as many groups left as there are fewer
use Rattle.std.proofs.Common.{◌≡◌, ◌-◌, ◌≤◌, ◌++◌, ℕ, Bool, [], true, List, length, vec_capacity, refl, sym, ap, subst, ◌∙◌, arith}
use Rattle.std.proofs.lemmas.List.{length-map}
use Rattle.wt_holds.specs.declared.hold_counts.HoldCounts.{HoldCounts}
use Rattle.wt_keys.specs.declared.entry.RecGroupEntry.{RecGroupEntry}
use Rattle.wt_model.specs.declared.swept.Swept.TheVariants.{Removed}
use Rattle.wt_model.specs.Registered.{GroupHolds, Registry}
use Rattle.wt_model.specs.Holds.{waits_at, no_longer}
use Rattle.wt_model.specs.Removal.{is_root, is_reached, reached_part, swept_part}
use Rattle.wt_model.specs.Sound.{HoldsInvariant}
use Rattle.wt_holds.specs.Counts.{standings_of}
use Rattle.wt_holds.specs.References.{pushed_if}
use Rattle.wt_keys.specs.Entries.{made_of, made_by}
use Rattle.wt_holds.specs.Kept.{registry_at, Falling}
use Rattle.wt_env.proofs.lists.Filtered.{filter_shorter}
use Rattle.wt_holds.proofs.PartKept.{counted_as, part-keeps}
use Rattle.wt_holds.proofs.Ready.{at-rest}
use Rattle.wt_holds.proofs.Ending.{waits-registered}
use Rattle.wt_holds.proofs.counts.Falls.{is_free, waits-rooted, falls-ended, ended-room}
use Rattle.wt_model.proofs.removal.Removing.{sweep_answered, swept-stands}
use Rattle.wt_holds.proofs.removal.sweep_group.Goals as goal

pub push_if_loose-requires-clause-room : goal.push_if_loose-requires-clause-room
push_if_loose-requires-clause-room c =
    let groups = c.args.groups.now in
    let number = c.args.number in
    let waits : waits_at (standings_of groups.counts.items) number ≡ true =
    ap (λ (counts : List HoldCounts). waits_at (standings_of counts) number) (sym c.as_slice.ensures.value) ∙ (sym c.waits.ensures ∙ c.if-waits.true) in
    subst (λ (read : List HoldCounts). length (groups.stack.items ++ pushed_if (is_free read number) number) ≤ vec_capacity groups.stack) (sym c.as_slice-then-waits.ensures.value)
    (ended-room (made_by groups.entries) groups.counts.items c.set_waits.new.counts.items groups.stack.items (vec_capacity groups.stack) number no_longer (λ s. refl)
    (waits-rooted (standings_of groups.counts.items) number waits) (waits-registered (made_by groups.entries) (standings_of groups.counts.items) number c.requires.ready.numbers waits)
    c.set_waits.ensures.standings c.set_waits.ensures.references (c.set_waits.ensures.totals c.requires.ready.totals) (at-rest groups c.requires.ready))

pub remove_pushed-requires-clause-removing : goal.remove_pushed-requires-clause-removing
remove_pushed-requires-clause-removing c =
    let groups = c.args.groups.now in
    let number = c.args.number in
    let waits : waits_at (standings_of groups.counts.items) number ≡ true =
    ap (λ (counts : List HoldCounts). waits_at (standings_of counts) number) (sym c.as_slice.ensures.value) ∙ (sym c.waits.ensures ∙ c.if-waits.true) in
    let items = c.push_if_loose.ensures.items ∙ ap (λ (read : List HoldCounts). groups.stack.items ++ pushed_if (is_free read number) number) c.as_slice-then-waits.ensures.value in
    record {
      rising = c.requires.ready.rising;
      names_older = c.requires.ready.names_older;
      falling =
          subst (λ (stack : List ℕ). Falling (made_by groups.entries) c.set_waits.new.counts.items stack (vec_capacity c.push_if_loose.new.stack) []) (sym items)
          (subst (λ (room : ℕ). Falling (made_by groups.entries) c.set_waits.new.counts.items (groups.stack.items ++ pushed_if (is_free c.set_waits.new.counts.items number) number) room []) (sym c.push_if_loose.ensures.capacity)
          (falls-ended (made_by groups.entries) groups.counts.items c.set_waits.new.counts.items groups.stack.items (vec_capacity groups.stack) number no_longer (λ s. refl)
          (waits-rooted (standings_of groups.counts.items) number waits) (waits-registered (made_by groups.entries) (standings_of groups.counts.items) number c.requires.ready.numbers waits)
          c.set_waits.ensures.standings c.set_waits.ensures.references (c.set_waits.ensures.totals c.requires.ready.totals) (at-rest groups c.requires.ready)));
    }

pub overflow_sub-result : goal.overflow_sub-result
overflow_sub-result c =
    let entries = c.args.groups.now.entries in
    let keep : ℕ → Bool = is_reached (made_by entries) (is_root (standings_of c.set_waits.new.counts.items)) in
    omega (arith, c.len-before.ensures, c.len.ensures, ap length c.remove_pushed.ensures.entries, filter_shorter (λ (e : RecGroupEntry). keep e.number) entries)

pub returns-then-waits-clause-swept : goal.returns-then-waits-clause-swept
returns-then-waits-clause-swept c = λ engine.
    let groups = c.args.groups.now in
    let number = c.args.number in
    let new = c.remove_pushed.new.groups in
    let old = registry_at engine groups in
    let waits : waits_at (standings_of groups.counts.items) number ≡ true =
    ap (λ (counts : List HoldCounts). waits_at (standings_of counts) number) (sym c.as_slice.ensures.value) ∙ (sym c.waits.ensures ∙ c.if-waits.true) in
    let part : swept_part old number ≡ registry_at engine new =
    ap (λ (standings : List GroupHolds). reached_part (counted_as engine groups standings)) (sym c.set_waits.ensures.standings) ∙ c.remove_pushed.ensures.part engine in
    let before : length old.made ≡ c.len-before.result = length-map groups.entries made_of ∙ sym c.len-before.ensures in
    let after : length (swept_part old number).made ≡ c.len.result =
    ap (λ (r : Registry). length r.made) part ∙ (length-map new.entries made_of ∙ sym c.len.ensures) in
    ap (sweep_answered old number) waits ∙ (λ i. (Removed (before i - after i), part i))

pub returns-then-waits-clause-kept : goal.returns-then-waits-clause-kept
returns-then-waits-clause-kept c = λ engine kept.
    let groups = c.args.groups.now in
    let stands = subst
    (λ (standings : List GroupHolds). HoldsInvariant engine (reached_part (counted_as engine groups standings)).made (reached_part (counted_as engine groups standings)).standings)
    (sym c.set_waits.ensures.standings)
    (swept-stands (registry_at engine groups) c.args.number kept.holds) in
    part-keeps engine groups c.remove_pushed.new.groups (standings_of c.set_waits.new.counts.items) kept (c.remove_pushed.ensures.part engine)
    c.remove_pushed.ensures.entries c.remove_pushed.ensures.removing c.remove_pushed.ensures.stack stands
