-- what is told of those before stays, and those behind are told
use Rattle.std.proofs.Common.{◌≡◌, nat_eq, List, ◌++◌, sym, subst}
use Rattle.std.specs.HashMap.{get}
use Rattle.wt_env.specs.Among.{Among}
use Rattle.wt_env.specs.Equality.{rec_group_eq}
use Rattle.wt_keys.specs.declared.entry.RecGroupEntry.{RecGroupEntry}
use Rattle.wt_keys.specs.Filed.{Agree, AreApart, IsFiled}
use Rattle.wt_keys.proofs.Stored.{told-still, told-all}
use Rattle.wt_keys.proofs.entries.RecGroupEntries.append.Goals as goal

pub invariant_of-self : goal.invariant_of-self
invariant_of-self c =
    let old = c.self.inside.entries.items in
    let more = c.added.inside.entries.items in
    let apart : AreApart (old ++ more) = subst AreApart (λ i. sym c.self.view_is i ++ sym c.added.view_is i) (record { rising = c.requires.rising; agree = c.requires.agree }) in
    let Before = λ (e : RecGroupEntry). IsFiled (get rec_group_eq c.self.inside.files.by_key) (get nat_eq c.self.inside.files.by_index) e in
    let After = λ (e : RecGroupEntry). IsFiled (get rec_group_eq c.file_each.new.files.by_key) (get nat_eq c.file_each.new.files.by_index) e in
    let slice : c.as_slice.result.now ≡ more = c.as_slice.ensures.value in
    let stays = λ (e : RecGroupEntry) (agree : (x : RecGroupEntry) → Among x more → Agree e x) (filed : Before e). c.file_each.ensures.kept e (λ x at. agree x (subst (Among x) slice at)) filed in
    (c.self.invariant.0, told-still old more apart Before After stays c.self.invariant.1)

pub invariant_of-self-in_err-append : goal.invariant_of-self-in_err-append
invariant_of-self-in_err-append c =
    let old = c.self.inside.entries.items in
    let more = c.added.inside.entries.items in
    let apart : AreApart (old ++ more) = subst AreApart (λ i. sym c.self.view_is i ++ sym c.added.view_is i) (record { rising = c.requires.rising; agree = c.requires.agree }) in
    let Before = λ (e : RecGroupEntry). IsFiled (get rec_group_eq c.self.inside.files.by_key) (get nat_eq c.self.inside.files.by_index) e in
    let After = λ (e : RecGroupEntry). IsFiled (get rec_group_eq c.file_each.new.files.by_key) (get nat_eq c.file_each.new.files.by_index) e in
    let slice : c.as_slice.result.now ≡ more = c.as_slice.ensures.value in
    let stays = λ (e : RecGroupEntry) (agree : (x : RecGroupEntry) → Among x more → Agree e x) (filed : Before e). c.file_each.ensures.kept e (λ x at. agree x (subst (Among x) slice at)) filed in
    subst (λ (items : List RecGroupEntry). AreApart items × ((e : RecGroupEntry) → Among e items → After e)) (sym c.in_err-append.ensures.items)
    (c.self.invariant.0, told-still old more apart Before After stays c.self.invariant.1)

pub invariant_of-self-2 : goal.invariant_of-self-2
invariant_of-self-2 c =
    let old = c.self.inside.entries.items in
    let more = c.added.inside.entries.items in
    let apart : AreApart (old ++ more) = subst AreApart (λ i. sym c.self.view_is i ++ sym c.added.view_is i) (record { rising = c.requires.rising; agree = c.requires.agree }) in
    let Before = λ (e : RecGroupEntry). IsFiled (get rec_group_eq c.self.inside.files.by_key) (get nat_eq c.self.inside.files.by_index) e in
    let After = λ (e : RecGroupEntry). IsFiled (get rec_group_eq c.file_each.new.files.by_key) (get nat_eq c.file_each.new.files.by_index) e in
    let slice : c.as_slice.result.now ≡ more = c.as_slice.ensures.value in
    let stays = λ (e : RecGroupEntry) (agree : (x : RecGroupEntry) → Among x more → Agree e x) (filed : Before e). c.file_each.ensures.kept e (λ x at. agree x (subst (Among x) slice at)) filed in
    let told = λ (e : RecGroupEntry) (at : Among e more). c.in_ok-file_each.ensures.told e (subst (Among e) (sym slice) at) in
    subst (λ (items : List RecGroupEntry). AreApart items × ((e : RecGroupEntry) → Among e items → After e)) (sym c.in_ok-append.ensures.items)
    (apart, told-all old more apart Before After stays c.self.invariant.1 told)
