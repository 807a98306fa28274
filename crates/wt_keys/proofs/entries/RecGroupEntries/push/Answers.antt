-- what is told of those before stays, and the new one is told
use Rattle.std.proofs.Common.{◌≡◌, nat_eq, List, [], ◌∷◌, ◌++◌, inl, refl, sym, subst}
use Rattle.std.specs.HashMap.{get}
use Rattle.wt_env.specs.Among.{Among}
use Rattle.wt_env.specs.Equality.{rec_group_eq}
use Rattle.wt_keys.specs.declared.entry.RecGroupEntry.{RecGroupEntry}
use Rattle.wt_keys.specs.Filed.{Agree, AreApart, IsFiled}
use Rattle.wt_keys.proofs.Filing.{either}
use Rattle.wt_keys.proofs.Stored.{told-still, told-all}
use Rattle.wt_keys.proofs.entries.RecGroupEntries.push.Goals as goal

pub invariant_of-self : goal.invariant_of-self
invariant_of-self c =
    let old = c.self.inside.entries.items in
    let more = c.args.entry ∷ [] in
    let apart : AreApart (old ++ more) = subst (λ (items : List RecGroupEntry). AreApart (items ++ more)) (sym c.self.view_is) (record { rising = c.requires.rising; agree = c.requires.agree }) in
    let Before = λ (e : RecGroupEntry). IsFiled (get rec_group_eq c.self.inside.files.by_key) (get nat_eq c.self.inside.files.by_index) e in
    let After = λ (e : RecGroupEntry). IsFiled (get rec_group_eq c.file.new.files.by_key) (get nat_eq c.file.new.files.by_index) e in
    let stays = λ (e : RecGroupEntry) (agree : (x : RecGroupEntry) → Among x more → Agree e x) (filed : Before e). c.file.ensures.kept e (agree c.args.entry (inl refl)) filed in
    (c.self.invariant.0, told-still old more apart Before After stays c.self.invariant.1)

pub invariant_of-self-in_err-push : goal.invariant_of-self-in_err-push
invariant_of-self-in_err-push c =
    let old = c.self.inside.entries.items in
    let more = c.args.entry ∷ [] in
    let apart : AreApart (old ++ more) = subst (λ (items : List RecGroupEntry). AreApart (items ++ more)) (sym c.self.view_is) (record { rising = c.requires.rising; agree = c.requires.agree }) in
    let Before = λ (e : RecGroupEntry). IsFiled (get rec_group_eq c.self.inside.files.by_key) (get nat_eq c.self.inside.files.by_index) e in
    let After = λ (e : RecGroupEntry). IsFiled (get rec_group_eq c.file.new.files.by_key) (get nat_eq c.file.new.files.by_index) e in
    let stays = λ (e : RecGroupEntry) (agree : (x : RecGroupEntry) → Among x more → Agree e x) (filed : Before e). c.file.ensures.kept e (agree c.args.entry (inl refl)) filed in
    subst (λ (items : List RecGroupEntry). AreApart items × ((e : RecGroupEntry) → Among e items → After e)) (sym c.in_err-push.ensures.items)
    (c.self.invariant.0, told-still old more apart Before After stays c.self.invariant.1)

pub invariant_of-self-2 : goal.invariant_of-self-2
invariant_of-self-2 c =
    let old = c.self.inside.entries.items in
    let more = c.args.entry ∷ [] in
    let apart : AreApart (old ++ more) = subst (λ (items : List RecGroupEntry). AreApart (items ++ more)) (sym c.self.view_is) (record { rising = c.requires.rising; agree = c.requires.agree }) in
    let Before = λ (e : RecGroupEntry). IsFiled (get rec_group_eq c.self.inside.files.by_key) (get nat_eq c.self.inside.files.by_index) e in
    let After = λ (e : RecGroupEntry). IsFiled (get rec_group_eq c.file.new.files.by_key) (get nat_eq c.file.new.files.by_index) e in
    let stays = λ (e : RecGroupEntry) (agree : (x : RecGroupEntry) → Among x more → Agree e x) (filed : Before e). c.file.ensures.kept e (agree c.args.entry (inl refl)) filed in
    let told = λ (e : RecGroupEntry) (at : Among e more). either (λ (same : e ≡ c.args.entry). subst After (sym same) c.in_ok-file.ensures.told) (λ none. absurd none) at in
    subst (λ (items : List RecGroupEntry). AreApart items × ((e : RecGroupEntry) → Among e items → After e)) (sym c.in_ok-push.ensures.items)
    (apart, told-all old more apart Before After stays c.self.invariant.1 told)
