-- a run of the second list goes on where the run of the first ended
use Rattle.std.proofs.Common.{◌≡◌, ℕ, zero, suc, ◌+◌, ◌⊎◌, Some, inl, inr, [], ◌∷◌, ◌++◌, List, length, slice_get, take, Result, Ok, Err, OnErr, sym, ap, ◌∙◌, arith}
use Rattle.std.proofs.Math.Seq.{take-append-add}
use Rattle.std.proofs.lemmas.Result.{on_ok_weaker, on_err_weaker}
use Rattle.std.proofs.lemmas.List.{append_assoc, length-append, take-append-le}
use Rattle.wt_commands.specs.declared.command.Command.{Command}
use Rattle.wt_session.specs.declared.reply.Reply.{Reply}
use Rattle.wt_session.specs.World.{World, TakesMemoryAt}
use Rattle.wt_session.specs.Run.{replies_of, world_after}
use Rattle.wt_session.proofs.Turns.{replies_of-both, world_after-both}
use Rattle.wt_session.proofs.laws.run_both.Goals as goal

-- the replies and the session after both lists, from those after each
joined_replies : (old mid : World) (before between after : List Reply) (first second : List Command) → between ≡ before ++ replies_of old first → mid ≡ world_after old first
    → after ≡ between ++ replies_of mid second → after ≡ before ++ replies_of old (first ++ second)
joined_replies old mid before between after first second told went last =
    last
    ∙ (λ i. told i ++ replies_of (went i) second)
    ∙ append_assoc before (replies_of old first) (replies_of (world_after old first) second)
    ∙ ap (λ (replies : List Reply). before ++ replies) (sym (replies_of-both old first second))

joined_world : (old mid new : World) (first second : List Command) → mid ≡ world_after old first → new ≡ world_after mid second → new ≡ world_after old (first ++ second)
joined_world old mid new first second went last =
    last ∙ ap (λ (w : World). world_after w second) went ∙ sym (world_after-both old first second)

-- where the run of the second list ended, said of both
got_past : (first second : List Command) (n : ℕ) → slice_get (first ++ second) (length first + n) ≡ slice_get second n
got_past [] second n =
    let none : length {A = Command} [] + n ≡ n = omega arith in
    ap (λ (m : ℕ). slice_get second m) none
got_past (c ∷ cs) second n =
    let next : length (c ∷ cs) + n ≡ suc (length cs + n) = omega arith in
    ap (λ (m : ℕ). slice_get (c ∷ (cs ++ second)) m) next ∙ got_past cs second n

behind : (first second : List Command) (n : ℕ) → (n ≡ 0) ⊎ TakesMemoryAt n second
    → (length first + n ≡ 0) ⊎ (length first + n ≡ length first) ⊎ TakesMemoryAt (length first + n) (first ++ second)
behind first second n (inl none) = inr (inl (omega (arith, none)))
behind first second n (inr at) = inr (inr (at.0, got_past first second n ∙ at.1, at.2))

-- where the run of the first list ended
got_before : (first second : List Command) (n : ℕ) (command : Command) → slice_get first n ≡ Some command → slice_get (first ++ second) n ≡ Some command
got_before [] second n command is = absurd (cc)
got_before (c ∷ cs) second zero command is = is
got_before (c ∷ cs) second (suc n) command is = got_before cs second n command is

before : (first second : List Command) (n : ℕ) → (n ≡ 0) ⊎ TakesMemoryAt n first → (n ≡ 0) ⊎ (n ≡ length first) ⊎ TakesMemoryAt n (first ++ second)
before first second n (inl none) = inl none
before first second n (inr at) = inr (inr (at.0, got_before first second n at.0 at.1, at.2))

on_err : {A E P : Type 0} (result : Result A E) → P → OnErr result P
on_err (Ok x) p = tt
on_err (Err e) p = p

pub returns-in_err-run_session-clause-err : goal.returns-in_err-run_session-clause-err
returns-in_err-run_session-clause-err c =
    let first = c.args.first.now in
    let second = c.args.second.now in
    let ended = c.in_err-run_session.ensures.err in
    let cut : take ended.0 (first ++ second) ≡ take ended.0 first = take-append-le ended.0 first second ended.1 in
    on_err c.from_residual.result (
      ended.0,
      omega (arith, ended.1, length-append first second),
      ended.2 ∙ ap (λ (commands : List Command). c.args.replies.now.items ++ replies_of c.args.session.now commands) (sym cut),
      ended.3 ∙ ap (λ (commands : List Command). world_after c.args.session.now commands) (sym cut),
      before first second ended.0 ended.4,
    )

pub returns-clause-replies : goal.returns-clause-replies
returns-clause-replies c =
    on_ok_weaker c.run_session-2.result
    (joined_replies c.args.session.now c.run_session.new.session c.args.replies.now.items c.run_session.new.replies.items c.run_session-2.new.replies.items c.args.first.now c.args.second.now c.in_ok-run_session.ensures.replies c.in_ok-run_session.ensures.world)
    c.run_session-2.ensures.replies

pub returns-clause-world : goal.returns-clause-world
returns-clause-world c =
    on_ok_weaker c.run_session-2.result
    (joined_world c.args.session.now c.run_session.new.session c.run_session-2.new.session c.args.first.now c.args.second.now c.in_ok-run_session.ensures.world)
    c.run_session-2.ensures.world

pub returns-clause-err : goal.returns-clause-err
returns-clause-err c =
    on_err_weaker c.run_session-2.result
    (λ ended.
    let first = c.args.first.now in
    let done = take ended.0 c.args.second.now in
    let cut = sym (take-append-add first c.args.second.now ended.0) in (
      length first + ended.0,
      omega (arith, ended.1, length-append first c.args.second.now),
      joined_replies c.args.session.now c.run_session.new.session c.args.replies.now.items c.run_session.new.replies.items c.run_session-2.new.replies.items first done c.in_ok-run_session.ensures.replies c.in_ok-run_session.ensures.world ended.2
          ∙ ap (λ (commands : List Command). c.args.replies.now.items ++ replies_of c.args.session.now commands) cut,
      joined_world c.args.session.now c.run_session.new.session c.run_session-2.new.session first done c.in_ok-run_session.ensures.world ended.3
          ∙ ap (λ (commands : List Command). world_after c.args.session.now commands) cut,
      behind first c.args.second.now ended.0 ended.4,
    ))
    c.run_session-2.ensures.err
