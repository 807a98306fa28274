-- one more command is done and replied to
use Rattle.std.proofs.Common.{◌≡◌, ℕ, ◌+◌, ◌<◌, List, [], ◌∷◌, ◌++◌, length, take, refl, sym, ap, subst, ◌∙◌, append_assoc, arith, inr, Bool, true, false}
use Rattle.std.proofs.lemmas.Bool.{false≢true}
use Rattle.std.proofs.lemmas.List.{append-nil, length-append, take_more}
use Rattle.wt_commands.specs.declared.command.Command.{Command}
use Rattle.wt_session.specs.declared.reply.Reply.{Reply}
use Rattle.wt_session.specs.World.{World, takes_memory}
use Rattle.wt_session.specs.Run.{step, replies_of, world_after}
use Rattle.wt_session.specs.Answered.{AreAnswered}
use Rattle.wt_session.proofs.Answering.{got-read, answered-none, answered-more}
use Rattle.wt_session.proofs.OneCommand.{on-err}
use Rattle.wt_commands.proofs.Members.{among_read}
use Rattle.wt_session.proofs.Turns.{replies_of-one_more, world_after-one_more}
use Rattle.wt_session.proofs.run.run_session.Goals as goal

-- the command at a place, after those before it
one_more : (commands : List Command) (n : ℕ) (command : Command) (old new : World) (reply : Reply) (before : List Reply) → take (n + 1) commands ≡ take n commands ++ command ∷ [] → step (world_after old (take n commands)) command ≡ (reply, new)
    → ((before ++ replies_of old (take n commands)) ++ reply ∷ [] ≡ before ++ replies_of old (take (n + 1) commands)) × (new ≡ world_after old (take (n + 1) commands))
one_more commands n command old new reply before more stepped = (
  append_assoc before (replies_of old (take n commands)) (reply ∷ [])
      ∙ ap (λ last. before ++ (replies_of old (take n commands) ++ last ∷ [])) (sym (ap (λ (p : Reply × World). p.0) stepped))
      ∙ ap (λ replies. before ++ replies) (sym (replies_of-one_more old (take n commands) command))
      ∙ ap (λ done. before ++ replies_of old done) (sym more),
  sym (ap (λ (p : Reply × World). p.1) stepped)
      ∙ sym (world_after-one_more old (take n commands) command)
      ∙ ap (world_after old) (sym more),
)

counted : (base n long : ℕ) → long ≡ base + n → long + 1 ≡ base + (n + 1)
counted base n long is = omega (arith, is)

none_yet : (n : ℕ) → n ≡ n + 0
none_yet n = omega arith

pub loop-command-init : goal.loop-command-init
loop-command-init c =
    let before = c.args.replies.now.items in
    let kept = c.in_ok-reserve.ensures.items in
    record {
      replies = kept ∙ sym (append-nil before);
      world = refl;
      count = ap (λ (all : List Reply). length all) kept ∙ none_yet (length before);
      answered = subst (AreAnswered c.args.session.now c.args.commands.now (length before)) (sym kept) (answered-none c.args.session.now c.args.commands.now before);
      one_index = c.tell_invariant.ensures.one_index;
      reached = c.tell_invariant.ensures.reached;
      named_types = c.tell_invariant.ensures.named_types;
      room = omega (arith, c.in_ok-reserve.ensures.ok);
    }

pub loop-command-preserved : goal.loop-command-preserved
loop-command-preserved c =
    let old = c.args.session.now in
    let commands = c.args.commands.now in
    let n = c.loop-command.command-index in
    let command = c.command-item.result in
    let before = c.args.replies.now.items in
    let below : n < length commands = c.loop-command-test.true in
    let more : take (n + 1) commands ≡ take n commands ++ command ∷ [] = take_more commands n command below ∙ ap (λ last. take n commands ++ last ∷ []) (sym c.command-item.is) in
    let stepped : step (world_after old (take n commands)) command ≡ (c.in_ok-reply.reply, c.step.new.self) = ap (λ world. step world command) (sym c.loop-command.invariant.world) ∙ c.in_ok-reply.ensures.ok in
    let both = one_more commands n command old c.step.new.self c.in_ok-reply.reply before more stepped in
    let asked = got-read commands n command below c.command-item.is in
    let told = c.in_ok-reply.reply in
    let answered = answered-more old c.loop-command.session c.step.new.self commands n (length before) c.loop-command.replies.items command told c.loop-command.invariant.count asked c.loop-command.invariant.world both.1
    c.in_ok-reply.ensures.answered c.loop-command.invariant.answered in
    record {
      count = ap (λ (all : List Reply). length all) c.push_reserved.ensures.items ∙ length-append c.loop-command.replies.items (told ∷ []) ∙ counted (length before) n (length c.loop-command.replies.items) c.loop-command.invariant.count;
      answered = subst (AreAnswered old commands (length before)) (sym c.push_reserved.ensures.items) answered;
      replies = c.push_reserved.ensures.items ∙ ap (λ replies. replies ++ c.in_ok-reply.reply ∷ []) c.loop-command.invariant.replies ∙ both.0;
      world = both.1;
      one_index = c.step.ensures.one_index;
      reached = c.step.ensures.reached;
      named_types = c.step.ensures.named_types;
      room = omega (arith, c.push_reserved.ensures.len, c.push_reserved.ensures.capacity, c.loop-command.invariant.room, below);
    }

pub returns-in_err-reply-clause-takes_no_memory : goal.returns-in_err-reply-clause-takes_no_memory
returns-in_err-reply-clause-takes_no_memory c = λ quiet room.
    let command = c.command-item.result in
    absurd (false≢true (c.in_err-reply.ensures.takes_no_memory (quiet command (among_read c.args.commands.now c.loop-command.command-index command c.loop-command-test.true c.command-item.is))))

pub step-requires : goal.step-requires
step-requires c =
    let command = c.command-item.result in
    c.requires command (among_read c.args.commands.now c.loop-command.command-index command c.loop-command-test.true c.command-item.is)

-- ---- what is said of each command so far

pub returns-in_err-reply-clause-accepted : goal.returns-in_err-reply-clause-accepted
returns-in_err-reply-clause-accepted c = λ n asks told wants got. (c.loop-command.invariant.answered n asks told wants got).accepted

pub returns-in_err-reply-clause-named : goal.returns-in_err-reply-clause-named
returns-in_err-reply-clause-named c = λ n asks told wants got. (c.loop-command.invariant.answered n asks told wants got).named

pub returns-in_err-reply-clause-subtypes : goal.returns-in_err-reply-clause-subtypes
returns-in_err-reply-clause-subtypes c = λ n asks told wants got. (c.loop-command.invariant.answered n asks told wants got).subtypes

pub returns-in_err-reply-clause-matches : goal.returns-in_err-reply-clause-matches
returns-in_err-reply-clause-matches c = λ n asks told wants got. (c.loop-command.invariant.answered n asks told wants got).matches

pub returns-in_err-reply-clause-texts : goal.returns-in_err-reply-clause-texts
returns-in_err-reply-clause-texts c = λ n asks told wants got. (c.loop-command.invariant.answered n asks told wants got).texts

pub returns-in_err-reply-clause-unchanged : goal.returns-in_err-reply-clause-unchanged
returns-in_err-reply-clause-unchanged c = λ n asks told wants got. (c.loop-command.invariant.answered n asks told wants got).unchanged

pub returns-in_err-reply-clause-one_index_after_each : goal.returns-in_err-reply-clause-one_index_after_each
returns-in_err-reply-clause-one_index_after_each c = λ n asks told wants got. (c.loop-command.invariant.answered n asks told wants got).one_index

pub returns-in_err-reply-clause-reached_after_each : goal.returns-in_err-reply-clause-reached_after_each
returns-in_err-reply-clause-reached_after_each c = λ n asks told wants got. (c.loop-command.invariant.answered n asks told wants got).reached

pub returns-clause-accepted : goal.returns-clause-accepted
returns-clause-accepted c = λ n asks told wants got. (c.loop-command.invariant.answered n asks told wants got).accepted

pub returns-clause-named : goal.returns-clause-named
returns-clause-named c = λ n asks told wants got. (c.loop-command.invariant.answered n asks told wants got).named

pub returns-clause-subtypes : goal.returns-clause-subtypes
returns-clause-subtypes c = λ n asks told wants got. (c.loop-command.invariant.answered n asks told wants got).subtypes

pub returns-clause-matches : goal.returns-clause-matches
returns-clause-matches c = λ n asks told wants got. (c.loop-command.invariant.answered n asks told wants got).matches

pub returns-clause-texts : goal.returns-clause-texts
returns-clause-texts c = λ n asks told wants got. (c.loop-command.invariant.answered n asks told wants got).texts

pub returns-clause-unchanged : goal.returns-clause-unchanged
returns-clause-unchanged c = λ n asks told wants got. (c.loop-command.invariant.answered n asks told wants got).unchanged

pub returns-clause-one_index_after_each : goal.returns-clause-one_index_after_each
returns-clause-one_index_after_each c = λ n asks told wants got. (c.loop-command.invariant.answered n asks told wants got).one_index

pub returns-clause-reached_after_each : goal.returns-clause-reached_after_each
returns-clause-reached_after_each c = λ n asks told wants got. (c.loop-command.invariant.answered n asks told wants got).reached

-- ---- where a command wants memory

-- a command that may fail is one that takes memory
takes : (command : Command) → (takes_memory command ≡ false → false ≡ true) → takes_memory command ≡ true
takes command unless = by (takes_memory command) refl
  where
    by : (b : Bool) → takes_memory command ≡ b → b ≡ true
    by true is = refl
    by false is = unless is

pub returns-in_err-reply-clause-err : goal.returns-in_err-reply-clause-err
returns-in_err-reply-clause-err c =
    let command = c.command-item.result in
    let n = c.loop-command.command-index in
    let below = c.loop-command-test.true in
    let asked = got-read c.args.commands.now n command below c.command-item.is in
    on-err c.from_residual-in_err-reply.result (
      n,
      omega (arith, below),
      c.loop-command.invariant.replies,
      c.in_err-reply.ensures.err ∙ c.loop-command.invariant.world,
      inr (command, asked, takes command c.in_err-reply.ensures.takes_no_memory),
    )
