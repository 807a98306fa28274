-- a sweep leaves the party's handles its holds
use Rattle.std.proofs.Common.{◌≡◌, ℕ, List, refl, sym, ap, subst, ◌∙◌, slice_set}
use Rattle.wt_session.specs.declared.handle.Handle.{Handle}
use Rattle.wt_session.specs.declared.handle.Handle.TheVariants as handle
use Rattle.wt_model.specs.declared.handle_kind.HandleKind.TheVariants as kind
use Rattle.wt_session.specs.declared.reply.Refusal.TheVariants as refusal
use Rattle.wt_session.specs.declared.reply.Reply.TheVariants as reply
use Rattle.wt_session.specs.Run.{debt_swept}
use Rattle.wt_session.specs.Session.{Keeps}
use Rattle.wt_session.proofs.HandlesKept.{keeps-swept, keeps-same}
use Rattle.wt_session.proofs.Places.{set-twice, set-own, no-debt}
use Rattle.wt_session.proofs.type_handles.sweep_debt.Goals as goal

pub returns-in-Owed-clause-keeps : goal.returns-in-Owed-clause-keeps
returns-in-Owed-clause-keeps c =
    subst (Keeps c.args.registry.now c.sweep.new.self c.args.party.now) (sym c.take.ensures.row)
    (keeps-swept c.args.registry.now c.sweep.new.self c.args.party.now c.args.row.now.items c.args.handle c.in-Owed.debt c.requires c.in-Owed.ensures.taken c.sweep.ensures.changes c.sweep.ensures.sound)

pub returns-in_default : goal.returns-in_default
returns-in_default c =
    let registry = c.args.registry.now in
    let row = c.args.row.now.items in
    let place = c.args.handle in
    let other = c.take.result in
    let back : c.put.new.row.items ≡ row =
    c.put.ensures ∙ ap (λ (r : List Handle). slice_set r place other) c.take.ensures.row
    ∙ set-twice row place handle.Ended other ∙ set-own row place other c.take.ensures.taken in
    let told : refusal.NoSuchHandle c.args.party.now kind.Debt place ≡ c.no_such_handle-in_default.result =
    ap (λ (party : ℕ). refusal.NoSuchHandle party kind.Debt place) (sym c.number-in_default.ensures)
    ∙ sym c.no_such_handle-in_default.ensures in
    record {
      done = ap (debt_swept registry row c.args.party.now place) (no-debt row place other c.take.ensures.taken (λ number same. c.in_default.not-Owed number same))
          ∙ (λ i. record { reply = reply.Refused (told i); registry = registry; row = (sym back) i });
      party = refl;
      keeps = subst (Keeps registry registry c.args.party.now) (sym back) (keeps-same registry c.args.party.now row c.requires);
    }
