-- a hold less leaves the party's handles its holds
use Rattle.std.proofs.Common.{◌≡◌, ℕ, List, refl, sym, ap, subst, ◌∙◌, slice_set}
use Rattle.wt_session.specs.declared.handle.Handle.{Handle}
use Rattle.wt_session.specs.declared.handle.Handle.TheVariants as handle
use Rattle.wt_model.specs.declared.handle_kind.HandleKind.TheVariants as kind
use Rattle.wt_session.specs.declared.reply.Refusal.TheVariants as refusal
use Rattle.wt_session.specs.declared.reply.Reply.TheVariants as reply
use Rattle.wt_session.specs.World.{type_in}
use Rattle.wt_session.specs.Run.{hold_ended, type_dropped}
use Rattle.wt_session.specs.Session.{Keeps}
use Rattle.wt_session.proofs.HandlesKept.{type-owner, got-held, keeps-less, keeps-same}
use Rattle.wt_session.proofs.Places.{set-twice, set-own, no-type}
use Rattle.wt_session.proofs.type_handles.drop_type.Goals as goal

pub decref-requires-clause-owner : goal.decref-requires-clause-owner
decref-requires-clause-owner c =
    sym (type-owner c.args.registry.now c.args.party.now c.args.row.now.items c.args.handle c.in-Type.hold c.requires.handles c.in-Type.ensures.taken)

pub decref-requires-clause-held : goal.decref-requires-clause-held
decref-requires-clause-held c =
    got-held c.args.registry.now c.args.party.now c.args.row.now.items c.args.handle c.in-Type.hold c.requires.handles c.requires.below c.in-Type.ensures.taken

pub returns-in-Some-clause-done : goal.returns-in-Some-clause-done
returns-in-Some-clause-done c =
    let row = c.args.row.now.items in
    let place = c.args.handle in
    let debt = handle.Owed c.in-Some.debt in
    let changed : c.put.new.row.items ≡ slice_set row place debt = c.put.ensures ∙ ap (λ (r : List Handle). slice_set r place debt) c.take.ensures.row ∙ set-twice row place handle.Ended debt in
    ap (λ at. type_dropped c.args.registry.now row c.args.party.now place (type_in at)) c.in-Type.ensures.taken
    ∙ ap (hold_ended row place) c.in-Some.ensures.dropped
    ∙ (λ i. record { reply = reply.Owed; registry = c.decref.new.registry; row = (sym changed) i })

pub returns-in-Some-clause-keeps : goal.returns-in-Some-clause-keeps
returns-in-Some-clause-keeps c =
    let row = c.args.row.now.items in
    let place = c.args.handle in
    let debt = handle.Owed c.in-Some.debt in
    let changed : c.put.new.row.items ≡ slice_set row place debt = c.put.ensures ∙ ap (λ (r : List Handle). slice_set r place debt) c.take.ensures.row ∙ set-twice row place handle.Ended debt in
    subst (Keeps c.args.registry.now c.decref.new.registry c.args.party.now) (sym changed)
    (keeps-less c.args.registry.now c.decref.new.registry c.args.party.now row place c.in-Type.hold debt c.requires.handles c.in-Type.ensures.taken refl tt c.in-Some.ensures.changes c.in-Some.ensures.sound)

pub returns-in-None-clause-keeps : goal.returns-in-None-clause-keeps
returns-in-None-clause-keeps c =
    let row = c.args.row.now.items in
    subst (Keeps c.args.registry.now c.decref.new.registry c.args.party.now) (sym c.take.ensures.row)
    (keeps-less c.args.registry.now c.decref.new.registry c.args.party.now row c.args.handle c.in-Type.hold handle.Ended c.requires.handles c.in-Type.ensures.taken refl tt c.in-None.ensures.changes c.in-None.ensures.sound)

pub returns-in_default : goal.returns-in_default
returns-in_default c =
    let registry = c.args.registry.now in
    let row = c.args.row.now.items in
    let place = c.args.handle in
    let other = c.take.result in
    let back : c.put-in_default.new.row.items ≡ row =
    c.put-in_default.ensures ∙ ap (λ (r : List Handle). slice_set r place other) c.take.ensures.row
    ∙ set-twice row place handle.Ended other ∙ set-own row place other c.take.ensures.taken in
    let told : refusal.NoSuchHandle c.args.party.now kind.Type place ≡ c.no_such_handle-in_default.result =
    ap (λ (party : ℕ). refusal.NoSuchHandle party kind.Type place) (sym c.number-in_default.ensures)
    ∙ sym c.no_such_handle-in_default.ensures in
    record {
      done = ap (type_dropped registry row c.args.party.now place) (no-type row place other c.take.ensures.taken (λ hold same. c.in_default.not-Type hold same))
          ∙ (λ i. record { reply = reply.Refused (told i); registry = registry; row = (sym back) i });
      party = refl;
      keeps = subst (Keeps registry registry c.args.party.now) (sym back) (keeps-same registry c.args.party.now row c.requires.handles);
    }
