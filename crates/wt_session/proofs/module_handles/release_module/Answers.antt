-- a release leaves the party's handles its holds
use Rattle.std.proofs.Common.{◌≡◌, ℕ, List, refl, sym, ap, subst, ◌∙◌, slice_set}
use Rattle.wt_session.specs.declared.handle.Handle.{Handle}
use Rattle.wt_session.specs.declared.handle.Handle.TheVariants as handle
use Rattle.wt_model.specs.declared.handle_kind.HandleKind.TheVariants as kind
use Rattle.wt_session.specs.declared.reply.Refusal.TheVariants as refusal
use Rattle.wt_session.specs.declared.reply.Reply.TheVariants as reply
use Rattle.wt_session.specs.Run.{module_released}
use Rattle.wt_session.specs.Session.{Keeps}
use Rattle.wt_session.proofs.HandlesKept.{module-owner, module-held, keeps-released, keeps-same}
use Rattle.wt_session.proofs.Places.{set-twice, set-own, no-module}
use Rattle.wt_session.proofs.Times.{got-among}
use Rattle.wt_session.proofs.module_handles.release_module.Goals as goal

pub release-requires-clause-owner : goal.release-requires-clause-owner
release-requires-clause-owner c =
    sym (module-owner c.args.registry.now c.args.party.now c.args.row.now.items c.args.handle c.in-Module.types c.requires.handles c.in-Module.ensures.taken)

pub release-requires-clause-held : goal.release-requires-clause-held
release-requires-clause-held c =
    module-held c.args.registry.now c.args.party.now c.args.row.now.items c.in-Module.types c.requires.handles c.requires.below
    (got-among c.args.row.now.items c.args.handle (handle.Module c.in-Module.types) c.in-Module.ensures.taken)

pub returns-in-Module-clause-keeps : goal.returns-in-Module-clause-keeps
returns-in-Module-clause-keeps c =
    subst (Keeps c.args.registry.now c.release.new.self c.args.party.now) (sym c.take.ensures.row)
    (keeps-released c.args.registry.now c.release.new.self c.args.party.now c.args.row.now.items c.args.handle c.in-Module.types c.requires.handles c.in-Module.ensures.taken c.release.ensures.changes c.release.ensures.sound)

pub returns-in_default : goal.returns-in_default
returns-in_default c =
    let registry = c.args.registry.now in
    let row = c.args.row.now.items in
    let place = c.args.handle in
    let other = c.take.result in
    let back : c.put.new.row.items ≡ row =
    c.put.ensures ∙ ap (λ (r : List Handle). slice_set r place other) c.take.ensures.row
    ∙ set-twice row place handle.Ended other ∙ set-own row place other c.take.ensures.taken in
    let told : refusal.NoSuchHandle c.args.party.now kind.Module place ≡ c.no_such_handle-in_default.result =
    ap (λ (party : ℕ). refusal.NoSuchHandle party kind.Module place) (sym c.number-in_default.ensures)
    ∙ sym c.no_such_handle-in_default.ensures in
    record {
      done = ap (module_released registry row c.args.party.now place) (no-module row place other c.take.ensures.taken (λ types same. c.in_default.not-Module types same))
          ∙ (λ i. record { reply = reply.Refused (told i); registry = registry; row = (sym back) i });
      party = refl;
      keeps = subst (Keeps registry registry c.args.party.now) (sym back) (keeps-same registry c.args.party.now row c.requires.handles);
    }
