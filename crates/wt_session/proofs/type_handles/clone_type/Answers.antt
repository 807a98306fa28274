-- a handle's hold can be held once more
use Rattle.std.proofs.Common.{◌≡◌, ℕ, List, [], ◌∷◌, ◌++◌, Some, slice_get, sym, ap, subst, ◌∙◌}
use Rattle.wt_registry.specs.Holds.{Hold}
use Rattle.wt_session.specs.declared.handle.Handle.{Handle}
use Rattle.wt_session.specs.declared.handle.Handle.TheVariants as handle
use Rattle.wt_session.specs.World.{type_at}
use Rattle.wt_session.specs.Session.{Keeps}
use Rattle.wt_session.proofs.HandlesKept.{type-owner, got-held, keeps-more}
use Rattle.wt_session.proofs.Places.{type-got}
use Rattle.wt_session.proofs.type_handles.clone_type.Goals as goal

found : (row reserved slice : List Handle) (place : ℕ) (hold : Hold) → slice ≡ reserved → reserved ≡ row → Some hold ≡ type_at slice place → slice_get row place ≡ Some (handle.Type hold)
found row reserved slice place hold same kept is = type-got row place hold (sym (is ∙ ap (λ (r : List Handle). type_at r place) (same ∙ kept)))

pub try_clone-requires-clause-owner : goal.try_clone-requires-clause-owner
try_clone-requires-clause-owner c =
    let hold = c.in-Some.hold.now in
    let at = found c.args.row.now.items c.reserve.new.self.items c.as_slice.result.now c.args.handle hold c.as_slice.ensures.value c.in_ok-reserve.ensures.items c.in-Some.ensures in
    sym (type-owner c.args.registry.now c.args.party.now c.args.row.now.items c.args.handle hold c.requires.handles at)

pub try_clone-requires-clause-held : goal.try_clone-requires-clause-held
try_clone-requires-clause-held c =
    let hold = c.in-Some.hold.now in
    let at = found c.args.row.now.items c.reserve.new.self.items c.as_slice.result.now c.args.handle hold c.as_slice.ensures.value c.in_ok-reserve.ensures.items c.in-Some.ensures in
    got-held c.args.registry.now c.args.party.now c.args.row.now.items c.args.handle hold c.requires.handles c.requires.below at

pub returns-in-Ok-clause-keeps : goal.returns-in-Ok-clause-keeps
returns-in-Ok-clause-keeps c =
    let hold = c.in-Some.hold.now in
    let copy = c.in-Ok.copy in
    let at = found c.args.row.now.items c.reserve.new.self.items c.as_slice.result.now c.args.handle hold c.as_slice.ensures.value c.in_ok-reserve.ensures.items c.in-Some.ensures in
    let owner = type-owner c.args.registry.now c.args.party.now c.args.row.now.items c.args.handle hold c.requires.handles at in
    let pushed = c.push_type.ensures.row ∙ ap (λ (row : List Handle). row ++ handle.Type copy ∷ []) c.in_ok-reserve.ensures.items in
    subst (Keeps c.args.registry.now c.try_clone.new.registry c.args.party.now) (sym pushed)
    (keeps-more c.args.registry.now c.try_clone.new.registry c.args.party.now c.args.row.now.items copy c.requires.handles c.in-Ok.ensures.changes c.in-Ok.ensures.held (ap (λ (h : Hold). h.party) c.in-Ok.ensures.copy ∙ owner) c.in-Ok.ensures.sound)
