-- a hold that was found is a handle's
use Rattle.std.proofs.Common.{◌≡◌, ℕ, List, [], ◌∷◌, ◌++◌, Option, Some, None, Result, Ok, Err, sym, ap, subst, ◌∙◌}
use Rattle.wt_env.specs.declared.types.VMSharedTypeIndex.{VMSharedTypeIndex}
use Rattle.wt_model.specs.declared.refusal.Full.{Full}
use Rattle.wt_registry.specs.Registered.{Registry}
use Rattle.wt_registry.specs.Holds.{Hold, hold as held, root, rooted, rooted_after}
use Rattle.wt_registry.specs.Indices.{locate}
use Rattle.wt_session.specs.declared.handle.Handle.{Handle}
use Rattle.wt_session.specs.declared.handle.Handle.TheVariants as handle
use Rattle.wt_session.specs.Session.{Keeps}
use Rattle.wt_session.proofs.HandlesKept.{keeps-more, keeps-same}
use Rattle.wt_session.proofs.type_handles.root_type.Goals as goal

pub returns-in-Ok-Some-clause-keeps : goal.returns-in-Ok-Some-clause-keeps
returns-in-Ok-Some-clause-keeps c =
    let hold = c.in-Ok-Some.hold in
    let pushed = c.push_type.ensures.row ∙ ap (λ (row : List Handle). row ++ handle.Type hold ∷ []) c.in_ok-reserve.ensures.items in
    subst (Keeps c.args.registry.now c.try_root.new.registry c.args.party.now) (sym pushed)
    (keeps-more c.args.registry.now c.try_root.new.registry c.args.party.now c.args.row.now.items hold c.requires.handles
    (c.in-Ok-Some.ensures.changes hold c.in-Ok-Some.field-0-is) (c.in-Ok-Some.ensures.held hold c.in-Ok-Some.field-0-is) (c.in-Ok-Some.ensures.owner hold c.in-Ok-Some.field-0-is) c.in-Ok-Some.ensures.sound)

abbrev found_of : Result (Option Hold × Registry) Full → Option Hold
found_of (Ok found) = found.0
found_of (Err full) = None

abbrev registry_or : Registry → Result (Option Hold × Registry) Full → Registry
registry_or other (Ok found) = found.1
registry_or other (Err full) = other

-- where nothing was found, nothing was changed
held_or_none : (engine party : ℕ) (index : VMSharedTypeIndex) (number : ℕ) (outcome : Result Registry Full) (old new : Registry) → rooted_after engine party index number outcome ≡ Ok (None, new) → old ≡ new
held_or_none engine party index number (Ok registry) old new is =
    let hold : Hold = record { engine = engine; index = index; number = number; party = party } in
    let first : Some hold ≡ None = ap found_of is in
    absurd (cc)
held_or_none engine party index number (Err full) old new is = absurd (cc)

none_found : (old new : Registry) (party : ℕ) (index : VMSharedTypeIndex) → root old party index ≡ Ok (None, new) → old ≡ new
none_found old new party index is = by (locate old.made index) is
  where
    by : (at : Option (ℕ × ℕ)) → rooted old party index at ≡ Ok (None, new) → old ≡ new
    by (Some at) h = held_or_none old.engine.number party index at.0 (held old party at.0) old new h
    by None h = ap (registry_or old) h

pub returns-in-Ok-None-clause-keeps : goal.returns-in-Ok-None-clause-keeps
returns-in-Ok-None-clause-keeps c =
    let old = c.args.registry.now in
    let new = c.try_root.new.registry in
    let same : old ≡ new = none_found old new c.args.party.now c.new.result (c.in-Ok-None.ensures.ok ∙ ap (λ (found : Option Hold). Ok (found, new)) c.in-Ok-None.field-0-is) in
    subst (λ (registry : Registry). Keeps old registry c.args.party.now c.reserve.new.self.items) same
    (subst (Keeps old old c.args.party.now) (sym c.in_ok-reserve.ensures.items) (keeps-same old c.args.party.now c.args.row.now.items c.requires.handles))
