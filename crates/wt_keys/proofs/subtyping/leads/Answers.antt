-- a type is its own subtype, and of others one place of a list tells
use Rattle.std.proofs.Common.{◌≡◌, ◌++◌, Some, slice_get, sym, ap, ◌∙◌}
use Rattle.std.specs.Option.{option_copied}
use Rattle.wt_keys.specs.SupertypeChains.{list_of, is_index}
use Rattle.wt_keys.proofs.ListedSubtypes.{own-subtype, listed-subtype, listed}
use Rattle.wt_keys.proofs.subtyping.leads.Goals as goal

pub returns-then-bits-clause-value : goal.returns-then-bits-clause-value
returns-then-bits-clause-value g c =
    own-subtype (c.args.entries.now ++ c.args.added.now) c.requires.keys.0 c.requires.keys.1 c.args.sub c.args.sup (sym c.bits.ensures ∙ c.if-bits.true ∙ c.bits-2.ensures)

pub returns-in_default-clause-value : goal.returns-in_default-clause-value
returns-in_default-clause-value g c =
    absurd (listed (c.args.entries.now ++ c.args.added.now) c.requires.keys.0 c.requires.keys.1 c.args.sup c.requires.sup (sym c.supertypes_of.ensures ∙ ap option_copied c.in_default.is))

pub returns-in-Some-supertypes_of-clause-value : goal.returns-in-Some-supertypes_of-clause-value
returns-in-Some-supertypes_of-clause-value g c =
    let all = c.args.entries.now ++ c.args.added.now in
    let below = c.in-Some-supertypes_of.supertypes.now in
    let above = c.in-Some.above.now in
    let first : list_of all c.args.sub ≡ Some below = sym c.supertypes_of-2.ensures ∙ ap option_copied c.in-Some-supertypes_of.is in
    let second : list_of all c.args.sup ≡ Some above = sym c.supertypes_of.ensures ∙ ap option_copied c.in-Some.is in
    let differ : c.args.sub.0 ≡ c.args.sup.0 → ⊥ = λ same. c.if-bits.false (c.bits.ensures ∙ same ∙ sym c.bits-2.ensures) in
    c.stands_at.ensures.value
    ∙ ap (λ n. is_index (slice_get below n) c.args.sup) c.len.ensures
    ∙ listed-subtype all c.requires.keys.0 c.requires.keys.1 c.args.sub c.args.sup below above differ first second

pub returns-in-None-clause-value : goal.returns-in-None-clause-value
returns-in-None-clause-value g c =
    absurd (listed (c.args.entries.now ++ c.args.added.now) c.requires.keys.0 c.requires.keys.1 c.args.sub c.requires.sub (sym c.supertypes_of-2.ensures ∙ ap option_copied c.in-None.is))
