use Rattle.std.proofs.Common.{◌≡◌, ◌++◌, ◌∙◌, ℕ, List, codes, string_bytes, refl, ap, append_assoc}
use Rattle.std.specs.Fmt.{decimal}
use Rattle.wt_program.specs.Text.{no_such_type_text}
use Rattle.wt_program.proofs.text.push_no_such_type.Goals as goal

-- the pieces as `write!` joins them
joined : (party handle ty : ℕ) → codes "NoSuchHandle: party " ++ (decimal party ++ (codes " has no type " ++ (decimal handle ++ (codes "." ++ decimal ty)))) ≡ no_such_type_text party handle ty
joined party handle ty = simp append_assoc refl

pub returns : goal.returns
returns c =
    c.in_ok-write.ensures.bytes
    ∙ ap (λ (text : List ℕ). string_bytes c.args.text.now ++ text) (joined c.args.party c.args.handle c.args.ty)
