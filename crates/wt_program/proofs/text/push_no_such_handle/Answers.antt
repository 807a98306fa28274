use Rattle.std.proofs.Common.{◌≡◌, ◌++◌, ◌∙◌, ℕ, List, codes, string_bytes, refl, ap, append_assoc}
use Rattle.std.specs.Fmt.{decimal}
use Rattle.wt_program.specs.Text.{kind_word, no_such_handle_text}
use Rattle.wt_model.specs.declared.handle_kind.HandleKind.{HandleKind}
use Rattle.wt_program.proofs.text.push_no_such_handle.Goals as goal

-- the pieces as `write!` joins them
joined : (party handle : ℕ) (kind : HandleKind) (word : List ℕ) → word ≡ kind_word kind
    → codes "NoSuchHandle: party " ++ (decimal party ++ (codes " has no " ++ (word ++ (codes " " ++ decimal handle)))) ≡ no_such_handle_text party kind handle
joined party handle kind word is = rw is (simp append_assoc refl)

pub returns : goal.returns
returns c =
    c.in_ok-write.ensures.bytes
    ∙ ap (λ (text : List ℕ). string_bytes c.args.text.now ++ text) (joined c.args.party c.args.handle c.args.kind c.kind_word-kind.result.now c.kind_word-kind.ensures)
