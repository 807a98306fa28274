-- Each other answer has a cause that the premises rule out.
use Rattle.std.proofs.Common.{◌≡◌, ℕ, ◌<◌, ◌≤◌, ◌^◌, inl, inr, List, [], ◌++◌, length, Option, Some, None, Result, Ok, Err, refl, sym, ap, subst, ◌∙◌, arith, length-append, append-nil}
use Rattle.serde_json.specs.Data.{Data}
use Rattle.wt_env.specs.Limits.{EngineParts}
use Rattle.wt_env.specs.Stream.{IsTaken, IsAtEnd}
use Rattle.wt_env.specs.declared.status.Status.{Status}
use Rattle.wt_env.specs.declared.status.Status.TheVariants as statuses
use Rattle.wt_commands.specs.declared.command.Command.{Command}
use Rattle.wt_commands.specs.Decode.{decode}
use Rattle.wt_program.specs.Program.{IsJson, IsNotJson, Decodes, IsBadAt, Runs, IsComplete}

-- nothing was taken where the source is as it was
pub none_taken : (left : Option (List ℕ)) → IsTaken [] left left
none_taken None = refl
none_taken (Some bytes) = refl

-- what was taken is no longer than what was left
taken_within : (taken bytes : List ℕ) (after : Option (List ℕ)) → IsTaken taken (Some bytes) after → length taken ≤ length bytes
taken_within taken bytes None is = cc
taken_within taken bytes (Some rest) is =
    let all : bytes ≡ taken ++ rest = cc in
    omega (arith, ap length all, length-append taken rest)

-- and it is all of it where nothing is left
taken_all : (taken bytes : List ℕ) (after : Option (List ℕ)) → IsTaken taken (Some bytes) after → IsAtEnd after → bytes ≡ taken
taken_all taken bytes None is end = cc
taken_all taken bytes (Some rest) is end =
    let all : bytes ≡ taken ++ rest = cc in
    all ∙ ap (λ xs. taken ++ xs) end ∙ append-nil taken

some_same : {A : Type 0} {x y : A} → Some x ≡ Some y → x ≡ y
some_same h = cc

some_none : {x : Data} → Some x ≡ None → ⊥
some_none h = cc

abbrev Outcome : Type 0
Outcome = Result (EngineParts × List Command) ℕ

ok_err : {input : EngineParts × List Command} {place : ℕ} → (let outcome : Outcome = Ok input in outcome ≡ Err place) → ⊥
ok_err h = cc

same_value : (bytes : List ℕ) (a b : Data) → IsJson bytes a → IsJson bytes b → a ≡ b
same_value bytes a b ja jb = some_same (sym ja.is_read ∙ jb.is_read)

not_refused : (bytes : List ℕ) (engine : EngineParts) (commands : List Command) → Decodes bytes engine commands → IsNotJson bytes → ⊥
not_refused bytes engine commands decodes refused = some_none (sym decodes.is_json.is_read ∙ refused decodes.is_json.is_utf8)

not_bad : (bytes : List ℕ) (engine : EngineParts) (commands : List Command) (place : ℕ) → Decodes bytes engine commands → IsBadAt bytes place → ⊥
not_bad bytes engine commands place decodes bad =
    ok_err (sym decodes.is_decoded ∙ ap decode (same_value bytes decodes.value bad.value decodes.is_json bad.is_json) ∙ bad.is_bad)

pub complete : (status : Status) (left left' : Option (List ℕ)) (read_faults read_faults' : ℕ) (taken taken' : Option (List ℕ)) (write_faults write_faults' : ℕ) → Runs status left left' read_faults read_faults' taken taken' write_faults write_faults' → (status ≡ statuses.Usage → ⊥) → IsComplete status left read_faults read_faults' write_faults write_faults'
complete statuses.Done left left' rf rf' taken taken' wf wf' runs usage calm calm' bytes engine commands is within decodes = inl refl
complete statuses.OutOfMemory left left' rf rf' taken taken' wf wf' runs usage calm calm' bytes engine commands is within decodes = inr refl
complete statuses.Usage left left' rf rf' taken taken' wf wf' runs usage calm calm' bytes engine commands is within decodes = absurd (usage refl)
complete statuses.ReadFault left left' rf rf' taken taken' wf wf' runs usage calm calm' bytes engine commands is within decodes = absurd (calm (runs.read_fault refl))
complete statuses.WriteFault left left' rf rf' taken taken' wf wf' runs usage calm calm' bytes engine commands is within decodes = absurd (calm' (runs.write_fault refl))
complete statuses.TooLong left left' rf rf' taken taken' wf wf' runs usage calm calm' bytes engine commands is within decodes =
    let long = runs.too_long refl in
    let short : length long.0 ≤ length bytes = taken_within long.0 bytes left' (subst (λ before. IsTaken long.0 before left') is long.1) in
    let many : 2 ^ 24 < length long.0 = long.2 in
    absurd (omega (arith, short, many, within))
complete statuses.NotJson left left' rf rf' taken taken' wf wf' runs usage calm calm' bytes engine commands is within decodes =
    let refused = runs.not_json refl in
    let same : bytes ≡ refused.0 = taken_all refused.0 bytes left' (subst (λ before. IsTaken refused.0 before left') is refused.1.taken) refused.1.at_end in
    absurd (not_refused bytes engine commands decodes (subst IsNotJson (sym same) refused.2))
complete (statuses.BadCommand place) left left' rf rf' taken taken' wf wf' runs usage calm calm' bytes engine commands is within decodes =
    let bad = runs.bad_command place refl in
    let same : bytes ≡ bad.0 = taken_all bad.0 bytes left' (subst (λ before. IsTaken bad.0 before left') is bad.1.taken) bad.1.at_end in
    absurd (not_bad bytes engine commands place decodes (subst (λ bs. IsBadAt bs place) (sym same) bad.2))
