-- The texts of refusals. Numbers are decimal.
use Rattle.std.specs.Prelude.{ℕ, List, ◌++◌, codes}
use Rattle.std.specs.Fmt.{decimal}
use Rattle.wt_env.specs.declared.limits.Limit.{Limit}
use Rattle.wt_env.specs.declared.limits.Limit.TheVariants.{Parties, Groups, Types, References, Ever, Holds}
use Rattle.wt_env.specs.declared.types.Kind.{Kind}
use Rattle.wt_env.specs.declared.types.Kind.TheVariants as of_kind
use Rattle.wt_rules.specs.RuleTexts.{place_text, rule_word}
use Rattle.wt_model.specs.declared.refusal.Full.{Full}
use Rattle.wt_model.specs.declared.refusal.BuildRefusal.{BuildRefusal}
use Rattle.wt_model.specs.declared.refusal.BuildRefusal.TheVariants as refusal

abbrev pub limit_word : Limit → List ℕ
limit_word Parties = codes "parties"
limit_word Groups = codes "groups"
limit_word Types = codes "types"
limit_word References = codes "references"
limit_word Ever = codes "ever"
limit_word Holds = codes "holds"

-- `groups 1, wanted 2`
abbrev pub full_text : Full → List ℕ
full_text full = limit_word full.limit ++ codes " " ++ decimal full.bound ++ codes ", wanted " ++ decimal full.wanted

-- what doesn't match, by the kind of the type
abbrev pub mismatch_text : Kind → List ℕ
mismatch_text of_kind.Struct = codes "struct fields must match their supertype's fields"
mismatch_text of_kind.Array = codes "array field type must match its supertype's field type"
mismatch_text of_kind.Func = codes "function type must match its supertype"
mismatch_text of_kind.Exn = codes "exception type must match its supertype"
mismatch_text of_kind.Cont = codes "continuation type must match its supertype"

abbrev pub too_many_fields_text : ℕ → List ℕ
too_many_fields_text fields =
    codes "attempted to define a struct type with " ++ decimal fields
    ++ codes " fields, but that is more than the maximum supported number of fields (10000)"

-- `group 0 member 1: forward` for a module
abbrev pub build_refusal_text : BuildRefusal → List ℕ
build_refusal_text (refusal.InvalidModule place rule) = place_text place ++ codes ": " ++ rule_word rule
build_refusal_text (refusal.FinalSupertype supertype) = codes "cannot create a subtype of a final supertype"
build_refusal_text (refusal.SupertypeMismatch kind) = mismatch_text kind
build_refusal_text (refusal.TooManyFields fields) = too_many_fields_text fields
build_refusal_text (refusal.TagHasResults results) = codes "Cannot create an exception type from a tag type with results in the signature"
build_refusal_text refusal.NoGc = codes "cannot define this type without a GC runtime enabled"
build_refusal_text (refusal.Full full) = full_text full
build_refusal_text refusal.OutOfMemory = codes "out of memory"
