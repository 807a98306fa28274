-- The reply lines. Numbers are decimal, and each line ends with a line feed.
use Rattle.std.specs.Prelude.{ℕ, Bool, true, false, List, [], ◌∷◌, ◌++◌, length, codes}
use Rattle.std.specs.Fmt.{decimal}
use Rattle.std.specs.List.{flat_map}
use Rattle.wt_model.specs.declared.swept.Swept.{Swept}
use Rattle.wt_model.specs.declared.swept.Swept.TheVariants.{Removed, Kept, Gone}
use Rattle.wt_model.specs.declared.live.LiveGroup.{LiveGroup}
use Rattle.wt_model.specs.declared.refusal.BuildRefusal.{BuildRefusal}
use Rattle.wt_model.specs.declared.refusal.BuildRefusal.TheVariants as build
use Rattle.wt_model.specs.RefusalTexts.{build_refusal_text}
use Rattle.wt_model.specs.declared.handle_kind.HandleKind.{HandleKind}
use Rattle.wt_model.specs.declared.handle_kind.HandleKind.TheVariants as kinds
use Rattle.wt_session.specs.declared.reply.Refusal.{Refusal}
use Rattle.wt_session.specs.declared.reply.Refusal.TheVariants as refusals
use Rattle.wt_session.specs.declared.reply.Reply.{Reply}
use Rattle.wt_session.specs.declared.reply.Reply.TheVariants.{TypeMade, Module, NoneFound, Owed, Dropped, Swept as SweptReply, Released, Index, Answer, Show, Live, Refused}

abbrev pub line_feed : List ℕ
line_feed = 10 ∷ []

-- an index after a blank
abbrev pub later_index_text : ℕ → List ℕ
later_index_text index = codes " " ++ decimal index

-- indices, parted by one blank
abbrev pub indices_text : List ℕ → List ℕ
indices_text [] = []
indices_text (first ∷ rest) = decimal first ++ flat_map later_index_text rest

-- a group after a blank, as ` #2[1 2]`
abbrev pub group_text : LiveGroup → List ℕ
group_text group = codes " #" ++ decimal group.number ++ codes "[" ++ indices_text group.indices ++ codes "]"

abbrev pub kind_word : HandleKind → List ℕ
kind_word kinds.Type = codes "type"
kind_word kinds.Debt = codes "debt"
kind_word kinds.Module = codes "module"

-- `NoSuchHandle: party 0 has no type 1`
abbrev pub no_such_handle_text : ℕ → HandleKind → ℕ → List ℕ
no_such_handle_text party kind handle =
    codes "NoSuchHandle: party " ++ decimal party ++ codes " has no " ++ kind_word kind ++ codes " " ++ decimal handle

-- `NoSuchHandle: party 0 has no type 1.2`
abbrev pub no_such_type_text : ℕ → ℕ → ℕ → List ℕ
no_such_type_text party handle ty =
    codes "NoSuchHandle: party " ++ decimal party ++ codes " has no type " ++ decimal handle ++ codes "." ++ decimal ty

-- the code of a refused registration, and why it is refused, as `Full: groups 1, wanted 2` or
-- `InvalidModule: group 0 member 1: forward`
abbrev pub build_text : List ℕ → BuildRefusal → List ℕ
build_text code why = code ++ codes ": " ++ build_refusal_text why

-- the code of a refusal, and what was refused
abbrev pub refusal_text : Refusal → List ℕ
refusal_text (refusals.Full full) = build_text (codes "Full") (build.Full full)
refusal_text (refusals.InvalidModule place rule) = build_text (codes "InvalidModule") (build.InvalidModule place rule)
refusal_text (refusals.FinalSupertype supertype) = build_text (codes "FinalSupertype") (build.FinalSupertype supertype)
refusal_text (refusals.SupertypeMismatch kind) = build_text (codes "SupertypeMismatch") (build.SupertypeMismatch kind)
refusal_text (refusals.TooManyFields fields) = build_text (codes "TooManyFields") (build.TooManyFields fields)
refusal_text (refusals.TagHasResults results) = build_text (codes "TagHasResults") (build.TagHasResults results)
refusal_text refusals.NoGc = build_text (codes "NoGc") build.NoGc
refusal_text (refusals.NoSuchHandle party kind handle) = no_such_handle_text party kind handle
refusal_text (refusals.NoSuchType party handle ty) = no_such_type_text party handle ty

-- a line of one word
abbrev pub word_line : List ℕ → List ℕ
word_line word = word ++ line_feed

abbrev pub swept_line : Swept → List ℕ
swept_line (Removed count) = codes "removed " ++ decimal count ++ line_feed
swept_line Kept = word_line (codes "kept")
swept_line Gone = word_line (codes "gone")

-- `module 0 indices 0 1`
abbrev pub module_line : ℕ → List ℕ → List ℕ
module_line handle indices = codes "module " ++ decimal handle ++ codes " indices" ++ flat_map later_index_text indices ++ line_feed

abbrev pub live_line : List LiveGroup → List ℕ
live_line groups = codes "live " ++ decimal (length groups) ++ flat_map group_text groups ++ line_feed

abbrev pub refused_line : Refusal → List ℕ
refused_line refusal = codes "refused " ++ refusal_text refusal ++ line_feed

-- whether what was asked is so
abbrev pub answer_word : Bool → List ℕ
answer_word true = codes "yes"
answer_word false = codes "no"

-- `show (struct (field i32))`. The text of a type has no byte that a line would have to spell otherwise: none below 32, no
-- 127 and no backslash.
abbrev pub show_line : List ℕ → List ℕ
show_line text = codes "show " ++ text ++ line_feed

-- the line of a reply
abbrev pub line_of : Reply → List ℕ
line_of (TypeMade handle index) = codes "type " ++ decimal handle ++ codes " index " ++ decimal index ++ line_feed
line_of (Module handle indices) = module_line handle indices
line_of NoneFound = word_line (codes "none")
line_of Owed = word_line (codes "owed")
line_of Dropped = word_line (codes "dropped")
line_of (SweptReply swept) = swept_line swept
line_of Released = word_line (codes "released")
line_of (Index index) = codes "index " ++ decimal index ++ line_feed
line_of (Answer is_so) = word_line (answer_word is_so)
line_of (Show text) = show_line text
line_of (Live groups) = live_line groups
line_of (Refused refusal) = refused_line refusal

-- the lines of all replies, in order
abbrev pub text_of : List Reply → List ℕ
text_of replies = flat_map line_of replies
