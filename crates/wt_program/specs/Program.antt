-- What the program reads, and what it writes for it.
use Rattle.std.specs.Prelude.{◌≡◌, ◌≢◌, ℕ, ◌^◌, ◌<◌, ◌≤◌, ◌⊎◌, List, length, take, Option, Some, None, Ok, Err, IsUtf8}
use Rattle.serde_json.specs.Data.{Data}
use Rattle.serde_json.specs.Read.{read}
use Rattle.wt_env.specs.Limits.{EngineParts}
use Rattle.wt_env.specs.Stream.{IsTaken, IsAtEnd, IsAdded, Rose}
use Rattle.wt_env.specs.declared.status.Status.{Status}
use Rattle.wt_env.specs.declared.status.Status.TheVariants as statuses
use Rattle.wt_program.specs.declared.input.InputRefusal.{InputRefusal}
use Rattle.wt_program.specs.declared.input.InputRefusal.TheVariants as refusals
use Rattle.wt_commands.specs.declared.command.Command.{Command}
use Rattle.wt_session.specs.Run.{replies_of}
use Rattle.wt_session.specs.Session.{new_world}
use Rattle.wt_commands.specs.Decode.{decode}
use Rattle.wt_program.specs.Text.{text_of}

-- what is written for commands: a line for each reply of a new session of the engine
abbrev pub output_of : EngineParts → List Command → List ℕ
output_of engine commands = text_of (replies_of (new_world engine) commands)

-- the bytes were all that was left, and are left no more
pub record IsReadToEnd (bytes : List ℕ) (before after : Option (List ℕ)) : Type 0 where
  pub taken : IsTaken bytes before after
  pub at_end : IsAtEnd after

-- the bytes are JSON text, and this is its value
pub record IsJson (bytes : List ℕ) (value : Data) : Type 0 where
  pub is_utf8 : IsUtf8 bytes
  pub is_read : read bytes ≡ Some value

-- the bytes are no JSON text
abbrev pub IsNotJson : List ℕ → Type 0
IsNotJson bytes = IsUtf8 bytes → read bytes ≡ None

-- the bytes are a JSON list of these commands for this engine
pub record Decodes (bytes : List ℕ) (engine : EngineParts) (commands : List Command) : Type 0 where
  pub value : Data
  pub is_json : IsJson bytes value
  pub is_decoded : decode value ≡ Ok (engine, commands)

-- the bytes are JSON whose element with this number, from 1, is the first that is no command, nor an engine in the
-- first place; or with 0, no list
pub record IsBadAt (bytes : List ℕ) (place : ℕ) : Type 0 where
  pub value : Data
  pub is_json : IsJson bytes value
  pub is_bad : decode value ≡ Err place

-- the source was read to its end, and had these commands for this engine
pub record HasCommands (before after : Option (List ℕ)) (engine : EngineParts) (commands : List Command) : Type 0 where
  pub bytes : List ℕ
  pub read_to_end : IsReadToEnd bytes before after
  pub decodes : Decodes bytes engine commands

-- the status of a run that read no commands
abbrev pub status_for : InputRefusal → Status
status_for refusals.ReadFault = statuses.ReadFault
status_for refusals.TooLong = statuses.TooLong
status_for refusals.NotJson = statuses.NotJson
status_for (refusals.BadCommand place) = statuses.BadCommand place
status_for refusals.OutOfMemory = statuses.OutOfMemory

-- a count that didn't rise
abbrev pub IsCalm : ℕ → ℕ → Type 0
IsCalm before after = Rose before after → ⊥

-- what a run of the word `run` over these streams may answer, and what it leaves
pub record Runs (status : Status) (left left' : Option (List ℕ)) (read_faults read_faults' : ℕ) (taken taken' : Option (List ℕ)) (write_faults write_faults' : ℕ) : Type 0 where
  -- all was read, decoded, done and written
  pub done : status ≡ statuses.Done → (engine : EngineParts) × (commands : List Command) × HasCommands left left' engine commands × IsAdded (output_of engine commands) taken taken'
  -- a write failed after a front of the lines was written
  pub write_fault : status ≡ statuses.WriteFault → Rose write_faults write_faults'
  pub partly : status ≡ statuses.WriteFault → (engine : EngineParts) × (commands : List Command) × HasCommands left left' engine commands × (n : ℕ) × IsAdded (take n (output_of engine commands)) taken taken'
  -- a read failed
  pub read_fault : status ≡ statuses.ReadFault → Rose read_faults read_faults'
  -- more than 2^24 bytes were taken, or no more than that
  pub too_long : status ≡ statuses.TooLong → (bytes : List ℕ) × IsTaken bytes left left' × (2 ^ 24 < length bytes)
  pub within : (bytes : List ℕ) × IsTaken bytes left left' × (status ≢ statuses.TooLong → length bytes ≤ 2 ^ 24)
  -- the bytes are no JSON, or no list of commands
  pub not_json : status ≡ statuses.NotJson → (bytes : List ℕ) × IsReadToEnd bytes left left' × IsNotJson bytes
  pub bad_command : (place : ℕ) → status ≡ statuses.BadCommand place → (bytes : List ℕ) × IsReadToEnd bytes left left' × IsBadAt bytes place
  -- nothing else writes
  pub unwritten : status ≢ statuses.Done → status ≢ statuses.WriteFault → taken' ≡ taken

-- Where no stream fails, and the source has a list of commands in at most 2^24 bytes, all is done unless memory runs out.
abbrev pub IsComplete : Status → Option (List ℕ) → ℕ → ℕ → ℕ → ℕ → Type 0
IsComplete status left read_faults read_faults' write_faults write_faults' =
    IsCalm read_faults read_faults' → IsCalm write_faults write_faults'
    → (bytes : List ℕ) (engine : EngineParts) (commands : List Command) → left ≡ Some bytes → length bytes ≤ 2 ^ 24 → Decodes bytes engine commands
    → (status ≡ statuses.Done) ⊎ (status ≡ statuses.OutOfMemory)
